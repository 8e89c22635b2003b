use Rattle.std.proofs.Common.{◌≡◌, Bool, true, false, subst, refl, IfSome}
use Rattle.std.proofs.lemmas.Result.{err_from_is_err_and}
use Rattle.site_store.specs.Words.{sees, GoesOn, write_breaks_after, goes_saw, saw_then}
use Rattle.repl_model.specs.Words.{DefinedTable}
use Rattle.source_log.specs.Making.{Tells, MakesOne, with_made}
use Rattle.source_log.specs.Rules.{rules}
use Rattle.source_log.proofs.making.make_one.Goals as goal

pub returns-then-not-applies-clause-ok : goal.returns-then-not-applies-clause-ok
returns-then-not-applies-clause-ok g c =
    let step = c.args.step.now in
    goes_saw g.K.Keeper.kept c.args.sites.now c.change_applies.new.sites c.args.server (Tells step.table step.change c.in_ok-applies.applies) (MakesOne step false) c.requires.open c.in_ok-applies.ensures.ok (subst (λ (t : DefinedTable). IfSome (sees g.K.Keeper.kept c.args.sites.now c.args.server) (Tells t step.change c.in_ok-applies.applies)) c.get-table.ensures c.in_ok-applies.ensures.tells) (λ d tells. record { tells = subst (λ (b : Bool). Tells step.table step.change b d) c.if-not-applies.true tells; makes = refl })

pub returns-in_err-make_change-clause-fault : goal.returns-in_err-make_change-clause-fault
returns-in_err-make_change-clause-fault g c =
    let p = err_from_is_err_and c.from_residual-in_err-make_change.result c.from_residual-in_err-make_change.ensures.1 in
    rw (p.1, p.2) (write_breaks_after rules g.K.Keeper.kept c.args.sites.now c.change_applies.new.sites c.make_change.new.sites c.args.server c.in_err-make_change.field-0.0 c.in_ok-applies.ensures.ok c.in_err-make_change.ensures.fault)

pub returns-clause-ok : goal.returns-clause-ok
returns-clause-ok g c =
    let step = c.args.step.now in
    saw_then g.K.Keeper.kept c.args.sites.now c.change_applies.new.sites c.make_change.new.sites c.args.server (Tells step.table step.change c.in_ok-applies.applies) (λ d e. e ≡ with_made step.table step.change d) (MakesOne step true) c.requires.open c.in_ok-applies.ensures.ok (subst (λ (t : DefinedTable). IfSome (sees g.K.Keeper.kept c.args.sites.now c.args.server) (Tells t step.change c.in_ok-applies.applies)) c.get-table.ensures c.in_ok-applies.ensures.tells) (subst (λ (t : DefinedTable). GoesOn g.K.Keeper.kept c.change_applies.new.sites c.make_change.new.sites c.args.server (λ d e. e ≡ with_made t step.change d)) c.get-table.ensures c.in_ok-make_change.ensures.ok) (λ d e tells made. record { tells = subst (λ (b : Bool). Tells step.table step.change b d) c.if-not-applies.false tells; makes = made })
