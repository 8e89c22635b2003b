use Rattle.std.proofs.Common.{◌+◌, Bool, length, sym, subst}
use Rattle.std.proofs.lemmas.Result.{err_from_is_err_and}
use Rattle.site_store.specs.Words.{breaks_on, goes_none, goes_as, goes_then}
use Rattle.stored_defs.specs.laws.Standing.{all_at_place}
use Rattle.source_log.specs.Making.{StepCanBeMade, MakesOne, MakesFirst}
use Rattle.source_log.specs.Rules.{rules}
use Rattle.source_log.proofs.Turns.{MadeFirst, first_none, first_next, first_stops, first_all, made_shown}
use Rattle.source_log.proofs.making.make_first.Goals as goal

pub steps-init : goal.steps-init
steps-init g c = goes_none g.K.Keeper.kept c.args.sites.now c.args.server (MadeFirst c.args.steps.now 0) c.requires.open (first_none c.args.steps.now)

pub make_one-requires-clause-can : goal.make_one-requires-clause-can
make_one-requires-clause-can g c = subst StepCanBeMade (sym c.index-steps-made.is) (all_at_place StepCanBeMade c.args.steps.now c.steps.made c.index-steps-made.result c.requires.can c.steps-test.true)

pub returns-in_err-applies-clause-fault : goal.returns-in_err-applies-clause-fault
returns-in_err-applies-clause-fault g c =
    let p = err_from_is_err_and c.from_residual.result c.from_residual.ensures.1 in
    rw (p.1, p.2) (breaks_on rules g.K.Keeper.kept c.args.sites.now c.steps.sites c.make_one.new.sites c.args.server (MadeFirst c.args.steps.now c.steps.made) c.in_err-applies.field-0.0 c.requires.open (λ d e made. made_shown c.args.steps.now c.steps.made d e c.requires.can made) c.steps.invariant c.in_err-applies.ensures.fault)

pub returns-then-not-applies-clause-ok : goal.returns-then-not-applies-clause-ok
returns-then-not-applies-clause-ok g c =
    let step = c.index-steps-made.result in
    goes_then g.K.Keeper.kept c.args.sites.now c.steps.sites c.make_one.new.sites c.args.server (MadeFirst c.args.steps.now c.steps.made) (MakesOne step c.in_ok-applies.applies) (MakesFirst c.args.steps.now c.steps.made) c.requires.open c.steps.invariant c.in_ok-applies.ensures.ok (λ d e f made one. first_stops c.args.steps.now c.requires.can c.steps.made c.steps-test.true step c.index-steps-made.is d e f made (subst (λ (b : Bool). MakesOne step b e f) c.if-not-applies.true one))

pub steps-preserved : goal.steps-preserved
steps-preserved g c =
    let step = c.index-steps-made.result in
    goes_then g.K.Keeper.kept c.args.sites.now c.steps.sites c.make_one.new.sites c.args.server (MadeFirst c.args.steps.now c.steps.made) (MakesOne step c.in_ok-applies.applies) (MadeFirst c.args.steps.now (c.steps.made + 1)) c.requires.open c.steps.invariant c.in_ok-applies.ensures.ok (λ d e f made one. first_next c.args.steps.now c.requires.can c.steps.made c.steps-test.true step c.index-steps-made.is d e f made (subst (λ (b : Bool). MakesOne step b e f) c.if-not-applies.false one))

pub returns-clause-ok : goal.returns-clause-ok
returns-clause-ok g c = goes_as g.K.Keeper.kept c.args.sites.now c.steps.sites c.args.server (MadeFirst c.args.steps.now c.steps.made) (MakesFirst c.args.steps.now (length c.args.steps.now)) c.requires.open c.steps.invariant (λ d e made. first_all c.args.steps.now c.steps.made d e c.steps-test.false made)
