use Rattle.std.proofs.Common.{◌≡◌, ◌≤◌, List, length, take, ◌∙◌, ap, sym, arith}
use Rattle.std.proofs.lemmas.Result.{err_from_is_err_and}
use Rattle.site_store.specs.Words.{write_breaks_on, goes_as, goes_then}
use Rattle.source_log.specs.Making.{MakesFirst, MakesAll, all_made, all_unmade}
use Rattle.source_log.specs.Rules.{rules}
use Rattle.source_log.specs.declared.step.Step.{Step}
use Rattle.source_log.specs.declared.outcome.Outcome.TheVariants as outcomes
use Rattle.source_log.proofs.Drops.{take_whole}
use Rattle.source_log.proofs.making.make_all.Goals as goal

pub returns-in_err-unmake_all-clause-fault : goal.returns-in_err-unmake_all-clause-fault
returns-in_err-unmake_all-clause-fault g c =
    let p = err_from_is_err_and c.from_residual-in_err-unmake_all.result c.from_residual-in_err-unmake_all.ensures.1 in
    rw (p.1, p.2) (write_breaks_on rules g.K.Keeper.kept c.args.sites.now c.make_first.new.sites c.unmake_all.new.sites c.args.server (MakesFirst c.args.steps.now c.in_ok-made.made) c.in_err-unmake_all.field-0.0 c.in_ok-made.ensures.ok c.in_err-unmake_all.ensures.fault)

pub returns-then-made-steps-clause-ok : goal.returns-then-made-steps-clause-ok
returns-then-made-steps-clause-ok g c =
    let steps = c.args.steps.now in
    let made = c.in_ok-made.made in
    goes_then g.K.Keeper.kept c.args.sites.now c.make_first.new.sites c.unmake_all.new.sites c.args.server (MakesFirst steps made) (λ d e. e ≡ all_unmade (take made steps) d) (MakesAll steps c.args.has_room outcomes.NotApplicable) c.requires.open c.in_ok-made.ensures.ok c.in_ok-unmake_all.ensures.ok (λ d e f p q. (q ∙ p.back, p.stopped c.if-made-steps.true))

pub returns-in_err-unmake_all-2-clause-fault : goal.returns-in_err-unmake_all-2-clause-fault
returns-in_err-unmake_all-2-clause-fault g c =
    let p = err_from_is_err_and c.from_residual-in_err-unmake_all-2.result c.from_residual-in_err-unmake_all-2.ensures.1 in
    rw (p.1, p.2) (write_breaks_on rules g.K.Keeper.kept c.args.sites.now c.make_first.new.sites c.unmake_all-then-not-has_room.new.sites c.args.server (MakesFirst c.args.steps.now c.in_ok-made.made) c.in_err-unmake_all-2.field-0.0 c.in_ok-made.ensures.ok c.in_err-unmake_all-2.ensures.fault)

pub returns-then-not-has_room-clause-ok : goal.returns-then-not-has_room-clause-ok
returns-then-not-has_room-clause-ok g c =
    let steps = c.args.steps.now in
    let made = c.in_ok-made.made in
    let le : length steps ≤ made = omega (arith, c.if-made-steps.false) in
    let all : made ≡ length steps = omega (arith, c.if-made-steps.false, c.in_ok-made.ensures.few) in
    goes_then g.K.Keeper.kept c.args.sites.now c.make_first.new.sites c.unmake_all-then-not-has_room.new.sites c.args.server (MakesFirst steps made) (λ d e. e ≡ all_unmade steps d) (MakesAll steps c.args.has_room outcomes.Full) c.requires.open c.in_ok-made.ensures.ok c.in_ok-unmake_all-2.ensures.ok (λ d e f p q. (q ∙ ap (λ (l : List Step). all_unmade l e) (sym (take_whole steps made le)) ∙ p.back, c.if-not-has_room.true, p.whole all))

pub returns-clause-ok : goal.returns-clause-ok
returns-clause-ok g c =
    let steps = c.args.steps.now in
    let made = c.in_ok-made.made in
    let le : length steps ≤ made = omega (arith, c.if-made-steps.false) in
    let all : made ≡ length steps = omega (arith, c.if-made-steps.false, c.in_ok-made.ensures.few) in
    goes_as g.K.Keeper.kept c.args.sites.now c.make_first.new.sites c.args.server (MakesFirst steps made) (MakesAll steps c.args.has_room outcomes.Taken) c.requires.open c.in_ok-made.ensures.ok (λ d e p. (p.makes ∙ ap (λ (l : List Step). all_made l d) (take_whole steps made le), c.if-not-has_room.false, p.whole all))
