use Rattle.std.proofs.Common.{◌≡◌, ◌<◌, ◌-◌, ◌+◌, ℕ, List, length, take, sym, ap, subst, ◌∙◌, arith}
use Rattle.std.proofs.lemmas.Result.{err_from_is_err_and}
use Rattle.site_store.specs.Words.{GoesOn, write_fails_on, goes_none, goes_as, goes_then}
use Rattle.repl_model.specs.Words.{DefinedTable, inverse}
use Rattle.stored_defs.specs.laws.Standing.{all_at_place}
use Rattle.source_log.specs.Fitting.{CanBeMade}
use Rattle.source_log.specs.Making.{StepCanBeMade, all_unmade, with_made}
use Rattle.source_log.specs.declared.step.Step.{Step}
use Rattle.source_log.proofs.Drops.{take_whole}
use Rattle.source_log.proofs.Turns.{unmade_next}
use Rattle.source_log.proofs.making.unmake_all.Goals as goal

pub loop-left-init : goal.loop-left-init
loop-left-init g c =
    let steps = c.args.steps.now in
    record {
      few = omega arith;
      goes = goes_none g.K.Keeper.kept c.args.sites.now c.args.server (λ d e. all_unmade (take (length steps) steps) e ≡ all_unmade steps d) c.requires.open (λ d. ap (λ (l : List Step). all_unmade l d) (take_whole steps (length steps) (omega arith)));
    }

pub unmake_change-requires-clause-can : goal.unmake_change-requires-clause-can
unmake_change-requires-clause-can g c = subst (λ (t : DefinedTable). CanBeMade t.def c.index-steps-left.result.change) (sym c.get.ensures) (subst StepCanBeMade (sym c.index-steps-left.is) (all_at_place StepCanBeMade c.args.steps.now (c.loop-left.left - 1) c.index-steps-left.result c.requires.can (omega (arith, c.loop-left.invariant.few, c.loop-left-test.true))))

pub returns-in_err-unmake_change-clause-fault : goal.returns-in_err-unmake_change-clause-fault
returns-in_err-unmake_change-clause-fault g c =
    let p = err_from_is_err_and c.from_residual.result c.from_residual.ensures.1 in
    let steps = c.args.steps.now in
    rw (p.1, p.2) (write_fails_on g.K.Keeper.kept c.args.sites.now c.loop-left.sites c.unmake_change.new.sites c.args.server (λ d e. all_unmade (take c.loop-left.left steps) e ≡ all_unmade steps d) c.in_err-unmake_change.field-0.0 c.loop-left.invariant.goes c.in_err-unmake_change.ensures.fault)

pub loop-left-preserved : goal.loop-left-preserved
loop-left-preserved g c =
    let steps = c.args.steps.now in
    let n = c.loop-left.left - 1 in
    record {
      few = omega (arith, c.loop-left.invariant.few);
      goes =
          let step = c.index-steps-left.result in
          let lt : n < length steps = omega (arith, c.loop-left.invariant.few, c.loop-left-test.true) in
          let count : c.loop-left.left ≡ n + 1 = omega (arith, c.loop-left-test.true) in
          goes_then g.K.Keeper.kept c.args.sites.now c.loop-left.sites c.unmake_change.new.sites c.args.server (λ d e. all_unmade (take c.loop-left.left steps) e ≡ all_unmade steps d) (λ d e. e ≡ with_made step.table (inverse step.change) d) (λ d e. all_unmade (take n steps) e ≡ all_unmade steps d) c.requires.open c.loop-left.invariant.goes (subst (λ (t : DefinedTable). GoesOn g.K.Keeper.kept c.loop-left.sites c.unmake_change.new.sites c.args.server (λ d e. e ≡ with_made t (inverse step.change) d)) c.get.ensures c.in_ok-unmake_change.ensures.ok) (λ d e f p q. unmade_next steps n step d e f lt c.index-steps-left.is (subst (λ (m : ℕ). all_unmade (take m steps) e ≡ all_unmade steps d) count p) q);
    }

pub returns-clause-ok : goal.returns-clause-ok
returns-clause-ok g c =
    let steps = c.args.steps.now in
    let none : c.loop-left.left ≡ 0 = omega (arith, c.loop-left-test.false) in
    goes_as g.K.Keeper.kept c.args.sites.now c.loop-left.sites c.args.server (λ d e. all_unmade (take c.loop-left.left steps) e ≡ all_unmade steps d) (λ d e. e ≡ all_unmade steps d) c.requires.open c.loop-left.invariant.goes (λ d e p. ap (λ (n : ℕ). all_unmade (take n steps) e) (sym none) ∙ p)
