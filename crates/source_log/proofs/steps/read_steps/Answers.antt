use Rattle.std.proofs.Common.{◌+◌, List, [], ◌∷◌, ◌++◌, ℕ, Some, get_or, take, sym, subst, IfSome}
use Rattle.std.specs.List.{AllByRecursion}
use Rattle.std.proofs.lemmas.List.{take_more}
use Rattle.std.proofs.lemmas.Result.{err_from_is_err_and}
use Rattle.site_store.specs.Words.{Contents, sees, breaks_after, memory_after, looks_none, looks_then, sees_on, sees_back, if_seen, if_both_seen, any_seen}
use Rattle.repl_model.specs.Words.{all_append, beside_more, DefinedTable}
use Rattle.stored_defs.specs.laws.Standing.{all_at_place}
use Rattle.source_log.specs.Making.{StepCanBeMade, AreSteps, IsStepAt}
use Rattle.source_log.specs.Rules.{rules, IsInFlight, IsKnown}
use Rattle.source_log.specs.declared.step.Step.{Step}
use Rattle.source_log.proofs.Drops.{take_whole}
use Rattle.source_log.proofs.KnownTables.{known_of}
use Rattle.source_log.proofs.steps.read_steps.Goals as goal

pub positions-init : goal.positions-init
positions-init g c = record {
  looks = looks_none g.K.Keeper.kept c.args.sites.now;
  read = if_seen (sees g.K.Keeper.kept c.args.sites.now c.args.server) (λ _. Unit {0}) (λ d. IsKnown c.args.known.now d → AreSteps c.args.tx [] c.new-steps.result d × IsKnown c.args.known.now d) (λ d u. λ k. (subst (λ (l : List Step). AreSteps c.args.tx [] l d) (sym c.new-steps.ensures) tt, k)) (any_seen (sees g.K.Keeper.kept c.args.sites.now c.args.server));
  can = subst (AllByRecursion StepCanBeMade) (sym c.new-steps.ensures) tt;
}

pub read_step-requires-clause-in_flight : goal.read_step-requires-clause-in_flight
read_step-requires-clause-in_flight g c =
    let kept = g.K.Keeper.kept in
    let s0 = c.args.sites.now in
    let i = c.positions.pos-index in
    let P = λ (d : Contents). IsInFlight c.args.tx d (get_or c.args.positions.now i 0) in
    sees_on kept s0 c.positions.sites c.args.server P c.positions.invariant.looks (if_seen (sees kept s0 c.args.server) (λ d. AllByRecursion (IsInFlight c.args.tx d) c.args.positions.now) P (λ d all. all_at_place (IsInFlight c.args.tx d) c.args.positions.now i 0 all c.positions-test.true) c.requires.in_flight)

pub returns-in_err-step-clause-fault : goal.returns-in_err-step-clause-fault
returns-in_err-step-clause-fault g c =
    let p = err_from_is_err_and c.from_residual.result c.from_residual.ensures.1 in
    rw (p.1, p.2) (breaks_after rules g.K.Keeper.kept c.args.sites.now c.positions.sites c.read_step.new.sites c.args.server c.in_err-step.field-0.0 c.positions.invariant.looks c.in_err-step.ensures.fault)

pub returns-in_err-push-clause-fault : goal.returns-in_err-push-clause-fault
returns-in_err-push-clause-fault g c =
    let p = err_from_is_err_and c.from_residual-in_err-push.result c.from_residual-in_err-push.ensures.1 in
    rw (p.1, p.2) (memory_after rules g.K.Keeper.kept c.args.sites.now c.read_step.new.sites c.args.server (looks_then g.K.Keeper.kept c.args.sites.now c.positions.sites c.read_step.new.sites c.positions.invariant.looks c.in_ok-step.ensures.ok))

pub returns-in_err-share-clause-fault : goal.returns-in_err-share-clause-fault
returns-in_err-share-clause-fault g c =
    let p = err_from_is_err_and c.from_residual-in_err-share.result c.from_residual-in_err-share.ensures.1 in
    rw (p.1, p.2) (memory_after rules g.K.Keeper.kept c.args.sites.now c.read_step.new.sites c.args.server (looks_then g.K.Keeper.kept c.args.sites.now c.positions.sites c.read_step.new.sites c.positions.invariant.looks c.in_ok-step.ensures.ok))

pub positions-preserved : goal.positions-preserved
positions-preserved g c =
    let kept = g.K.Keeper.kept in
    let s0 = c.args.sites.now in
    let s1 = c.positions.sites in
    let server = c.args.server in
    let tx = c.args.tx in
    let i = c.positions.pos-index in
    let ps = c.args.positions.now in
    let steps = c.positions.steps in
    let first = c.args.known.now in
    let before = c.positions.known in
    let step = c.in_ok-step.step in
    let pos = get_or ps i 0 in
    let now = Some c.in_ok-share.field-0 in
    let more : (d : Contents) → AreSteps tx (take i ps) steps d → IsStepAt tx d pos step → AreSteps tx (take (i + 1) ps) c.push.new.self d
    = λ d so_far one. subst (λ (l : List ℕ). AreSteps tx l c.push.new.self d) (sym (take_more ps i 0 c.positions-test.true)) (subst (λ (l : List Step). AreSteps tx (take i ps ++ pos ∷ []) l d) (sym c.in_ok-push.ensures.items) (beside_more (IsStepAt tx d) (take i ps) (pos ∷ []) steps (step ∷ []) so_far (one, tt))) in
    record {
      looks = looks_then kept s0 s1 c.read_step.new.sites c.positions.invariant.looks c.in_ok-step.ensures.ok;
      read = if_both_seen (sees kept s0 server) (λ d. IsKnown first d → AreSteps tx (take i ps) steps d × IsKnown before d) (λ d. IsKnown before d → IsStepAt tx d pos step) (λ d. IsKnown first d → AreSteps tx (take (i + 1) ps) c.push.new.self d × IsKnown now d)
          (λ d so_far one. λ k.
          let read = so_far k in
          let here = one read.1 in
          (more d read.0 here, subst (λ (t : DefinedTable). IsKnown (Some t) d) (sym c.in_ok-share.ensures) (known_of step.change step.table d here.has)))
          c.positions.invariant.read (sees_back kept s0 s1 server (λ d. IsKnown before d → IsStepAt tx d pos step) c.positions.invariant.looks c.in_ok-step.ensures.step);
      can = subst (AllByRecursion StepCanBeMade) (sym c.in_ok-push.ensures.items) (all_append StepCanBeMade steps (step ∷ []) c.positions.invariant.can (c.in_ok-step.ensures.can, tt));
    }

pub returns-clause-steps : goal.returns-clause-steps
returns-clause-steps g c = subst (λ (l : List ℕ). IfSome (sees g.K.Keeper.kept c.args.sites.now c.args.server) (λ d. IsKnown c.args.known.now d → AreSteps c.args.tx l c.positions.steps d × IsKnown c.positions.known d)) (take_whole c.args.positions.now c.positions.pos-index c.positions-test.false) c.positions.invariant.read
