use Rattle.std.proofs.Common.{ℕ, sym, subst}
use Rattle.std.proofs.lemmas.Result.{err_from_is_err_and}
use Rattle.site_store.specs.Words.{IsRead}
use Rattle.repl_model.specs.Words.{SetDef, Area, DamageCause, next_action}
use Rattle.target_steps.specs.Steps.{TakesEach}
use Rattle.set_places.specs.laws.Known.{same_def}
use Rattle.apply_cycle.specs.Stepping.{ShowsDamage}
use Rattle.apply_cycle.proofs.StepCases.{stands_on, made_back, failed_back}
use Rattle.apply_cycle.proofs.CycleSteps.{stepped_made, broken_failed, caused_later, caused_step, step_read, read_only_known}
use Rattle.apply_cycle.proofs.cycles.next_step.Goals as goal

pub returns-in_err-stepped-clause-fault : goal.returns-in_err-stepped-clause-fault
returns-in_err-stepped-clause-fault g c =
    let kept = g.K.Keeper.kept in
    let s0 = c.args.sites.now in
    let s1 = c.find_read_only.new.sites in
    let s2 = c.step.new.sites in
    let set = c.in_ok-set.set in
    let looks = c.in_ok-set.ensures.ok in
    let p = err_from_is_err_and c.from_residual-in_err-stepped.result c.from_residual-in_err-stepped.ensures.1 in
    rw (p.1, p.2) (λ w stands each.
    let known = c.in_ok-set.ensures.known w stands in
    let takes = subst (λ (d : SetDef). TakesEach g.T.Targets.takes d) (sym (same_def w known.0 stands.sound known.2.known)) (each known.0 known.1) in
    let read_only = read_only_known w set known.0 c.in_ok-set.ensures.read_only known.2 in
    let e = c.in_err-stepped.field-0.0 in
    broken_failed kept s0 s2 c.args.id.now w known.0 set.source known.1 known.2.source e
    (failed_back kept s0 s1 looks s2 w known.0 (next_action known.0) e (c.in_err-stepped.ensures.fault w known.0 (stands_on kept s0 s1 looks w stands) known.2 read_only takes)))

pub returns-in_err-stepped-clause-cause : goal.returns-in_err-stepped-clause-cause
returns-in_err-stepped-clause-cause g c =
    let kept = g.K.Keeper.kept in
    let s0 = c.args.sites.now in
    let s1 = c.find_read_only.new.sites in
    let s2 = c.step.new.sites in
    let set = c.in_ok-set.set in
    let e = c.in_err-stepped.field-0.0 in
    let read = λ (s : ℕ) (a : Area) (cause : DamageCause). IsRead cause in
    let p = err_from_is_err_and c.from_residual-in_err-stepped.result c.from_residual-in_err-stepped.ensures.1 in
    rw (p.1, p.2) (caused_later kept s0 s1 s2 read e c.in_ok-set.ensures.servers
    (caused_step kept s1 s2 (ShowsDamage kept g.T.Targets.shows s1 set) read (step_read kept g.T.Targets.shows g.met.T.Targets.no_rest s1 set) e c.in_err-stepped.ensures.blames))

pub returns-clause-ok : goal.returns-clause-ok
returns-clause-ok g c = λ w stands each.
    let kept = g.K.Keeper.kept in
    let s0 = c.args.sites.now in
    let s1 = c.find_read_only.new.sites in
    let s2 = c.step.new.sites in
    let set = c.in_ok-set.set in
    let looks = c.in_ok-set.ensures.ok in
    let known = c.in_ok-set.ensures.known w stands in
    let takes = subst (λ (d : SetDef). TakesEach g.T.Targets.takes d) (sym (same_def w known.0 stands.sound known.2.known)) (each known.0 known.1) in
    let read_only = read_only_known w set known.0 c.in_ok-set.ensures.read_only known.2 in
    let stepped = c.in_ok-stepped.stepped in
    stepped_made kept s0 s2 c.args.id.now w known.0 set.source known.1 known.2.source stepped
    (made_back kept s0 s1 looks s2 w known.0 (next_action known.0) set.source stepped (c.in_ok-stepped.ensures.ok w known.0 (stands_on kept s0 s1 looks w stands) known.2 read_only takes))
