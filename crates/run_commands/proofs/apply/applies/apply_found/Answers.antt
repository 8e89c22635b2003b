use Rattle.std.proofs.Common.{◌≡◌, ℕ, ◌<◌, List, length, sym, subst}
use Rattle.site_store.specs.Words.{Damages, names, looks_none}
use Rattle.subs_sets.specs.Rules.{source_rules}
use Rattle.apply_cycle.specs.AtServers.{captured_undamaged}
use Rattle.run_commands.specs.apply.StepEvents.{apply_events}
use Rattle.run_commands.specs.parts.laws.Composing.{part_looked, reads_failed}
use Rattle.run_commands.specs.parts.laws.Damage.{layer_shown}
use Rattle.run_commands.specs.parts.laws.Looking.{closed_after, stops_run, stops_reads}
use Rattle.run_commands.proofs.FoundApplying.{may_make}
use Rattle.run_commands.proofs.StepDamage.{source_shown}
use Rattle.run_commands.proofs.ToldSteps.{tells_none}
use Rattle.run_commands.proofs.apply.applies.apply_found.Goals as goal

-- it wasn't read how far the source is captured
pub error_of_fault-requires : goal.error_of_fault-requires
error_of_fault-requires g c =
    let s0 = c.args.sites.now in
    let source = c.args.set.now.source in
    let here = λ (s : ℕ). s ≡ source in
    stops_run g.K.Keeper.kept s0 c.most_steps.new.sites (Damages here source_rules g.K.Keeper.kept s0) (layer_shown g.K.Keeper.kept s0 source_rules source_shown here (λ s is. subst (λ (m : ℕ). m < length (names s0)) (sym is) c.requires.placed.source.within)) c.in-Err.fault c.in-Err.ensures.fault

pub returns-in-Err : goal.returns-in-Err
returns-in-Err g c =
    let kept = g.K.Keeper.kept in
    let s0 = c.args.sites.now in
    let s1 = c.most_steps.new.sites in
    let set = c.args.set.now in
    let here = λ (s : ℕ). s ≡ set.source in
    let within = λ (s : ℕ) (is : s ≡ set.source). subst (λ (m : ℕ). m < length (names s0)) (sym is) c.requires.placed.source.within in
    let shown = layer_shown kept s0 source_rules source_shown here within in
    let e = c.in-Err.fault in
    let f = c.in-Err.ensures.fault in
    let t = g.O.Sink.taken c.args.output.now in
    let error = c.error_of_fault.result in
    let is = c.error_of_fault.ensures in
    record {
      part = reads_failed {s0 = s0} {s1 = s1} {damage = Damages here source_rules kept s0} shown e f c.requires.closed c.in-Err.ensures.closed (λ w stands. let one = c.requires.known w stands in captured_undamaged kept set s0 s0 c.requires.closed w one.0 stands one.2 (looks_none kept s0) s1 e f)
          (apply_events c.args.number c.args.id.now) (λ refused. refused) error is;
      no_rest = tells_none t t set.source error (stops_reads kept s0 s1 (Damages here source_rules kept s0) shown e f error is);
    }

-- the steps are made
pub make_steps-requires : goal.make_steps-requires
make_steps-requires g c =
    let kept = g.K.Keeper.kept in
    let s0 = c.args.sites.now in
    let s1 = c.most_steps.new.sites in
    let looks = c.in-Ok.ensures.ok in
    record {
      closed = closed_after kept s0 s1 looks c.requires.closed;
      source = subst (λ (l : List (List ℕ)). c.args.set.now.source < length l) (sym looks.stays.passes.names) c.requires.placed.source.within;
      most = may_make kept s0 s1 looks c.args.id.now c.args.set.now c.requires.known c.in-Ok.most c.in-Ok.ensures.most;
    }

pub returns : goal.returns
returns g c = record { part = part_looked c.in-Ok.ensures.ok c.requires.closed c.make_steps.ensures.part; no_rest = c.make_steps.ensures.no_rest }
