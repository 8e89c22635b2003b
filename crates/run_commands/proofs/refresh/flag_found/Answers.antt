use Rattle.std.proofs.Common.{◌≡◌, ◌∙◌, List, true, false, not, ap, refl, subst, sym, arith}
use Rattle.world_store.specs.Words.{Stands}
use Rattle.site_store.specs.Words.{names, held}
use Rattle.repl_model.specs.Words.{World, KnownSet}
use Rattle.run_core.specs.Runs.{Event, Went, Stopped, is_refused}
use Rattle.world_commits.specs.actions.Flags.{with_flag}
use Rattle.set_places.specs.Places.{IsPlacedAs}
use Rattle.run_commands.specs.parts.laws.Composing.{part_as, part_refused, part_written}
use Rattle.run_commands.proofs.AfterReads.{read_only}
use Rattle.run_commands.proofs.RefreshEvents.{replica_refused, set_flagged, wrote_flag, began_flag, failed_flag, flag_run, flag_cause}
use Rattle.run_commands.proofs.refresh.flag_found.Goals as goal

-- it is a replica set
pub returns-then-is_replica_set : goal.returns-then-is_replica_set
returns-then-is_replica_set g c =
    let set = c.args.set.now in
    let is = sym c.is_replica_set.ensures ∙ c.if-is_replica_set.true in
    λ events known. part_as events (λ w stands. let one = known w stands in replica_refused w one.0 set one.1 is ∙ sym one.2) (part_refused (λ refused. refused) c.requires.closed refl c.refuse_replica.ensures)

-- the flag was set
pub flag-requires : goal.flag-requires
flag-requires g c = record { placed = c.requires.placed.target; closed = c.requires.closed }

pub returns-in-Ok : goal.returns-in-Ok
returns-in-Ok g c =
    let kept = g.K.Keeper.kept in
    let s0 = c.args.sites.now in
    let s1 = c.flag.new.sites in
    let set = c.args.set.now in
    let t = g.O.Sink.taken c.args.output.now in
    let u = g.O.Sink.taken c.write_flagged.new.output in
    let is = sym c.is_replica_set.ensures ∙ c.if-is_replica_set.false in
    let became = λ (w : World) (k : KnownSet) (stands : Stands (names s0) (held kept s0) w) (placed : IsPlacedAs w k set). c.in-Ok.ensures.ok w k stands placed (read_only w k set placed (ap not is)) in
    λ events known. part_written c.write_flagged.ensures events (λ refused. refused) c.flag.ensures.servers
    (λ took w stands.
    let one = known w stands in
    subst (λ (es : List (Event World)). Went (Stands (names s0)) es w (held kept s1) t u × (false ≡ is_refused es)) (set_flagged w one.0 set one.1 is ∙ sym one.2) (wrote_flag kept s0 s1 w (with_flag true w one.0) t u (became w one.0 stands one.1) took, refl))
    (λ took w stands.
    let one = known w stands in
    subst (λ (es : List (Event World)). Stopped (Stands (names s0)) es w (held kept s1) t u) (set_flagged w one.0 set one.1 is ∙ sym one.2) (began_flag kept s0 s1 w (with_flag true w one.0) t u (became w one.0 stands one.1) took))

-- it wasn't, or the commit failed
pub error_of_fault-requires : goal.error_of_fault-requires
error_of_fault-requires g c = flag_run g.K.Keeper.kept c.args.sites.now c.flag.new.sites c.args.set.now (sym c.is_replica_set.ensures ∙ c.if-is_replica_set.false) c.in-Err.fault c.in-Err.ensures.blames

pub returns-in-Err : goal.returns-in-Err
returns-in-Err g c =
    let kept = g.K.Keeper.kept in
    let s0 = c.args.sites.now in
    let s1 = c.flag.new.sites in
    let set = c.args.set.now in
    let e = c.in-Err.fault in
    let t = g.O.Sink.taken c.args.output.now in
    let count = g.O.Sink.faults c.args.output.now in
    let keeps = c.flag.ensures.servers in
    let is = sym c.is_replica_set.ensures ∙ c.if-is_replica_set.false in
    let may = λ (w : World) (k : KnownSet) (stands : Stands (names s0) (held kept s0) w) (placed : IsPlacedAs w k set). c.in-Err.ensures.fault w k stands placed (read_only w k set placed (ap not is)) in
    λ events known. record {
      ok = tt;
      stopped = λ w stands.
          let one = known w stands in
          subst (λ (es : List (Event World)). Stopped (Stands (names s0)) es w (held kept s1) t t) (set_flagged w one.0 set one.1 is ∙ sym one.2) (failed_flag kept s0 s1 w (with_flag true w one.0) t e (may w one.0 stands one.1));
      servers = keeps;
      cause = flag_cause kept s0 s1 set is c.requires.placed c.requires.closed keeps count count e c.error_of_fault.result c.error_of_fault.ensures c.in-Err.ensures.blames (λ w stands. let one = known w stands in (may w one.0 stands one.1).undamaged);
      counts = omega arith;
    }
