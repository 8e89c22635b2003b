use Rattle.std.proofs.Common.{◌≤◌}
use Rattle.world_store.specs.Words.{Stands}
use Rattle.site_store.specs.Words.{KeepsServers, names, held}
use Rattle.repl_model.specs.Words.{World}
use Rattle.run_commands.specs.apply.Progress.{TakesSteps}
use Rattle.run_commands.proofs.Applying.{Applies}
use Rattle.run_commands.proofs.apply.applies.make_steps.Given as goal

abbrev pub invariant-loop-steps : goal.invariant-loop-steps
invariant-loop-steps g l = record {
  applies : (w : World) → Stands (names l.fn.sites) (held g.K.Keeper.kept l.fn.sites) w → Applies (Stands (names l.fn.sites)) l.number l.id l.most w (g.O.Sink.taken l.fn.output) l.steps (held g.K.Keeper.kept l.sites) (g.O.Sink.taken l.output);
  told : TakesSteps (g.O.Sink.taken l.fn.output) (g.O.Sink.taken l.output) l.steps;
  servers : KeepsServers g.K.Keeper.kept l.fn.sites l.sites;
  counts : g.O.Sink.faults l.fn.output ≤ g.O.Sink.faults l.output;
}
