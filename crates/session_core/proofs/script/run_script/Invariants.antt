use Rattle.std.proofs.Common.{◌≡◌, ◌≤◌, ◌+◌, length, None, option_map}
use Rattle.world_store.specs.Words.{Stands}
use Rattle.site_store.specs.Words.{KeepsServers, names, held}
use Rattle.repl_model.specs.Words.{World}
use Rattle.line_input.specs.Script.{lines_left, total_left, pending, next_kind, line_number, HasOneSource}
use Rattle.session_core.specs.Bodies.{KeepsBodies}
use Rattle.session_core.specs.Lines.{GoesOn}
use Rattle.session_core.proofs.script.run_script.Given as goal

abbrev pub invariant-loop-bodies : goal.invariant-loop-bodies
invariant-loop-bodies g l = record {
  going : (w : World) → Stands (names l.fn.sites) (held g.K.Keeper.kept l.fn.sites) w → GoesOn (Stands (names l.fn.sites)) (g.I.Source.left l.fn.input) w l.bodies (line_number l.script) (lines_left l.script (g.I.Source.left l.input)) (held g.K.Keeper.kept l.sites) (g.O.Sink.taken l.fn.output) (g.O.Sink.taken l.output) l.refused;
  servers : KeepsServers g.K.Keeper.kept l.fn.sites l.sites;
  none : next_kind l.script ≡ None;
  keeps : KeepsBodies (line_number l.script + 1) l.bodies;
  total : total_left l.script (g.I.Source.left l.input) ≡ option_map (λ bytes. length bytes) (g.I.Source.left l.fn.input);
  one_source : HasOneSource l.script (g.I.Source.left l.input);
  input_counts : g.I.Source.faults l.fn.input ≤ g.I.Source.faults l.input;
  output_counts : g.O.Sink.faults l.fn.output ≤ g.O.Sink.faults l.output;
}

abbrev pub decreases-loop-bodies : goal.decreases-loop-bodies
decreases-loop-bodies g l = pending l.script
