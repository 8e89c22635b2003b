use Rattle.std.proofs.Common.{◌≡◌, ◌≤◌, ◌<◌, ◌+◌, length, option_map, IfSome}
use Rattle.world_store.specs.Words.{Stands}
use Rattle.site_store.specs.Words.{KeepsServers, names, held}
use Rattle.repl_model.specs.Words.{World}
use Rattle.line_input.specs.Limits.{input_limit}
use Rattle.line_input.specs.Input.{left_of, total_of, budget, NothingAfterEnd}
use Rattle.run_commands.specs.feed.Feeds.{IsFeed}
use Rattle.session_core.specs.copy.fed.Feeding.{GoesOn}
use Rattle.session_core.proofs.copy.fed.feeding.feed_input.Given as goal

abbrev pub invariant-loop-feed : goal.invariant-loop-feed
invariant-loop-feed g l = record {
  going : (w : World) → Stands (names l.fn.sites) (held g.K.Keeper.kept l.fn.sites) w → GoesOn (Stands (names l.fn.sites)) l.fn.server (g.I.Source.left l.fn.input) w l.feed l.number (left_of l.lines (g.I.Source.left l.input)) (held g.K.Keeper.kept l.sites) (g.O.Sink.taken l.fn.output) (g.O.Sink.taken l.output);
  servers : KeepsServers g.K.Keeper.kept l.fn.sites l.sites;
  feeds : IfSome l.feed (λ f. IsFeed f × (f.fed + length f.records < l.number));
  total : total_of l.lines (g.I.Source.left l.input) ≡ option_map (λ bytes. length bytes) (g.I.Source.left l.fn.input);
  few : l.number + budget l.lines ≤ input_limit + 1;
  one_source : NothingAfterEnd l.lines (g.I.Source.left l.input);
  input_counts : g.I.Source.faults l.fn.input ≤ g.I.Source.faults l.input;
  output_counts : g.O.Sink.faults l.fn.output ≤ g.O.Sink.faults l.output;
}

abbrev pub decreases-loop-feed : goal.decreases-loop-feed
decreases-loop-feed g l = budget l.lines
