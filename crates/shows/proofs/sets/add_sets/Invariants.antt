use Rattle.std.proofs.Common.{◌≡◌, ◌+◌, ◌++◌, take, flat_map}
use Rattle.world_store.specs.Words.{Stands, definition_limit}
use Rattle.site_store.specs.Words.{names, held, Stays}
use Rattle.repl_model.specs.Words.{World, server_in}
use Rattle.shows.specs.servers.Status.{set_text}
use Rattle.shows.specs.servers.Rules.{reads_at}
use Rattle.shows.proofs.sets.add_sets.Given as goal

abbrev pub invariant-loop-number : goal.invariant-loop-number
invariant-loop-number g l = record {
  stays : Stays g.K.Keeper.kept l.fn.sites l.sites (reads_at (definition_limit + l.number) l.server);
  text : (w : World) → Stands (names l.fn.sites) (held g.K.Keeper.kept l.fn.sites) w → l.text.items ≡ l.fn.text.items ++ flat_map set_text (take l.number (server_in w l.server).source_sets);
}
