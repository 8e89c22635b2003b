use Rattle.std.proofs.Common.{◌≡◌, ◌*◌, map, take}
use Rattle.std.specs.List.{AllByRecursion}
use Rattle.world_store.specs.Words.{Stands}
use Rattle.site_store.specs.Words.{names, held, Stays}
use Rattle.repl_model.specs.Words.{World}
use Rattle.stored_defs.specs.DefinitionReads.{in_defs, server_reads}
use Rattle.load_plan.specs.Differences.{IsSpelledServer}
use Rattle.load_laws.specs.planned.Planned.{stored_servers}
use Rattle.load_defs.proofs.reading.read_servers.Given as goal

abbrev pub invariant-loop-server : goal.invariant-loop-server
invariant-loop-server g l = record {
  stays : Stays g.K.Keeper.kept l.fn.sites l.sites (in_defs (l.server * server_reads));
  stored : (w : World) → Stands (names l.fn.sites) (held g.K.Keeper.kept l.fn.sites) w → l.stored ≡ stored_servers (take l.server w);
  names : map (λ s. s.name) l.stored ≡ take l.server (names l.fn.sites);
  spelled : AllByRecursion IsSpelledServer l.stored;
}
