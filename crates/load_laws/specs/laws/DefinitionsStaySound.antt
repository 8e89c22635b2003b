-- The definitions of a sound world are sound once accepted definitions are loaded.
use Rattle.std.proofs.Common.{◌≡◌, true, ◌≤◌, length, bytes_eq}
use Rattle.std.specs.List.{AllByRecursion, list_all}
use Rattle.repl_model.specs.Words.{is_name, Unit, units, SourceSide, TargetSide, Server, World, same_set, all_differ, table_limit, set_limit, KeepsTable, SetKeepsLimits, UnknownSource, UnknownTarget, has_sources, has_replicas, has_origin, ServerKeepsRules, DefinitionsAreSound, at_one, at_each}
use Rattle.load_laws.specs.worlds.Loads.{load_all}
use Rattle.load_laws.specs.rules.StaysSound.{HoldsLoaded}
use Rattle.load_laws.specs.laws.RuledWorlds.{few_stay, names_differ}
use Rattle.load_laws.specs.laws.Servers.{servers_have_names, tables_are_counted, sets_are_counted, sources_keep_limits, targets_keep_limits, origins_are_known}
use Rattle.load_laws.specs.laws.Differ.{table_names_differ, source_names_differ, target_names_differ}
use Rattle.load_laws.specs.laws.KnownSets.{set_names_differ}
use Rattle.load_laws.specs.laws.Unloaded.{unloaded_sets_wait}
use Rattle.load_laws.specs.laws.TargetsDiffer.{targets_differ}
use Rattle.load_laws.specs.laws.Chains.{make_no_chains}
use Rattle.load_laws.specs.laws.MembersStand.{source_members_stand, replica_members_stand}
use Rattle.load_laws.specs.laws.TablesKeep.{tables_keep_rules}
use Rattle.load_laws.specs.laws.SetsKeep.{sets_keep_rules}

-- each server keeps the rules
servers_keep_rules : HoldsLoaded (λ world. AllByRecursion (ServerKeepsRules world) world)
servers_keep_rules raw w defs sound accepted = at_each (ServerKeepsRules v) v (λ s i. record {
  name = at_one (λ (s : Server). is_name s.name ≡ true) v s (servers_have_names raw w defs sound accepted) i;
  tables = at_one (λ (s : Server). AllByRecursion KeepsTable s.tables) v s (tables_keep_rules raw w defs sound accepted) i;
  count = at_one (λ (s : Server). length s.tables ≤ table_limit) v s (tables_are_counted raw w defs sound accepted) i;
  differ = at_one (λ (s : Server). all_differ (λ a b. bytes_eq a.def.name b.def.name) s.tables ≡ true) v s (table_names_differ raw w defs sound accepted) i;
  sources = at_one (λ (s : Server). AllByRecursion (λ (side : SourceSide). (side.def.source ≡ s.name) × SetKeepsLimits v side.def × UnknownSource v s side) s.source_sets) v s (sources_keep_limits raw w defs sound accepted) i;
  targets = at_one (λ (s : Server). AllByRecursion (λ (side : TargetSide). (side.def.target ≡ s.name) × SetKeepsLimits v side.def × UnknownTarget v s side) s.target_sets) v s (targets_keep_limits raw w defs sound accepted) i;
  counts = at_one (λ (s : Server). (length s.source_sets ≤ set_limit) × (length s.target_sets ≤ set_limit)) v s (sets_are_counted raw w defs sound accepted) i;
  source_names = at_one (λ (s : Server). all_differ (λ a b. same_set a.def.id b.def.id) s.source_sets ≡ true) v s (source_names_differ raw w defs sound accepted) i;
  target_names = at_one (λ (s : Server). all_differ (λ a b. same_set a.def.id b.def.id) s.target_sets ≡ true) v s (target_names_differ raw w defs sound accepted) i;
  source_members = at_one (λ (s : Server). list_all (has_sources s) s.source_sets ≡ true) v s (source_members_stand raw w defs sound accepted) i;
  replica_members = at_one (λ (s : Server). list_all (has_replicas s) s.target_sets ≡ true) v s (replica_members_stand raw w defs sound accepted) i;
  origins = at_one (λ (s : Server). AllByRecursion (λ (u : Unit). has_origin v s u ≡ true) (units s.log)) v s (origins_are_known raw w defs sound accepted) i;
})
  where
    v : World
    v = load_all defs w

-- the definitions are sound
pub definitions_stay_sound : HoldsLoaded DefinitionsAreSound
definitions_stay_sound raw w defs sound accepted = record {
  few = few_stay raw w defs sound accepted;
  names = names_differ raw w defs sound accepted;
  servers = servers_keep_rules raw w defs sound accepted;
  sets = sets_keep_rules raw w defs sound accepted;
  set_names = set_names_differ raw w defs sound accepted;
  targets = targets_differ raw w defs sound accepted;
  chains = make_no_chains raw w defs sound accepted;
  unloaded = unloaded_sets_wait raw w defs sound accepted;
}
