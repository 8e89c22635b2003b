-- The parts of sound definitions, each of a whole world.
use Rattle.std.proofs.Common.{◌≡◌, ◌≤◌, IsTrue, not, length, bytes_eq}
use Rattle.std.specs.List.{AllByRecursion, list_all, list_any}
use Rattle.repl_model.specs.Words.{is_name, units, World, same_set, known_sets, all_differ, server_limit, table_limit, set_limit, KeepsTable, SetKeepsLimits, UnknownSource, UnknownTarget, has_sources, has_replicas, has_origin, KnownSetKeepsRules, same_place, targets_of, sources_of, replica_sets, waits_for_load}

-- there are no more servers than there may be
abbrev pub AreFew : World → Type 0
AreFew world = length world ≤ server_limit

-- the names of servers differ
abbrev pub NamesDiffer : World → Type 0
NamesDiffer world = IsTrue (all_differ (λ a b. bytes_eq a.name b.name) world)

-- the names of servers are names
abbrev pub ServersHaveNames : World → Type 0
ServersHaveNames world = AllByRecursion (λ server. IsTrue (is_name server.name)) world

-- no server has more tables than it may
abbrev pub TablesAreCounted : World → Type 0
TablesAreCounted world = AllByRecursion (λ server. length server.tables ≤ table_limit) world

-- no server has more sets at either of its sides than it may
abbrev pub SetsAreCounted : World → Type 0
SetsAreCounted world = AllByRecursion (λ server. (length server.source_sets ≤ set_limit) × (length server.target_sets ≤ set_limit)) world

-- the sets at their sources keep the limits, and have had no step if they don't stand at their targets too
abbrev pub SourcesKeepLimits : World → Type 0
SourcesKeepLimits world = AllByRecursion (λ server. AllByRecursion (λ side. (side.def.source ≡ server.name) × SetKeepsLimits world side.def × UnknownSource world server side) server.source_sets) world

-- the sets at their targets keep the limits, and have had no step if they don't stand at their sources too
abbrev pub TargetsKeepLimits : World → Type 0
TargetsKeepLimits world = AllByRecursion (λ server. AllByRecursion (λ side. (side.def.target ≡ server.name) × SetKeepsLimits world side.def × UnknownTarget world server side) server.target_sets) world

-- the origin of each unit is none, or a known set that stands at its server
abbrev pub OriginsAreKnown : World → Type 0
OriginsAreKnown world = AllByRecursion (λ server. AllByRecursion (λ u. IsTrue (has_origin world server u)) (units server.log)) world

-- the names of the tables of a server differ
abbrev pub TableNamesDiffer : World → Type 0
TableNamesDiffer world = AllByRecursion (λ server. IsTrue (all_differ (λ a b. bytes_eq a.def.name b.def.name) server.tables)) world

-- the names of the sets at their sources differ
abbrev pub SourceNamesDiffer : World → Type 0
SourceNamesDiffer world = AllByRecursion (λ server. IsTrue (all_differ (λ a b. same_set a.def.id b.def.id) server.source_sets)) world

-- the names of the sets at their targets differ
abbrev pub TargetNamesDiffer : World → Type 0
TargetNamesDiffer world = AllByRecursion (λ server. IsTrue (all_differ (λ a b. same_set a.def.id b.def.id) server.target_sets)) world

-- the names of known sets differ
abbrev pub SetNamesDiffer : World → Type 0
SetNamesDiffer world = IsTrue (all_differ (λ a b. same_set a.at_target.def.id b.at_target.def.id) (known_sets world))

-- a unit of a replica set that isn't loaded changes no row
abbrev pub UnloadedSetsWait : World → Type 0
UnloadedSetsWait world = AllByRecursion (λ k. IsTrue (waits_for_load world k)) (replica_sets (known_sets world))

-- no two members of known sets have one target
abbrev pub TargetsDiffer : World → Type 0
TargetsDiffer world = IsTrue (all_differ same_place (targets_of (known_sets world)))

-- no target of a replica set is the source of another
abbrev pub MakeNoChains : World → Type 0
MakeNoChains world = IsTrue (list_all (λ target. not (list_any (same_place target) (sources_of (replica_sets (known_sets world))))) (targets_of (replica_sets (known_sets world))))

-- each member of a set at its source is over a registered table there
abbrev pub SourceMembersStand : World → Type 0
SourceMembersStand world = AllByRecursion (λ server. IsTrue (list_all (has_sources server) server.source_sets)) world

-- each replica of a set at its target is a registered table there
abbrev pub ReplicaMembersStand : World → Type 0
ReplicaMembersStand world = AllByRecursion (λ server. IsTrue (list_all (has_replicas server) server.target_sets)) world

-- the tables keep the rules, and so do their registrations
abbrev pub TablesKeepRules : World → Type 0
TablesKeepRules world = AllByRecursion (λ server. AllByRecursion KeepsTable server.tables) world

-- known sets keep the rules
abbrev pub SetsKeepRules : World → Type 0
SetsKeepRules world = AllByRecursion KnownSetKeepsRules (known_sets world)
