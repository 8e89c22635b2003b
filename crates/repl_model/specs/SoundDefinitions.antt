-- What is sound of definitions.
use Rattle.std.specs.Prelude.{◌≡◌, ◌⊎◌, ℕ, ◌+◌, ◌<◌, ◌≤◌, Bool, true, false, IsTrue, ◌&&◌, ◌||◌, not, nat_lt, List, [], length, map, filter, Some, None, IfSome, is_some}
use Rattle.std.specs.List.{AllByRecursion, flat_map, list_all, list_any}
use Rattle.std.specs.Option.{option_map_or}
use Rattle.std.specs.Str.{bytes_eq}
use Rattle.repl_types.specs.Name.{is_name}
use Rattle.repl_types.specs.Sizes.{value_limit}
use Rattle.repl_types.specs.declared.unit.Unit.{Unit}
use Rattle.repl_definitions.specs.Sets.{IsSetDef, set_def_spelling}
use Rattle.repl_definitions.specs.declared.set.SetDef.{SetDef}
use Rattle.repl_definitions.specs.declared.member.Member.{Member}
use Rattle.repl_model.specs.Units.{units}
use Rattle.repl_model.specs.SourceAt.{unplaced}
use Rattle.repl_model.specs.Applicable.{is_signal}
use Rattle.repl_model.specs.Selection.{SourceTable}
use Rattle.repl_model.specs.World.{ServerTable, SourceSide, TargetSide, Server, World, KnownSet, source_named, server_named, server_table, same_set, source_side, target_side, known_from, known_sets, is_known}
use Rattle.repl_model.specs.Replicas.{comes_from}
use Rattle.repl_model.specs.Rules.{is_replica, is_replica_set, TableKeepsRules, RegistrationKeepsRules, MemberKeepsRules, ReplicaKeepsRules}
use Rattle.lists.specs.Lists.{all_differ}

-- the most servers of a group
abbrev pub server_limit : ℕ
server_limit = 16

-- the most tables of a server
abbrev pub table_limit : ℕ
table_limit = 256

-- the most sets of a server at each of its two sides
abbrev pub set_limit : ℕ
set_limit = 256

-- the most columns of a table or of a target
abbrev pub column_limit : ℕ
column_limit = 64

-- the most members of a set
abbrev pub member_limit : ℕ
member_limit = 64

-- A set as a server keeps it: with names that are names, and within the limits. Its definition is stored
-- after a number of four bytes.
pub record SetKeepsLimits (world : World) (def : SetDef) : Type 0 where
  pub spelled : IsSetDef def
  pub stored : length (set_def_spelling def) + 4 ≤ value_limit
  pub members : (0 < length def.members) × (length def.members ≤ member_limit)
  pub columns : AllByRecursion (λ member. length member.columns ≤ column_limit) def.members
  pub source : IsTrue (is_some (server_named def.source world))
  pub target : IsTrue (is_some (server_named def.target world))

-- a table with its registration keeps the rules, and has no more columns than it may
abbrev pub KeepsTable : ServerTable → Type 0
KeepsTable t = TableKeepsRules t.def × (length t.def.columns ≤ column_limit) × IfSome t.registered (λ r. RegistrationKeepsRules t.def r.reg)

-- the set's row at its source says nothing yet
abbrev pub IsFresh : SourceSide → Type 0
IsFresh side = (side.mark ≡ 0) × (side.t ≡ 0) × (side.d ≡ 0) × (side.codes ≡ [])

-- a set that stands at its source stands at its target too
abbrev pub stands_at_target : World → Server → SourceSide → Bool
stands_at_target world source side = list_any (λ k. bytes_eq source.name k.source.name && same_set side.def.id k.at_target.def.id) (known_sets world)

-- a set that doesn't stand at its target too has had no step
abbrev pub UnknownSource : World → Server → SourceSide → Type 0
UnknownSource world source side = IsTrue (stands_at_target world source side) ⊎ (IsFresh side × (side.signal ≡ 0))

-- a set that doesn't stand at its source too has had no step
abbrev pub UnknownTarget : World → Server → TargetSide → Type 0
UnknownTarget world target side = IsTrue (is_some (known_from world target side)) ⊎ ((side.flag ≡ false) × (side.trail ≡ []) × (side.signal ≡ 0))

-- each member of a set that stands at its source is over a registered table there
abbrev pub has_sources : Server → SourceSide → Bool
has_sources server side = list_all (λ member. is_some (source_named member.source server)) side.def.members

-- each replica of a set that stands at its target is a registered table there
abbrev pub has_replicas : Server → TargetSide → Bool
has_replicas server side = list_all (λ member. not (is_replica member.kind) || is_some (source_named member.target server)) side.def.members

-- the origin of a unit is none, or a known set that stands at the server
abbrev pub has_origin : World → Server → Unit → Bool
has_origin world server u = option_map_or (λ id. is_known world id && (is_some (source_side id server) || is_some (target_side id server))) u.head.origin true

-- What one server keeps of definitions. A set's row stands at a server only together with the tables that its
-- members have there, also while it doesn't stand at its other end.
pub record ServerKeepsRules (world : World) (server : Server) : Type 0 where
  pub name : IsTrue (is_name server.name)
  pub tables : AllByRecursion KeepsTable server.tables
  pub count : length server.tables ≤ table_limit
  pub differ : IsTrue (all_differ (λ a b. bytes_eq a.def.name b.def.name) server.tables)
  pub sources : AllByRecursion (λ side. (side.def.source ≡ server.name) × SetKeepsLimits world side.def × UnknownSource world server side) server.source_sets
  pub targets : AllByRecursion (λ side. (side.def.target ≡ server.name) × SetKeepsLimits world side.def × UnknownTarget world server side) server.target_sets
  pub counts : (length server.source_sets ≤ set_limit) × (length server.target_sets ≤ set_limit)
  pub source_names : IsTrue (all_differ (λ a b. same_set a.def.id b.def.id) server.source_sets)
  pub target_names : IsTrue (all_differ (λ a b. same_set a.def.id b.def.id) server.target_sets)
  pub source_members : IsTrue (list_all (has_sources server) server.source_sets)
  pub replica_members : IsTrue (list_all (has_replicas server) server.target_sets)
  pub origins : AllByRecursion (λ u. IsTrue (has_origin world server u)) (units server.log)

-- a member of a read-only set is over a registered table of the source, keeps the rules, and its target isn't
-- a table
abbrev pub MemberIsSound : KnownSet → Member → Type 0
MemberIsSound k member = IsTrue (not (is_replica member.kind)) × (server_table member.target k.target ≡ None)
    × ((source : SourceTable) × (source_named member.source k.source ≡ Some source) × MemberKeepsRules source member)

-- a member of a replica set is over registered tables of both servers, and keeps the rules
abbrev pub ReplicaMemberIsSound : KnownSet → Member → Type 0
ReplicaMemberIsSound k member = IsTrue (is_replica member.kind)
    × ((master : SourceTable) × (replica : SourceTable) × (source_named member.source k.source ≡ Some master) × (source_named member.target k.target ≡ Some replica) × ReplicaKeepsRules master replica member)

-- the members of a set are all of a read-only set, and its rows hold only what such a set has
abbrev pub KeepsReadOnlyRules : KnownSet → Type 0
KeepsReadOnlyRules k = AllByRecursion (MemberIsSound k) k.at_target.def.members
    × (k.at_source.t ≡ 0) × (k.at_source.d ≡ 0) × (k.at_source.codes ≡ []) × (k.at_target.signal ≡ 0)

-- they are all of a replica set, whose steps have no limits, and its rows hold only what such a set has
abbrev pub KeepsReplicaRules : KnownSet → Type 0
KeepsReplicaRules k = AllByRecursion (ReplicaMemberIsSound k) k.at_target.def.members
    × (k.at_target.def.commit_count ≡ 0) × (k.at_target.def.max_minutes ≡ 0) × (k.at_target.flag ≡ false) × (k.at_target.trail ≡ [] → IsFresh k.at_source)

-- What a known set keeps: both its rows say the same, its servers are two, and it keeps the rules of a read-only set or
-- those of a replica set.
pub record KnownSetKeepsRules (k : KnownSet) : Type 0 where
  pub same : k.at_source.def ≡ k.at_target.def
  pub apart : IsTrue (not (bytes_eq k.source.name k.target.name))
  pub members : KeepsReadOnlyRules k ⊎ KeepsReplicaRules k

-- a server and one of its tables or targets, by their names
abbrev pub same_place : List ℕ × List ℕ → List ℕ × List ℕ → Bool
same_place a b = bytes_eq a.0 b.0 && bytes_eq a.1 b.1

-- the targets of all members of some sets
abbrev pub targets_of : List KnownSet → List (List ℕ × List ℕ)
targets_of sets = flat_map (λ k. map (λ member. (k.target.name, member.target)) k.at_target.def.members) sets

-- the sources of all members of some sets
abbrev pub sources_of : List KnownSet → List (List ℕ × List ℕ)
sources_of sets = flat_map (λ k. map (λ member. (k.source.name, member.source)) k.at_target.def.members) sets

-- the replica sets among some sets
abbrev pub replica_sets : List KnownSet → List KnownSet
replica_sets sets = filter (λ k. is_replica_set k.at_target.def) sets

-- the read-only sets among some sets
abbrev pub read_only_sets : List KnownSet → List KnownSet
read_only_sets sets = filter (λ k. not (is_replica_set k.at_target.def)) sets

-- the replica sets that are loaded
abbrev pub loaded_sets : World → List KnownSet
loaded_sets world = filter (λ k. nat_lt 0 (length k.at_target.trail)) (replica_sets (known_sets world))

-- a unit from a replica set that isn't loaded changes no row
abbrev pub waits_for_load : World → KnownSet → Bool
waits_for_load world k = nat_lt 0 (length k.at_target.trail)
    || list_all (λ server. list_all (λ u. not (comes_from k.at_target.def.id u) || list_all is_signal (unplaced u.changes)) (units server.log)) world

-- The definitions part: each server and each known set keeps the rules; names of servers and of sets differ;
-- no two members have one target, and no target of a replica set is the source of another; and nothing was
-- changed yet for a replica set that isn't loaded.
pub record DefinitionsAreSound (world : World) : Type 0 where
  pub few : length world ≤ server_limit
  pub names : IsTrue (all_differ (λ a b. bytes_eq a.name b.name) world)
  pub servers : AllByRecursion (ServerKeepsRules world) world
  pub sets : AllByRecursion KnownSetKeepsRules (known_sets world)
  pub set_names : IsTrue (all_differ (λ a b. same_set a.at_target.def.id b.at_target.def.id) (known_sets world))
  pub targets : IsTrue (all_differ same_place (targets_of (known_sets world)))
  pub chains : IsTrue (list_all (λ target. not (list_any (same_place target) (sources_of (replica_sets (known_sets world))))) (targets_of (replica_sets (known_sets world))))
  pub unloaded : AllByRecursion (λ k. IsTrue (waits_for_load world k)) (replica_sets (known_sets world))
