-- What the next action of a read-only set makes of the servers.
use Rattle.std.specs.Prelude.{ℕ, Bool, true, false, ◌==◌, if◌then◌else◌, List, [], ◌∷◌, ◌++◌, length, map, fold, Option, Some, None}
use Rattle.std.specs.List.{list_any}
use Rattle.std.specs.Str.{bytes_eq}
use Rattle.repl_types.specs.declared.record.Change.TheVariants.{Start}
use Rattle.repl_types.specs.declared.record.LogRecord.{LogRecord}
use Rattle.repl_types.specs.declared.record.LogRecord.TheVariants as records
use Rattle.repl_types.specs.declared.record.SetId.{SetId}
use Rattle.repl_definitions.specs.declared.member.TargetKind.{TargetKind}
use Rattle.repl_definitions.specs.declared.member.TargetKind.TheVariants.{UserCopy, PointInTime, BaseAggregate, ChangeAggregate, Ccd, Replica}
use Rattle.repl_definitions.specs.declared.set.SetDef.{SetDef}
use Rattle.repl_model.specs.Units.{units, last_commit, last_time}
use Rattle.repl_model.specs.Trails.{Entry, refresh, block, synchpoint}
use Rattle.repl_model.specs.World.{SourceSide, TargetSide, Server, World, KnownSet, same_set}
use Rattle.repl_model.specs.NextActions.{Action, signals, refreshes, blocks, reports, idles, refuses}

-- ---- servers, made others

-- the group with the server of a name made another one
abbrev pub with_server : List ℕ → (Server → Server) → World → World
with_server name f world = map (λ server. if bytes_eq name server.name then f server else server) world

-- a server with what it has of a set, whose source it is, made another
abbrev pub with_source_side : SetId → (SourceSide → SourceSide) → Server → Server
with_source_side id f server = record server { source_sets = map (λ side. if same_set id side.def.id then f side else side) server.source_sets }

-- a server with what it has of a set, whose target it is, made another
abbrev pub with_target_side : SetId → (TargetSide → TargetSide) → Server → Server
with_target_side id f server = record server { target_sets = map (λ side. if same_set id side.def.id then f side else side) server.target_sets }

-- the source tables of a set's members, each once, in order
abbrev pub source_tables : SetDef → List (List ℕ)
source_tables def = fold (λ names member. if list_any (bytes_eq member.source) names then names else names ++ member.source ∷ []) [] def.members

-- The records of a set's signal after a log: the registrations of its members are started, in one unit of the
-- program's own at the time of the last commit, under the name of the set's qualifier.
abbrev pub signal_records : SetDef → List LogRecord → List LogRecord
signal_records def log = map (λ table. records.Change 0 (Start table)) (source_tables def) ++ records.Commit 0 (last_time (units log)) def.id.qual (Some def.id) ∷ []

-- a source after the signal of a set: its log is longer by that unit, whose seq is the set's last signal
abbrev pub signalled : SetDef → Server → Server
signalled def server =
    let log = server.log ++ signal_records def server.log in
    with_source_side def.id (λ side. record side { signal = length log }) (record server { log = log })

-- a source once a point is reported to it
abbrev pub reported : SetDef → ℕ → Server → Server
reported def point server = with_source_side def.id (λ side. record side { mark = point }) server

-- a target after one more entry of the set's trail
abbrev pub with_entry : SetDef → Entry → Server → Server
with_entry def entry server = with_target_side def.id (λ side. record side { trail = side.trail ++ entry ∷ [] }) server

-- a target after a refresh, which is what was asked for
abbrev pub refreshed : SetDef → Entry → Server → Server
refreshed def entry server = with_target_side def.id (λ side. record side { flag = false }) (with_entry def entry server)

-- the member is a base aggregate
abbrev pub is_base_aggregate : TargetKind → Bool
is_base_aggregate UserCopy = false
is_base_aggregate PointInTime = false
is_base_aggregate BaseAggregate = true
is_base_aggregate ChangeAggregate = false
is_base_aggregate (Ccd complete condensed) = false
is_base_aggregate Replica = false

-- the point at which base aggregates are read if they are: the last commit of the source
abbrev pub base_point : KnownSet → Option ℕ
base_point k = if list_any (λ member. is_base_aggregate member.kind) k.at_source.def.members then Some (last_commit k.source.log) else None

-- the entry of a refresh of the set
abbrev pub refresh_entry : KnownSet → Entry
refresh_entry k = refresh (last_commit k.source.log) (base_point k)

-- the entry of a block of the set up to a point; base aggregates are read if it takes all captured units
abbrev pub block_entry : KnownSet → ℕ → Entry
block_entry k upto = block (synchpoint k.at_target.trail) upto (if upto == k.source.captured then base_point k else None)

-- the group of servers after an action of a set that is known there: one commit, at the source or at the target
abbrev pub after_action : World → KnownSet → Action → World
after_action world k signals = with_server k.source.name (signalled k.at_source.def) world
after_action world k refreshes = with_server k.target.name (refreshed k.at_target.def (refresh_entry k)) world
after_action world k (blocks upto) = with_server k.target.name (with_entry k.at_target.def (block_entry k upto)) world
after_action world k reports = with_server k.source.name (reported k.at_source.def (synchpoint k.at_target.trail)) world
after_action world k idles = world
after_action world k (refuses place) = world
