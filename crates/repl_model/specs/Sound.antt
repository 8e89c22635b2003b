-- When a world is sound: what holds of logs, definitions, numbers and trails at every moment.
use Rattle.std.specs.Prelude.{◌≡◌, ℕ, ◌<◌, ◌≤◌, Bool, true, IsTrue, ◌&&◌, ◌||◌, ◌==◌, List, [], ◌∷◌, length, Option, ⊤}
use Rattle.std.specs.List.{AllByRecursion, list_any}
use Rattle.std.specs.Option.{option_map_or}
use Rattle.std.specs.Str.{bytes_eq}
use Rattle.repl_types.specs.Name.{is_name}
use Rattle.repl_types.specs.declared.record.LogRecord.{LogRecord}
use Rattle.repl_model.specs.Units.{units}
use Rattle.repl_model.specs.Trails.{Trail, refresh, block, load, settle, synchpoint}
use Rattle.repl_model.specs.World.{Server, World, KnownSet, registered_of, known_sets}
use Rattle.lists.specs.Lists.{all_differ}
use Rattle.repl_model.specs.SoundLogs.{LogIsSound}
use Rattle.repl_model.specs.SoundDefinitions.{server_limit, read_only_sets, loaded_sets, DefinitionsAreSound}
use Rattle.repl_model.specs.SoundReplicas.{ReplicaMarksAreSound, IsExactlyOnce, IsIndependent, DecisionsAreCaptured}

-- ---- numbers

-- the position is the seq of a unit of the log
abbrev pub is_seq : List LogRecord → ℕ → Bool
is_seq log point = list_any (λ u. u.head.seq == point) (units log)

-- the position is 0 or the seq of a unit of the log
abbrev pub is_seq_or_zero : List LogRecord → ℕ → Bool
is_seq_or_zero log point = point == 0 || is_seq log point

-- The numbers part, of one server: captured is a unit's seq or 0, no start, floor or shown code is above it,
-- and the shown codes are 1 to 4.
pub record NumbersAreSound (server : Server) : Type 0 where
  pub captured : IsTrue (is_seq_or_zero server.log server.captured)
  pub floor : server.floor ≤ server.captured
  pub registered : AllByRecursion (λ r. (r.start ≤ server.captured) × (r.floor ≤ server.captured)) (registered_of server)
  pub shown : AllByRecursion (λ c. (c.0 ≤ server.captured) × (0 < c.1) × (c.1 ≤ 4)) server.shown

-- ---- trails

-- base aggregates were read at a unit's seq, if they were
abbrev pub is_base : List LogRecord → Option ℕ → Bool
is_base log q = option_map_or (is_seq log) q true

-- Entries of a read-only set, after a point and a base: a refresh is at no earlier point, and above the
-- base; a block is from the point to a later one, after a refresh. All points are seqs of units.
abbrev pub GoesOn : List LogRecord → ℕ → ℕ → Trail → Type 0
GoesOn log point base [] = ⊤
GoesOn log point base (refresh p q ∷ trail) = (point ≤ p) × (base < p) × IsTrue (is_seq log p && is_base log q) × GoesOn log p p trail
GoesOn log point base (block low high q ∷ trail) = (low ≡ point) × (low < high) × (0 < base) × IsTrue (is_seq log high && is_base log q) × GoesOn log high base trail
GoesOn log point base (load m f rows ∷ trail) = ⊥
GoesOn log point base (settle m f rejected applied ∷ trail) = ⊥

-- the last signals at both ends of a set are seqs of units there, or 0
abbrev pub SignalsAreSound : KnownSet → Type 0
SignalsAreSound k = IsTrue (is_seq_or_zero k.source.log k.at_source.signal) × IsTrue (is_seq_or_zero k.target.log k.at_target.signal)

-- The trails part, of a read-only set: its intervals follow each other without hole or overlap but at a
-- refresh, and no more is reported than was reached.
pub record TrailIsSound (k : KnownSet) : Type 0 where
  pub goes : GoesOn k.source.log 0 0 k.at_target.trail
  pub mark : k.at_source.mark ≤ synchpoint k.at_target.trail

-- ---- all parts

-- A sound world.
pub record IsSound (world : World) : Type 0 where
  pub logs : AllByRecursion LogIsSound world
  pub definitions : DefinitionsAreSound world
  pub numbers : AllByRecursion NumbersAreSound world
  pub signals : AllByRecursion SignalsAreSound (known_sets world)
  pub trails : AllByRecursion TrailIsSound (read_only_sets (known_sets world))
  pub replica_marks : AllByRecursion ReplicaMarksAreSound (loaded_sets world)
  pub exactly_once : AllByRecursion IsExactlyOnce (loaded_sets world)
  pub independence : AllByRecursion IsIndependent (loaded_sets world)
  pub captured_decisions : AllByRecursion DecisionsAreCaptured (loaded_sets world)

-- ---- the names of servers

-- the names may be those of a group of servers
pub record AreServerNames (names : List (List ℕ)) : Type 0 where
  pub few : length names ≤ server_limit
  pub spelled : AllByRecursion (λ name. IsTrue (is_name name)) names
  pub differ : IsTrue (all_differ bytes_eq names)
