-- Stages of a set that copies orders from one server to another, worked by hand.
use Rattle.std.specs.Prelude.{ℕ, pos, true, false, List, [], ◌∷◌, ◌++◌, codes, Some, None}
use Rattle.repl_types.specs.declared.value.Value.TheVariants.{Int}
use Rattle.repl_types.specs.declared.record.Change.TheVariants.{Stop}
use Rattle.repl_types.specs.declared.record.LogRecord.{LogRecord}
use Rattle.repl_types.specs.declared.record.LogRecord.TheVariants as records
use Rattle.repl_definitions.specs.declared.set.SetDef.{SetDef}
use Rattle.repl_model.specs.Trails.{Trail, refresh}
use Rattle.repl_model.specs.World.{Registered, SourceSide, TargetSide, Server, World, KnownSet}
use Rattle.repl_model.specs.WorkedOrders.{orders, with_quantity, orders_insert, user_commit, signal_of}
use Rattle.repl_model.specs.WorkedWorld.{copied_set}

-- ---- stages

-- The numbers of the two servers: the set, the log of the source, the registration of orders there, how far the
-- source is captured and its unit-of-work table pruned, what is reported and the last signal, and the trail.
pub record Stage : Type 0 where
  pub def : SetDef
  pub log : List LogRecord
  pub registered : Registered
  pub captured : ℕ
  pub floor : ℕ
  pub mark : ℕ
  pub signal : ℕ
  pub trail : Trail

-- the set at its source
abbrev pub from_of : Stage → SourceSide
from_of s = record { def = s.def; mark = s.mark; signal = s.signal; t = 0; d = 0; codes = [] }

-- and at its target
abbrev pub to_of : Stage → TargetSide
to_of s = record { def = s.def; flag = false; trail = s.trail; signal = 0 }

-- the source
abbrev pub source_of : Stage → Server
source_of s = record { name = codes "hq"; log = s.log; tables = record { def = orders; registered = Some s.registered } ∷ []; captured = s.captured; floor = s.floor; shown = []; source_sets = from_of s ∷ []; target_sets = [] }

-- the target
abbrev pub target_of : Stage → Server
target_of s = record { name = codes "shop"; log = []; tables = []; captured = 0; floor = 0; shown = []; source_sets = []; target_sets = to_of s ∷ [] }

-- both
abbrev pub world_of : Stage → World
world_of s = source_of s ∷ target_of s ∷ []

-- the set at both its ends
abbrev pub known_of : Stage → KnownSet
known_of s = record { source = source_of s; at_source = from_of s; target = target_of s; at_target = to_of s }

-- ---- the first refresh

-- the registration of orders, active from a point on and pruned up to another
abbrev pub started : ℕ → ℕ → Registered
started start floor = record { reg = with_quantity; active = true; start = start; floor = floor }

-- it was never active
abbrev pub never_started : Registered
never_started = record { reg = with_quantity; active = false; start = 0; floor = 0 }

-- the definitions were loaded
abbrev pub loaded : Stage
loaded = record { def = copied_set; log = []; registered = never_started; captured = 0; floor = 0; mark = 0; signal = 0; trail = [] }

-- the signal was given
abbrev pub signal_given : Stage
signal_given = record loaded { log = signal_of (codes "s"); signal = 2 }

-- the log of one order after the signal
abbrev pub one_order : List LogRecord
one_order = signal_of (codes "s") ++ orders_insert 1 1 (codes "pen") (Int (pos 20)) ∷ user_commit 1 (codes "ann") 100 ∷ []

-- one order was fed
abbrev pub order_fed : Stage
order_fed = record signal_given { log = one_order }

-- the target was refreshed
abbrev pub target_refreshed : Stage
target_refreshed = record order_fed { trail = refresh 4 None ∷ [] }

-- that was reported
abbrev pub refresh_reported : Stage
refresh_reported = record target_refreshed { mark = 4 }

-- the log was captured
abbrev pub order_captured : Stage
order_captured = record refresh_reported { registered = started 2 0; captured = 4 }

-- ---- blocks

-- the log of five units after the signal, each of one order
abbrev pub five_units : List LogRecord
five_units = signal_of (codes "s") ++
    orders_insert 1 1 (codes "pen") (Int (pos 1)) ∷ user_commit 1 (codes "ann") 100
    ∷ orders_insert 1 2 (codes "pen") (Int (pos 2)) ∷ user_commit 1 (codes "ann") 110
    ∷ orders_insert 1 3 (codes "ink") (Int (pos 3)) ∷ user_commit 1 (codes "ann") 120
    ∷ orders_insert 1 4 (codes "pen") (Int (pos 4)) ∷ user_commit 1 (codes "ann") 130
    ∷ orders_insert 1 5 (codes "ink") (Int (pos 5)) ∷ user_commit 1 (codes "ann") 140
    ∷ []

-- a set of which one block takes at most so many units, and units of so many minutes
abbrev pub limited : ℕ → ℕ → SetDef
limited count minutes = record copied_set { commit_count = count; max_minutes = minutes }

-- All five are captured, the target was refreshed at the signal and has taken these blocks, and a block takes at
-- most two units.
abbrev pub blocks_taken : Trail → Stage
blocks_taken trail = record { def = limited 2 0; log = five_units; registered = started 2 0; captured = 12; floor = 0; mark = 2; signal = 2; trail = refresh 2 None ∷ trail }

-- ---- gaps

-- the log of two orders after the signal, the second of which comes more than a day later
abbrev pub later_order : List LogRecord
later_order = signal_of (codes "s") ++
    orders_insert 1 1 (codes "pen") (Int (pos 20)) ∷ user_commit 1 (codes "ann") 100
    ∷ orders_insert 1 2 (codes "ink") (Int (pos 30)) ∷ user_commit 1 (codes "ann") 100000
    ∷ []

-- Both are captured, the target was refreshed at the signal, and change rows and captured units are pruned up to
-- these points.
abbrev pub pruned_to : SetDef → ℕ → ℕ → Stage
pruned_to def rows floor = record { def = def; log = later_order; registered = started 2 rows; captured = 6; floor = floor; mark = 2; signal = 2; trail = refresh 2 None ∷ [] }

-- the registration with a refresh forbidden
abbrev pub without_refresh : Stage → Stage
without_refresh s = record s { registered = record s.registered { reg = record s.registered.reg { disable_refresh = true } } }

-- the log of a stop after the signal
abbrev pub stop_log : List LogRecord
stop_log = signal_of (codes "s") ++ records.Change 0 (Stop (codes "orders")) ∷ records.Commit 0 0 (codes "sqlrep") None ∷ []

-- the stop is captured
abbrev pub stopped : Stage
stopped = record { def = copied_set; log = stop_log; registered = record (started 2 0) { active = false }; captured = 4; floor = 0; mark = 2; signal = 2; trail = refresh 2 None ∷ [] }

-- a signal was given after it
abbrev pub signal_after_stop : Stage
signal_after_stop = record stopped { log = stop_log ++ signal_of (codes "s"); signal = 6 }
