-- Which actions of a read-only set may be made, and that a world stays sound with each of these.
use Rattle.std.specs.Prelude.{◌≡◌, ℕ, ◌+◌, ◌<◌, ◌≤◌, false, IsTrue, length, Option, None, ⊤}
use Rattle.repl_model.specs.Trails.{synchpoint, base_of}
use Rattle.repl_model.specs.World.{World, KnownSet, known_sets}
use Rattle.repl_model.specs.SoundLogs.{log_limit}
use Rattle.repl_model.specs.SoundDefinitions.{read_only_sets}
use Rattle.repl_model.specs.Sound.{is_seq, IsSound}
use Rattle.repl_model.specs.NextActions.{gap_of, is_new, Action, signals, refreshes, blocks, reports, idles, refuses, next_action_within}
use Rattle.repl_model.specs.AfterActions.{signal_records, after_action}
use Rattle.lists.specs.laws.Members.{In}

-- how long the log of a set's source is with the set's signal
abbrev pub length_signalled : KnownSet → ℕ
length_signalled k = length k.source.log + length (signal_records k.at_source.def k.source.log)

-- the log has room for the signal
abbrev pub HasRoom : KnownSet → Type 0
HasRoom k = length_signalled k ≤ log_limit

-- a refresh may be made: the set's last signal is later than its last refresh
abbrev pub MayRefresh : KnownSet → Type 0
MayRefresh k = base_of k.at_target.trail < k.at_source.signal

-- A block may be made up to a point: the set was refreshed and has no gap, and the point is the seq of a captured unit
-- above the point that its targets have reached.
pub record MayBlock (k : KnownSet) (upto : ℕ) : Type 0 where
  pub refreshed : is_new k.at_target.trail ≡ false
  pub gap : gap_of k ≡ None
  pub above : synchpoint k.at_target.trail < upto
  pub captured : upto ≤ k.source.captured
  pub seq : IsTrue (is_seq k.source.log upto)

-- An action may be made. A report always may.
abbrev pub MayMake : KnownSet → Action → Type 0
MayMake k signals = HasRoom k
MayMake k refreshes = MayRefresh k
MayMake k (blocks upto) = MayBlock k upto
MayMake k reports = ⊤
MayMake k idles = ⊤
MayMake k (refuses place) = ⊤

-- a world stays sound with an action that a read-only set that is known there may make
abbrev pub ActionsSound : Type 0
ActionsSound = (world : World) (k : KnownSet) (action : Action) → IsSound world → In k (read_only_sets (known_sets world)) → MayMake k action → IsSound (after_action world k action)

-- What a read-only set does next, with any end, may be made, if the log of its source has room for a signal, should that be
-- the action.
abbrev pub NextMayBeMade : Type 0
NextMayBeMade = (end : Option ℕ) (k : KnownSet) → (next_action_within end k ≡ signals → HasRoom k) → MayMake k (next_action_within end k)
