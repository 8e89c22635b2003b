-- What servers hold after the action of a read-only set.
use Rattle.std.specs.Prelude.{◌≡◌, ℕ, ◌/◌, ◌==◌, zero, suc, Bool, true, false, Some, slice_get}
use Rattle.std.specs.Str.{bytes_eq}
use Rattle.repl_types.specs.declared.area.Area.{Area}
use Rattle.repl_types.specs.declared.area.Area.TheVariants as areas
use Rattle.row_codec.specs.Spelling.{b32}
use Rattle.repl_records.specs.Prune.{mark_spelling}
use Rattle.repl_records.specs.declared.prune.SyncMark.{SyncMark}
use Rattle.keep_core.specs.Contents.{Contents, put_at}
use Rattle.repl_model.specs.Trails.{Entry, synchpoint}
use Rattle.repl_model.specs.World.{Server, World, KnownSet, known_sets}
use Rattle.repl_model.specs.SoundDefinitions.{read_only_sets}
use Rattle.repl_model.specs.Sound.{IsSound}
use Rattle.repl_model.specs.Longer.{with_more, grown}
use Rattle.repl_model.specs.NextActions.{signals, reports}
use Rattle.repl_model.specs.AfterActions.{with_server, with_entry, refreshed, reported, signal_records, signalled, after_action}
use Rattle.world_store.specs.Stands.{Holds}
use Rattle.world_store.specs.Becoming.{Becomes}
use Rattle.lists.specs.laws.Members.{In}
use Rattle.world_commits.specs.actions.StaysSound.{length_signalled}
use Rattle.stored_commits.specs.logs.LongerServers.{is_of_log}

-- ---- reports

-- the set has this number among those whose source its source is
abbrev pub HasSourceNumber : KnownSet → ℕ → Type 0
HasSourceNumber k number = slice_get k.source.source_sets number ≡ Some k.at_source

-- the contents with this as what is stored of the mark and the signal of the set with a number
abbrev pub with_mark : ℕ → SyncMark → Contents → Contents
with_mark number mark c = put_at c areas.Prune 0 (b32 number) (Some (mark_spelling mark))

-- the source of a set, with the mark at the set's synchpoint, holds what the world after a report calls for
abbrev pub ReportHolds : Type 0
ReportHolds = (world : World) (k : KnownSet) (number : ℕ) (held : Contents) → IsSound world → In k (read_only_sets (known_sets world)) → HasSourceNumber k number
    → Holds world k.source held → Holds (after_action world k reports) (reported k.at_source.def (synchpoint k.at_target.trail) k.source) (with_mark number (record { mark = synchpoint k.at_target.trail; signal = k.at_source.signal }) held)

-- and so do the other servers, as they are
abbrev pub OthersHoldAfterReport : Type 0
OthersHoldAfterReport = (world : World) (k : KnownSet) (other : Server) (held : Contents) → Holds world other held → Holds (after_action world k reports) other held

-- ---- signals

-- the source of a set, with the signal in its log and its last position as the set's last signal, holds what the world
-- after the signal calls for
abbrev pub SignalHolds : Type 0
SignalHolds = (world : World) (k : KnownSet) (number : ℕ) (before now : Contents) → IsSound world → In k (read_only_sets (known_sets world)) → HasSourceNumber k number
    → Holds world k.source before → Becomes is_of_log (grown k.source.name (signal_records k.at_source.def k.source.log) world) (with_more (signal_records k.at_source.def k.source.log) k.source) before now
    → Holds (after_action world k signals) (signalled k.at_source.def k.source) (with_mark number (record { mark = k.at_source.mark; signal = length_signalled k }) now)

-- and so do the other servers, as they are
abbrev pub OthersHoldAfterSignal : Type 0
OthersHoldAfterSignal = (world : World) (k : KnownSet) (other : Server) (held : Contents) → IsSound world → In k (read_only_sets (known_sets world)) → In other world → bytes_eq k.source.name other.name ≡ false
    → Holds world other held → Holds (after_action world k signals) other held

-- ---- entries of trails

-- the set has this number among those whose target its target is
abbrev pub HasTargetNumber : KnownSet → ℕ → Type 0
HasTargetNumber k number = slice_get k.target.target_sets number ≡ Some k.at_target

-- The tables that a refresh or a block of the set with a number changes: the targets of its members, the states of
-- sets, the last numbers, and its trail.
abbrev pub is_of_step : ℕ → Area → ℕ → Bool
is_of_step number areas.Log n = false
is_of_step number areas.Source n = false
is_of_step number areas.Inflight n = false
is_of_step number areas.Head n = false
is_of_step number areas.Defs n = false
is_of_step number areas.Cd n = false
is_of_step number areas.Uow n = false
is_of_step number areas.Capture n = false
is_of_step number areas.Prune n = false
is_of_step number areas.Spill n = false
is_of_step number areas.Target n = n / 64 == number
is_of_step number areas.SetState zero = true
is_of_step number areas.SetState (suc zero) = true
is_of_step number areas.SetState (suc (suc n)) = false
is_of_step number areas.Trail n = n == number

-- the world with one more entry of the set's trail
abbrev pub with_step : World → KnownSet → Entry → World
with_step world k entry = with_server k.target.name (with_entry k.at_target.def entry) world

-- the world after a refresh, which clears what was asked for
abbrev pub with_refresh : World → KnownSet → Entry → World
with_refresh world k entry = with_server k.target.name (refreshed k.at_target.def entry) world

-- the target of a set, with these tables, holds what the world after a block calls for
abbrev pub BlockHolds : Type 0
BlockHolds = (world : World) (k : KnownSet) (number : ℕ) (entry : Entry) (before now : Contents) → IsSound world → In k (read_only_sets (known_sets world)) → HasTargetNumber k number
    → Holds world k.target before → Becomes (is_of_step number) (with_step world k entry) (with_entry k.at_target.def entry k.target) before now
    → Holds (with_step world k entry) (with_entry k.at_target.def entry k.target) now

-- and with those after a refresh, what the world after a refresh calls for
abbrev pub RefreshHolds : Type 0
RefreshHolds = (world : World) (k : KnownSet) (number : ℕ) (entry : Entry) (before now : Contents) → IsSound world → In k (read_only_sets (known_sets world)) → HasTargetNumber k number
    → Holds world k.target before → Becomes (is_of_step number) (with_refresh world k entry) (refreshed k.at_target.def entry k.target) before now
    → Holds (with_refresh world k entry) (refreshed k.at_target.def entry k.target) now

-- and so do the other servers, as they are
abbrev pub OthersHoldAfterStep : Type 0
OthersHoldAfterStep = (world : World) (k : KnownSet) (entry : Entry) (other : Server) (held : Contents) → Holds world other held → Holds (with_step world k entry) other held × Holds (with_refresh world k entry) other held
