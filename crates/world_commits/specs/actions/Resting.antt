-- How many actions a read-only set still makes, and that each leaves fewer.
use Rattle.std.specs.Prelude.{◌≡◌, ℕ, ◌+◌, ◌-◌, ◌<◌, Bool, true, false, IsTrue, not, ◌||◌, nat_lt, nat_le, if◌then◌else◌, Option, Some, None}
use Rattle.repl_types.specs.declared.record.SetId.{SetId}
use Rattle.repl_model.specs.Trails.{synchpoint, base_of}
use Rattle.repl_model.specs.World.{World, KnownSet, known_set}
use Rattle.repl_model.specs.Rules.{is_replica_set}
use Rattle.repl_model.specs.Sound.{IsSound}
use Rattle.repl_model.specs.NextActions.{Gap, gap_of, Action, signals, refreshes, blocks, reports, idles, refuses, is_new, next_action}
use Rattle.repl_model.specs.AfterActions.{after_action}

-- the action is a commit, at the source or at the target
abbrev pub commits_world : Action → Bool
commits_world signals = true
commits_world refreshes = true
commits_world (blocks upto) = true
commits_world reports = true
commits_world idles = false
commits_world (refuses place) = false

-- ---- how many actions are left

-- if a refresh is called for: a signal, unless there was one after the last refresh; the refresh; a report; and
-- nothing
abbrev pub refresh_steps : KnownSet → ℕ
refresh_steps k = if nat_le k.at_source.signal (base_of k.at_target.trail) then 4 else 3

-- if the targets have taken all captured units: a report, unless there was one; and nothing
abbrev pub report_steps : KnownSet → ℕ
report_steps k = if nat_lt k.at_source.mark (synchpoint k.at_target.trail) then 2 else 1

-- if they haven't: blocks, each of which takes at least one position, a report, and nothing; or, if the set has a
-- gap, a refresh and what follows; or nothing, if a refresh is forbidden
abbrev pub steps_by_gap : KnownSet → Option Gap → ℕ
steps_by_gap k None = k.source.captured - synchpoint k.at_target.trail + 2
steps_by_gap k (Some gap) = if gap.disabled then 1 else refresh_steps k

-- How many actions a read-only set makes at most, one after another. The last of them is nothing.
abbrev pub steps_left : KnownSet → ℕ
steps_left k =
    if is_new k.at_target.trail || k.at_target.flag then refresh_steps k
    else if nat_le k.source.captured (synchpoint k.at_target.trail) then report_steps k
    else steps_by_gap k (gap_of k)

-- ---- rest

-- If the next action of a read-only set that is known in a sound world is a commit, the set is known in the world
-- after it too, with fewer actions left, and with the same definition.
abbrev pub NextActionsRest : Type 0
NextActionsRest = (world : World) (k : KnownSet) (id : SetId) → IsSound world → known_set world id ≡ Some k → IsTrue (not (is_replica_set k.at_target.def))
    → IsTrue (commits_world (next_action k))
    → (l : KnownSet) × (known_set (after_action world k (next_action k)) id ≡ Some l) × (steps_left l < steps_left k) × (l.at_target.def ≡ k.at_target.def)
