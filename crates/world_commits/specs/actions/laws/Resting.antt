-- How many actions a read-only set still makes at most.
use Rattle.std.proofs.Common.{ℕ, ◌+◌, ◌<◌, ◌≤◌, Bool, true, false, cond, ◌||◌, Option, Some, None, arith, nat_lt, nat_le}
use Rattle.repl_model.specs.Words.{synchpoint, base_of, KnownSet, Gap, gap_of, is_new}
use Rattle.world_commits.specs.actions.Resting.{refresh_steps, report_steps, steps_by_gap, steps_left}

-- a count of actions of a set is within the bounds
abbrev IsFew : KnownSet → ℕ → Type 0
IsFew k n = (0 < n) × (n ≤ k.source.captured + 4)

-- so is that of a refresh
few_by_refresh : (k : KnownSet) → IsFew k (refresh_steps k)
few_by_refresh k = by_test (nat_le k.at_source.signal (base_of k.at_target.trail))
  where
    by_test : (b : Bool) → IsFew k (cond b 4 3)
    by_test true = (omega arith, omega arith)
    by_test false = (omega arith, omega arith)

-- so is that of a report
few_by_report : (k : KnownSet) → IsFew k (report_steps k)
few_by_report k = by_test (nat_lt k.at_source.mark (synchpoint k.at_target.trail))
  where
    by_test : (b : Bool) → IsFew k (cond b 2 1)
    by_test true = (omega arith, omega arith)
    by_test false = (omega arith, omega arith)

-- so is that of blocks, or of what mends a gap
few_by_gap : (k : KnownSet) (gap : Option Gap) → IsFew k (steps_by_gap k gap)
few_by_gap k None = (omega arith, omega arith)
few_by_gap k (Some gap) = by_test gap.disabled
  where
    by_test : (b : Bool) → IsFew k (cond b 1 (refresh_steps k))
    by_test true = (omega arith, omega arith)
    by_test false = few_by_refresh k

-- a set has an action left, if only nothing, and at most four more than its source has captured positions
pub few_steps : (k : KnownSet) → (0 < steps_left k) × (steps_left k ≤ k.source.captured + 4)
few_steps k = by_tests (is_new k.at_target.trail || k.at_target.flag) (nat_le k.source.captured (synchpoint k.at_target.trail))
  where
    by_tests : (a b : Bool) → IsFew k (cond a (refresh_steps k) (cond b (report_steps k) (steps_by_gap k (gap_of k))))
    by_tests true b = few_by_refresh k
    by_tests false true = few_by_report k
    by_tests false false = few_by_gap k (gap_of k)
