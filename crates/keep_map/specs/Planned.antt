-- The plan of the calls that are to fail.
use Rattle.std.specs.Prelude.{ℕ, ◌+◌, ◌==◌, min, Bool, if◌then◌else◌, List, []}
use Rattle.std.specs.List.{list_any}
use Rattle.keep_core.specs.Revealed.{count_max}

-- the numbers of the calls that are to fail, how many calls were made since this was planned, and how many ever failed
pub record Planned : Type 0 where
  pub failing : List ℕ
  pub made : ℕ
  pub faults : ℕ

-- the plan by which no call fails, with none made
abbrev pub nothing_planned : Planned
nothing_planned = record { failing = []; made = 0; faults = 0 }

-- the plan by which the calls of these numbers fail, counted from the next one on
abbrev pub planned_anew : Planned → List ℕ → Planned
planned_anew p calls = record { failing = calls; made = 0; faults = p.faults }

-- a count raised by one; it saturates at its maximum
abbrev pub one_more : ℕ → ℕ
one_more n = min (n + 1) count_max

-- the next call is to fail
abbrev pub fails_next : Planned → Bool
fails_next p = list_any (λ call. call == one_more p.made) p.failing

-- the plan after the next call
abbrev pub after_call : Planned → Planned
after_call p = record {
  failing = p.failing;
  made = one_more p.made;
  faults = if fails_next p then one_more p.faults else p.faults;
}
