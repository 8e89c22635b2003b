-- What sources and sinks reveal of the bytes that they give and take, and how a count of faults rises.
use Rattle.std.specs.Prelude.{◌≡◌, ℕ, ◌<◌, ◌-◌, ◌^◌, ◌++◌, List, Option}
use Rattle.std.specs.Option.{option_map}

-- the maximum of a count: a count that has reached it stays there
abbrev pub count_max : ℕ
count_max = 2 ^ 64 - 1

-- a count rose, or has reached its maximum
abbrev pub Rises : ℕ → ℕ → Type 0
Rises before now = now < count_max → before < now

-- a source gave these bytes: they and then the bytes that are left now were the bytes left before, if it reveals them
abbrev pub Gives : Option (List ℕ) → Option (List ℕ) → List ℕ → Type 0
Gives before now bytes = before ≡ option_map (λ left. bytes ++ left) now

-- a sink took these bytes: it now has those that it had taken before and then these, if it reveals them
abbrev pub Takes : Option (List ℕ) → Option (List ℕ) → List ℕ → Type 0
Takes before now bytes = now ≡ option_map (λ taken. taken ++ bytes) before

-- a sink took a prefix of these bytes
pub record TakesPrefix (before now : Option (List ℕ)) (bytes : List ℕ) : Type 0 where
  pub prefix : List ℕ
  pub rest : List ℕ
  pub parts : bytes ≡ prefix ++ rest
  pub taken : Takes before now prefix
