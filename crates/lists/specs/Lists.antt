-- Lists without two alike, and lists of places.
use Rattle.std.specs.Prelude.{ℕ, Bool, true, ◌&&◌, not, ◌==◌, nat_lt, List, [], ◌∷◌}
use Rattle.std.specs.List.{list_all, list_any}

-- no two are alike
abbrev pub all_differ : {X : Type 0} → (X → X → Bool) → List X → Bool
all_differ same [] = true
all_differ same (x ∷ xs) = not (list_any (same x) xs) && all_differ same xs

-- the place is one of these
abbrev pub is_among : List ℕ → ℕ → Bool
is_among places place = list_any (λ p. p == place) places

-- the places are all among these
abbrev pub are_among : List ℕ → List ℕ → Bool
are_among places some = list_all (is_among places) some

-- the places rise
abbrev pub places_rise : List ℕ → Bool
places_rise [] = true
places_rise (p ∷ ps) = list_all (nat_lt p) ps && places_rise ps
