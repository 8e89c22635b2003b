-- Lists of places and of numbered things: proofs, and nothing to believe.
use Rattle.std.proofs.Common.{◌≡◌, ℕ, zero, suc, ◌+◌, ◌<◌, ◌≤◌, Bool, true, false, List, [], ◌∷◌, length, refl, sym, arith, ◌||◌, not, ◌==◌, nat_lt, Option, Some, None, ap, inl, inr, ◌≢◌, ◌⊎◌, slice_get}
use Rattle.std.specs.List.{AllByRecursion, cons_option, IsDistinct, enumerate_from, filter_map, list_all, list_any, range_with_len}
use Rattle.std.proofs.lemmas.Bool.{and_parts, eqb-true, ltb-true, false≢true}
use Rattle.std.proofs.lemmas.Map.Steps.{length-le_from_distinct_below}
use Rattle.lists.specs.laws.Members.{at_each, passes_at}
use Rattle.lists.specs.Lists.{all_differ, is_among, are_among, places_rise}

-- two tests of which each passes if the other does
pub alike : (a b : Bool) → (a ≡ true → b ≡ true) → (b ≡ true → a ≡ true) → a ≡ b
alike true b there back = sym (there refl)
alike false true there back = back refl
alike false false there back = refl

-- each element of a list whose elements all pass a test passes it
pub all_pass : {X : Type 0} (p : X → Bool) (xs : List X) → list_all p xs ≡ true → AllByRecursion (λ x. p x ≡ true) xs
all_pass p [] e = tt
all_pass p (x ∷ xs) e = let h = and_parts (p x) (list_all p xs) e in (h.0, all_pass p xs h.1)

-- a function that may give nothing gives no more than there are
pub filter_map_few : {X Y : Type 0} (f : X → Option Y) (xs : List X) → length (filter_map f xs) ≤ length xs
filter_map_few f [] = omega arith
filter_map_few {X} {Y} f (x ∷ xs) = pick (f x) (filter_map_few f xs)
  where
    pick : (o : Option Y) → length (filter_map f xs) ≤ length xs → length (cons_option o (filter_map f xs)) ≤ length (x ∷ xs)
    pick None le = omega arith
    pick (Some y) le = omega arith

-- what is numbered
pub all_numbered : {X : Type 0} (P : X → Type 0) (Q : ℕ × X → Type 0) (limit n : ℕ) (xs : List X) → n + length xs ≤ limit → AllByRecursion P xs → ((m : ℕ) (x : X) → m < limit → P x → Q (m, x)) → AllByRecursion Q (enumerate_from n xs)
all_numbered P Q limit n [] few all step = tt
all_numbered P Q limit n (x ∷ xs) few all step = (step n x (omega arith) all.0, all_numbered P Q limit (n + 1) xs (omega arith) all.1 step)

-- ---- places

-- a place among some numbers in a row is below their end
below_range : (a n p : ℕ) → list_any (λ q. q == p) (range_with_len a n) ≡ true → p < a + n
below_range a zero p e = absurd cc
below_range a (suc n) p e = pick (a == p) refl (below_range (a + 1) n p) e
  where
    pick : (t : Bool) → (a == p) ≡ t → (list_any (λ q. q == p) (range_with_len (a + 1) n) ≡ true → p < a + 1 + n) → (t || list_any (λ q. q == p) (range_with_len (a + 1) n)) ≡ true → p < a + suc n
    pick true same later e = let h = eqb-true a p same in omega arith
    pick false other later e = let h = later e in omega arith

-- places among the first ones are below their number
pub among_first : (n : ℕ) (ps : List ℕ) → are_among (range_with_len 0 n) ps ≡ true → AllByRecursion (λ p. p < n) ps
among_first n ps e = at_each (λ p. p < n) ps (λ p i. let lt = below_range 0 n p (passes_at (is_among (range_with_len 0 n)) ps p e i) in omega arith)

-- what holds of all holds of each that a test finds
found_below : (n q : ℕ) (ps : List ℕ) → AllByRecursion (λ p. p < n) ps → list_any (◌==◌ q) ps ≡ true → q < n
found_below n q [] all e = absurd cc
found_below n q (p ∷ ps) all e = pick (q == p) refl (found_below n q ps all.1) e
  where
    pick : (t : Bool) → (q == p) ≡ t → (list_any (◌==◌ q) ps ≡ true → q < n) → (t || list_any (◌==◌ q) ps) ≡ true → q < n
    pick true same later e = let h = eqb-true q p same in let lt = all.0 in omega arith
    pick false other later e = later e

-- places among places that are below a number are too
pub among_below : (n : ℕ) (some ps : List ℕ) → AllByRecursion (λ p. p < n) some → are_among some ps ≡ true → AllByRecursion (λ p. p < n) ps
among_below n some ps all e = at_each (λ p. p < n) ps (λ p i. each some p all (passes_at (is_among some) ps p e i))
  where
    each : (some : List ℕ) (p : ℕ) → AllByRecursion (λ q. q < n) some → list_any (λ q. q == p) some ≡ true → p < n
    each [] p all e = absurd cc
    each (q ∷ qs) p all e = pick (q == p) refl (each qs p all.1) e
      where
        pick : (t : Bool) → (q == p) ≡ t → (list_any (λ r. r == p) qs ≡ true → p < n) → (t || list_any (λ r. r == p) qs) ≡ true → p < n
        pick true same later e = let h = eqb-true q p same in let lt = all.0 in omega arith
        pick false other later e = later e

-- numbers of which no two are alike
distinct : (ps : List ℕ) → all_differ ◌==◌ ps ≡ true → IsDistinct ◌==◌ ps
unfolding IsDistinct
distinct [] e = tt
distinct (p ∷ ps) e = let h = and_parts (not (list_any (◌==◌ p) ps)) (all_differ ◌==◌ ps) e in (none ps h.0, distinct ps h.1)
  where
    none : (qs : List ℕ) → not (list_any (◌==◌ p) qs) ≡ true → AllByRecursion (λ q. (p == q) ≡ false) qs
    none [] e = tt
    none (q ∷ qs) e = pick (p == q) refl (none qs) e
      where
        pick : (t : Bool) → (p == q) ≡ t → (not (list_any (◌==◌ p) qs) ≡ true → AllByRecursion (λ r. (p == r) ≡ false) qs) → not (t || list_any (◌==◌ p) qs) ≡ true → AllByRecursion (λ r. (p == r) ≡ false) (q ∷ qs)
        pick true same later e = absurd cc
        pick false other later e = (other, later e)

-- numbers below a limit of which no two are alike are no more than it
pub distinct_few : (n : ℕ) (ps : List ℕ) → all_differ ◌==◌ ps ≡ true → AllByRecursion (λ p. p < n) ps → length ps ≤ n
distinct_few n ps e all = length-le_from_distinct_below ps n (distinct ps e) (λ q has. found_below n q ps all has)

-- numbers that rise from one on to a limit are no more than lie between
rising_from : (m n : ℕ) (ps : List ℕ) → places_rise ps ≡ true → AllByRecursion (λ p. m ≤ p) ps → AllByRecursion (λ p. p < n) ps → m ≤ n → m + length ps ≤ n
rising_from m n [] e low high le = omega arith
rising_from m n (p ∷ ps) e low high le =
    let h = and_parts (list_all (nat_lt p) ps) (places_rise ps) e in
    let above = low.0 in
    let below = high.0 in
    let rest = rising_from (p + 1) n ps h.1 (at_each (λ q. p + 1 ≤ q) ps (λ q i. let more = ltb-true p q (passes_at (nat_lt p) ps q h.0 i) in omega arith)) high.1 (omega arith) in
    omega arith

-- numbers that rise below a limit are no more than it
pub rising_few : (n : ℕ) (ps : List ℕ) → places_rise ps ≡ true → AllByRecursion (λ p. p < n) ps → length ps ≤ n
rising_few n ps e all = let few = rising_from 0 n ps e (at_each (λ p. 0 ≤ p) ps (λ p i. omega arith)) all (omega arith) in omega arith

-- of two places one is the first
pub one_first : (m n : ℕ) → m ≢ n → (m < n) ⊎ (n < m)
one_first zero zero ne = absurd (ne refl)
one_first zero (suc n) ne = inl (omega arith)
one_first (suc m) zero ne = inr (omega arith)
one_first (suc m) (suc n) ne = elim (one_first m n (λ e. ne (ap suc e))) [
  | inl lt ↦ inl (omega (arith, lt))
  | inr lt ↦ inr (omega (arith, lt))
]

-- what stands at each place below the length
pub at_within : {X : Type 0} (xs : List X) (n : ℕ) → n < length xs → (x : X) × (slice_get xs n ≡ Some x)
at_within [] n lt = absurd (omega arith)
at_within (x ∷ xs) zero lt = (x, refl)
at_within (x ∷ xs) (suc n) lt = at_within xs n (omega arith)

-- what isn't nothing is above it
pub above_zero : (n : ℕ) → not (n == 0) ≡ true → 0 < n
above_zero zero e = absurd (false≢true e)
above_zero (suc n) e = omega arith
