-- Lists whose elements' numbers rise.
use Rattle.std.proofs.Common.{◌≡◌, ℕ, ◌+◌, ◌<◌, Bool, true, false, cond, List, [], ◌∷◌, ◌++◌, Option, Some, None, arith, IfSome}
use Rattle.std.specs.List.{AllByRecursion, filter, filter_map, cons_option, enumerate_from}
use Rattle.repl_model.specs.Words.{all_weaker, all_filter, each_given}

-- each element's number is below those of the later ones
abbrev pub Rises : {X : Type 0} → (X → ℕ) → List X → Type 0
Rises at [] = Unit {0}
Rises at (x ∷ xs) = AllByRecursion (λ y. at x < at y) xs × Rises at xs

-- ---- which lists rise

-- elements that are numbered in turn from a number on are above the numbers before it
numbered_above : {X : Type 0} (n b : ℕ) (xs : List X) → n < b → AllByRecursion (λ q. n < q.0) (enumerate_from b xs)
numbered_above n b [] lt = tt
numbered_above n b (x ∷ xs) lt = (lt, numbered_above n (b + 1) xs (omega arith))

-- and rise by their numbers
pub numbered_rise : {X : Type 0} (b : ℕ) (xs : List X) → Rises (λ q. q.0) (enumerate_from b xs)
numbered_rise b [] = tt
numbered_rise b (x ∷ xs) = (numbered_above b (b + 1) xs (omega arith), numbered_rise (b + 1) xs)

-- what a filter keeps of a list that rises rises
pub filter_rises : {X : Type 0} (at : X → ℕ) (p : X → Bool) (xs : List X) → Rises at xs → Rises at (filter p xs)
filter_rises at p [] rise = tt
filter_rises {X} at p (x ∷ xs) rise = pick (p x) (filter_rises at p xs rise.1)
  where
    pick : (t : Bool) → Rises at (filter p xs) → Rises at (cond t (x ∷ filter p xs) (filter p xs))
    pick true rest = (all_filter (λ y. at x < at y) p xs rise.0, rest)
    pick false rest = rest

-- so does what a function makes of it, if the number stays
pub given_rises : {X Y : Type 0} (f : X → Option Y) (at : X → ℕ) (of : Y → ℕ) → ((x : X) → IfSome (f x) (λ y. of y ≡ at x)) → (xs : List X) → Rises at xs → Rises of (filter_map f xs)
given_rises f at of same [] rise = tt
given_rises {X} {Y} f at of same (x ∷ xs) rise = pick (f x) (same x) (given_rises f at of same xs rise.1)
  where
    later : (y : Y) → of y ≡ at x → (z : X) (o : Option Y) → IfSome o (λ w. of w ≡ at z) → at x < at z → IfSome o (λ w. of y < of w)
    later y is z None e lt = tt
    later y is z (Some w) e lt = omega (arith, is, e, lt)

    pick : (o : Option Y) → IfSome o (λ y. of y ≡ at x) → Rises of (filter_map f xs) → Rises of (cons_option o (filter_map f xs))
    pick None is rest = rest
    pick (Some y) is rest = (each_given (λ w. of y < of w) f xs (all_weaker (λ z. at x < at z) (λ z. IfSome (f z) (λ w. of y < of w)) xs (λ z lt. later y is z (f z) (same z) lt) rise.0), rest)

-- ---- before one element

-- the elements before one are below it
pub below_later : {X : Type 0} (at : X → ℕ) (front : List X) (x : X) (back : List X) → Rises at (front ++ x ∷ back) → AllByRecursion (λ y. at y < at x) front
below_later at [] x back rise = tt
below_later {X} at (y ∷ ys) x back rise = (first ys rise.0, below_later at ys x back rise.1)
  where
    first : (zs : List X) → AllByRecursion (λ z. at y < at z) (zs ++ x ∷ back) → at y < at x
    first [] all = all.0
    first (z ∷ zs) all = first zs all.1
