-- Lists in which each element stands in a relation to each later one.
use Rattle.std.proofs.Common.{◌≡◌, ℕ, ◌<◌, Bool, true, false, cond, ◌&&◌, List, [], ◌∷◌, ◌++◌, map, refl, ap, Less}
use Rattle.std.specs.List.{AllByRecursion, filter, flat_map}
use Rattle.world_store.specs.Words.{IsRising}
use Rattle.repl_model.specs.Words.{bytes_cmp, all_weaker, all_append, each_image, all_flat_map}

-- each element stands in a relation to each later one
abbrev pub InOrder : {X : Type 0} → (X → X → Type 0) → List X → Type 0
InOrder R [] = Unit {0}
InOrder R (x ∷ xs) = AllByRecursion (R x) xs × InOrder R xs

-- the number of the one element is below that of the other
abbrev pub Below : {X : Type 0} → (X → ℕ) → X → X → Type 0
Below at x y = at x < at y

-- what holds of all things holds of each element
pub all_always : {X : Type 0} (P : X → Type 0) → ((x : X) → P x) → (xs : List X) → AllByRecursion P xs
all_always P f [] = tt
all_always P f (x ∷ xs) = (f x, all_always P f xs)

-- what follows from two things holds of each element of which both hold
pub all_both : {X : Type 0} (P Q R : X → Type 0) (xs : List X) → ((x : X) → P x → Q x → R x) → AllByRecursion P xs → AllByRecursion Q xs → AllByRecursion R xs
all_both P Q R [] f ps qs = tt
all_both P Q R (x ∷ xs) f ps qs = (f x ps.0 qs.0, all_both P Q R xs f ps.1 qs.1)

-- a filter by two tests is one of what a filter by the other keeps
pub filter_and : {X : Type 0} (q p : X → Bool) (xs : List X) → filter (λ x. q x && p x) xs ≡ filter p (filter q xs)
filter_and q p [] = refl
filter_and {X} q p (x ∷ xs) = pick (q x) (filter_and q p xs)
  where
    pick : (s : Bool) → filter (λ y. q y && p y) xs ≡ filter p (filter q xs) → cond (s && p x) (x ∷ filter (λ y. q y && p y) xs) (filter (λ y. q y && p y) xs) ≡ filter p (cond s (x ∷ filter q xs) (filter q xs))
    pick true rest = ap (λ (l : List X). cond (p x) (x ∷ l) l) rest
    pick false rest = rest

-- two lists in order are in order, one after the other, if each element of the one comes before those of the other
pub append_in_order : {X : Type 0} (R : X → X → Type 0) (xs ys : List X) → InOrder R xs → InOrder R ys → AllByRecursion (λ x. AllByRecursion (R x) ys) xs → InOrder R (xs ++ ys)
append_in_order R [] ys order more across = more
append_in_order R (x ∷ xs) ys order more across = (all_append (R x) xs ys order.0 across.0, append_in_order R xs ys order.1 more across.1)

-- the lists that a function gives of elements in order are in order, one after another, if each is and what is
-- given of an element comes before what is given of a later one
pub lists_in_order : {X Y : Type 0} (R : X → X → Type 0) (S : Y → Y → Type 0) (Of : X → Y → Type 0) (f : X → List Y) → ((x z : X) (y v : Y) → R x z → Of x y → Of z v → S y v) → ((x : X) → AllByRecursion (Of x) (f x)) → (xs : List X) → AllByRecursion (λ x. InOrder S (f x)) xs → InOrder R xs → InOrder S (flat_map f xs)
lists_in_order R S Of f step own [] all order = tt
lists_in_order {X} {Y} R S Of f step own (x ∷ xs) all order = append_in_order S (f x) (flat_map f xs) all.0 (lists_in_order R S Of f step own xs all.1 order.1) (all_weaker (Of x) (λ y. AllByRecursion (S y) (flat_map f xs)) (f x) later (own x))
  where
    later : (y : Y) → Of x y → AllByRecursion (S y) (flat_map f xs)
    later y is = all_flat_map (S y) f xs (all_weaker (R x) (λ z. AllByRecursion (S y) (f z)) xs (λ z r. all_weaker (Of z) (S y) (f z) (λ v of. step x z y v r is of) (own z)) order.0)

-- rows of elements in order rise, if the key of an element's row is before those of later ones
pub rows_rise : {X A Y : Type 0} (R : X → X → Type 0) (fits : X → Type 0) (key : A → List ℕ) (row : X → A × Y) → ((x z : X) → fits x → fits z → R x z → bytes_cmp (key (row x).0) (key (row z).0) ≡ Less) → (xs : List X) → AllByRecursion fits xs → InOrder R xs → IsRising key (map row xs)
rows_rise R fits key row before [] all order = tt
rows_rise R fits key row before (x ∷ xs) all order = (
  each_image (λ r. bytes_cmp (key (row x).0) (key r.0) ≡ Less) row xs (all_both fits (R x) (λ z. bytes_cmp (key (row x).0) (key (row z).0) ≡ Less) xs (λ z fit r. before x z all.0 fit r) all.1 order.0),
  rows_rise R fits key row before xs all.1 order.1,
)
