-- What holds of each element of a list, and what stands at a place of two lists, one after the other.
use Rattle.std.proofs.Common.{◌≡◌, ℕ, zero, suc, ◌+◌, List, [], ◌∷◌, ◌++◌, map, get_or, refl, ap, ◌∙◌, slice_get}
use Rattle.std.specs.List.{AllByRecursion, enumerate_from, flat_map}
use Rattle.std.specs.Option.{option_map_or}
use Rattle.repl_model.specs.Words.{all_parts}

-- ---- each element

-- what follows from two facts that hold of each element holds of each
pub all_with : {X : Type 0} (P Q R : X → Type 0) (xs : List X) → ((x : X) → P x → Q x → R x) → AllByRecursion P xs → AllByRecursion Q xs → AllByRecursion R xs
all_with P Q R [] f ps qs = tt
all_with P Q R (x ∷ xs) f ps qs = (f x ps.0 qs.0, all_with P Q R xs f ps.1 qs.1)

-- what holds of each element, and of what is read if there is none, holds of what is read
pub all_read : {X : Type 0} (P : X → Type 0) (xs : List X) (n : ℕ) (d : X) → AllByRecursion P xs → P d → P (get_or xs n d)
all_read P [] n d all none = none
all_read P (x ∷ xs) zero d all none = all.0
all_read P (x ∷ xs) (suc n) d all none = all_read P xs n d all.1 none

-- what holds of all lists that a function gives, one after another, holds of each of them
pub each_list : {X Y : Type 0} (P : Y → Type 0) (f : X → List Y) (xs : List X) → AllByRecursion P (flat_map f xs) → AllByRecursion (λ x. AllByRecursion P (f x)) xs
each_list P f [] all = tt
each_list P f (x ∷ xs) all = let parts = all_parts P (f x) (flat_map f xs) all in (parts.0, each_list P f xs parts.1)

-- ---- places and numbers

-- further elements of which there are none leave the lists of numbered elements
pub numbered_lists_stay : {X Y : Type 0} (f : ℕ × X → List Y) (b : ℕ) (xs ys : List X) → AllByRecursion (λ y. (n : ℕ) → f (n, y) ≡ []) ys → flat_map f (enumerate_from b (xs ++ ys)) ≡ flat_map f (enumerate_from b xs)
numbered_lists_stay f b [] [] all = refl
numbered_lists_stay {X} {Y} f b [] (y ∷ ys) all = ap (λ (l : List Y). l ++ flat_map f (enumerate_from (b + 1) ys)) (all.0 b) ∙ numbered_lists_stay f (b + 1) [] ys all.1
numbered_lists_stay {X} {Y} f b (x ∷ xs) ys all = ap (λ (l : List Y). f (b, x) ++ l) (numbered_lists_stay f (b + 1) xs ys all)

-- nothing is made of a place at which something stands that counts as nothing
place_none : {X Z : Type 0} (f : X → Z) (z : Z) (xs : List X) (n : ℕ) → AllByRecursion (λ x. f x ≡ z) xs → option_map_or f (slice_get xs n) z ≡ z
place_none f z [] n all = refl
place_none f z (x ∷ xs) zero all = all.0
place_none f z (x ∷ xs) (suc n) all = place_none f z xs n all.1

-- what is made of a place stays if elements follow that count as nothing
pub place_more : {X Z : Type 0} (f : X → Z) (z : Z) (xs ys : List X) (n : ℕ) → AllByRecursion (λ y. f y ≡ z) ys → option_map_or f (slice_get (xs ++ ys) n) z ≡ option_map_or f (slice_get xs n) z
place_more f z [] ys n more = place_none f z ys n more
place_more f z (x ∷ xs) ys zero more = refl
place_more f z (x ∷ xs) ys (suc n) more = place_more f z xs ys n more

-- what is made of a place stays if it is made alike of what stands there instead
pub place_map : {X Z : Type 0} (r : X → X) (f g : X → Z) (z : Z) (xs : List X) (n : ℕ) → ((x : X) → f (r x) ≡ g x) → option_map_or f (slice_get (map r xs) n) z ≡ option_map_or g (slice_get xs n) z
place_map r f g z [] n same = refl
place_map r f g z (x ∷ xs) zero same = same x
place_map r f g z (x ∷ xs) (suc n) same = place_map r f g z xs n same
