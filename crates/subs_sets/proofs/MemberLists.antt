-- The first members of a set, and one more.
use Rattle.std.proofs.Common.{◌≡◌, ℕ, zero, suc, ◌+◌, Bool, false, ◌||◌, List, [], ◌∷◌, ◌++◌, take, ap, ap₂, ◌∙◌, Option, Some, None, slice_get}
use Rattle.std.specs.List.{cons_option, filter_map, list_any}
use Rattle.std.proofs.lemmas.List.{take_more}
use Rattle.std.proofs.lemmas.List.Elements.{filter_map-append}
use Rattle.std.proofs.lemmas.List.Folds.{list_any-append}
use Rattle.std.proofs.lemmas.Option.{none-some, same_Some, slice_get_within, get_or_from_slice_get}

-- the first elements and one more
take_next : {X : Type 0} (xs : List X) (n : ℕ) (x : X) → slice_get xs n ≡ Some x → take (n + 1) xs ≡ take n xs ++ x ∷ []
take_next {X} xs n x at = take_more xs n x (slice_get_within xs n x at) ∙ ap (λ (y : X). take n xs ++ y ∷ []) (get_or_from_slice_get xs n x x at)

-- if no element so far passes a test, and the next one doesn't, none so far does
pub none_more : {X : Type 0} (p : X → Bool) (xs : List X) (n : ℕ) (x : X) → slice_get xs n ≡ Some x → list_any p (take n xs) ≡ false → p x ≡ false → list_any p (take (n + 1) xs) ≡ false
none_more p xs n x at none fails =
    ap (list_any p) (take_next xs n x at)
    ∙ list_any-append p (take n xs) (x ∷ [])
    ∙ ap₂ (λ (a b : Bool). a || (b || false)) none fails

-- if a function gives nothing at the elements so far, nor at the next one, it gives nothing
pub nothing_more : {X Y : Type 0} (f : X → Option Y) (xs : List X) (n : ℕ) (x : X) → slice_get xs n ≡ Some x → filter_map f (take n xs) ≡ [] → f x ≡ None → filter_map f (take (n + 1) xs) ≡ []
nothing_more {X} {Y} f xs n x at none nothing =
    ap (filter_map f) (take_next xs n x at)
    ∙ filter_map-append f (take n xs) (x ∷ [])
    ∙ ap₂ (λ (ys : List Y) (o : Option Y). ys ++ cons_option o []) none nothing

-- if it gives nothing before an element, what it gives there comes first
pub first_given : {X Y : Type 0} (f : X → Option Y) (xs : List X) (n : ℕ) (x : X) (y : Y) → slice_get xs n ≡ Some x → filter_map f (take n xs) ≡ [] → f x ≡ Some y → (ys : List Y) × (filter_map f xs ≡ y ∷ ys)
first_given f [] n x y at none gives = absurd (none-some x at)
first_given {X} {Y} f (z ∷ zs) zero x y at none gives = (filter_map f zs, ap (λ (o : Option Y). cons_option o (filter_map f zs)) (ap f (same_Some z x at) ∙ gives))
first_given {X} {Y} f (z ∷ zs) (suc n) x y at none gives = pick (f z) none (first_given f zs n x y at)
  where
    pick : (o : Option Y) → cons_option o (filter_map f (take n zs)) ≡ [] → (filter_map f (take n zs) ≡ [] → f x ≡ Some y → (ys : List Y) × (filter_map f zs ≡ y ∷ ys)) → (ys : List Y) × (cons_option o (filter_map f zs) ≡ y ∷ ys)
    pick None none rest = rest none gives
    pick (Some v) none rest = absurd cc
