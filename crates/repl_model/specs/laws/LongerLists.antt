-- More of lists by what holds of each element.
use Rattle.std.proofs.Common.{◌≡◌, Bool, true, false, cond, List, [], ◌∷◌, ◌++◌, map, refl, ap, ◌∙◌}
use Rattle.std.specs.List.{AllByRecursion, AllZip, filter, flat_map, list_all}
use Rattle.std.proofs.lemmas.Bool.{and_parts, and_from}
use Rattle.repl_types.specs.laws.Lists.{all_append}

-- two functions that agree at each element give the same
pub map_alike : {X Y : Type 0} (f g : X → Y) (xs : List X) → AllByRecursion (λ x. f x ≡ g x) xs → map f xs ≡ map g xs
map_alike f g [] h = refl
map_alike {X} {Y} f g (x ∷ xs) h = ap (λ (y : Y). y ∷ map f xs) h.0 ∙ ap (λ (ys : List Y). g x ∷ ys) (map_alike f g xs h.1)

-- two functions that give the same lists at each element give the same
pub flat_map_alike : {X Y : Type 0} (f g : X → List Y) (xs : List X) → AllByRecursion (λ x. f x ≡ g x) xs → flat_map f xs ≡ flat_map g xs
flat_map_alike f g [] h = refl
flat_map_alike {X} {Y} f g (x ∷ xs) h = ap (λ (ys : List Y). ys ++ flat_map f xs) h.0 ∙ ap (λ (ys : List Y). g x ++ ys) (flat_map_alike f g xs h.1)

-- what holds of each element of each list that a function gives holds of each that it gives
pub all_flat_map : {X Y : Type 0} (P : Y → Type 0) (f : X → List Y) (xs : List X) → AllByRecursion (λ x. AllByRecursion P (f x)) xs → AllByRecursion P (flat_map f xs)
all_flat_map P f [] h = tt
all_flat_map P f (x ∷ xs) h = all_append P (f x) (flat_map f xs) h.0 (all_flat_map P f xs h.1)

-- what holds of all holds of each element
pub all_of : {X : Type 0} (P : X → Type 0) (xs : List X) → ((x : X) → P x) → AllByRecursion P xs
all_of P [] h = tt
all_of P (x ∷ xs) h = (h x, all_of P xs h)

-- each element that a filter keeps passes its test
pub all_kept : {X : Type 0} (p : X → Bool) (xs : List X) → AllByRecursion (λ x. p x ≡ true) (filter p xs)
all_kept p [] = tt
all_kept {X} p (x ∷ xs) = by_test (p x) refl (all_kept p xs)
  where
    by_test : (b : Bool) → p x ≡ b → AllByRecursion (λ y. p y ≡ true) (filter p xs) → AllByRecursion (λ y. p y ≡ true) (cond b (x ∷ filter p xs) (filter p xs))
    by_test true e rest = (e, rest)
    by_test false e rest = rest

-- what holds of each element of one list after another holds of each of the first
pub all_first : {X : Type 0} (P : X → Type 0) (xs ys : List X) → AllByRecursion P (xs ++ ys) → AllByRecursion P xs
all_first P [] ys all = tt
all_first P (x ∷ xs) ys all = (all.0, all_first P xs ys all.1)

-- if each element passes a test, each passes one that follows from it
pub list_all_weaker : {X : Type 0} (p q : X → Bool) (xs : List X) → ((x : X) → p x ≡ true → q x ≡ true) → list_all p xs ≡ true → list_all q xs ≡ true
list_all_weaker p q [] f e = refl
list_all_weaker p q (x ∷ xs) f e =
    let both = and_parts (p x) (list_all p xs) e in
    and_from (q x) (list_all q xs) (f x both.0) (list_all_weaker p q xs f both.1)

-- what follows for a pair from what holds of it and of its second element holds of each pair
pub zip_weaker : {X Y : Type 0} (Q : Y → Type 0) (R S : X → Y → Type 0) (xs : List X) (ys : List Y) → ((x : X) (y : Y) → Q y → R x y → S x y) → AllByRecursion Q ys → AllZip R xs ys → AllZip S xs ys
zip_weaker Q R S [] [] f all h = tt
zip_weaker Q R S [] (y ∷ ys) f all h = absurd h
zip_weaker Q R S (x ∷ xs) [] f all h = absurd h
zip_weaker Q R S (x ∷ xs) (y ∷ ys) f all h = (f x y all.0 h.0, zip_weaker Q R S xs ys f all.1 h.1)
