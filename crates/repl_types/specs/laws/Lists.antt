-- What holds of each element of a list, and filters.
use Rattle.std.proofs.Common.{◌≡◌, Bool, true, false, cond, List, [], ◌∷◌, ◌++◌, refl, ap, ◌∙◌}
use Rattle.std.specs.List.{AllByRecursion, filter}

-- what follows from what holds of each element holds of each
pub all_weaker : {X : Type 0} (P Q : X → Type 0) (xs : List X) → ((x : X) → P x → Q x) → AllByRecursion P xs → AllByRecursion Q xs
all_weaker P Q [] f all = tt
all_weaker P Q (x ∷ xs) f all = (f x all.0, all_weaker P Q xs f all.1)

-- what holds of each element of two lists holds of each of the one after the other
pub all_append : {X : Type 0} (P : X → Type 0) (xs ys : List X) → AllByRecursion P xs → AllByRecursion P ys → AllByRecursion P (xs ++ ys)
all_append P [] ys all more = more
all_append P (x ∷ xs) ys all more = (all.0, all_append P xs ys all.1 more)

-- what holds of each element holds of each that a filter keeps
pub all_filter : {X : Type 0} (P : X → Type 0) (p : X → Bool) (xs : List X) → AllByRecursion P xs → AllByRecursion P (filter p xs)
all_filter P p [] all = tt
all_filter {X} P p (x ∷ xs) all = pick (p x) (all_filter P p xs all.1)
  where
    pick : (t : Bool) → AllByRecursion P (filter p xs) → AllByRecursion P (cond t (x ∷ filter p xs) (filter p xs))
    pick true rest = (all.0, rest)
    pick false rest = rest

-- a test that no element passes keeps none
pub filter_none : {X : Type 0} (p : X → Bool) (xs : List X) → AllByRecursion (λ x. p x ≡ false) xs → filter p xs ≡ []
filter_none p [] all = refl
filter_none {X} p (x ∷ xs) all = ap (λ (t : Bool). cond t (x ∷ filter p xs) (filter p xs)) all.0 ∙ filter_none p xs all.1

-- a test that each element passes keeps all
pub filter_all : {X : Type 0} (p : X → Bool) (xs : List X) → AllByRecursion (λ x. p x ≡ true) xs → filter p xs ≡ xs
filter_all p [] all = refl
filter_all {X} p (x ∷ xs) all = ap (λ (t : Bool). cond t (x ∷ filter p xs) (filter p xs)) all.0 ∙ ap (λ (l : List X). x ∷ l) (filter_all p xs all.1)

-- two tests that agree at each element keep the same elements
pub filter_alike : {X : Type 0} (p q : X → Bool) (xs : List X) → AllByRecursion (λ x. p x ≡ q x) xs → filter p xs ≡ filter q xs
filter_alike p q [] all = refl
filter_alike {X} p q (x ∷ xs) all = ap (λ (t : Bool). cond t (x ∷ filter p xs) (filter p xs)) all.0 ∙ ap (λ (l : List X). cond (q x) (x ∷ l) l) (filter_alike p q xs all.1)
