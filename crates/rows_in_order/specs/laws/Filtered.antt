-- Filters of lists.
use Rattle.std.proofs.Common.{◌≡◌, Bool, true, false, cond, List, [], ◌∷◌, ◌++◌, refl, sym, ap, subst, ◌∙◌, filter}
use Rattle.std.specs.List.{AllByRecursion}

-- all that a filter keeps pass it
pub all_kept : {X : Type 0} (p : X → Bool) (xs : List X) → AllByRecursion (λ x. p x ≡ true) (filter p xs)
all_kept p [] = tt
all_kept {X} p (x ∷ xs) = pick (p x) refl (all_kept p xs)
  where
    pick : (t : Bool) → p x ≡ t → AllByRecursion (λ y. p y ≡ true) (filter p xs) → AllByRecursion (λ y. p y ≡ true) (cond t (x ∷ filter p xs) (filter p xs))
    pick true e rest = (e, rest)
    pick false e rest = rest

-- what holds of all holds of one among them
pub all_at : {X : Type 0} (P : X → Type 0) (xs : List X) (x : X) (front back : List X) → xs ≡ front ++ x ∷ back → AllByRecursion P xs → P x
all_at {X} P xs x front back split all = at front (subst (AllByRecursion P) split all)
  where
    at : (front : List X) → AllByRecursion P (front ++ x ∷ back) → P x
    at [] all = all.0
    at (y ∷ ys) all = at ys all.1

-- two filters may be applied in either order
pub filters_commute : {X : Type 0} (p q : X → Bool) (xs : List X) → filter p (filter q xs) ≡ filter q (filter p xs)
filters_commute p q [] = refl
filters_commute {X} p q (x ∷ xs) = pick (p x) refl (q x) refl (filters_commute p q xs)
  where
    first : (t : Bool) → p x ≡ t → filter p (x ∷ filter q xs) ≡ cond t (x ∷ filter p (filter q xs)) (filter p (filter q xs))
    first t e = ap (λ (b : Bool). cond b (x ∷ filter p (filter q xs)) (filter p (filter q xs))) e

    second : (t : Bool) → q x ≡ t → filter q (x ∷ filter p xs) ≡ cond t (x ∷ filter q (filter p xs)) (filter q (filter p xs))
    second t e = ap (λ (b : Bool). cond b (x ∷ filter q (filter p xs)) (filter q (filter p xs))) e

    pick : (s : Bool) → p x ≡ s → (t : Bool) → q x ≡ t → filter p (filter q xs) ≡ filter q (filter p xs) → filter p (cond t (x ∷ filter q xs) (filter q xs)) ≡ filter q (cond s (x ∷ filter p xs) (filter p xs))
    pick true e true f rest = first true e ∙ ap (λ (l : List X). x ∷ l) rest ∙ sym (second true f)
    pick true e false f rest = rest ∙ sym (second false f)
    pick false e true f rest = first false e ∙ rest
    pick false e false f rest = rest
