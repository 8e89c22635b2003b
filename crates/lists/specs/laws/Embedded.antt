-- Lists whose elements are related to some of another list's, in the same order.
use Rattle.std.proofs.Common.{◌≡◌, Bool, true, false, cond, not, ◌||◌, ◌⊎◌, inl, inr, List, [], ◌∷◌, ◌++◌, Option, Some, None, refl, sym, subst, IfSome}
use Rattle.std.specs.Prelude.{⊤}
use Rattle.std.specs.List.{AllZip, filter, filter_map, cons_option, flat_map, list_any}
use Rattle.std.proofs.lemmas.Bool.{false≢true, and_parts, and_from, or_cases, or_left, or_right, not-true, not_from_false, false_from_ne_true, both_ways}
use Rattle.lists.specs.Lists.{all_differ}
use Rattle.lists.specs.laws.Members.{In}

-- the elements of a list are related to some of another, in the same order
abbrev pub Embeds : {X Y : Type 0} → (X → Y → Type 0) → List X → List Y → Type 0
Embeds R [] ys = ⊤
Embeds R (x ∷ xs) [] = ⊥
Embeds R (x ∷ xs) (y ∷ ys) = (R x y × Embeds R xs ys) ⊎ Embeds R (x ∷ xs) ys

-- ---- how lists embed

-- lists whose elements are related, one by one, embed
pub embeds_zip : {X Y : Type 0} (R : X → Y → Type 0) (xs : List X) (ys : List Y) → AllZip R xs ys → Embeds R xs ys
embeds_zip R [] ys h = tt
embeds_zip R (x ∷ xs) [] h = absurd h
embeds_zip R (x ∷ xs) (y ∷ ys) h = inl (h.0, embeds_zip R xs ys h.1)

-- a list embeds in one that has further elements before
embeds_later : {X Y : Type 0} (R : X → Y → Type 0) (xs : List X) (more ys : List Y) → Embeds R xs ys → Embeds R xs (more ++ ys)
embeds_later R xs [] ys h = h
embeds_later R [] (z ∷ zs) ys h = tt
embeds_later R (x ∷ xs) (z ∷ zs) ys h = inr (embeds_later R (x ∷ xs) zs ys h)

-- a list embeds in one that has further elements after
pub embeds_before : {X Y : Type 0} (R : X → Y → Type 0) (xs : List X) (ys more : List Y) → Embeds R xs ys → Embeds R xs (ys ++ more)
embeds_before R [] ys more h = tt
embeds_before R (x ∷ xs) [] more h = absurd h
embeds_before R (x ∷ xs) (y ∷ ys) more (inl h) = inl (h.0, embeds_before R xs ys more h.1)
embeds_before R (x ∷ xs) (y ∷ ys) more (inr h) = inr (embeds_before R (x ∷ xs) ys more h)

-- one list after another embeds in one after another
embeds_append : {X Y : Type 0} (R : X → Y → Type 0) (xs zs : List X) (ys ws : List Y) → Embeds R xs ys → Embeds R zs ws → Embeds R (xs ++ zs) (ys ++ ws)
embeds_append R [] zs ys ws h g = embeds_later R zs ys ws g
embeds_append R (x ∷ xs) zs [] ws h g = absurd h
embeds_append R (x ∷ xs) zs (y ∷ ys) ws (inl h) g = inl (h.0, embeds_append R xs zs ys ws h.1 g)
embeds_append R (x ∷ xs) zs (y ∷ ys) ws (inr h) g = inr (embeds_append R (x ∷ xs) zs ys ws h g)

-- the lists that functions give at related elements embed, one after another
pub embeds_flat_map : {X Y A B : Type 0} (S : X → Y → Type 0) (R : A → B → Type 0) (f : X → List A) (g : Y → List B) → ((x : X) (y : Y) → S x y → Embeds R (f x) (g y)) → (xs : List X) (ys : List Y) → Embeds S xs ys → Embeds R (flat_map f xs) (flat_map g ys)
embeds_flat_map S R f g each [] ys h = tt
embeds_flat_map S R f g each (x ∷ xs) [] h = absurd h
embeds_flat_map S R f g each (x ∷ xs) (y ∷ ys) (inl h) = embeds_append R (f x) (flat_map f xs) (g y) (flat_map g ys) (each x y h.0) (embeds_flat_map S R f g each xs ys h.1)
embeds_flat_map S R f g each (x ∷ xs) (y ∷ ys) (inr h) = embeds_later R (flat_map f (x ∷ xs)) (g y) (flat_map g ys) (embeds_flat_map S R f g each (x ∷ xs) ys h)

-- what a function gives embeds in what another does that gives a related element whenever the first gives one
pub embeds_filter_map : {X Y A B : Type 0} (R : A → B → Type 0) (f : X → Option A) (g : Y → Option B) (xs : List X) (ys : List Y) → AllZip (λ x y. IfSome (f x) (λ a. (b : B) × (g y ≡ Some b) × R a b)) xs ys → Embeds R (filter_map f xs) (filter_map g ys)
embeds_filter_map R f g [] [] h = tt
embeds_filter_map R f g [] (y ∷ ys) h = absurd h
embeds_filter_map R f g (x ∷ xs) [] h = absurd h
embeds_filter_map {X} {Y} {A} {B} R f g (x ∷ xs) (y ∷ ys) h = by_one (f x) h.0 (embeds_filter_map R f g xs ys h.1)
  where
    skip : (o : Option B) → Embeds R (filter_map f xs) (filter_map g ys) → Embeds R (filter_map f xs) (cons_option o (filter_map g ys))
    skip None h = h
    skip (Some b) h = embeds_later R (filter_map f xs) (b ∷ []) (filter_map g ys) h

    by_one : (o : Option A) → IfSome o (λ a. (b : B) × (g y ≡ Some b) × R a b) → Embeds R (filter_map f xs) (filter_map g ys) → Embeds R (cons_option o (filter_map f xs)) (cons_option (g y) (filter_map g ys))
    by_one None e h = skip (g y) h
    by_one (Some a) e h = subst (λ (o : Option B). Embeds R (a ∷ filter_map f xs) (cons_option o (filter_map g ys))) (sym e.1) (inl (e.2, h))

-- what a filter keeps embeds in what another does that keeps the related element whenever the first keeps one
pub embeds_filter : {X Y : Type 0} (R : X → Y → Type 0) (p : X → Bool) (q : Y → Bool) → ((x : X) (y : Y) → R x y → p x ≡ true → q y ≡ true) → (xs : List X) (ys : List Y) → Embeds R xs ys → Embeds R (filter p xs) (filter q ys)
embeds_filter R p q each [] ys h = tt
embeds_filter R p q each (x ∷ xs) [] h = absurd h
embeds_filter {X} {Y} R p q each (x ∷ xs) (y ∷ ys) (inl h) = by_tests (p x) (q y) (each x y h.0) (embeds_filter R p q each xs ys h.1)
  where
    by_tests : (a b : Bool) → (a ≡ true → b ≡ true) → Embeds R (filter p xs) (filter q ys) → Embeds R (cond a (x ∷ filter p xs) (filter p xs)) (cond b (y ∷ filter q ys) (filter q ys))
    by_tests true true f rest = inl (h.0, rest)
    by_tests true false f rest = absurd (false≢true (f refl))
    by_tests false true f rest = embeds_later R (filter p xs) (y ∷ []) (filter q ys) rest
    by_tests false false f rest = rest
embeds_filter {X} {Y} R p q each (x ∷ xs) (y ∷ ys) (inr h) = by_test (q y) (embeds_filter R p q each (x ∷ xs) ys h)
  where
    by_test : (b : Bool) → Embeds R (filter p (x ∷ xs)) (filter q ys) → Embeds R (filter p (x ∷ xs)) (cond b (y ∷ filter q ys) (filter q ys))
    by_test true rest = embeds_later R (filter p (x ∷ xs)) (y ∷ []) (filter q ys) rest
    by_test false rest = rest

-- ---- what goes over

-- an element of the list is related to one of the other
pub embeds_in : {X Y : Type 0} (R : X → Y → Type 0) (xs : List X) (ys : List Y) (x : X) → Embeds R xs ys → In x xs → (y : Y) × In y ys × R x y
embeds_in R [] ys x h i = absurd i
embeds_in R (z ∷ zs) [] x h i = absurd h
embeds_in R (z ∷ zs) (w ∷ ws) x (inl h) (inl e) = (w, inl refl, subst (λ a. R a w) (sym e) h.0)
embeds_in R (z ∷ zs) (w ∷ ws) x (inl h) (inr i) = let r = embeds_in R zs ws x h.1 i in (r.0, inr r.1, r.2)
embeds_in R (z ∷ zs) (w ∷ ws) x (inr h) i = let r = embeds_in R (z ∷ zs) ws x h i in (r.0, inr r.1, r.2)

-- if some element passes a test, some related one passes what follows from it
pub embeds_any : {X Y : Type 0} (R : X → Y → Type 0) (p : X → Bool) (q : Y → Bool) → ((x : X) (y : Y) → R x y → p x ≡ true → q y ≡ true) → (xs : List X) (ys : List Y) → Embeds R xs ys → list_any p xs ≡ true → list_any q ys ≡ true
embeds_any R p q f [] ys h e = absurd (false≢true e)
embeds_any R p q f (x ∷ xs) [] h e = absurd h
embeds_any R p q f (x ∷ xs) (y ∷ ys) (inl h) e = by_cases (embeds_any R p q f xs ys h.1) (or_cases (p x) (list_any p xs) e)
  where
    by_cases : (list_any p xs ≡ true → list_any q ys ≡ true) → (p x ≡ true) ⊎ (list_any p xs ≡ true) → (q y || list_any q ys) ≡ true
    by_cases rest (inl here) = or_left (q y) (list_any q ys) (f x y h.0 here)
    by_cases rest (inr later) = or_right (q y) (list_any q ys) (rest later)
embeds_any R p q f (x ∷ xs) (y ∷ ys) (inr h) e = or_right (q y) (list_any q ys) (embeds_any R p q f (x ∷ xs) ys h e)

-- if no element passes a test, none does from whose passing it would follow that a related one does
pub embeds_none : {X Y : Type 0} (R : X → Y → Type 0) (p : X → Bool) (q : Y → Bool) → ((x : X) (y : Y) → R x y → p x ≡ true → q y ≡ true) → (xs : List X) (ys : List Y) → Embeds R xs ys → not (list_any q ys) ≡ true → not (list_any p xs) ≡ true
embeds_none R p q f xs ys h e = not_from_false (list_any p xs) (false_from_ne_true (list_any p xs) (λ some. both_ways (list_any q ys) (not-true (list_any q ys) e) (embeds_any R p q f xs ys h some)))

-- if no two are alike, no two are whose related ones would be
pub embeds_differ : {X Y : Type 0} (R : X → Y → Type 0) (same : X → X → Bool) (alike : Y → Y → Bool) → ((x z : X) (y w : Y) → R x y → R z w → same x z ≡ true → alike y w ≡ true) → (xs : List X) (ys : List Y) → Embeds R xs ys → all_differ alike ys ≡ true → all_differ same xs ≡ true
embeds_differ R same alike f [] ys h e = refl
embeds_differ R same alike f (x ∷ xs) [] h e = absurd h
embeds_differ R same alike f (x ∷ xs) (y ∷ ys) (inl h) e =
    let both = and_parts (not (list_any (alike y) ys)) (all_differ alike ys) e in
    and_from (not (list_any (same x) xs)) (all_differ same xs) (embeds_none R (same x) (alike y) (λ z w r. f x z y w h.0 r) xs ys h.1 both.0) (embeds_differ R same alike f xs ys h.1 both.1)
embeds_differ R same alike f (x ∷ xs) (y ∷ ys) (inr h) e = embeds_differ R same alike f (x ∷ xs) ys h (and_parts (not (list_any (alike y) ys)) (all_differ alike ys) e).1
