-- Elements with their numbers, and the places of elements.
use Rattle.std.proofs.Common.{◌≡◌, ℕ, zero, suc, ◌+◌, ◌-◌, ◌≤◌, inl, inr, List, [], ◌∷◌, ap, sym, ◌∙◌, arith, Option, Some, slice_get, map, refl, ◌++◌}
use Rattle.std.specs.List.{enumerate_from, AllByRecursion, flat_map}
use Rattle.lists.specs.laws.Members.{In}
use Rattle.std.specs.Option.{option_map_or}

-- an element stands with a number
pub in_numbered : {X : Type 0} (n : ℕ) (xs : List X) (x : X) → In x xs → (m : ℕ) × In (m, x) (enumerate_from n xs)
in_numbered n [] x i = absurd i
in_numbered n (y ∷ ys) x (inl is) = (n, inl (ap (λ z. (n, z)) is))
in_numbered n (y ∷ ys) x (inr i) = let r = in_numbered (n + 1) ys x i in (r.0, inr r.1)

-- what stands with a number is an element
pub numbered_in : {X : Type 0} (n : ℕ) (xs : List X) (p : ℕ × X) → In p (enumerate_from n xs) → In p.1 xs
numbered_in n [] p i = absurd i
numbered_in {X} n (y ∷ ys) p (inl is) = inl (ap (λ (q : ℕ × X). q.1) is)
numbered_in n (y ∷ ys) p (inr i) = inr (numbered_in (n + 1) ys p i)

-- what stands with a number is the element at its place
numbered_at_place : {X : Type 0} (b : ℕ) (xs : List X) (p : ℕ × X) → In p (enumerate_from b xs) → (b ≤ p.0) × (slice_get xs (p.0 - b) ≡ Some p.1)
numbered_at_place b [] p i = absurd i
numbered_at_place {X} b (x ∷ xs) p (inl is) =
    let number : p.0 ≡ b = ap (λ (q : ℕ × X). q.0) is in
    let none : p.0 - b ≡ 0 = omega (arith, number) in
    (omega (arith, number), ap (slice_get (x ∷ xs)) none ∙ ap (λ (q : ℕ × X). Some q.1) (sym is))
numbered_at_place {X} b (x ∷ xs) p (inr i) =
    let rest = numbered_at_place (b + 1) xs p i in
    let above : b + 1 ≤ p.0 = rest.0 in
    let more : p.0 - b ≡ suc (p.0 - (b + 1)) = omega (arith, above) in
    (omega (arith, above), ap (slice_get (x ∷ xs)) more ∙ rest.1)

-- at its number, if the numbers begin with 0
pub numbered_place : {X : Type 0} (xs : List X) (p : ℕ × X) → In p (enumerate_from 0 xs) → slice_get xs p.0 ≡ Some p.1
numbered_place xs p i = ap (slice_get xs) (no_less p.0) ∙ (numbered_at_place 0 xs p i).1
  where
    no_less : (n : ℕ) → n ≡ n - 0
    no_less n = omega arith

-- what is at a place is in the list
pub at_place_in : {X : Type 0} (xs : List X) (n : ℕ) (x : X) → slice_get xs n ≡ Some x → In x xs
at_place_in [] n x e = absurd cc
at_place_in {X} (y ∷ ys) zero x e = inl (inside y x e)
  where
    inside : (a b : X) → ◌≡◌ {A = Option X} (Some a) (Some b) → b ≡ a
    inside a b e = cc
at_place_in (y ∷ ys) (suc n) x e = inr (at_place_in ys n x e)

-- they make the same of numbered elements
pub numbered_alike : {X Y : Type 0} (f g : ℕ × X → Y) (b : ℕ) (xs : List X) → AllByRecursion (λ x. (n : ℕ) → f (n, x) ≡ g (n, x)) xs → map f (enumerate_from b xs) ≡ map g (enumerate_from b xs)
numbered_alike f g b [] all = refl
numbered_alike {X} {Y} f g b (x ∷ xs) all = ap (λ (y : Y). y ∷ map f (enumerate_from (b + 1) xs)) (all.0 b) ∙ ap (λ (l : List Y). g (b, x) ∷ l) (numbered_alike f g (b + 1) xs all.1)

-- and the same lists
pub numbered_lists_alike : {X Y : Type 0} (f g : ℕ × X → List Y) (b : ℕ) (xs : List X) → AllByRecursion (λ x. (n : ℕ) → f (n, x) ≡ g (n, x)) xs → flat_map f (enumerate_from b xs) ≡ flat_map g (enumerate_from b xs)
numbered_lists_alike f g b [] all = refl
numbered_lists_alike {X} {Y} f g b (x ∷ xs) all = ap (λ (l : List Y). l ++ flat_map f (enumerate_from (b + 1) xs)) (all.0 b) ∙ ap (λ (l : List Y). g (b, x) ++ l) (numbered_lists_alike f g (b + 1) xs all.1)

-- they make the same of a place
pub place_alike : {X Z : Type 0} (f g : X → Z) (z : Z) (xs : List X) (n : ℕ) → AllByRecursion (λ x. f x ≡ g x) xs → option_map_or f (slice_get xs n) z ≡ option_map_or g (slice_get xs n) z
place_alike f g z [] n all = refl
place_alike f g z (x ∷ xs) zero all = all.0
place_alike f g z (x ∷ xs) (suc n) all = place_alike f g z xs n all.1
