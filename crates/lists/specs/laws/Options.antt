-- Options, and tests of lists, of which nothing is found.
use Rattle.std.proofs.Common.{◌≡◌, None, Option, Some, refl, Bool, cond, false, not, true, List, [], ℕ, ◌+◌, ◌∷◌}
use Rattle.std.specs.Option.{option_or, option_map}
use Rattle.std.specs.List.{list_all, position_from}
use Rattle.std.proofs.lemmas.Bool.{and_from}

-- nothing of the first of two, nor of the second
pub or_none : {X : Type 0} (a b : Option X) → option_or a b ≡ None → (a ≡ None) × (b ≡ None)
or_none None b h = (refl, h)
or_none (Some x) b h = absurd (cc)

-- nothing of an image
pub map_none : {X Y : Type 0} (f : X → Y) (o : Option X) → option_map f o ≡ None → o ≡ None
map_none f None h = refl
map_none f (Some x) h = absurd (cc)

-- nothing of a choice
pub chosen_none : {X : Type 0} (b : Bool) (x : X) (o : Option X) → cond b (Some x) o ≡ None → (not b ≡ true) × (o ≡ None)
chosen_none true x o h = absurd (cc)
chosen_none false x o h = (refl, h)

-- if no element passes, each fails
pub none_pass : {X : Type 0} (p : X → Bool) (n : ℕ) (xs : List X) → position_from p n xs ≡ None → list_all (λ x. not (p x)) xs ≡ true
none_pass p n [] h = refl
none_pass p n (x ∷ xs) h =
    let c = chosen_none (p x) n (position_from p (n + 1) xs) h in
    and_from (not (p x)) (list_all (λ y. not (p y)) xs) c.0 (none_pass p (n + 1) xs c.1)

-- a test that doesn't fail
pub not_not : (b : Bool) → not (not b) ≡ true → b ≡ true
not_not true h = refl
not_not false h = absurd (cc)
