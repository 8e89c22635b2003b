-- Choices by a test.
use Rattle.std.proofs.Common.{◌≡◌, Bool, true, false, cond, ◌⊎◌, inl, inr, Option, Some, None, refl, ap}

-- a choice whose test is true
pub if_true : {A : Type 0} {b : Bool} (x y : A) → b ≡ true → cond b x y ≡ x
if_true x y h = ap (λ c. cond c x y) h

-- a choice whose test is false
pub if_false : {A : Type 0} {b : Bool} (x y : A) → b ≡ false → cond b x y ≡ y
if_false x y h = ap (λ c. cond c x y) h

-- a choice that gives something
pub chosen : {A : Type 0} (b : Bool) (x : Option A) (y : A) → cond b x None ≡ Some y → (b ≡ true) × (x ≡ Some y)
chosen true x y h = (refl, h)
chosen false x y h = absurd (cc)

-- one of two choices that gives something
pub either_chosen : {A : Type 0} (b : Bool) (x z : Option A) (y : A) → cond b x z ≡ Some y → ((b ≡ true) × (x ≡ Some y)) ⊎ (z ≡ Some y)
either_chosen true x z y h = inl (refl, h)
either_chosen false x z y h = inr h
