-- Things by their places, and the texts of things one after another.
use Rattle.std.proofs.Common.{◌≡◌, ℕ, zero, suc, ◌+◌, not, List, [], ◌∷◌, ◌++◌, map, take, append_assoc, append-nil, add-one, refl, sym, ap, subst, ◌∙◌, arith, inl, inr, find, Option, Some, None, slice_get, true, Bool}
use Rattle.std.specs.List.{cons_option, enumerate_from, filter_map, flat_map, list_any}
use Rattle.std.specs.Option.{option_map_or}
use Rattle.std.proofs.lemmas.Bool.{and_parts, both_ways, not-true}
use Rattle.std.proofs.lemmas.Option.{none-some, same_Some}
use Rattle.repl_model.specs.Words.{all_differ, at_place_in, chosen_none, first_alone, In}

-- ---- places

-- the element at a place stands with the place as its number
numbered_there : {X : Type 0} (b : ℕ) (xs : List X) (n : ℕ) (x : X) → slice_get xs n ≡ Some x → In (b + n, x) (enumerate_from b xs)
numbered_there b [] n x e = absurd (none-some x e)
numbered_there b (y ∷ ys) zero x e = inl (λ i. (at_first i, sym (same_Some y x e) i))
  where
    at_first : b + 0 ≡ b
    at_first = omega arith
numbered_there {X} b (y ∷ ys) (suc n) x e = inr (subst (λ (m : ℕ). In (m, x) (enumerate_from (b + 1) ys)) at_next (numbered_there (b + 1) ys n x e))
  where
    at_next : b + 1 + n ≡ b + suc n
    at_next = omega arith

-- so it does if the numbers begin with 0
pub numbered_first : {X : Type 0} (xs : List X) (n : ℕ) (x : X) → slice_get xs n ≡ Some x → In (n, x) (enumerate_from 0 xs)
numbered_first {X} xs n x e = subst (λ (m : ℕ). In (m, x) (enumerate_from 0 xs)) none_before (numbered_there 0 xs n x e)
  where
    none_before : 0 + n ≡ n
    none_before = omega arith

-- two places are one if their elements are alike and no two elements of the list are
pub one_place : {X : Type 0} (same : X → X → Bool) (xs : List X) (m n : ℕ) (x y : X) → all_differ same xs ≡ true → slice_get xs m ≡ Some x → slice_get xs n ≡ Some y → same x y ≡ true → same y x ≡ true → m ≡ n
one_place same [] m n x y differ at there e f = absurd (none-some x at)
one_place same (z ∷ zs) zero zero x y differ at there e f = refl
one_place {X} same (z ∷ zs) zero (suc n) x y differ at there e f = absurd (first_alone same z zs differ y (at_place_in zs n y there) (subst (λ (a : X). same a y ≡ true) (sym (same_Some z x at)) e))
one_place {X} same (z ∷ zs) (suc m) zero x y differ at there e f = absurd (first_alone same z zs differ x (at_place_in zs m x at) (subst (λ (a : X). same a x ≡ true) (sym (same_Some z y there)) f))
one_place same (z ∷ zs) (suc m) (suc n) x y differ at there e f = ap suc (one_place same zs m n x y (and_parts (not (list_any (same z) zs)) (all_differ same zs) differ).1 at there e f)

-- what passes a test is not in a list in which nothing is found by it
pub none_passes : {X : Type 0} (p : X → Bool) (xs : List X) (x : X) → find p xs ≡ None → In x xs → p x ≡ true → ⊥
none_passes p [] x none i e = i
none_passes p (z ∷ zs) x none (inl is) e = both_ways (p z) (not-true (p z) (chosen_none (p z) z (find p zs) none).0) (ap p (sym is) ∙ e)
none_passes p (z ∷ zs) x none (inr i) e = none_passes p zs x (chosen_none (p z) z (find p zs) none).1 i e

-- ---- texts

-- the texts of the first things, and of one more
text_suc : {X : Type 0} (text : X → List ℕ) (xs : List X) (n : ℕ) → flat_map text (take (suc n) xs) ≡ flat_map text (take n xs) ++ option_map_or text (slice_get xs n) []
text_suc text [] zero = refl
text_suc text [] (suc n) = refl
text_suc text (x ∷ xs) zero = append-nil (text x)
text_suc text (x ∷ xs) (suc n) = ap (λ (l : List ℕ). text x ++ l) (text_suc text xs n) ∙ sym (append_assoc (text x) (flat_map text (take n xs)) (option_map_or text (slice_get xs n) []))

-- the same with one more after the number
pub text_more : {X : Type 0} (text : X → List ℕ) (xs : List X) (n : ℕ) → flat_map text (take (n + 1) xs) ≡ flat_map text (take n xs) ++ option_map_or text (slice_get xs n) []
text_more text xs n = rw add-one (text_suc text xs n)

-- lines one after another, if each thing may give one
pub lines_of_some : {X : Type 0} (line : X → Option (List ℕ)) (text : X → List ℕ) → ((x : X) → option_map_or (λ l. l) (line x) [] ≡ text x) → (xs : List X) → flat_map (λ l. l) (filter_map line xs) ≡ flat_map text xs
lines_of_some line text agree [] = refl
lines_of_some {X} line text agree (x ∷ xs) = pick (line x) ∙ (λ i. agree x i ++ lines_of_some line text agree xs i)
  where
    pick : (o : Option (List ℕ)) → flat_map (λ l. l) (cons_option o (filter_map line xs)) ≡ option_map_or (λ l. l) o [] ++ flat_map (λ l. l) (filter_map line xs)
    pick None = refl
    pick (Some l) = refl

-- and if each gives one
pub lines_of_all : {X : Type 0} (line : X → List ℕ) (xs : List X) → flat_map (λ l. l) (map line xs) ≡ flat_map line xs
lines_of_all line [] = refl
lines_of_all line (x ∷ xs) = ap (λ (l : List ℕ). line x ++ l) (lines_of_all line xs)

-- a list of what is always given
pub filter_map_all : {X Y : Type 0} (f : X → Y) (xs : List X) → filter_map (λ x. Some (f x)) xs ≡ map f xs
filter_map_all f [] = refl
filter_map_all {X} {Y} f (x ∷ xs) = ap (λ (l : List Y). f x ∷ l) (filter_map_all f xs)
