-- Lists made of the parts that a function gives of elements, in which nothing stands twice.
use Rattle.std.proofs.Common.{◌≡◌, ◌≤◌, Bool, true, cond, not, inl, inr, List, [], ◌∷◌, ◌++◌, refl, sym, ap₂, subst, ◌∙◌, arith}
use Rattle.std.specs.List.{count_by, flat_map, list_any}
use Rattle.std.proofs.lemmas.Bool.{and_parts}
use Rattle.std.proofs.lemmas.List.Sums.{sum_by-append}
use Rattle.repl_model.specs.Words.{all_differ, In, any_from, first_alone, in_second, in_flat_map, listed_in, beside_itself, embeds_zip, embeds_before, embeds_differ}
use Rattle.load_laws.specs.rules.laws.Lists.{any_counts, differ_together}

-- ---- no two alike

-- no two elements of the parts are alike if no two of one part are, and none of the parts of two elements that differ
pub parts_differ : {X Y : Type 0} (alike : X → X → Bool) (same : Y → Y → Bool) (f : X → List Y) (xs : List X) → all_differ alike xs ≡ true → ((x : X) → In x xs → all_differ same (f x) ≡ true) → ((x z : X) (y w : Y) → In x xs → In z xs → In y (f x) → In w (f z) → same y w ≡ true → alike x z ≡ true) → all_differ same (flat_map f xs) ≡ true
parts_differ alike same f [] differ each apart = refl
parts_differ alike same f (x ∷ xs) differ each apart =
    differ_together same (f x) (flat_map f xs) (each x (inl refl))
    (parts_differ alike same f xs (and_parts (not (list_any (alike x) xs)) (all_differ alike xs) differ).1 (λ z i. each z (inr i)) (λ z v y w i j. apart z v y w (inr i) (inr j)))
    (λ y w i j e. let r = in_flat_map f xs w j in first_alone alike x xs differ r.0 r.1 (apart x r.0 y w (inl refl) (inr r.1) i r.2 e))

-- no element of the first list is like one of the second if no two of both are alike
differ_apart : {X : Type 0} (same : X → X → Bool) (xs ys : List X) (x y : X) → all_differ same (xs ++ ys) ≡ true → In x xs → In y ys → same x y ≡ true → ⊥
differ_apart same [] ys x y differ i j e = absurd i
differ_apart same (z ∷ zs) ys x y differ (inl is) j e = first_alone same z (zs ++ ys) differ y (in_second zs ys y j) (subst (λ a. same a y ≡ true) is e)
differ_apart same (z ∷ zs) ys x y differ (inr i) j e = differ_apart same zs ys x y (and_parts (not (list_any (same z) (zs ++ ys))) (all_differ same (zs ++ ys)) differ).1 i j e

-- no two of the first list are alike if no two of both are
differ_first : {X : Type 0} (same : X → X → Bool) (xs ys : List X) → all_differ same (xs ++ ys) ≡ true → all_differ same xs ≡ true
differ_first same xs ys differ = embeds_differ (λ a b. a ≡ b) same same (λ a c b d p q e. ap₂ same (sym p) (sym q) ∙ e) xs (xs ++ ys) (embeds_before (λ a b. a ≡ b) xs xs ys (embeds_zip (λ a b. a ≡ b) xs xs (beside_itself (λ a b. a ≡ b) (λ a. refl) xs))) differ

-- and no two of the second list
differ_second : {X : Type 0} (same : X → X → Bool) (xs ys : List X) → all_differ same (xs ++ ys) ≡ true → all_differ same ys ≡ true
differ_second same [] ys differ = differ
differ_second same (x ∷ xs) ys differ = differ_second same xs ys (and_parts (not (list_any (same x) (xs ++ ys))) (all_differ same (xs ++ ys)) differ).1

-- no two elements of one part are alike if no two of all are
pub part_differs : {X Y : Type 0} (same : Y → Y → Bool) (f : X → List Y) (xs : List X) (x : X) → all_differ same (flat_map f xs) ≡ true → In x xs → all_differ same (f x) ≡ true
part_differs same f [] x differ i = absurd i
part_differs same f (z ∷ zs) x differ (inl is) = subst (λ a. all_differ same (f a) ≡ true) (sym is) (differ_first same (f z) (flat_map f zs) differ)
part_differs same f (z ∷ zs) x differ (inr i) = part_differs same f zs x (differ_second same (f z) (flat_map f zs) differ) i

-- elements that are alike are of one part, if no two of all parts are alike
pub alike_in_one : {X Y : Type 0} (same : Y → Y → Bool) (f : X → List Y) (xs : List X) (x z : X) (y w : Y) → all_differ same (flat_map f xs) ≡ true → In x xs → In z xs → In y (f x) → In w (f z) → same y w ≡ true → same w y ≡ true → x ≡ z
alike_in_one same f [] x z y w differ i j k l e g = absurd i
alike_in_one same f (v ∷ vs) x z y w differ (inl a) (inl b) k l e g = a ∙ sym b
alike_in_one same f (v ∷ vs) x z y w differ (inl a) (inr j) k l e g = absurd (differ_apart same (f v) (flat_map f vs) y w differ (subst (λ u. In y (f u)) a k) (listed_in f vs z w j l) e)
alike_in_one same f (v ∷ vs) x z y w differ (inr i) (inl b) k l e g = absurd (differ_apart same (f v) (flat_map f vs) w y differ (subst (λ u. In w (f u)) b l) (listed_in f vs x y i k) g)
alike_in_one same f (v ∷ vs) x z y w differ (inr i) (inr j) k l e g = alike_in_one same f vs x z y w (differ_second same (f v) (flat_map f vs) differ) i j k l e g

-- ---- at most one that passes

-- no element of the first list passes beside one of the second, if at most one of both passes
pub once_apart : {X : Type 0} (p : X → Bool) (xs ys : List X) (x y : X) → count_by p (xs ++ ys) ≤ 1 → In x xs → In y ys → p x ≡ true → p y ≡ true → ⊥
once_apart p xs ys x y few i j e g =
    let most = subst (λ n. n ≤ 1) (sum_by-append (λ z. cond (p z) 1 0) xs ys) few in
    let one = any_counts p xs (any_from p xs x i e) in
    let other = any_counts p ys (any_from p ys y j g) in
    omega arith

-- at most one element of the first list passes, if at most one of both does
pub once_first : {X : Type 0} (p : X → Bool) (xs ys : List X) → count_by p (xs ++ ys) ≤ 1 → count_by p xs ≤ 1
once_first p xs ys few = let most = subst (λ n. n ≤ 1) (sum_by-append (λ z. cond (p z) 1 0) xs ys) few in omega arith

-- and at most one of the second
once_second : {X : Type 0} (p : X → Bool) (xs ys : List X) → count_by p (xs ++ ys) ≤ 1 → count_by p ys ≤ 1
once_second p xs ys few = let most = subst (λ n. n ≤ 1) (sum_by-append (λ z. cond (p z) 1 0) xs ys) few in omega arith

-- at most one element of one part passes, if at most one of all parts does
pub once_in_part : {X Y : Type 0} (p : Y → Bool) (f : X → List Y) (xs : List X) (x : X) → count_by p (flat_map f xs) ≤ 1 → In x xs → count_by p (f x) ≤ 1
once_in_part p f [] x few i = absurd i
once_in_part p f (z ∷ zs) x few (inl same) = subst (λ a. count_by p (f a) ≤ 1) (sym same) (once_first p (f z) (flat_map f zs) few)
once_in_part p f (z ∷ zs) x few (inr i) = once_in_part p f zs x (once_second p (f z) (flat_map f zs) few) i

-- elements that pass are of one part, if at most one of all parts passes
pub passing_in_one : {X Y : Type 0} (p : Y → Bool) (f : X → List Y) (xs : List X) (x z : X) (y w : Y) → count_by p (flat_map f xs) ≤ 1 → In x xs → In z xs → In y (f x) → In w (f z) → p y ≡ true → p w ≡ true → x ≡ z
passing_in_one p f [] x z y w few i j k l e g = absurd i
passing_in_one p f (v ∷ vs) x z y w few (inl a) (inl b) k l e g = a ∙ sym b
passing_in_one p f (v ∷ vs) x z y w few (inl a) (inr j) k l e g = absurd (once_apart p (f v) (flat_map f vs) y w few (subst (λ u. In y (f u)) a k) (listed_in f vs z w j l) e g)
passing_in_one p f (v ∷ vs) x z y w few (inr i) (inl b) k l e g = absurd (once_apart p (f v) (flat_map f vs) w y few (subst (λ u. In w (f u)) b l) (listed_in f vs x y i k) g e)
passing_in_one p f (v ∷ vs) x z y w few (inr i) (inr j) k l e g = passing_in_one p f vs x z y w (once_second p (f v) (flat_map f vs) few) i j k l e g
