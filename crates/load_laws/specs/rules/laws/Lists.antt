-- What functions give of the elements of lists, and lists in which nothing stands twice.
use Rattle.std.proofs.Common.{◌≡◌, suc, ◌+◌, ◌≤◌, Bool, true, false, cond, not, ◌||◌, ◌⊎◌, inl, inr, List, [], ◌∷◌, ◌++◌, length, Option, Some, None, refl, sym, ap, ap₂, subst, ◌∙◌, arith, is_some, find, filter, IfSome}
use Rattle.std.specs.List.{count_by, filter_map, cons_option, list_all, list_any}
use Rattle.std.proofs.lemmas.Bool.{false≢true, and_parts, and_from, not-true, not_from_false, false_from_ne_true, both_ways}
use Rattle.std.proofs.lemmas.List.Sums.{sum_by-cons}
use Rattle.repl_model.specs.Words.{all_differ, In, any_from, some_passes, only_one, in_either, found_in, beside_itself, Embeds, embeds_differ, embeds_filter_map}

-- ---- tests

-- if the first fails or the second passes, and the first passes, the second does
pub or_else : (a b : Bool) → (not a || b) ≡ true → a ≡ true → b ≡ true
or_else true b e f = e
or_else false b e f = absurd (false≢true f)

-- ---- what a function gives

-- what a function gives embeds in the elements at which it gives it
pub embeds_given : {X Y : Type 0} (f : X → Option Y) (xs : List X) → Embeds (λ y x. f x ≡ Some y) (filter_map f xs) xs
embeds_given f [] = tt
embeds_given {X} {Y} f (x ∷ xs) = by_one (f x) refl (embeds_given f xs)
  where
    later : (ys : List Y) → Embeds (λ y x. f x ≡ Some y) ys xs → Embeds (λ y x. f x ≡ Some y) ys (x ∷ xs)
    later [] h = tt
    later (y ∷ ys) h = inr h

    by_one : (o : Option Y) → f x ≡ o → Embeds (λ y x. f x ≡ Some y) (filter_map f xs) xs → Embeds (λ y x. f x ≡ Some y) (cons_option o (filter_map f xs)) (x ∷ xs)
    by_one None e h = later (filter_map f xs) h
    by_one (Some y) e h = inl (e, h)

-- if a function gives something at each element, it gives as many
pub given_length : {X Y : Type 0} (f : X → Option Y) (xs : List X) → list_all (λ x. is_some (f x)) xs ≡ true → length (filter_map f xs) ≡ length xs
given_length f [] e = refl
given_length {X} {Y} f (x ∷ xs) e = by_one (f x) (and_parts (is_some (f x)) (list_all (λ x. is_some (f x)) xs) e).0 (given_length f xs (and_parts (is_some (f x)) (list_all (λ x. is_some (f x)) xs) e).1)
  where
    by_one : (o : Option Y) → is_some o ≡ true → length (filter_map f xs) ≡ length xs → length (cons_option o (filter_map f xs)) ≡ suc (length xs)
    by_one None some h = absurd (false≢true some)
    by_one (Some y) some h = ap suc h

-- ---- nothing twice

-- the count of a list with one element before
pub counted : {X : Type 0} (p : X → Bool) (x : X) (xs : List X) → count_by p (x ∷ xs) ≡ cond (p x) 1 0 + count_by p xs
counted p x xs = sum_by-cons (λ y. cond (p y) 1 0) x xs

-- an element that passes is counted
pub any_counts : {X : Type 0} (p : X → Bool) (xs : List X) → list_any p xs ≡ true → 1 ≤ count_by p xs
any_counts p [] e = absurd (false≢true e)
any_counts {X} p (x ∷ xs) e = subst (λ n. 1 ≤ n) (sym (counted p x xs)) (by_test (p x) (any_counts p xs) e)
  where
    by_test : (b : Bool) → (list_any p xs ≡ true → 1 ≤ count_by p xs) → (b || list_any p xs) ≡ true → 1 ≤ cond b 1 0 + count_by p xs
    by_test true rest e = omega arith
    by_test false rest e = let more = rest e in omega arith

-- if of those like each element there is at most one, no two are alike
pub counted_differ : {X : Type 0} (same : X → X → Bool) → ((x : X) → same x x ≡ true) → (xs : List X) → ((x : X) → In x xs → count_by (same x) xs ≤ 1) → all_differ same xs ≡ true
counted_differ same itself [] few = refl
counted_differ {X} same itself (x ∷ xs) few = and_from (not (list_any (same x) xs)) (all_differ same xs) (by_any (list_any (same x) xs) refl) (counted_differ same itself xs (λ y i. fewer y (few y (inr i))))
  where
    here : 1 + count_by (same x) xs ≤ 1
    here = subst (λ n. n ≤ 1) (counted (same x) x xs ∙ ap (λ (b : Bool). cond b 1 0 + count_by (same x) xs) (itself x)) (few x (inl refl))

    by_any : (b : Bool) → list_any (same x) xs ≡ b → not b ≡ true
    by_any false e = refl
    by_any true e = let more = any_counts (same x) xs e in let most = here in absurd (omega arith)

    fewer : (y : X) → count_by (same y) (x ∷ xs) ≤ 1 → count_by (same y) xs ≤ 1
    fewer y most = by_test (same y x) (subst (λ n. n ≤ 1) (counted (same y) x xs) most)
      where
        by_test : (b : Bool) → cond b 1 0 + count_by (same y) xs ≤ 1 → count_by (same y) xs ≤ 1
        by_test true most = omega arith
        by_test false most = omega arith

-- two lists without two that are alike, and without one that is like one of the other's, have none together
pub differ_together : {X : Type 0} (same : X → X → Bool) (xs ys : List X) → all_differ same xs ≡ true → all_differ same ys ≡ true → ((x y : X) → In x xs → In y ys → same x y ≡ true → ⊥) → all_differ same (xs ++ ys) ≡ true
differ_together same [] ys one two apart = two
differ_together {X} same (x ∷ xs) ys one two apart =
    let both = and_parts (not (list_any (same x) xs)) (all_differ same xs) one in
    and_from (not (list_any (same x) (xs ++ ys))) (all_differ same (xs ++ ys))
    (not_from_false (list_any (same x) (xs ++ ys)) (false_from_ne_true (list_any (same x) (xs ++ ys)) (λ some. let r = some_passes (same x) (xs ++ ys) some in by_list r.0 r.2 both.0 (in_either xs ys r.0 r.1))))
    (differ_together same xs ys both.1 two (λ a b i j e. apart a b (inr i) j e))
  where
    by_list : (y : X) → same x y ≡ true → not (list_any (same x) xs) ≡ true → In y xs ⊎ In y ys → ⊥
    by_list y e none (inl i) = both_ways (list_any (same x) xs) (not-true (list_any (same x) xs) none) (any_from (same x) xs y i e)
    by_list y e none (inr j) = apart x y (inl refl) j e

-- no two that a function gives are alike by their names, if another function gives these names and they differ
pub named_apart : {E X Y : Type 0} (name : X → Y) (same : Y → Y → Bool) (f : E → Option X) (g : E → Option Y) → ((e : E) (x : X) → f e ≡ Some x → g e ≡ Some (name x)) → (es : List E) → all_differ same (filter_map g es) ≡ true → all_differ (λ a b. same (name a) (name b)) (filter_map f es) ≡ true
named_apart {E} {X} {Y} name same f g names es = embeds_differ (λ x y. name x ≡ y) (λ a b. same (name a) (name b)) same (λ x z y v p q e. ap₂ same (sym p) (sym q) ∙ e) (filter_map f es) (filter_map g es)
    (embeds_filter_map (λ x y. name x ≡ y) f g es es (beside_itself (λ a b. IfSome (f a) (λ x. (y : Y) × (g b ≡ Some y) × (name x ≡ y))) (λ e. by_one e (f e) refl) es))
  where
    by_one : (e : E) (o : Option X) → f e ≡ o → IfSome o (λ x. (y : Y) × (g e ≡ Some y) × (name x ≡ y))
    by_one e None is = tt
    by_one e (Some x) is = (name x, names e x is, refl)

-- what a filter keeps embeds in the elements that pass its test
pub embeds_kept : {X : Type 0} (p : X → Bool) (xs : List X) → Embeds (λ y x. (y ≡ x) × (p x ≡ true)) (filter p xs) xs
embeds_kept p [] = tt
embeds_kept {X} p (x ∷ xs) = by_test (p x) refl (embeds_kept p xs)
  where
    later : (ys : List X) → Embeds (λ y x. (y ≡ x) × (p x ≡ true)) ys xs → Embeds (λ y x. (y ≡ x) × (p x ≡ true)) ys (x ∷ xs)
    later [] h = tt
    later (y ∷ ys) h = inr h

    by_test : (b : Bool) → p x ≡ b → Embeds (λ y x. (y ≡ x) × (p x ≡ true)) (filter p xs) xs → Embeds (λ y x. (y ≡ x) × (p x ≡ true)) (cond b (x ∷ filter p xs) (filter p xs)) (x ∷ xs)
    by_test true e h = inl ((refl, e), h)
    by_test false e h = later (filter p xs) h

-- something is found if an element passes
pub found_some : {X : Type 0} (p : X → Bool) (xs : List X) (x : X) → In x xs → p x ≡ true → is_some (find p xs) ≡ true
found_some p [] x i e = absurd i
found_some {X} p (y ∷ ys) x (inl same) e = ap (λ (b : Bool). is_some (cond b (Some y) (find p ys))) (ap p (sym same) ∙ e)
found_some {X} p (y ∷ ys) x (inr i) e = by_test (p y) (found_some p ys x i e)
  where
    by_test : (b : Bool) → is_some (find p ys) ≡ true → is_some (cond b (Some y) (find p ys)) ≡ true
    by_test true h = refl
    by_test false h = h

-- an element that passes is found, if those that pass are alike and no two of the list are
pub found_alone : {X : Type 0} (p : X → Bool) (same : X → X → Bool) (xs : List X) (x : X) → all_differ same xs ≡ true → ((a b : X) → p a ≡ true → p b ≡ true → same a b ≡ true) → In x xs → p x ≡ true → find p xs ≡ Some x
found_alone {X} p same xs x differ alike i e = by_found (find p xs) refl
  where
    by_found : (o : Option X) → find p xs ≡ o → o ≡ Some x
    by_found None none = absurd (false≢true (sym (ap (λ (o : Option X). is_some o) none) ∙ found_some p xs x i e))
    by_found (Some y) found = let r = found_in p xs y found in ap Some (only_one same xs y x differ r.0 i (alike y x r.1 e) (alike x y e r.1))
