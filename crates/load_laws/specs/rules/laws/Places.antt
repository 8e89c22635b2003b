-- Places of columns: those of names, those of a range, and those that rise.
use Rattle.std.proofs.Common.{◌≡◌, ℕ, zero, suc, ◌+◌, ◌<◌, ◌≤◌, Bool, true, false, cond, not, ◌⊎◌, inl, inr, List, [], ◌∷◌, get_or, length, Some, None, refl, sym, ap, subst, ◌∙◌, arith, ◌==◌, find, nat_lt, slice_get, bytes_eq}
use Rattle.std.specs.List.{list_all, list_any, position_or_len, range_with_len}
use Rattle.std.proofs.lemmas.Bool.{and_parts, and_from, cases_eq, eq-eqb, eqb-true, lt-ltb, ltb-true, or_left, or_right}
use Rattle.std.proofs.lemmas.List.Folds.{find_at}
use Rattle.std.proofs.lemmas.Option.{none-some, same_Some, cond_some, slice_get_cases, slice_get_within}
use Rattle.repl_model.specs.Words.{ColumnDef, all_differ, is_among, places_rise, In, all_pass_from, first_alone, found_in, embeds_differ, same_name}
use Rattle.spelled_defs.specs.Spelled.{column_place, column_places, names_column, named_places}
use Rattle.checked_defs.specs.Rules.{texts_differ}
use Rattle.load_laws.specs.rules.laws.Lists.{embeds_given}

-- ---- the element at a place

-- the element at a place is one of the list
pub at_place : {X : Type 0} (xs : List X) (n : ℕ) (x : X) → slice_get xs n ≡ Some x → In x xs
at_place [] n x e = absurd (none-some x e)
at_place (y ∷ ys) zero x e = inl (sym (same_Some y x e))
at_place (y ∷ ys) (suc n) x e = inr (at_place ys n x e)

-- alike elements stand at one place, if no two of the list are alike
pub place_alone : {X : Type 0} (same : X → X → Bool) (xs : List X) (m n : ℕ) (x y : X) → all_differ same xs ≡ true → slice_get xs m ≡ Some x → slice_get xs n ≡ Some y → same x y ≡ true → same y x ≡ true → m ≡ n
place_alone same [] m n x y differ e f alike back = absurd (none-some x e)
place_alone same (z ∷ zs) zero zero x y differ e f alike back = refl
place_alone {X} same (z ∷ zs) zero (suc n) x y differ e f alike back = absurd (first_alone same z zs differ y (at_place zs n y f) (ap (λ (a : X). same a y) (same_Some z x e) ∙ alike))
place_alone {X} same (z ∷ zs) (suc m) zero x y differ e f alike back = absurd (first_alone same z zs differ x (at_place zs m x e) (ap (λ (a : X). same a x) (same_Some z y f) ∙ back))
place_alone same (z ∷ zs) (suc m) (suc n) x y differ e f alike back = ap suc (place_alone same zs m n x y (and_parts (not (list_any (same z) zs)) (all_differ same zs) differ).1 e f alike back)

-- ---- the place of a name

-- the first column of a name is that at its place
pub name_at_place : (columns : List ColumnDef) (name : List ℕ) (p : ℕ) → column_place columns name ≡ Some p → find (λ column. bytes_eq name column.name) columns ≡ slice_get columns p
name_at_place columns name p e =
    let at = cond_some (nat_lt (position_or_len (λ column. bytes_eq name column.name) columns) (length columns)) (position_or_len (λ column. bytes_eq name column.name) columns) p e in
    find_at (λ column. bytes_eq name column.name) columns ∙ ap (slice_get columns) at.1

-- a place of a name is one of a column
pub place_within : (columns : List ColumnDef) (name : List ℕ) (p : ℕ) → column_place columns name ≡ Some p → p < length columns
place_within columns name p e =
    let at = cond_some (nat_lt (position_or_len (λ column. bytes_eq name column.name) columns) (length columns)) (position_or_len (λ column. bytes_eq name column.name) columns) p e in
    subst (λ n. n < length columns) at.1 (ltb-true (position_or_len (λ column. bytes_eq name column.name) columns) (length columns) at.0)

-- the column at the place of a name has the name
pub place_has_name : (columns : List ColumnDef) (name : List ℕ) (p : ℕ) → column_place columns name ≡ Some p → (column : ColumnDef) × (slice_get columns p ≡ Some column) × (bytes_eq name column.name ≡ true)
place_has_name columns name p e = by_case (slice_get_cases columns p).1
  where
    by_case : ((column : ColumnDef) × (p < length columns) × (slice_get columns p ≡ Some column) × (get_or columns p column ≡ column)) ⊎ ((length columns ≤ p) × (slice_get columns p ≡ None)) → (column : ColumnDef) × (slice_get columns p ≡ Some column) × (bytes_eq name column.name ≡ true)
    by_case (inl h) = (h.0, h.2, (found_in (λ (column : ColumnDef). bytes_eq name column.name) columns h.0 (name_at_place columns name p e ∙ h.2)).1)
    by_case (inr h) = let within = place_within columns name p e in absurd (omega arith)

-- the places of names differ, if the names do
pub places_apart : (columns : List ColumnDef) (names : List (List ℕ)) → texts_differ names ≡ true → all_differ ◌==◌ (column_places columns names) ≡ true
places_apart columns names = embeds_differ (λ p name. column_place columns name ≡ Some p) ◌==◌ bytes_eq alike (column_places columns names) names (embeds_given (column_place columns) names)
  where
    alike : (p q : ℕ) (a b : List ℕ) → column_place columns a ≡ Some p → column_place columns b ≡ Some q → (p == q) ≡ true → bytes_eq a b ≡ true
    alike p q a b e f same =
        let c = place_has_name columns a p e in
        let d = place_has_name columns b q f in
        let one : c.0 ≡ d.0 = same_Some c.0 d.0 (sym c.1 ∙ ap (slice_get columns) (eqb-true p q same) ∙ d.1) in
        ap (bytes_eq a) (same_name b d.0.name d.2 ∙ sym (ap (λ (x : ColumnDef). x.name) one)) ∙ c.2

-- ---- ranges

-- a number of a range is among its places
pub range_has : (a n p : ℕ) → a ≤ p → p < a + n → is_among (range_with_len a n) p ≡ true
range_has a zero p low high = absurd (omega arith)
range_has a (suc n) p low high = by_case (range_has (a + 1) n p) (cases_eq a p)
  where
    by_case : (a + 1 ≤ p → p < a + 1 + n → is_among (range_with_len (a + 1) n) p ≡ true) → (a ≡ p) ⊎ (a ≡ p → ⊥) → is_among (range_with_len a (suc n)) p ≡ true
    by_case rest (inl here) = or_left (a == p) (is_among (range_with_len (a + 1) n) p) (eq-eqb a p here)
    by_case rest (inr other) = or_right (a == p) (is_among (range_with_len (a + 1) n) p) (rest (omega arith) (omega arith))

-- the places of a range are in it
pub range_within : (a n p : ℕ) → In p (range_with_len a n) → (a ≤ p) × (p < a + n)
range_within a zero p i = absurd i
range_within a (suc n) p (inl same) = (omega arith, omega arith)
range_within a (suc n) p (inr i) = let r = range_within (a + 1) n p i in let low = r.0 in let high = r.1 in (omega arith, omega arith)

-- the places of a range rise
pub range_rises : (a n : ℕ) → places_rise (range_with_len a n) ≡ true
range_rises a zero = refl
range_rises a (suc n) = and_from (list_all (nat_lt a) (range_with_len (a + 1) n)) (places_rise (range_with_len (a + 1) n))
    (all_pass_from (nat_lt a) (range_with_len (a + 1) n) (λ p i. let low = (range_within (a + 1) n p i).0 in lt-ltb a p (omega arith))) (range_rises (a + 1) n)

-- ---- the places of some names

-- a place that names give is that of a column that one of them names
pub named_column : (names : List (List ℕ)) (a : ℕ) (columns : List ColumnDef) (p : ℕ) → In p (named_places names a columns) → (n : ℕ) × (column : ColumnDef) × (p ≡ a + n) × (slice_get columns n ≡ Some column) × (names_column names column ≡ true)
named_column names a [] p i = absurd i
named_column names a (c ∷ cs) p i = by_test (names_column names c) refl (named_column names (a + 1) cs p) i
  where
    later : (n : ℕ) × (column : ColumnDef) × (p ≡ a + 1 + n) × (slice_get cs n ≡ Some column) × (names_column names column ≡ true) → (n : ℕ) × (column : ColumnDef) × (p ≡ a + n) × (slice_get (c ∷ cs) n ≡ Some column) × (names_column names column ≡ true)
    later r = let same = r.2 in (suc r.0, r.1, omega arith, r.3, r.4)

    by_test : (b : Bool) → names_column names c ≡ b → (In p (named_places names (a + 1) cs) → (n : ℕ) × (column : ColumnDef) × (p ≡ a + 1 + n) × (slice_get cs n ≡ Some column) × (names_column names column ≡ true)) → In p (cond b (a ∷ named_places names (a + 1) cs) (named_places names (a + 1) cs)) → (n : ℕ) × (column : ColumnDef) × (p ≡ a + n) × (slice_get (c ∷ cs) n ≡ Some column) × (names_column names column ≡ true)
    by_test true e rest (inl here) = (0, c, omega arith, refl, e)
    by_test true e rest (inr j) = later (rest j)
    by_test false e rest j = later (rest j)

-- they rise
pub named_rise : (names : List (List ℕ)) (a : ℕ) (columns : List ColumnDef) → places_rise (named_places names a columns) ≡ true
named_rise names a [] = refl
named_rise names a (c ∷ cs) = by_test (names_column names c) (named_rise names (a + 1) cs)
  where
    by_test : (b : Bool) → places_rise (named_places names (a + 1) cs) ≡ true → places_rise (cond b (a ∷ named_places names (a + 1) cs) (named_places names (a + 1) cs)) ≡ true
    by_test true rest = and_from (list_all (nat_lt a) (named_places names (a + 1) cs)) (places_rise (named_places names (a + 1) cs))
        (all_pass_from (nat_lt a) (named_places names (a + 1) cs) (λ p i. let r = named_column names (a + 1) cs p i in let same = r.2 in lt-ltb a p (omega arith))) rest
    by_test false rest = rest

-- the place of a column that names give is one of its table's
pub named_within : (names : List (List ℕ)) (columns : List ColumnDef) (p : ℕ) → In p (named_places names 0 columns) → p < length columns
named_within names columns p i = let r = named_column names 0 columns p i in let within = slice_get_within columns r.0 r.1 r.3 in let same = r.2 in omega arith
