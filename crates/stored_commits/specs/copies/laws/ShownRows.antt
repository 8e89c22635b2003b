-- What the after-images of a change row show of the row that they are of: its registered columns, and its key.
use Rattle.std.proofs.Common.{◌≡◌, ℕ, zero, suc, ◌+◌, ◌≤◌, ◌<◌, Bool, true, false, cond, not, ◌||◌, List, [], ◌∷◌, length, get_or, inl, inr, refl, ap, ◌∙◌, arith, ◌==◌, eqb-true}
use Rattle.std.specs.List.{AllByRecursion, position_or_len, range_with_len}
use Rattle.std.proofs.lemmas.List.FromFn.{get_or-map-range_with_len}
use Rattle.repl_model.specs.Words.{Values, images, CdRow, all_places, is_among, are_among, SourceTable, imaged_row, key_of, In, at_one, passes_at, some_passes}
use Rattle.repl_types.specs.declared.value.Value.TheVariants.{Null}
use Rattle.stored_commits.specs.copies.ChangedCopies.{image_of, key_after}

-- the image of a column among the registered ones is its value
pub image_is : (places : List ℕ) (row : Values) (column : ℕ) → is_among places column ≡ true → image_of places (images places row) column ≡ get_or row column Null
image_is [] row column e = absurd cc
image_is (place ∷ places) row column e = by_first (place == column) refl e (image_is places row column)
  where
    later : (n : ℕ) → 1 + n ≡ suc n
    later n = omega arith

    by_first : (b : Bool) → (place == column) ≡ b → (b || is_among places column) ≡ true → (is_among places column ≡ true → image_of places (images places row) column ≡ get_or row column Null)
        → get_or (images (place ∷ places) row) (cond (not b) (1 + position_or_len (λ p. p == column) places) 0) Null ≡ get_or row column Null
    by_first true is e rest = ap (λ (c : ℕ). get_or row c Null) (eqb-true place column is)
    by_first false is e rest = ap (λ (n : ℕ). get_or (images (place ∷ places) row) n Null) (later (position_or_len (λ p. p == column) places)) ∙ rest e

-- numbers of a range are below its end
range_below : (a n m : ℕ) → a + n ≤ m → AllByRecursion (λ k. k < m) (range_with_len a n)
range_below a zero m h = tt
range_below a (suc n) m h = (omega (arith, h), range_below (a + 1) n m (omega (arith, h)))

-- the registered columns are columns of the table
pub column_there : (source : SourceTable) → are_among (all_places source.def) source.reg.after ≡ true → (column : ℕ) → is_among source.reg.after column ≡ true → column < length source.def.columns
column_there source places column e =
    let n = length source.def.columns in
    let own = some_passes (λ p. p == column) source.reg.after e in
    let all = some_passes (λ p. p == own.0) (all_places source.def) (passes_at (is_among (all_places source.def)) source.reg.after own.0 places own.1) in
    let below : all.0 < n = at_one (λ k. k < n) (all_places source.def) all.0 (range_below 0 n n (omega arith)) all.1 in
    omega (arith, below, eqb-true all.0 own.0 all.2, eqb-true own.0 column own.2)

module _ (source : SourceTable) (places : are_among (all_places source.def) source.reg.after ≡ true) (change : CdRow) (row : Values) (is : change.after ≡ images source.reg.after row) where
  -- the row of after-images has the row's values in the registered columns
  pub value_shown : (column : ℕ) → is_among source.reg.after column ≡ true → get_or (imaged_row source change) column Null ≡ get_or row column Null
  value_shown column e =
      get_or-map-range_with_len (image_of source.reg.after change.after) 0 (length source.def.columns) column column Null (column_there source places column e) (omega arith)
      ∙ ap (λ (values : Values). image_of source.reg.after values column) is
      ∙ image_is source.reg.after row column e

  -- and so in columns among these
  values_shown : (columns : List ℕ) → ((column : ℕ) → In column columns → is_among source.reg.after column ≡ true) → images columns (imaged_row source change) ≡ images columns row
  values_shown [] among = refl
  values_shown (c ∷ cs) among = λ i. value_shown c (among c (inl refl)) i ∷ values_shown cs (λ column j. among column (inr j)) i

  -- so it has the key of the row
  pub key_shown : are_among source.reg.after source.def.key ≡ true → key_after source change ≡ key_of source.def row
  key_shown key = values_shown source.def.key (λ column i. passes_at (is_among source.reg.after) source.def.key column key i)
