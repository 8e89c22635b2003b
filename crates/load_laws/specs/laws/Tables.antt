-- Tables in which rows are put, one after another.
use Rattle.std.proofs.Common.{◌≡◌, ◌⊎◌, inl, inr, ℕ, Bool, true, false, cond, List, [], ◌∷◌, ◌++◌, Option, Some, None, refl, sym, ap, ◌∙◌}
use Rattle.std.proofs.lemmas.Bool.{false≢true}
use Rattle.std.proofs.lemmas.List.Sums.{fold-append}
use Rattle.world_store.specs.Words.{table_from_rows, same_is, same_itself, no_rows}
use Rattle.repl_model.specs.Words.{In}
use Rattle.keep_core.specs.Contents.{Table, same_key, set_key}
use Rattle.load_laws.specs.planned.Planned.{with_rows}

module _ {A X : Type 0} (key : A → List ℕ) where
  -- rows of one key are one
  abbrev pub KeysTell : List (A × X) → Type 0
  KeysTell rows = (r s : A × X) → In r rows → In s rows → key r.0 ≡ key s.0 → r ≡ s

  -- no row has this key
  abbrev HasNoneAt : List (A × X) → List ℕ → Type 0
  HasNoneAt rows k = (row : A × X) → In row rows → key row.0 ≡ k → ⊥

  -- a row more has another key
  none_more : (r : A × X) (rs : List (A × X)) (k : List ℕ) → same_key (key r.0) k ≡ false → HasNoneAt rs k → HasNoneAt (r ∷ rs) k
  none_more r rs k other none row (inl e) same = false≢true (sym other ∙ ap (λ (a : A × X). same_key (key a.0) k) (sym e) ∙ ap (same_key (key row.0)) (sym same) ∙ same_itself (key row.0))
  none_more r rs k other none row (inr i) same = none row i same

module _ {A X : Type 0} (key : A → List ℕ) (value : X → List ℕ) where
  -- one of the rows has this key, and its value is what is there
  abbrev HasRowAt : List (A × X) → List ℕ → Option (List ℕ) → Type 0
  HasRowAt rows k there = (row : A × X) × In row rows × (key row.0 ≡ k) × (there ≡ Some (value row.1))

  -- after rows were put, what stands at a key is the value of a row, or, if none has this key, what stood there
  put_at_key : (rows : List (A × X)) (t : Table) (k : List ℕ) → HasRowAt rows k (with_rows key value rows t k) ⊎ (HasNoneAt key rows k × (with_rows key value rows t k ≡ t k))
  put_at_key [] t k = inr (λ row i e. absurd i, refl)
  put_at_key (r ∷ rs) t k = by_later (put_at_key rs (set_key t (key r.0) (Some (value r.1))) k) (same_key (key r.0) k) refl
    where
      later : Table
      later = with_rows key value (r ∷ rs) t

      by_later : HasRowAt rs k (later k) ⊎ (HasNoneAt key rs k × (later k ≡ set_key t (key r.0) (Some (value r.1)) k)) → (b : Bool) → same_key (key r.0) k ≡ b → HasRowAt (r ∷ rs) k (later k) ⊎ (HasNoneAt key (r ∷ rs) k × (later k ≡ t k))
      by_later (inl a) b e = inl (a.0, inr a.1, a.2, a.3)
      by_later (inr a) true e = inl (r, inl refl, same_is (key r.0) k e, a.1 ∙ ap (λ (b : Bool). cond b (Some (value r.1)) (t k)) e)
      by_later (inr a) false e = inr (none_more key r rs k e a.0, a.1 ∙ ap (λ (b : Bool). cond b (Some (value r.1)) (t k)) e)

  -- what stands at a key in a table of rows is the value of a row, or nothing if none has this key
  found_at_key : (rows : List (A × X)) (k : List ℕ) → HasRowAt rows k (table_from_rows key value rows k) ⊎ (HasNoneAt key rows k × (table_from_rows key value rows k ≡ None))
  found_at_key [] k = inr (λ row i e. absurd i, refl)
  found_at_key (r ∷ rs) k = by_test (found_at_key rs k) (same_key (key r.0) k) refl
    where
      by_test : HasRowAt rs k (table_from_rows key value rs k) ⊎ (HasNoneAt key rs k × (table_from_rows key value rs k ≡ None)) → (b : Bool) → same_key (key r.0) k ≡ b → HasRowAt (r ∷ rs) k (table_from_rows key value (r ∷ rs) k) ⊎ (HasNoneAt key (r ∷ rs) k × (table_from_rows key value (r ∷ rs) k ≡ None))
      by_test rest true e = inl (r, inl refl, same_is (key r.0) k e, ap (λ (b : Bool). cond b (Some (value r.1)) (table_from_rows key value rs k)) e)
      by_test (inl a) false e = inl (a.0, inr a.1, a.2, ap (λ (b : Bool). cond b (Some (value r.1)) (table_from_rows key value rs k)) e ∙ a.3)
      by_test (inr a) false e = inr (none_more key r rs k e a.0, ap (λ (b : Bool). cond b (Some (value r.1)) (table_from_rows key value rs k)) e ∙ a.1)

  -- rows that are put after others
  pub with_more : (rows more : List (A × X)) (t : Table) → with_rows key value (rows ++ more) t ≡ with_rows key value more (with_rows key value rows t)
  with_more rows more t = fold-append (λ (u : Table) (r : A × X). set_key u (key r.0) (Some (value r.1))) t rows more

  -- two lists with the same rows, of which those of one key are one, make the same table
  pub same_rows : (rows others : List (A × X)) (t : Table) → ((row : A × X) → In row rows → In row others) → ((row : A × X) → In row others → In row rows) → KeysTell key rows → with_rows key value rows t ≡ with_rows key value others t
  same_rows rows others t there back one = λ i k. at k (put_at_key rows t k) (put_at_key others t k) i
    where
      at : (k : List ℕ) → HasRowAt rows k (with_rows key value rows t k) ⊎ (HasNoneAt key rows k × (with_rows key value rows t k ≡ t k)) → HasRowAt others k (with_rows key value others t k) ⊎ (HasNoneAt key others k × (with_rows key value others t k ≡ t k)) → with_rows key value rows t k ≡ with_rows key value others t k
      at k (inl a) (inl b) = a.3 ∙ ap (λ (r : A × X). Some (value r.1)) (one a.0 b.0 a.1 (back b.0 b.1) (a.2 ∙ sym b.2)) ∙ sym b.3
      at k (inl a) (inr b) = absurd (b.0 a.0 (there a.0 a.1) a.2)
      at k (inr a) (inl b) = absurd (a.0 b.0 (back b.0 b.1) b.2)
      at k (inr a) (inr b) = a.1 ∙ sym b.1

  -- a table of rows of which those of one key are one is that in which they are put
  pub rows_put : (rows : List (A × X)) → KeysTell key rows → table_from_rows key value rows ≡ with_rows key value rows no_rows
  rows_put rows one = λ i k. at k (found_at_key rows k) (put_at_key rows no_rows k) i
    where
      at : (k : List ℕ) → HasRowAt rows k (table_from_rows key value rows k) ⊎ (HasNoneAt key rows k × (table_from_rows key value rows k ≡ None)) → HasRowAt rows k (with_rows key value rows no_rows k) ⊎ (HasNoneAt key rows k × (with_rows key value rows no_rows k ≡ None)) → table_from_rows key value rows k ≡ with_rows key value rows no_rows k
      at k (inl a) (inl b) = a.3 ∙ ap (λ (r : A × X). Some (value r.1)) (one a.0 b.0 a.1 b.1 (a.2 ∙ sym b.2)) ∙ sym b.3
      at k (inl a) (inr b) = absurd (b.0 a.0 a.1 a.2)
      at k (inr a) (inl b) = absurd (a.0 b.0 b.1 b.2)
      at k (inr a) (inr b) = a.1 ∙ sym b.1
