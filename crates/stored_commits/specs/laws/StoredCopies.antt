-- A copy of a stored table of the source: at each key, what a member copies of the row there.
use Rattle.std.proofs.Common.{◌≡◌, ℕ, Bool, true, false, cond, List, [], ◌∷◌, map, Option, Some, None, ◌⊎◌, inl, inr, refl, sym, ap, subst, ◌∙◌, filter, Less}
use Rattle.std.specs.List.{AllByRecursion}
use Rattle.std.specs.FinMap.{entries}
use Rattle.std.proofs.lemmas.Bool.{both_ways}
use Rattle.std.proofs.lemmas.Option.{none-some, same_Some}
use Rattle.world_store.specs.Words.{IsKey, IsRow, key_spelling, row_spelling, one_whole, one_row, copy_spelling, table_from_rows, AllAfter, IsRising, differ, same_is, same_itself}
use Rattle.repl_model.specs.Words.{bytes_cmp, Values, TableDef, all_weaker, Member, SourceTable, source_at, user_copy, is_selected, target_row, Rows}
use Rattle.keep_core.specs.Contents.{Table, same_key, set_key}
use Rattle.stored_commits.specs.records.SourceTables.{rows_table, RowsStand}
use Rattle.stored_commits.specs.copies.ChangedCopies.{Storing, as_copy, timed_copy, copy_table}
use Rattle.stored_commits.specs.records.laws.StandingRows.{table_of_entries, standing_fit, standing_rise}

-- a row under its key
abbrev Entry : Type 0
Entry = Values × Values

-- rows whose spellings are equal are equal
same_row : (a b : Values) → IsRow a → IsRow b → row_spelling a ≡ row_spelling b → a ≡ b
same_row = one_whole IsRow row_spelling one_row

-- a key after another isn't that one
after_differs : (k l : List ℕ) → bytes_cmp k l ≡ Less → same_key l k ≡ false
after_differs k l less = by_test (same_key l k) refl
  where
    by_test : (b : Bool) → same_key l k ≡ b → b ≡ false
    by_test true e = absurd (both_ways (same_key k l) (differ k l less) (subst (λ (m : List ℕ). same_key k m ≡ true) (sym (same_is l k e)) (same_itself k)))
    by_test false e = refl

module _ (stored_as : Storing) (member : Member) where
  -- what a copy has of a row whose key was last changed at a time: what the member copies of it, if it selects it
  abbrev pub shown : ℕ → Values → Option (List ℕ)
  shown time row = cond (is_selected member row) (Some (stored_as time (target_row member row))) None

  -- a copy has at a key what it has of the row that is stored there
  abbrev pub Shows : ℕ → Option (List ℕ) → Option (List ℕ) → Type 0
  Shows time stored copied = ((stored ≡ None) × (copied ≡ None)) ⊎ ((row : Values) × IsRow row × (stored ≡ Some (row_spelling row)) × (copied ≡ shown time row))

  -- the one table is the copy of the other, with the time of each key's last change
  abbrev pub IsCopyOf : (List ℕ → ℕ) → Table → Table → Type 0
  IsCopyOf time stored copied = (q : List ℕ) → Shows (time q) (stored q) (copied q)

  -- ---- at a key

  -- a copy has nothing at a key if nothing is stored there
  pub shows_none : (time : ℕ) (stored copied : Option (List ℕ)) → Shows time stored copied → stored ≡ None → copied ≡ None
  shows_none time stored copied (inl a) e = a.1
  shows_none time stored copied (inr a) e = absurd (none-some (row_spelling a.0) (sym e ∙ a.2))

  -- and what it has of a row that is stored there
  pub shows_row : (time : ℕ) (stored copied : Option (List ℕ)) (row : Values) → Shows time stored copied → IsRow row → stored ≡ Some (row_spelling row) → copied ≡ shown time row
  shows_row time stored copied row (inl a) fit e = absurd (none-some (row_spelling row) (sym a.0 ∙ e))
  shows_row time stored copied row (inr a) fit e = a.3 ∙ ap (shown time) (same_row a.0 row a.1 fit (same_Some (row_spelling a.0) (row_spelling row) (sym a.2 ∙ e)))

  -- so it has one thing
  shows_one : (time : ℕ) (stored a b : Option (List ℕ)) → Shows time stored a → Shows time stored b → a ≡ b
  shows_one time stored a b s (inl none) = shows_none time stored a s none.0 ∙ sym none.1
  shows_one time stored a b s (inr some) = shows_row time stored a some.0 s some.1 some.2 ∙ sym some.3

  -- a table has one copy
  pub one_copy : (time : List ℕ → ℕ) (stored a b : Table) → IsCopyOf time stored a → IsCopyOf time stored b → a ≡ b
  one_copy time stored a b s r = λ i q. shows_one (time q) (stored q) (a q) (b q) (s q) (r q) i

  -- ---- after a change

  module _ (time : List ℕ → ℕ) (stored copied : Table) (is : IsCopyOf time stored copied) (k : List ℕ) where
    -- the copy after a row is stored at a time
    pub put_copied : (unit_time : ℕ) (row : Values) → IsRow row → IsCopyOf (λ q. cond (same_key k q) unit_time (time q)) (set_key stored k (Some (row_spelling row))) (set_key copied k (shown unit_time row))
    put_copied unit_time row fit q = by_test (same_key k q)
      where
        by_test : (b : Bool) → Shows (cond b unit_time (time q)) (cond b (Some (row_spelling row)) (stored q)) (cond b (shown unit_time row) (copied q))
        by_test true = inr (row, fit, refl, refl)
        by_test false = is q

    -- and after what is stored at a key is removed, with any time there
    pub removed_copied : (later : List ℕ → ℕ) → ((q : List ℕ) → same_key k q ≡ false → later q ≡ time q) → IsCopyOf later (set_key stored k None) (set_key copied k None)
    removed_copied later others q = by_test (same_key k q) refl
      where
        by_test : (b : Bool) → same_key k q ≡ b → Shows (later q) (cond b None (stored q)) (cond b None (copied q))
        by_test true e = inl (refl, refl)
        by_test false e = subst (λ (n : ℕ). Shows n (stored q) (copied q)) (sym (others q e)) (is q)

  -- ---- rows in the order of their keys

  module _ (time : List ℕ → ℕ) where
    -- what is stored of a row under its key, if it is selected
    abbrev stored_of : Entry → Option (List ℕ)
    stored_of e = Some (stored_as (time (key_spelling e.0)) (target_row member e.1))

    -- the copy of rows
    abbrev copy_of : List Entry → Table
    copy_of es = timed_copy stored_as time member es

    -- the copy of one more row: it is before the others, if it is selected
    copy_first : (e : Entry) (es : List Entry) (q : List ℕ) → copy_of (e ∷ es) q ≡ cond (is_selected member e.1) (cond (same_key (key_spelling e.0) q) (stored_of e) (copy_of es q)) (copy_of es q)
    copy_first e es q = by_test (is_selected member e.1)
      where
        by_test : (b : Bool) → table_from_rows key_spelling (λ (bytes : List ℕ). bytes) (map (λ (r : Entry). (r.0, stored_as (time (key_spelling r.0)) (target_row member r.1))) (cond b (e ∷ filter (λ r. is_selected member r.1) es) (filter (λ r. is_selected member r.1) es))) q
            ≡ cond b (cond (same_key (key_spelling e.0) q) (stored_of e) (copy_of es q)) (copy_of es q)
        by_test true = refl
        by_test false = refl

    -- rows after a key leave nothing there
    none_before : (k : List ℕ) (es : List Entry) → AllAfter key_spelling k es → copy_of es k ≡ None
    none_before k [] all = refl
    none_before k (e ∷ es) all =
        copy_first e es k
        ∙ ap (λ (b : Bool). cond (is_selected member e.1) (cond b (stored_of e) (copy_of es k)) (copy_of es k)) (after_differs k (key_spelling e.0) all.0)
        ∙ alike (is_selected member e.1) ∙ none_before k es all.1
      where
        alike : (b : Bool) → cond b (copy_of es k) (copy_of es k) ≡ copy_of es k
        alike true = refl
        alike false = refl

    -- the copy of rows is a copy of their stored table
    copy_shows : (es : List Entry) → AllByRecursion (λ e. IsRow e.1) es → IsRising key_spelling es → IsCopyOf time (table_from_rows key_spelling row_spelling es) (copy_of es)
    copy_shows [] fit rising q = inl (refl, refl)
    copy_shows (e ∷ es) fit rising q = subst (Shows (time q) (table_from_rows key_spelling row_spelling (e ∷ es) q)) (sym (copy_first e es q)) (by_tests (same_key (key_spelling e.0) q) refl (is_selected member e.1) refl (copy_shows es fit.1 rising.1 q))
      where
        here_shown : same_key (key_spelling e.0) q ≡ true → (b : Bool) → is_selected member e.1 ≡ b → cond b (stored_of e) None ≡ shown (time q) e.1
        here_shown at b s = ap (λ (k : List ℕ). cond b (Some (stored_as (time k) (target_row member e.1))) None) (same_is (key_spelling e.0) q at) ∙ ap (λ (t : Bool). cond t (Some (stored_as (time q) (target_row member e.1))) None) (sym s)

        by_tests : (here : Bool) → same_key (key_spelling e.0) q ≡ here → (b : Bool) → is_selected member e.1 ≡ b → Shows (time q) (table_from_rows key_spelling row_spelling es q) (copy_of es q)
            → Shows (time q) (cond here (Some (row_spelling e.1)) (table_from_rows key_spelling row_spelling es q)) (cond b (cond here (stored_of e) (copy_of es q)) (copy_of es q))
        by_tests true at true s rest = inr (e.1, fit.0, refl, here_shown at true s)
        by_tests true at false s rest = inr (
          e.1,
          fit.0,
          refl,
          ap (copy_of es) (sym (same_is (key_spelling e.0) q at)) ∙ none_before (key_spelling e.0) es rising.0 ∙ here_shown at false s,
        )
        by_tests false at true s rest = rest
        by_tests false at false s rest = rest

    -- so is that of rows that stand under their keys
    pub rows_copied : (def : TableDef) (rows : Rows) → RowsStand def rows → IsCopyOf time (rows_table rows) (copy_of (entries rows))
    rows_copied def rows stand = subst (λ (stored : Table). IsCopyOf time stored (copy_of (entries rows))) (sym (table_of_entries (entries rows)))
        (copy_shows (entries rows) (all_weaker (λ (e : Entry). IsKey e.0 × IsRow e.1) (λ (e : Entry). IsRow e.1) (entries rows) (λ e fit. fit.1) (standing_fit def rows stand)) (standing_rise def rows stand))

-- ---- user copies

-- rows of a user copy are stored alike, whatever the times
user_rows : (member : Member) (time : List ℕ → ℕ) (es : List Entry) → table_from_rows key_spelling copy_spelling (map (λ (r : Entry). (r.0, record { row = r.1 })) (map (λ (r : Entry). (r.0, target_row member r.1)) es))
    ≡ table_from_rows key_spelling (λ (bytes : List ℕ). bytes) (map (λ (r : Entry). (r.0, as_copy (time (key_spelling r.0)) (target_row member r.1))) es)
user_rows member time [] = refl
user_rows member time (e ∷ es) = λ i q. cond (same_key (key_spelling e.0) q) (Some (row_spelling (target_row member e.1))) (user_rows member time es i q)

-- so the stored table of a user copy is a stored copy of the rows of the source
pub user_copy_is : (source : SourceTable) (member : Member) (point : ℕ) (time : List ℕ → ℕ) → copy_table source member point ≡ timed_copy as_copy time member (entries (source_at source.def source.log point))
unfolding user_copy
user_copy_is source member point time = user_rows member time (filter (λ (r : Entry). is_selected member r.1) (entries (source_at source.def source.log point)))
