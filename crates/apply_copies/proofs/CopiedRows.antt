-- Rows of a source are copied, one after another: proofs.
use Rattle.std.proofs.Common.{◌≡◌, ℕ, ◌+◌, ◌-◌, ◌^◌, ◌≤◌, min, Bool, true, false, cond, List, [], ◌∷◌, ◌++◌, length, map, append_assoc, append-nil, length-append, refl, sym, ap, subst, ◌∙◌, arith, ◌&&◌, ◌==◌, Option, Some, None, IfSome, Less}
use Rattle.std.proofs.lemmas.Bool.Decides.{nat_tests}
use Rattle.std.proofs.lemmas.List.{map-append}
use Rattle.std.proofs.lemmas.List.Elements.{filter-append}
use Rattle.world_store.specs.Words.{IsKey, IsRow, key_spelling, row_spelling, copy_spelling, CopyRow, is_before, table_from_rows, rows_after, AllBefore, IsRising, NextRow, after_all, after_first, after_next, fits_next, no_row, written_last, RowFits, no_rows, filter_few}
use Rattle.site_store.specs.Words.{Contents, Table, IsNextKey, IsLastKey, set_key, put_at, ShownBefore, adds_put, shown_before, any_seen, if_seen, if_both_seen}
use Rattle.repl_model.specs.Words.{same_area, bytes_cmp, Values, Area, all_filter, each_image, filter_none, Member, is_selected, target_row}
use Rattle.repl_types.specs.declared.area.Area.TheVariants as areas
use Rattle.rows_in_order.specs.laws.Changed.{rising_split}
use Rattle.stored_commits.specs.records.laws.StandingRows.{rows_apart}
use Rattle.apply_copies.specs.Copying.{CanBeCopied, LoadsSelected, LoadsRow, HasRows, selected, copied, LoadsNext, LoadsAll}
use Rattle.apply_copies.specs.Loading.{is_target}
use Rattle.apply_copies.specs.Rules.{target_rules}
use Rattle.apply_copies.specs.laws.Values.{target_row_fits}

-- ---- one row

module _ (number : ℕ) (member : Member) (key row : Values) where
  -- a row that isn't selected makes nothing
  pub loads_nothing : (c : Contents) → false ≡ is_selected member row → LoadsRow number member key row 0 c c
  loads_nothing c e = record { shown = λ n a cause h. h; loads = subst (λ (b : Bool). LoadsSelected b number member key row 0 c c) e (refl, refl) }

  -- a row that is selected makes a row of the copy
  pub loads_one : (copy : Values) (c d : Contents) → true ≡ is_selected member row → IsKey key → IsRow row → CanBeCopied member → copy ≡ target_row member row → d ≡ put_at c areas.Target number (key_spelling key) (Some (row_spelling copy)) → LoadsRow number member key row 1 c d
  loads_one copy c d e fit fits can is put =
      let put_row : d ≡ put_at c areas.Target number (key_spelling key) (Some (row_spelling (target_row member row))) = subst (λ (r : Values). d ≡ put_at c areas.Target number (key_spelling key) (Some (row_spelling r))) is put in
      record {
        shown = λ n. subst (ShownBefore (target_rules n) c) (sym put_row) (shown_before (target_rules n) (λ a t k f needed. needed, λ a t k value f unfit. unfit) c (put_at c areas.Target number (key_spelling key) (Some (row_spelling (target_row member row)))) (adds_put (target_rules n) c areas.Target number (key_spelling key) (row_spelling (target_row member row)) (λ area table. (key, fit, refl)) (λ area table. (record { row = target_row member row }, target_row_fits row fits.1 member can.fits, refl))));
        loads = subst (λ (b : Bool). LoadsSelected b number member key row 1 c d) e (refl, put_row);
      }

-- ---- rows in turn

-- rows that are done up to a key are, with the next row, done up to its key
pub done_next : {A X : Type 0} (key : A → List ℕ) {all : List (A × X)} (rows done : List (A × X)) (after : List ℕ) (row : A × X) → NextRow key rows after row → all ≡ done ++ rows_after key after rows → all ≡ (done ++ row ∷ []) ++ rows_after key (key row.0) rows
done_next {A} {X} key rows done after row next split =
    split
    ∙ ap (λ (l : List (A × X)). done ++ l) (after_first key rows after row next ∙ ap (λ (l : List (A × X)). row ∷ l) (sym (after_next key rows after row next)))
    ∙ sym (append_assoc done (row ∷ []) (rows_after key (key row.0) rows))

module _ (member : Member) where
  -- the row that a row makes, under its key
  abbrev copy_of : Values × Values → Values × CopyRow
  copy_of r = (r.0, record { row = target_row member r.1 })

  -- what one row more adds to the rows of a copy, if it is selected, and if it isn't
  selected_more : (rows : List (Values × Values)) (r : Values × Values) (t : Bool) → is_selected member r.1 ≡ t → selected member (rows ++ r ∷ []) ≡ selected member rows ++ cond t (r ∷ []) []
  selected_more rows r t e = filter-append (λ (q : Values × Values). is_selected member q.1) rows (r ∷ []) ∙ ap (λ (b : Bool). selected member rows ++ cond b (r ∷ []) []) e

  copied_more : (rows : List (Values × Values)) (r : Values × Values) → true ≡ is_selected member r.1 → copied member (rows ++ r ∷ []) ≡ copied member rows ++ copy_of r ∷ []
  copied_more rows r e = ap (map copy_of) (selected_more rows r true (sym e)) ∙ map-append copy_of (selected member rows) (r ∷ [])

  copied_same : (rows : List (Values × Values)) (r : Values × Values) → false ≡ is_selected member r.1 → copied member (rows ++ r ∷ []) ≡ copied member rows
  copied_same rows r e = ap (map copy_of) (selected_more rows r false (sym e) ∙ append-nil (selected member rows))

  -- rows of a copy are before the keys that their rows are before
  copied_before : (k : List ℕ) (rows : List (Values × Values)) → AllBefore key_spelling k rows → AllBefore key_spelling k (copied member rows)
  copied_before k rows before = each_image (λ (r : Values × CopyRow). bytes_cmp (key_spelling r.0) k ≡ Less) copy_of (selected member rows) (all_filter (λ (r : Values × Values). bytes_cmp (key_spelling r.0) k ≡ Less) (λ (r : Values × Values). is_selected member r.1) rows before)

  -- Of rows those up to a key were copied, which are so many of the copy.
  pub record IsPart (rows : List (Values × Values)) (after : List ℕ) (put : ℕ) (t : Table) : Type 0 where
    pub done : List (Values × Values)
    pub split : rows ≡ done ++ rows_after key_spelling after rows
    pub table : t ≡ table_from_rows key_spelling copy_spelling (copied member done)
    pub count : put ≡ length (selected member done)

  -- the next row is copied
  part_next : (number table : ℕ) (rows : List (Values × Values)) (s d e : Contents) (after : List ℕ) (put sum n : ℕ) (key row : Values) → HasRows table rows s → IsKey key → IsRow row → IsNextKey (s areas.Source table) after (key_spelling key) (row_spelling row) → sum ≡ min (put + n) (2 ^ 64 - 1) → IsPart rows after put (d areas.Target number) → LoadsRow number member key row n d e → IsPart rows (key_spelling key) sum (e areas.Target number)
  part_next number table rows s d e after put sum n key row has fit fits next sums part loads = pick (is_selected member row) refl loads.loads
    where
      r : Values × Values
      r = (key, row)

      here : NextRow key_spelling rows after r
      here = fits_next (RowFits IsKey IsRow) key_spelling row_spelling rows after r rows_apart has.fit (fit, fits) has.rises (subst (λ (t : Table). IsNextKey t after (key_spelling key) (row_spelling row)) has.is next)

      back : List (Values × Values)
      back = rows_after key_spelling (key_spelling key) rows

      split : rows ≡ (part.done ++ r ∷ []) ++ back
      split = done_next key_spelling rows part.done after r here part.split

      at : rows ≡ part.done ++ r ∷ back
      at = split ∙ append_assoc part.done (r ∷ []) back

      before : AllBefore key_spelling (key_spelling key) (copied member part.done)
      before = copied_before (key_spelling key) part.done (rising_split key_spelling part.done r back (subst (IsRising key_spelling) at has.rises)).0

      few : length part.done + 1 ≤ length rows
      few = let long : length rows ≡ length part.done + length (r ∷ back) = ap length at ∙ length-append part.done (r ∷ back) in omega (arith, long)

      pick : (t : Bool) → is_selected member row ≡ t → LoadsSelected t number member key row n d e → IsPart rows (key_spelling key) sum (e areas.Target number)
      pick true is loaded = record {
        done = part.done ++ r ∷ [];
        split = split;
        table = ap (λ (c : Contents). c areas.Target number) loaded.1 ∙ written_last key_spelling copy_spelling d areas.Target number (copy_of r) (copied member part.done) part.table before ∙ ap (table_from_rows key_spelling copy_spelling) (sym (copied_more part.done r (sym is)));
        count =
            let more : length (selected member (part.done ++ r ∷ [])) ≡ length (selected member part.done) + 1 = ap length (selected_more part.done r true is) ∙ length-append (selected member part.done) (r ∷ []) in
            omega (arith, sums, loaded.0, part.count, more, has.few, few, filter_few (λ (q : Values × Values). is_selected member q.1) part.done);
      }
      pick false is loaded = record {
        done = part.done ++ r ∷ [];
        split = split;
        table = ap (λ (c : Contents). c areas.Target number) loaded.1 ∙ part.table ∙ ap (table_from_rows key_spelling copy_spelling) (sym (copied_same part.done r (sym is)));
        count =
            let same : length (selected member (part.done ++ r ∷ [])) ≡ length (selected member part.done) = ap length (selected_more part.done r false is ∙ append-nil (selected member part.done)) in
            omega (arith, sums, loaded.0, part.count, same, has.few, few, filter_few (λ (q : Values × Values). is_selected member q.1) part.done);
      }

-- a test of numbers that fails either way round
pub other_number : (n m : ℕ) → (n == m) ≡ (m == n)
other_number n m = grind (arith, nat_tests)

-- a write at a target leaves all other tables
pub put_others : (number : ℕ) (k : List ℕ) (v : Option (List ℕ)) (c : Contents) (a : Area) (m : ℕ) → is_target number a m ≡ false → put_at c areas.Target number k v a m ≡ c a m
put_others number k v c a m other = ap (λ (b : Bool). cond b (set_key (c areas.Target number) k v) (c a m)) (ap (λ (b : Bool). same_area areas.Target a && b) (other_number number m) ∙ other)

-- a row that is put, or isn't, leaves all other tables
pub loaded_others : (number : ℕ) (member : Member) (key row : Values) (put : ℕ) (c d : Contents) → LoadsRow number member key row put c d → (a : Area) (m : ℕ) → is_target number a m ≡ false → d a m ≡ c a m
loaded_others number member key row put c d loads a m other = pick (is_selected member row) loads.loads
  where
    pick : (t : Bool) → LoadsSelected t number member key row put c d → d a m ≡ c a m
    pick true loaded = ap (λ (f : Contents). f a m) loaded.1 ∙ put_others number (key_spelling key) (Some (row_spelling (target_row member row))) c a m other
    pick false loaded = ap (λ (f : Contents). f a m) loaded.1

module _ (saw : Option Contents) (table number : ℕ) (member : Member) where
  -- The rows of a table of the source up to a key were copied to a target that had none.
  pub record HasLoaded (after : List ℕ) (put : ℕ) (c d : Contents) : Type 0 where
    pub others : (a : Area) (n : ℕ) → is_target number a n ≡ false → d a n ≡ c a n
    pub shown : (n : ℕ) → ShownBefore (target_rules n) c d
    pub copies : IfSome saw (λ s. (rows : List (Values × Values)) → HasRows table rows s → c areas.Target number ≡ no_rows → IsPart member rows after put (d areas.Target number))

  -- nothing is copied yet
  pub loaded_none : (c : Contents) → HasLoaded [] 0 c c
  loaded_none c = record {
    others = λ a n other. refl;
    shown = λ n a cause h. h;
    copies = if_seen saw (λ s. Unit {0}) (λ s. (rows : List (Values × Values)) → HasRows table rows s → c areas.Target number ≡ no_rows → IsPart member rows [] 0 (c areas.Target number)) (λ s none rows has empty. record { done = []; split = sym (after_all key_spelling [] rows has.some); table = empty; count = refl }) (any_seen saw);
  }

  -- the next row is copied
  pub loaded_next : (after : List ℕ) (put sum n : ℕ) (key : Values) (c d e : Contents) → IsKey key → sum ≡ min (put + n) (2 ^ 64 - 1) → HasLoaded after put c d → LoadsNext saw table number member after (Some (key, n)) d e → HasLoaded (key_spelling key) sum c e
  loaded_next after put sum n key c d e fit sums before step = record {
    others = λ a m other. loaded_others number member key step.0 n d e step.3 a m other ∙ before.others a m other;
    shown = λ n a cause h. before.shown n a cause (step.3.shown n a cause h);
    copies = if_both_seen saw
        (λ s. (rows : List (Values × Values)) → HasRows table rows s → c areas.Target number ≡ no_rows → IsPart member rows after put (d areas.Target number))
        (λ s. IsNextKey (s areas.Source table) after (key_spelling key) (row_spelling step.0))
        (λ s. (rows : List (Values × Values)) → HasRows table rows s → c areas.Target number ≡ no_rows → IsPart member rows (key_spelling key) sum (e areas.Target number))
        (λ s part next rows has empty. part_next member number table rows s d e after put sum n key step.0 has fit step.1 next sums (part rows has empty) step.3)
        before.copies step.2;
  }

  -- there is no next row, so all are copied
  pub loaded_all : (after : List ℕ) (put : ℕ) (c d e : Contents) → HasLoaded after put c d → LoadsNext saw table number member after None d e → LoadsAll saw table number member put c e
  loaded_all after put c d e before last = record {
    others = λ a n other. ap (λ (f : Contents). f a n) last.0 ∙ before.others a n other;
    shown = λ n. subst (ShownBefore (target_rules n) c) (sym last.0) (before.shown n);
    copies = if_both_seen saw
        (λ s. (rows : List (Values × Values)) → HasRows table rows s → c areas.Target number ≡ no_rows → IsPart member rows after put (d areas.Target number))
        (λ s. IsLastKey (s areas.Source table) after)
        (λ s. (rows : List (Values × Values)) → HasRows table rows s → c areas.Target number ≡ no_rows → (e areas.Target number ≡ table_from_rows key_spelling copy_spelling (copied member rows)) × (put ≡ length (selected member rows)))
        (λ s part ends rows has empty. whole s ends rows has (part rows has empty))
        before.copies last.1;
  }
    where
      whole : (s : Contents) → IsLastKey (s areas.Source table) after → (rows : List (Values × Values)) → HasRows table rows s → IsPart member rows after put (d areas.Target number) → (e areas.Target number ≡ table_from_rows key_spelling copy_spelling (copied member rows)) × (put ≡ length (selected member rows))
      whole s ends rows has part =
          let none = no_row key_spelling row_spelling rows after (subst (λ (t : Table). IsLastKey t after) has.is ends) in
          let all : part.done ≡ rows = sym (append-nil part.done) ∙ ap (λ (l : List (Values × Values)). part.done ++ l) (sym (filter_none (λ (r : Values × Values). is_before after (key_spelling r.0)) rows none)) ∙ sym part.split in (
            ap (λ (f : Contents). f areas.Target number) last.0 ∙ part.table ∙ ap (λ (l : List (Values × Values)). table_from_rows key_spelling copy_spelling (copied member l)) all,
            part.count ∙ ap (λ (l : List (Values × Values)). length (selected member l)) all,
          )
