-- Change rows are dropped, one after another: proofs.
use Rattle.std.proofs.Common.{◌≡◌, ℕ, ◌+◌, ◌<◌, ◌≤◌, Bool, true, false, cond, inl, inr, List, [], ◌∷◌, ◌++◌, length, refl, sym, ap, subst, ◌∙◌, append_assoc, append-nil, arith, ◌⊎◌, ◌==◌, ◌&&◌, min, nat_lt, nat_le, Some, None, length-append}
use Rattle.std.specs.List.{AllByRecursion}
use Rattle.std.proofs.lemmas.Bool.{lt-ltb, le-ltb, le-leb, lt-leb}
use Rattle.std.proofs.lemmas.List.Elements.{filter-append}
use Rattle.world_store.specs.Words.{b64, sequence_spelling, length64, IsChangeRow, change_row_spelling, IsChangeKey, change_key_spelling, ChangeRow, CdKey, table_from_rows, AllAfter, first_row, no_first_row, all_some, written_first, RowFits}
use Rattle.site_store.specs.Words.{Contents, IsLastKey, put_at, set_key, ShownBefore, adds_remove}
use Rattle.repl_model.specs.Words.{same_area, all_weaker, all_append, filter_none, filter_all, Area}
use Rattle.repl_types.specs.declared.area.Area.TheVariants as areas
use Rattle.cd_tables.specs.Dropping.{greatest, HasNextChange, DropsNext, DropsUpto}
use Rattle.cd_tables.specs.StoredRows.{AreChangeRows, HasChangeRows, rows_upto, rows_above, row_rules}
use Rattle.cd_tables.specs.laws.ChangeKeys.{units_above}
use Rattle.cd_tables.specs.laws.ClearedTables.{key_removed}
use Rattle.cd_tables.proofs.FoundRows.{next_of_rows, none_of_rows}
use Rattle.cd_tables.proofs.RowsShown.{rows_shown}

-- Rows are parted into the first ones, of units up to a floor, which are counted, and those after a key.
pub record ArePartedAt (floor count : ℕ) (after : List ℕ) (rows : List (CdKey × ChangeRow)) : Type 0 where
  pub front : List (CdKey × ChangeRow)
  pub back : List (CdKey × ChangeRow)
  pub split : rows ≡ front ++ back
  pub low : AllByRecursion (λ r. r.0.commitseq ≤ floor) front
  pub count_is : count ≡ min (length front) greatest
  pub later : AllAfter change_key_spelling after back
  pub are : AreChangeRows back

-- The first change rows of a registration were dropped, up to a key, and counted.
pub record HasDropped (number floor count : ℕ) (after : List ℕ) (c d : Contents) : Type 0 where
  pub others : (a : Area) (n : ℕ) → (same_area areas.Cd a && (number == n)) ≡ false → d a n ≡ c a n
  pub left : (key value : List ℕ) → d areas.Cd number key ≡ Some value → c areas.Cd number key ≡ Some value
  pub rows : (rows : List (CdKey × ChangeRow)) → AreChangeRows rows → HasChangeRows number rows c → (p : ArePartedAt floor count after rows) × HasChangeRows number p.back d
  pub shown : ShownBefore row_rules c d

-- none were dropped yet
pub dropped_none : (number floor : ℕ) (c : Contents) → HasDropped number floor 0 [] c c
dropped_none number floor c = record {
  others = λ a n other. refl;
  left = λ key value has. has;
  rows = λ rows are has. (
    record {
      front = [];
      back = rows;
      split = refl;
      low = tt;
      count_is = refl;
      later = all_some change_key_spelling rows (all_weaker (RowFits IsChangeKey IsChangeRow) (λ r. 0 < length (change_key_spelling r.0)) rows (λ r fit. key_some r.0) are.fit);
      are = are;
    },
    has,
  );
  shown = λ a cause h. h;
}
  where
    key_some : (key : CdKey) → 0 < length (change_key_spelling key)
    key_some key = omega (arith, length64 key.commitseq, length-append (b64 key.commitseq) (sequence_spelling key.intentseq))

module _ (number floor count : ℕ) (after : List ℕ) (c d e : Contents) (before : HasDropped number floor count after c d) where
  -- one more was dropped
  pub dropped_next : (key : CdKey) (more : ℕ) → more ≡ min (count + 1) greatest → key.commitseq ≤ floor → DropsNext number floor after (Some key) d e → HasDropped number floor more (change_key_spelling key) c e
  dropped_next key more is le step = record {
    others = λ a n other. ap (λ (f : Contents). f a n) step.0 ∙ ap (λ (b : Bool). cond b (set_key (d areas.Cd number) k None) (d a n)) other ∙ before.others a n other;
    left = λ q value has. before.left q value (key_removed d e areas.Cd number k step.0 areas.Cd number q value has);
    rows = λ rows are has.
        let p = before.rows rows are has in
        let parts = p.0 in
        let next = step.1.1 in
        let row : CdKey × ChangeRow = (key, step.1.0) in
        let here = next_of_rows number parts.back d after key step.1.0 parts.are p.1 next.key_fits next.fits next.next in
        let split : parts.back ≡ row ∷ here.back = first_row change_key_spelling parts.back after row here parts.later in
        let are_all = subst AreChangeRows split parts.are in (
          record {
            front = parts.front ++ row ∷ [];
            back = here.back;
            split = parts.split ∙ ap (λ (l : List (CdKey × ChangeRow)). parts.front ++ l) split ∙ sym (append_assoc parts.front (row ∷ []) here.back);
            low = all_append (λ (r : CdKey × ChangeRow). r.0.commitseq ≤ floor) parts.front (row ∷ []) parts.low (le, tt);
            count_is = omega (arith, is, parts.count_is, length-append parts.front (row ∷ []));
            later = here.later;
            are = record { rise = are_all.rise.1; fit = are_all.fit.1 };
          },
          ap (λ (f : Contents). f areas.Cd number) step.0 ∙ written_first change_key_spelling change_row_spelling d areas.Cd number row here.back (p.1 ∙ ap (table_from_rows change_key_spelling change_row_spelling) split) here.later,
        );
    shown = λ a cause h. before.shown a cause (subst (ShownBefore row_rules d) (sym step.0) (rows_shown d (put_at d areas.Cd number k None) (adds_remove row_rules d areas.Cd number k) refl refl) a cause h);
  }
    where
      k : List ℕ
      k = change_key_spelling key

  -- no more are there up to the floor, so all were
  pub dropped_all : DropsNext number floor after None d e → DropsUpto number floor count c e
  dropped_all step = record {
    others = λ a n other. ap (λ (f : Contents). f a n) step.0 ∙ before.others a n other;
    left = λ key value has. before.left key value (sym (ap (λ (f : Contents). f areas.Cd number key) step.0) ∙ has);
    rows = λ rows are has.
        let p = before.rows rows are has in
        let parts = p.0 in
        let high = all_high parts p.1 step.1 in
        let above : rows_above floor rows ≡ parts.back =
        ap (rows_above floor) parts.split
        ∙ filter-append (λ r. nat_lt floor r.0.commitseq) parts.front parts.back
        ∙ ap (λ (l : List (CdKey × ChangeRow)). l ++ rows_above floor parts.back) (filter_none (λ r. nat_lt floor r.0.commitseq) parts.front (all_weaker (λ r. r.0.commitseq ≤ floor) (λ r. nat_lt floor r.0.commitseq ≡ false) parts.front (λ r le. le-ltb floor r.0.commitseq le) parts.low))
        ∙ filter_all (λ r. nat_lt floor r.0.commitseq) parts.back (all_weaker (λ r. floor < r.0.commitseq) (λ r. nat_lt floor r.0.commitseq ≡ true) parts.back (λ r lt. lt-ltb floor r.0.commitseq lt) high) in
        let upto : rows_upto floor rows ≡ parts.front =
        ap (rows_upto floor) parts.split
        ∙ filter-append (λ r. nat_le r.0.commitseq floor) parts.front parts.back
        ∙ ap (λ (l : List (CdKey × ChangeRow)). rows_upto floor parts.front ++ l) (filter_none (λ r. nat_le r.0.commitseq floor) parts.back (all_weaker (λ r. floor < r.0.commitseq) (λ r. nat_le r.0.commitseq floor ≡ false) parts.back (λ r lt. lt-leb r.0.commitseq floor lt) high))
        ∙ append-nil (rows_upto floor parts.front)
        ∙ filter_all (λ r. nat_le r.0.commitseq floor) parts.front (all_weaker (λ r. r.0.commitseq ≤ floor) (λ r. nat_le r.0.commitseq floor ≡ true) parts.front (λ r le. le-leb r.0.commitseq floor le) parts.low) in (
          ap (λ (f : Contents). f areas.Cd number) step.0 ∙ p.1 ∙ ap (table_from_rows change_key_spelling change_row_spelling) (sym above),
          parts.count_is ∙ ap (λ (l : List (CdKey × ChangeRow)). min (length l) greatest) (sym upto),
        );
    shown = subst (ShownBefore row_rules c) (sym step.0) before.shown;
  }
    where
      all_high : {rows : List (CdKey × ChangeRow)} (parts : ArePartedAt floor count after rows) → HasChangeRows number parts.back d → IsLastKey (d areas.Cd number) after ⊎ ((key : CdKey) × (row : ChangeRow) × HasNextChange number after key row d × (floor < key.commitseq)) → AllByRecursion (λ r. floor < r.0.commitseq) parts.back
      all_high parts has (inl last) = subst (AllByRecursion (λ (r : CdKey × ChangeRow). floor < r.0.commitseq)) (sym (no_first_row change_key_spelling parts.back after (none_of_rows number parts.back d after has last) parts.later)) tt
      all_high parts has (inr (key, row, next, lt)) =
          let here = next_of_rows number parts.back d after key row parts.are has next.key_fits next.fits next.next in
          let split = first_row change_key_spelling parts.back after (key, row) here parts.later in
          let are_all = subst AreChangeRows split parts.are in
          subst (AllByRecursion (λ (r : CdKey × ChangeRow). floor < r.0.commitseq)) (sym split) (lt, units_above floor key next.key_fits lt here.back are_all.fit.1 here.later)
