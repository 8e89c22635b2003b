-- A target takes change rows, one after another: proofs.
use Rattle.std.proofs.Common.{◌≡◌, ℕ, ◌+◌, ◌^◌, ◌<◌, ◌≤◌, Bool, true, false, cond, List, [], ◌∷◌, ◌++◌, length, map, append-nil, length-append, inl, inr, refl, sym, ap, subst, ◌∙◌, arith, ◌&&◌, nat_lt, nat_le, filter, Option, Some, None, IfSome}
use Rattle.std.specs.List.{AllByRecursion}
use Rattle.std.proofs.lemmas.Bool.{le-leb, lt-leb}
use Rattle.std.proofs.lemmas.List.{length-map, map-append}
use Rattle.std.proofs.lemmas.List.Elements.{filter-append}
use Rattle.std.proofs.lemmas.List.Sums.{count_by-le-length, sum_by-append}
use Rattle.world_store.specs.Words.{IsChangeRow, change_row_spelling, IsChangeKey, change_key_spelling, CdKey, ChangeRow, is_before, rows_after, NextRow, after_first, fits_next, no_row, RowFits, count_op, is_insert, is_update, is_delete, filter_few}
use Rattle.site_store.specs.Words.{Contents, Table, IsLastKey, IsNextKey, ShownBefore, any_seen, if_seen, if_both_seen}
use Rattle.repl_model.specs.Words.{Area, CdRow, Op, all_append, all_filter, all_weaker, filter_all, filter_alike, filter_none, Counts, Member, SourceTable}
use Rattle.repl_types.specs.declared.area.Area.TheVariants as areas
use Rattle.repl_types.specs.declared.change_row.Op.TheVariants.{I, U, D}
use Rattle.stored_commits.specs.units.StoredChanges.{stored_change}
use Rattle.cd_tables.specs.StoredRows.{change_of}
use Rattle.cd_tables.specs.laws.SoundChanges.{ChangeRowFits}
use Rattle.stored_commits.specs.copies.ChangedCopies.{with_change, with_changes}
use Rattle.apply_copies.specs.Changing.{one_more, counted, start_of, NextIs, NoneIs, TakesRow, TakesNext, TakesAll, HasChanges, rows_between}
use Rattle.apply_copies.specs.Loading.{is_target}
use Rattle.apply_copies.specs.Rules.{target_rules}
use Rattle.target_steps.specs.Taking.{counts_of}
use Rattle.cd_tables.specs.laws.ChangeKeys.{changes_apart, units_above}
use Rattle.cd_tables.specs.laws.InOrder.{filter_and}
use Rattle.apply_copies.proofs.ChangeKeys.{starts_at}
use Rattle.apply_copies.proofs.CopiedRows.{done_next}

-- ---- counts

-- one more of an operation, or not
op_more : (is_op : Op → Bool) (changes : List CdRow) (change : CdRow) (t : Bool) → is_op change.op ≡ t → count_op is_op (changes ++ change ∷ []) ≡ count_op is_op changes + cond t 1 0
op_more is_op changes change t e = sum_by-append (λ (r : CdRow). cond (is_op r.op) 1 0) changes (change ∷ []) ∙ ap (λ (b : Bool). count_op is_op changes + (0 + cond b 1 0)) e ∙ pick t
  where
    pick : (b : Bool) → count_op is_op changes + (0 + cond b 1 0) ≡ count_op is_op changes + cond b 1 0
    pick true = omega arith
    pick false = omega arith

-- the counts of change rows and one more
pub counted_more : (changes : List CdRow) (change : CdRow) (op : Op) → change.op ≡ op → length changes + 1 < 2 ^ 64 → counted op (counts_of changes) ≡ counts_of (changes ++ change ∷ [])
counted_more changes change op is few = by_op op is
  where
    same : (is_op : Op → Bool) → is_op change.op ≡ false → count_op is_op changes ≡ count_op is_op (changes ++ change ∷ [])
    same is_op e = let more = op_more is_op changes change false e in omega (arith, more)

    more : (is_op : Op → Bool) → is_op change.op ≡ true → one_more (count_op is_op changes) ≡ count_op is_op (changes ++ change ∷ [])
    more is_op e = let more = op_more is_op changes change true e in omega (arith, more, few, count_by-le-length (λ (r : CdRow). is_op r.op) changes)

    by_op : (op : Op) → change.op ≡ op → counted op (counts_of changes) ≡ counts_of (changes ++ change ∷ [])
    by_op I e = λ i. record { rows = 0; inserts = more is_insert (ap is_insert e) i; updates = same is_update (ap is_update e) i; deletes = same is_delete (ap is_delete e) i }
    by_op U e = λ i. record { rows = 0; inserts = same is_insert (ap is_insert e) i; updates = more is_update (ap is_update e) i; deletes = same is_delete (ap is_delete e) i }
    by_op D e = λ i. record { rows = 0; inserts = same is_insert (ap is_insert e) i; updates = same is_update (ap is_update e) i; deletes = more is_delete (ap is_delete e) i }

-- ---- rows in turn

module _ (source : SourceTable) (member : Member) where
  -- change rows and one more
  changes_more : (changes : List CdRow) (change : CdRow) (t : Table) → with_changes source member (changes ++ change ∷ []) t ≡ with_change source member change (with_changes source member changes t)
  changes_more [] change t = refl
  changes_more (c ∷ cs) change t = changes_more cs change (with_change source member c t)

  -- Of rows those of units after a point and up to a key were taken, none of a unit above another point, and they count so.
  pub record IsPart (low upto : ℕ) (rows : List (CdKey × ChangeRow)) (after : CdKey) (counts : Counts) (t u : Table) : Type 0 where
    pub done : List (CdKey × ChangeRow)
    pub split : rows_after change_key_spelling (change_key_spelling (start_of low)) rows ≡ done ++ rows_after change_key_spelling (change_key_spelling after) rows
    pub early : AllByRecursion (λ r. r.0.commitseq ≤ upto) done
    pub takes : u ≡ with_changes source member (map change_of done) t
    pub count : counts ≡ counts_of (map change_of done)

  module _ (table low upto : ℕ) (rows : List (CdKey × ChangeRow)) (s : Contents) (has : HasChanges table rows s) where
    -- the next row is the first of those that are left
    first_left : (after : CdKey) (change : CdRow) → ChangeRowFits change → NextIs table after change s → NextRow change_key_spelling rows (change_key_spelling after) (stored_change change)
    first_left after change fits next = fits_next (RowFits IsChangeKey IsChangeRow) change_key_spelling change_row_spelling rows (change_key_spelling after) (stored_change change) changes_apart has.are.fit fits has.are.rise (subst (λ (t : Table). IsNextKey t (change_key_spelling after) (change_key_spelling (stored_change change).0) (change_row_spelling (stored_change change).1)) has.is next)

    -- it is taken
    part_next : (after : CdKey) (change : CdRow) (op : Op) (counts : Counts) (t u v : Table) → ChangeRowFits change → change.commitseq ≤ upto → change.op ≡ op → NextIs table after change s → v ≡ with_change source member change u → IsPart low upto rows after counts t u → IsPart low upto rows (stored_change change).0 (counted op counts) t v
    part_next after change op counts t u v fits early is next takes part = record {
      done = part.done ++ r ∷ [];
      split = split;
      early = all_append (λ (q : CdKey × ChangeRow). q.0.commitseq ≤ upto) part.done (r ∷ []) part.early (early, tt);
      takes = takes ∙ ap (with_change source member change) part.takes ∙ sym (changes_more (map change_of part.done) change t) ∙ ap (λ (l : List CdRow). with_changes source member l t) (sym mapped);
      count = ap (counted op) part.count ∙ counted_more (map change_of part.done) change op is few ∙ ap counts_of (sym mapped);
    }
      where
        r : CdKey × ChangeRow
        r = stored_change change

        back : List (CdKey × ChangeRow)
        back = rows_after change_key_spelling (change_key_spelling r.0) rows

        split : rows_after change_key_spelling (change_key_spelling (start_of low)) rows ≡ (part.done ++ r ∷ []) ++ back
        split = done_next change_key_spelling rows part.done (change_key_spelling after) r (first_left after change fits next) part.split

        mapped : map change_of (part.done ++ r ∷ []) ≡ map change_of part.done ++ change ∷ []
        mapped = map-append change_of part.done (r ∷ [])

        few : length (map change_of part.done) + 1 < 2 ^ 64
        few =
            let long : length (rows_after change_key_spelling (change_key_spelling (start_of low)) rows) ≡ length (part.done ++ r ∷ []) + length back = ap length split ∙ length-append (part.done ++ r ∷ []) back in
            let more : length (part.done ++ r ∷ []) ≡ length part.done + 1 = length-append part.done (r ∷ []) in
            omega (arith, long, more, length-map part.done change_of, filter_few (λ (q : CdKey × ChangeRow). is_before (change_key_spelling (start_of low)) (change_key_spelling q.0)) rows, has.few)

    -- a row that is left is of a unit above the point, if the next one is, or none is
    left_late : (after : CdKey) → NoneIs table after upto s → AllByRecursion (λ r. nat_le r.0.commitseq upto ≡ false) (rows_after change_key_spelling (change_key_spelling after) rows)
    left_late after none = elim none [
      | inl last ↦ subst (AllByRecursion late) (sym (filter_none (λ (r : CdKey × ChangeRow). is_before (change_key_spelling after) (change_key_spelling r.0)) rows (no_row change_key_spelling change_row_spelling rows (change_key_spelling after) (subst (λ (t : Table). IsLastKey t (change_key_spelling after)) has.is last)))) tt
      | inr next ↦
          let row = stored_change next.0 in
          let at = first_left after next.0 next.1 next.2 in
          let split = after_first change_key_spelling rows (change_key_spelling after) row at in
          let fit = subst (AllByRecursion (RowFits IsChangeKey IsChangeRow)) split (all_filter (RowFits IsChangeKey IsChangeRow) (λ (r : CdKey × ChangeRow). is_before (change_key_spelling after) (change_key_spelling r.0)) rows has.are.fit) in
          subst (AllByRecursion late) (sym split) (all_weaker (λ (r : CdKey × ChangeRow). upto < r.0.commitseq) late (row ∷ at.back) (λ r lt. lt-leb r.0.commitseq upto lt) (next.3, units_above upto row.0 next.1.0 next.3 at.back fit.1 at.later))
    ]
      where
        late : CdKey × ChangeRow → Type 0
        late r = nat_le r.0.commitseq upto ≡ false

    -- so the rows that were taken are those of the interval
    part_all : (after : CdKey) (counts : Counts) (t u : Table) → IsChangeKey (start_of low) → NoneIs table after upto s → IsPart low upto rows after counts t u → (u ≡ with_changes source member (rows_between low upto rows) t) × (counts ≡ counts_of (rows_between low upto rows))
    part_all after counts t u fits none part = (part.takes ∙ ap (λ (l : List (CdKey × ChangeRow)). with_changes source member (map change_of l) t) (sym all), part.count ∙ ap (λ (l : List (CdKey × ChangeRow)). counts_of (map change_of l)) (sym all))
      where
        below : CdKey × ChangeRow → Bool
        below r = nat_le r.0.commitseq upto

        all : filter (λ (r : CdKey × ChangeRow). nat_lt low r.0.commitseq && below r) rows ≡ part.done
        all =
            let spelled = λ (r : CdKey × ChangeRow). is_before (change_key_spelling (start_of low)) (change_key_spelling r.0) in
            let left = rows_after change_key_spelling (change_key_spelling after) rows in
            filter_and (λ (r : CdKey × ChangeRow). nat_lt low r.0.commitseq) below rows
            ∙ ap (filter below) (filter_alike (λ (r : CdKey × ChangeRow). nat_lt low r.0.commitseq) spelled rows (all_weaker (RowFits IsChangeKey IsChangeRow) (λ (r : CdKey × ChangeRow). nat_lt low r.0.commitseq ≡ spelled r) rows (λ r fit. sym (starts_at low r.0 fits fit.0)) has.are.fit))
            ∙ ap (filter below) part.split
            ∙ filter-append below part.done left
            ∙ (λ i. filter_all below part.done (all_weaker (λ (r : CdKey × ChangeRow). r.0.commitseq ≤ upto) (λ (r : CdKey × ChangeRow). below r ≡ true) part.done (λ r le. le-leb r.0.commitseq upto le) part.early) i ++ filter_none below left (left_late after none) i)
            ∙ append-nil part.done

module _ (saw : Option Contents) (table number : ℕ) (source : SourceTable) (member : Member) (low upto : ℕ) where
  -- The change rows of an interval up to a key were taken, which count so.
  pub record HasTaken (after : CdKey) (counts : Counts) (c d : Contents) : Type 0 where
    pub others : (a : Area) (n : ℕ) → is_target number a n ≡ false → d a n ≡ c a n
    pub shown : (n : ℕ) → ShownBefore (target_rules n) c d
    pub takes : IfSome saw (λ s. (rows : List (CdKey × ChangeRow)) → HasChanges table rows s → IsPart source member low upto rows after counts (c areas.Target number) (d areas.Target number))

  -- none is taken yet
  pub taken_none : (counts : Counts) (c : Contents) → counts ≡ counts_of [] → HasTaken (start_of low) counts c c
  taken_none counts c is = record {
    others = λ a n other. refl;
    shown = λ n a cause h. h;
    takes = if_seen saw (λ s. Unit {0}) (λ s. (rows : List (CdKey × ChangeRow)) → HasChanges table rows s → IsPart source member low upto rows (start_of low) counts (c areas.Target number) (c areas.Target number)) (λ s none rows has. record { done = []; split = refl; early = tt; takes = refl; count = is }) (any_seen saw);
  }

  -- the next one is taken
  pub taken_next : (after key : CdKey) (op : Op) (counts more : Counts) (c d e : Contents) → more ≡ counted op counts → HasTaken after counts c d → TakesNext saw table number source member after upto (Some (key, op)) d e → HasTaken key more c e
  taken_next after key op counts more c d e is before step =
      let change : CdRow = step.0 in
      let row : TakesRow number source member change d e = step.5 in
      record {
        others = λ a n other. row.others a n other ∙ before.others a n other;
        shown = λ n a cause h. before.shown n a cause (row.shown n a cause h);
        takes = if_both_seen saw
            (λ s. (rows : List (CdKey × ChangeRow)) → HasChanges table rows s → IsPart source member low upto rows after counts (c areas.Target number) (d areas.Target number))
            (λ s. NextIs table after change s)
            (λ s. (rows : List (CdKey × ChangeRow)) → HasChanges table rows s → IsPart source member low upto rows key more (c areas.Target number) (e areas.Target number))
            (λ s part next rows has. subst (λ (p : CdKey × Counts). IsPart source member low upto rows p.0 p.1 (c areas.Target number) (e areas.Target number)) (λ i. (step.2 i, sym is i))
            (part_next source member table low upto rows s has after change op counts (c areas.Target number) (d areas.Target number) (e areas.Target number) step.1.fits step.1.early step.3 next row.takes (part rows has)))
            before.takes step.4;
      }

  -- there is no other, so all are taken
  pub taken_all : (after : CdKey) (counts : Counts) (c d e : Contents) → IsChangeKey (start_of low) → HasTaken after counts c d → TakesNext saw table number source member after upto None d e → TakesAll saw table number source member low upto counts c e
  taken_all after counts c d e fits before last = record {
    others = λ a n other. ap (λ (f : Contents). f a n) last.0 ∙ before.others a n other;
    shown = λ n. subst (ShownBefore (target_rules n) c) (sym last.0) (before.shown n);
    takes = if_both_seen saw
        (λ s. (rows : List (CdKey × ChangeRow)) → HasChanges table rows s → IsPart source member low upto rows after counts (c areas.Target number) (d areas.Target number))
        (λ s. NoneIs table after upto s)
        (λ s. (rows : List (CdKey × ChangeRow)) → HasChanges table rows s → (e areas.Target number ≡ with_changes source member (rows_between low upto rows) (c areas.Target number)) × (counts ≡ counts_of (rows_between low upto rows)))
        (λ s part none rows has. subst (λ (t : Table). (t ≡ with_changes source member (rows_between low upto rows) (c areas.Target number)) × (counts ≡ counts_of (rows_between low upto rows))) (ap (λ (f : Contents). f areas.Target number) (sym last.0)) (part_all source member table low upto rows s has after counts (c areas.Target number) (d areas.Target number) fits none (part rows has)))
        before.takes last.1;
  }
