-- What changes of one table make of the runs of all tables.
use Rattle.std.proofs.Common.{◌≡◌, ℕ, Bool, true, false, cond, List, [], ◌∷◌, ◌++◌, inl, inr, refl, sym, ap, subst, ◌∙◌}
use Rattle.std.specs.Prelude.{Option, Some, None, IsSome, ◌||◌}
use Rattle.std.specs.BTreeMap.{BTreeMap, UpdatesBy}
use Rattle.std.specs.Option.{unwrap_or}
use Rattle.std.specs.Ordering.{is_eq, nat_cmp, ordering_then}
use Rattle.std.specs.Cmp.{IsTotalOrder, nat_cmp_total, on_total, then_total, eq_by_cmp_equiv, Equal-is}
use Rattle.std.specs.declared.cmp.Ordering.{Ordering}
use Rattle.std.specs.declared.cmp.Ordering.TheVariants.{Less, Equal, Greater}
use Rattle.std.proofs.lemmas.List.Folds.{list_any-append}
use Rattle.std.proofs.lemmas.Map.Lookups.{exact_unsigned, exact_pairs}
use Rattle.repl_types.specs.Bytes.{bytes_cmp}
use Rattle.keep_core.specs.Contents.{Table, set_key}
use Rattle.keep_map.specs.Places.{Place, Values, same_place, put_value}
use Rattle.keep_map.specs.Put.{RunPuts, RunsPut}
use Rattle.rows_in_runs.specs.Runs.{value_in}
use Rattle.rows_in_runs.specs.laws.Runs.{held_stands, settled_held}
use Rattle.keep_map.specs.Tables.{TablePlace, table_cmp, same_table, id_of, id_cmp, run_at, TableRows, no_rows, rows_of, Tables, tables_of, seen_in_run, held_in_run, runs_seen, runs_held, RunBecomes, RunsBecome, OnlyChanges, is_touched, AreTouched, IsNamed, kept_row, RunSettles, RunsSettle}
use Rattle.keep_map.specs.declared.slot.Slot.{Slot}
use Rattle.keep_map.specs.declared.stored_row.StoredRow.{StoredRow}
use Rattle.keep_map.specs.declared.table_id.TableId.{TableId}
use Rattle.keep_map.specs.declared.table_run.TableRun.{TableRun}
use Rattle.keep_map.proofs.Sound.{neither}
use Rattle.keep_map.proofs.Updates.{is_set}

-- tables have a total order
pub tables_total : IsTotalOrder table_cmp
tables_total = then_total (on_total (λ (x : TablePlace). x.0) nat_cmp_total) (on_total (λ (x : TablePlace). x.1) nat_cmp_total)

-- tables that are the same are equal
pub table_is : (x y : TablePlace) → same_table x y ≡ true → x ≡ y
table_is x y e = exact_pairs nat_cmp nat_cmp exact_unsigned exact_unsigned x y ((Equal-is (table_cmp x y)).0 e)

-- a table is the same as itself
pub table_itself : (x : TablePlace) → same_table x x ≡ true
table_itself x = (eq_by_cmp_equiv tables_total).refl x

-- a list with one more id names the tables of the list and that of the id
pub is_touched-push : (xs : List TableId) (i : TableId) (t : TablePlace) → is_touched (xs ++ i ∷ []) t ≡ (is_touched xs t || same_table (id_of i) t)
is_touched-push xs i t = list_any-append (λ (x : TableId). same_table (id_of x) t) xs (i ∷ []) ∙ ap (λ (b : Bool). is_touched xs t || b) (or_false (same_table (id_of i) t))
  where
    or_false : (b : Bool) → (b || false) ≡ b
    or_false false = refl
    or_false true = refl

module _ (m n : BTreeMap TableId TableRun) (i : TableId) (w : Option TableRun) (h : UpdatesBy id_cmp (id_cmp i) m n w) where
  -- a change of the map at an id sets the run at its table
  run_is_set : (t : TablePlace) → run_at n t ≡ cond (same_table (id_of i) t) w (run_at m t)
  run_is_set t = is_set table_cmp tables_total table_is id_of m n i w h t

  -- the table has these rows then
  pub rows_here : tables_of n (id_of i) ≡ rows_of w
  rows_here = ap rows_of (run_is_set (id_of i) ∙ ap (λ (b : Bool). cond b w (run_at m (id_of i))) (table_itself (id_of i)))

  -- the other tables have the rows that they had
  pub other_tables : OnlyChanges (id_of i) (tables_of m) (tables_of n)
  other_tables t apart = ap rows_of (run_is_set t ∙ ap (λ (b : Bool). cond b w (run_at m t)) apart)

-- if only one table may have changed, and has the rows that it had, nothing changed
pub tables_same : (f g : Tables) (at : TablePlace) → OnlyChanges at f g → g at ≡ f at → g ≡ f
tables_same f g at only here = λ i t. cell t i
  where
    cell : (t : TablePlace) → g t ≡ f t
    cell t = by_cases (same_table at t) refl
      where
        by_cases : (b : Bool) → same_table at t ≡ b → g t ≡ f t
        by_cases false e = only t e
        by_cases true e = subst (λ (u : TablePlace). g u ≡ f u) (table_is at t e) here

-- tables of which only one may change, and that one becomes what is said of it
module _ (f g : Tables) (at : TablePlace) (only : OnlyChanges at f g) where
  -- the values in the runs, with those of one table replaced
  abbrev pub with_seen : Table → Values
  with_seen seen p = cond (same_table at (p.0, p.1)) (seen p.2) (runs_seen f p)

  -- the runs become what the table becomes
  pub runs_become : (seen : Table) → RunBecomes seen (f at) (g at) → RunsBecome (with_seen seen) f g
  runs_become seen here = record {
    seen = λ i p. seen_cell p (same_table at (p.0, p.1)) refl i;
    held = λ i p. held_cell p (same_table at (p.0, p.1)) refl i;
    rows = λ t k. row_cell t k (same_table at t) refl;
    more = λ t. more_cell t (same_table at t) refl;
  }
    where
      seen_cell : (p : Place) (b : Bool) → same_table at (p.0, p.1) ≡ b → runs_seen g p ≡ cond b (seen p.2) (runs_seen f p)
      seen_cell p false e = ap (λ (r : TableRows). seen_in_run r p.2) (only (p.0, p.1) e)
      seen_cell p true e = ap (λ (t : TablePlace). seen_in_run (g t) p.2) (sym (table_is at (p.0, p.1) e)) ∙ here.seen p.2

      held_cell : (p : Place) (b : Bool) → same_table at (p.0, p.1) ≡ b → runs_held g p ≡ runs_held f p
      held_cell p false e = ap (λ (r : TableRows). held_in_run r p.2) (only (p.0, p.1) e)
      held_cell p true e = subst (λ (t : TablePlace). held_in_run (g t) p.2 ≡ held_in_run (f t) p.2) (table_is at (p.0, p.1) e) (here.held p.2)

      row_cell : (t : TablePlace) (k : List ℕ) (b : Bool) → same_table at t ≡ b → (f t).now k ≡ None → cond b (seen k) (seen_in_run (f t) k) ≡ None → (g t).now k ≡ None
      row_cell t k false e none unseen = ap (λ (r : TableRows). r.now k) (only t e) ∙ none
      row_cell t k true e none unseen = let same = table_is at t e in
          subst (λ (u : TablePlace). (g u).now k ≡ None) same (here.rows k (subst (λ (u : TablePlace). (f u).now k ≡ None) (sym same) none) unseen)

      more_cell : (t : TablePlace) (b : Bool) → same_table at t ≡ b → (f t).has_more ≡ true → (g t).has_more ≡ true
      more_cell t false e has = ap (λ (r : TableRows). r.has_more) (only t e) ∙ has
      more_cell t true e has = let same = table_is at t e in
          subst (λ (u : TablePlace). (g u).has_more ≡ true) same (here.more (subst (λ (u : TablePlace). (f u).has_more ≡ true) (sym same) has))

  -- the table sees what it saw: so do the runs
  pub runs_keep : RunBecomes (seen_in_run (f at)) (f at) (g at) → RunsBecome (runs_seen f) f g
  runs_keep here = subst (λ (v : Values). RunsBecome v f g) (λ i p. cell p i) (runs_become (seen_in_run (f at)) here)
    where
      cell : (p : Place) → with_seen (seen_in_run (f at)) p ≡ runs_seen f p
      cell p = by_cases (same_table at (p.0, p.1)) refl
        where
          by_cases : (b : Bool) → same_table at (p.0, p.1) ≡ b → cond b (seen_in_run (f at) p.2) (runs_seen f p) ≡ runs_seen f p
          by_cases false e = refl
          by_cases true e = ap (λ (t : TablePlace). seen_in_run (f t) p.2) (table_is at (p.0, p.1) e)

  -- the table sees another value at one key: so do the runs
  pub runs_put : (key : List ℕ) (v : Option (List ℕ)) → RunBecomes (set_key (seen_in_run (f at)) key v) (f at) (g at) → RunsBecome (put_value (runs_seen f) (at.0, at.1, key) v) f g
  runs_put key v here = subst (λ (w : Values). RunsBecome w f g) (λ i p. cell p i) (runs_become (set_key (seen_in_run (f at)) key v) here)
    where
      parts_tied : (p : Place) → same_place (at.0, at.1, key) p ≡ cond (same_table at (p.0, p.1)) (is_eq (bytes_cmp key p.2)) false
      parts_tied p = three (nat_cmp at.0 p.0) (nat_cmp at.1 p.1)
        where
          three : (c d : Ordering) → is_eq (ordering_then c (ordering_then d (bytes_cmp key p.2))) ≡ cond (is_eq (ordering_then c d)) (is_eq (bytes_cmp key p.2)) false
          three Less d = refl
          three Greater d = refl
          three Equal Less = refl
          three Equal Greater = refl
          three Equal Equal = refl

      cell : (p : Place) → with_seen (set_key (seen_in_run (f at)) key v) p ≡ put_value (runs_seen f) (at.0, at.1, key) v p
      cell p = by_cases (same_table at (p.0, p.1)) refl ∙ sym (ap (λ (b : Bool). cond b v (runs_seen f p)) (parts_tied p))
        where
          by_cases : (b : Bool) → same_table at (p.0, p.1) ≡ b → cond b (set_key (seen_in_run (f at)) key v p.2) (runs_seen f p) ≡ cond (cond b (is_eq (bytes_cmp key p.2)) false) v (runs_seen f p)
          by_cases false e = refl
          by_cases true e = ap (λ (t : TablePlace). cond (is_eq (bytes_cmp key p.2)) v (seen_in_run (f t) p.2)) (table_is at (p.0, p.1) e)

  -- the tables that changed are still named
  pub stay_touched : (i : TableId) → at ≡ id_of i → (before after : List TableId) → IsNamed i before after (f at) (g at) → AreTouched before f → AreTouched after g
  stay_touched i is before after (inl longer) touched = λ t none.
      let apart = neither (is_touched before t) (same_table (id_of i) t) (sym (is_touched-push before i t) ∙ ap (λ (l : List TableId). is_touched l t) (sym longer) ∙ none) in
      ap (λ (r : TableRows). r.is_settled) (only t (ap (λ (u : TablePlace). same_table u t) is ∙ apart.1)) ∙ touched t apart.0
  stay_touched i is before after (inr same) touched = λ t none.
      let none_before : is_touched before t ≡ false = ap (λ (l : List TableId). is_touched l t) (sym same.0) ∙ none in
      by_cases t (same_table at t) refl (touched t none_before)
    where
      by_cases : (t : TablePlace) (b : Bool) → same_table at t ≡ b → (f t).is_settled ≡ true → (g t).is_settled ≡ true
      by_cases t false e settled = ap (λ (r : TableRows). r.is_settled) (only t e) ∙ settled
      by_cases t true e settled = let here = table_is at t e in
          subst (λ (u : TablePlace). (g u).is_settled ≡ true) here (same.1 (subst (λ (u : TablePlace). (f u).is_settled ≡ true) (sym here) settled))

-- ---- the end of a transaction

module _ (m : BTreeMap TableId TableRun) where
  -- where there is no row, none was held
  pub held_where_rows : (t : TablePlace) (k : List ℕ) → (tables_of m t).now k ≡ None → (tables_of m t).held k ≡ None
  held_where_rows t k = of_run (run_at m t)
    where
      of_run : (r : Option TableRun) → (rows_of r).now k ≡ None → (rows_of r).held k ≡ None
      of_run None none = refl
      of_run (Some table) none = held_stands table.run k none

  -- a run that is settled holds its rows
  pub settled_rows : (t : TablePlace) (k : List ℕ) → (tables_of m t).is_settled ≡ true → (tables_of m t).held k ≡ (tables_of m t).now k
  settled_rows t k = of_run (run_at m t)
    where
      of_run : (r : Option TableRun) → (rows_of r).is_settled ≡ true → (rows_of r).held k ≡ (rows_of r).now k
      of_run None settled = refl
      of_run (Some table) settled = settled_held table.run settled k

-- what the transaction was to keep is still what it was, for a list of ids that grows shorter
pub record AreKept (keep : Bool) (first now : Tables) : Type 0 where
  pub rows : (t : TablePlace) (k : List ℕ) → kept_row keep (now t) k ≡ kept_row keep (first t) k
  pub more : (t : TablePlace) → (now t).has_more ≡ (first t).has_more

-- so it is after one more run was settled
pub kept_settled : (first f : Tables) (n : BTreeMap TableId TableRun) (keep : Bool) (at : TablePlace) → RunSettles keep (f at) (tables_of n at) → OnlyChanges at f (tables_of n) → AreKept keep first f → AreKept keep first (tables_of n)
kept_settled first f n keep at here only kept = record {
  rows = λ t k. row_cell t k (same_table at t) refl ∙ kept.rows t k;
  more = λ t. more_cell t (same_table at t) refl ∙ kept.more t;
}
  where
    g : Tables
    g = tables_of n

    settled_row : (k : List ℕ) (b : Bool) → (g at).now k ≡ kept_row b (f at) k → kept_row b (g at) k ≡ kept_row b (f at) k
    settled_row k true is = is
    settled_row k false is = settled_rows n at k here.settled ∙ is

    row_cell : (t : TablePlace) (k : List ℕ) (b : Bool) → same_table at t ≡ b → kept_row keep (g t) k ≡ kept_row keep (f t) k
    row_cell t k false e = ap (λ (r : TableRows). kept_row keep r k) (only t e)
    row_cell t k true e = subst (λ (u : TablePlace). kept_row keep (g u) k ≡ kept_row keep (f u) k) (table_is at t e) (settled_row k keep (here.rows k))

    more_cell : (t : TablePlace) (b : Bool) → same_table at t ≡ b → (g t).has_more ≡ (f t).has_more
    more_cell t false e = ap (λ (r : TableRows). r.has_more) (only t e)
    more_cell t true e = subst (λ (u : TablePlace). (g u).has_more ≡ (f u).has_more) (table_is at t e) here.more

-- when the list is empty, all runs are settled
pub all_settled : (m n : BTreeMap TableId TableRun) (keep : Bool) (touched : List TableId) → touched ≡ [] → AreTouched touched (tables_of n) → AreKept keep (tables_of m) (tables_of n) → RunsSettle keep (tables_of m) (tables_of n)
all_settled m n keep touched none named kept = record {
  seen = seen_of keep kept.rows;
  held = λ i p. value_in (settled_rows n (p.0, p.1) p.2 (settled (p.0, p.1)) i);
  rows = λ t k. row_of keep t k (kept.rows t k);
  more = kept.more;
}
  where
    settled : (t : TablePlace) → (tables_of n t).is_settled ≡ true
    settled t = named t (ap (λ (l : List TableId). is_touched l t) none)

    seen_of : (b : Bool) → ((t : TablePlace) (k : List ℕ) → kept_row b (tables_of n t) k ≡ kept_row b (tables_of m t) k) → runs_seen (tables_of n) ≡ cond b (runs_seen (tables_of m)) (runs_held (tables_of m))
    seen_of true rows = λ i p. value_in (rows (p.0, p.1) p.2 i)
    seen_of false rows = λ i p. value_in ((sym (settled_rows n (p.0, p.1) p.2 (settled (p.0, p.1))) ∙ rows (p.0, p.1) p.2) i)

    row_of : (b : Bool) (t : TablePlace) (k : List ℕ) → kept_row b (tables_of n t) k ≡ kept_row b (tables_of m t) k → (tables_of m t).now k ≡ None → (tables_of n t).now k ≡ None
    row_of true t k is no_row = is ∙ no_row
    row_of false t k is no_row = sym (settled_rows n t k (settled t)) ∙ is ∙ held_where_rows m t k no_row

-- ---- what is written through a reference to a run

-- what holds of the rows of a table before and after holds of rows that are equal to them
pub moved : (F : TableRows → TableRows → Type 0) {a b c d : TableRows} → a ≡ c → b ≡ d → F a b → F c d
moved F {a} {b} {c} {d} first second holds = subst (λ (x : TableRows). F x d) first (subst (F a) second holds)

-- a run that was found, or is new, has the rows of its table
pub entry_before : (m : BTreeMap TableId TableRun) (i : TableId) (fresh table : TableRun) → table ≡ unwrap_or (run_at m (id_of i)) fresh → rows_of (Some fresh) ≡ no_rows → rows_of (Some table) ≡ tables_of m (id_of i)
entry_before m i fresh table is none = ap (λ (t : TableRun). rows_of (Some t)) is ∙ by_cases (run_at m (id_of i))
  where
    by_cases : (r : Option TableRun) → rows_of (Some (unwrap_or r fresh)) ≡ rows_of r
    by_cases None = none
    by_cases (Some old) = refl

module _ (m n : BTreeMap TableId TableRun) (i : TableId) (old new : TableRun) (found : Some old ≡ run_at m (id_of i)) (h : IsSome (run_at m (id_of i)) → UpdatesBy id_cmp (id_cmp i) m n (Some new)) where
  -- the run that was found is changed
  updates : UpdatesBy id_cmp (id_cmp i) m n (Some new)
  updates = h (subst (λ (r : Option TableRun). IsSome r) found refl)

  -- the table had the rows of the run that was found
  pub rows_before : rows_of (Some old) ≡ tables_of m (id_of i)
  rows_before = ap rows_of found

  -- it has those of the run that was left
  pub rows_after : rows_of (Some new) ≡ tables_of n (id_of i)
  rows_after = sym (rows_here m n i (Some new) updates)

  -- the other tables have the rows that they had
  pub others_after : OnlyChanges (id_of i) (tables_of m) (tables_of n)
  others_after = other_tables m n i (Some new) updates

  -- if the run has the rows that it had, so has each table
  pub same_after : rows_of (Some new) ≡ rows_of (Some old) → tables_of n ≡ tables_of m
  same_after same = tables_same (tables_of m) (tables_of n) (id_of i) others_after (sym rows_after ∙ same ∙ rows_before)

-- what a put makes of one table, and of all
pub puts_all : (f g : Tables) (at : TablePlace) (key value : List ℕ) (m : BTreeMap Slot StoredRow) → OnlyChanges at f g → (b : Bool) → RunPuts at key value m (f at) (g at) b → RunsPut at key value m f g b
puts_all f g at key value m only true puts = (runs_put f g at only key (Some value) puts.0, puts.1)
puts_all f g at key value m only false puts = (runs_keep f g at only puts.0, puts.1, puts.2)
