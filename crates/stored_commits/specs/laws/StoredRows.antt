-- The stored table of rows, after a row is put or removed, and after changes.
use Rattle.std.proofs.Common.{◌≡◌, Bool, true, false, cond, not, List, [], ◌∷◌, Some, None, refl, sym, ap, subst, ◌∙◌, bytes_eq}
use Rattle.std.specs.List.{AllByRecursion}
use Rattle.std.specs.FinMap.{insert, remove, entries, entries-insert}
use Rattle.std.specs.FinMap.Entries.{where_key}
use Rattle.std.specs.Ordering.{eq_by_cmp}
use Rattle.world_store.specs.Words.{IsKey, IsRow, key_spelling, row_spelling, order_key, table_from_rows, put_table, removed_table}
use Rattle.repl_model.specs.Words.{Values, key_cmp, all_weaker, all_filter, key_cmp_total, exact_key, Change, TableDef, Rows, key_of, table_of, effect, after_change, entries_remove}
use Rattle.repl_types.specs.declared.record.Change.TheVariants.{Insert, Update, Delete, Start, Stop}
use Rattle.keep_core.specs.Contents.{Table, set_key}
use Rattle.stored_commits.specs.records.SourceTables.{rows_table, StandsUnderKey, RowsStand, HasRows, TypedChangesHaveRows, with_effect, ChangeIsStored, RowsStayStanding, with_changes, ChangesAreStored}
use Rattle.stored_commits.specs.records.laws.StandingRows.{table_of_entries, key_fits}
use Rattle.stored_commits.specs.laws.LoggedPuts.{put_all}

-- ---- keys

-- the keys of rows that stand can be spelled
pub entries_fit : (def : TableDef) (rows : Rows) → RowsStand def rows → AllByRecursion (λ entry. IsKey entry.0) (entries rows)
entries_fit def rows stand = all_weaker (StandsUnderKey def) (λ entry. IsKey entry.0) (entries rows) (λ entry s. subst IsKey (sym s.own) (key_fits def entry.1 s.row)) stand

-- the rows of a typed change are rows of values
pub typed_rows : TypedChangesHaveRows
typed_rows tx (Insert table row) typed = typed.2
typed_rows tx (Update table before after) typed = (typed.2, typed.3)
typed_rows tx (Delete table row) typed = typed.2
typed_rows tx (Start table) typed = tt
typed_rows tx (Stop table) typed = tt

-- ---- tables

-- the stored table spells the values of each entry
pub entries_table : (rows : Rows) → rows_table rows ≡ table_from_rows key_spelling row_spelling (entries rows)
entries_table rows = table_of_entries (entries rows)

-- the entries after a key was removed
abbrev pub without : Values → List (Values × Values) → List (Values × Values)
without key es = where_key key_cmp (λ k. not (eq_by_cmp key_cmp key k)) es

-- the stored table after a row is put
put_stored : (def : TableDef) (rows : Rows) (key row : Values) → RowsStand def rows → IsKey key → rows_table (insert rows key row) ≡ set_key (rows_table rows) (key_spelling key) (Some (row_spelling row))
put_stored def rows key row stand fits =
    entries_table (insert rows key row)
    ∙ ap (table_from_rows key_spelling row_spelling) (entries-insert key_cmp_total rows key row)
    ∙ put_table key_spelling IsKey key_cmp order_key row_spelling key row (entries rows) fits (entries_fit def rows stand)
    ∙ ap (λ (t : Table). set_key t (key_spelling key) (Some (row_spelling row))) (sym (entries_table rows))

-- the stored table after the row of a key is removed
removed_stored : (def : TableDef) (rows : Rows) (key : Values) → RowsStand def rows → IsKey key → rows_table (remove rows key) ≡ set_key (rows_table rows) (key_spelling key) None
removed_stored def rows key stand fits =
    entries_table (remove rows key)
    ∙ ap (table_from_rows key_spelling row_spelling) (entries_remove rows key)
    ∙ removed_table key_spelling IsKey key_cmp key_cmp_total order_key row_spelling key (entries rows) fits (entries_fit def rows stand)
    ∙ ap (λ (t : Table). set_key t (key_spelling key) None) (sym (entries_table rows))

-- ---- what holds of each row

module _ (P : Values × Values → Type 0) where
  -- what holds of a new row and of the others holds of each after it is put
  pub inserted_all : (rows : Rows) (key row : Values) → P (key, row) → AllByRecursion P (entries rows) → AllByRecursion P (entries (insert rows key row))
  inserted_all rows key row one all = subst (AllByRecursion P) (sym (entries-insert key_cmp_total rows key row)) (put_all key_cmp key_cmp_total exact_key P key row (entries rows) one all)

  -- what holds of each row holds of each that is left
  pub left_all : (rows : Rows) (key : Values) → AllByRecursion P (entries rows) → AllByRecursion P (entries (remove rows key))
  left_all rows key all = subst (AllByRecursion P) (sym (entries_remove rows key)) (all_filter P (λ e. not (eq_by_cmp key_cmp key e.0)) (entries rows) all)

-- rows that stand do so after one is put at its key
put_stands : (def : TableDef) (rows : Rows) (row : Values) → RowsStand def rows → IsRow row → RowsStand def (insert rows (key_of def row) row)
put_stands def rows row stand fits = inserted_all (StandsUnderKey def) rows (key_of def row) row (record { own = refl; row = fits }) stand

-- and after one is removed
left_stand : (def : TableDef) (rows : Rows) (key : Values) → RowsStand def rows → RowsStand def (remove rows key)
left_stand def rows key stand = left_all (StandsUnderKey def) rows key stand

-- ---- changes

-- the rows of the changed table
effect_stored : (def : TableDef) (change : Change) (rows : Rows) → RowsStand def rows → HasRows change → rows_table (effect def change rows) ≡ with_effect def change (rows_table rows)
effect_stored def (Insert table row) rows stand has = put_stored def rows (key_of def row) row stand (key_fits def row has)
effect_stored def (Update table before after) rows stand has =
    put_stored def (remove rows (key_of def before)) (key_of def after) after (left_stand def rows (key_of def before) stand) (key_fits def after has.1)
    ∙ ap (λ (t : Table). set_key t (key_spelling (key_of def after)) (Some (row_spelling after))) (removed_stored def rows (key_of def before) stand (key_fits def before has.0))
effect_stored def (Delete table row) rows stand has = removed_stored def rows (key_of def row) stand (key_fits def row has)
effect_stored def (Start table) rows stand has = refl
effect_stored def (Stop table) rows stand has = refl

-- they stand under their keys
effect_stands : (def : TableDef) (change : Change) (rows : Rows) → RowsStand def rows → HasRows change → RowsStand def (effect def change rows)
effect_stands def (Insert table row) rows stand has = put_stands def rows row stand has
effect_stands def (Update table before after) rows stand has = put_stands def (remove rows (key_of def before)) after (left_stand def rows (key_of def before) stand) has.1
effect_stands def (Delete table row) rows stand has = left_stand def rows (key_of def row) stand
effect_stands def (Start table) rows stand has = stand
effect_stands def (Stop table) rows stand has = stand

-- the stored table after a change of any table
pub change_stored : ChangeIsStored
unfolding after_change
change_stored def change rows stand has = by_table (bytes_eq (table_of change) def.name)
  where
    by_table : (b : Bool) → rows_table (cond b (effect def change rows) rows) ≡ cond b (with_effect def change (rows_table rows)) (rows_table rows)
    by_table true = effect_stored def change rows stand has
    by_table false = refl

-- rows stand after it
pub change_stands : RowsStayStanding
unfolding after_change
change_stands def change rows stand has = by_table (bytes_eq (table_of change) def.name)
  where
    by_table : (b : Bool) → RowsStand def (cond b (effect def change rows) rows)
    by_table true = effect_stands def change rows stand has
    by_table false = stand

-- the stored table after changes
pub changes_stored : ChangesAreStored
changes_stored def [] rows stand has = refl
changes_stored def (change ∷ changes) rows stand has =
    changes_stored def changes (after_change def change rows) (change_stands def change rows stand has.0) has.1
    ∙ ap (with_changes def changes) (change_stored def change rows stand has.0)
