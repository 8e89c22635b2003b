-- The rows of a table at a point as a list that can be evaluated: a finite map's own operations are closed,
-- so the worked laws go over the entries.
use Rattle.std.proofs.Common.{◌≡◌, Bool, cond, true, false, not, List, [], ◌∷◌, Option, None, refl, sym, ap, ◌∙◌, ℕ, bytes_eq}
use Rattle.std.specs.Cmp.{eq_by_cmp_equiv}
use Rattle.std.specs.Ordering.{eq_by_cmp}
use Rattle.std.specs.FinMap.{put, empty, get, remove, entries, entries_sorted, entries-from_sorted, from_sorted, entries-insert, get-entries, get-from_sorted}
use Rattle.std.specs.FinMap.Entries.{where_key, is_sorted-where_key, find-where_key}
use Rattle.repl_types.specs.Value.{Values, key_cmp}
use Rattle.repl_types.specs.laws.Order.{key_cmp_total, exact_key}
use Rattle.repl_types.specs.declared.table.TableDef.{TableDef}
use Rattle.repl_types.specs.declared.record.Change.{Change}
use Rattle.repl_types.specs.declared.record.Change.TheVariants.{Insert, Update, Delete, Start, Stop}
use Rattle.repl_types.specs.declared.record.LogRecord.{LogRecord}
use Rattle.repl_types.specs.declared.unit.Unit.{Unit}
use Rattle.repl_model.specs.Tables.{Rows, key_of, table_of, effect, after_change, after_changes}
use Rattle.repl_model.specs.SourceAt.{unplaced, after_units, units_up_to, source_at}
use Rattle.repl_model.specs.laws.Rows.{same_rows, nothing_at, removed_at}

-- rows by their keys, in order
abbrev pub Entries : Type 0
Entries = List (Values × Values)

-- the entries without a key
abbrev pub without : Values → Entries → Entries
without key es = where_key key_cmp (λ k. not (eq_by_cmp key_cmp key k)) es

-- no rows have no entries
pub entries_empty : entries (empty {X = Values} {R = key_cmp}) ≡ []
entries_empty = ap entries (same_rows empty (from_sorted []) (λ q. nothing_at q ∙ sym (get-from_sorted key_cmp [] q tt))) ∙ entries-from_sorted key_cmp [] tt

-- the entries after a key was removed
pub entries_remove : (rows : Rows) (key : Values) → entries (remove rows key) ≡ without key (entries rows)
entries_remove rows key =
    let p = λ (k : Values). not (eq_by_cmp key_cmp key k) in
    let sorted = is_sorted-where_key key_cmp p (entries rows) (entries_sorted rows) in
    ap entries (same_rows (remove rows key) (from_sorted (without key (entries rows))) (λ q.
    removed_at rows key q
    ∙ ap (λ (b : Bool). cond b None (get rows q)) ((eq_by_cmp_equiv key_cmp_total).symm q key)
    ∙ turned (eq_by_cmp key_cmp key q) (get rows q)
    ∙ ap (λ (found : Option Values). cond (p q) found None) (get-entries rows q)
    ∙ sym (get-from_sorted key_cmp (without key (entries rows)) q sorted ∙ find-where_key key_cmp p q (λ x same. ap p (sym (exact_key q x same))) (entries rows))))
    ∙ entries-from_sorted key_cmp (without key (entries rows)) sorted
  where
    turned : (b : Bool) (x : Option Values) → cond b None x ≡ cond (not b) x None
    turned true x = refl
    turned false x = refl

-- the entries after a change of the table
abbrev pub effect_on : TableDef → Change → Entries → Entries
effect_on def (Insert table row) es = put key_cmp (key_of def row) row es
effect_on def (Update table before after) es = put key_cmp (key_of def after) after (without (key_of def before) es)
effect_on def (Delete table row) es = without (key_of def row) es
effect_on def (Start table) es = es
effect_on def (Stop table) es = es

-- the entries after changes of any table
abbrev pub changes_on : TableDef → List Change → Entries → Entries
changes_on def [] es = es
changes_on def (change ∷ changes) es = changes_on def changes (cond (bytes_eq (table_of change) def.name) (effect_on def change es) es)

-- the entries after units
abbrev pub units_on : TableDef → List Unit → Entries → Entries
units_on def [] es = es
units_on def (u ∷ us) es = units_on def us (changes_on def (unplaced u.changes) es)

effect_entries : (def : TableDef) (change : Change) (rows : Rows) → entries (effect def change rows) ≡ effect_on def change (entries rows)
effect_entries def (Insert table row) rows = entries-insert key_cmp_total rows (key_of def row) row
effect_entries def (Update table before after) rows = entries-insert key_cmp_total (remove rows (key_of def before)) (key_of def after) after ∙ ap (put key_cmp (key_of def after) after) (entries_remove rows (key_of def before))
effect_entries def (Delete table row) rows = entries_remove rows (key_of def row)
effect_entries def (Start table) rows = refl
effect_entries def (Stop table) rows = refl

-- the entries after changes
pub changes_entries : (def : TableDef) (changes : List Change) (rows : Rows) → entries (after_changes def changes rows) ≡ changes_on def changes (entries rows)
unfolding after_change
changes_entries def [] rows = refl
changes_entries def (change ∷ changes) rows = changes_entries def changes (after_change def change rows) ∙ ap (changes_on def changes) (by_table (bytes_eq (table_of change) def.name))
  where
    by_table : (b : Bool) → entries (cond b (effect def change rows) rows) ≡ cond b (effect_on def change (entries rows)) (entries rows)
    by_table true = effect_entries def change rows
    by_table false = refl

units_entries : (def : TableDef) (us : List Unit) (rows : Rows) → entries (after_units def us rows) ≡ units_on def us (entries rows)
units_entries def [] rows = refl
units_entries def (u ∷ us) rows = units_entries def us (after_changes def (unplaced u.changes) rows) ∙ ap (units_on def us) (changes_entries def (unplaced u.changes) rows)

-- the rows of a table at a point, evaluated
pub source_entries : (def : TableDef) (log : List LogRecord) (point : ℕ) → entries (source_at def log point) ≡ units_on def (units_up_to point log) []
unfolding source_at
source_entries def log point = units_entries def (units_up_to point log) empty ∙ ap (units_on def (units_up_to point log)) entries_empty
