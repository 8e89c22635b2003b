-- A copy that is kept only by change rows is the source.
use Rattle.std.proofs.Common.{◌≡◌, ℕ, ◌+◌, ◌≤◌, zero-le, Bool, true, false, cond, ◌&&◌, List, [], ◌∷◌, ◌++◌, length, Some, None, refl, sym, ap, ◌∙◌, IsTrue, ◌==◌, nat_lt, nat_le, slice_index_or, filter, IfSome, bytes_eq}
use Rattle.std.specs.List.{AllByRecursion, flat_map, enumerate_from}
use Rattle.std.specs.FinMap.{empty, insert, remove}
use Rattle.std.proofs.lemmas.Bool.{cond-false}
use Rattle.std.proofs.lemmas.List.FromFn.{fill_by_all}
use Rattle.repl_types.specs.Value.{Values, images}
use Rattle.repl_types.specs.declared.value.Value.TheVariants.{Null}
use Rattle.repl_types.specs.declared.table.TableDef.{TableDef}
use Rattle.repl_types.specs.declared.record.Change.{Change}
use Rattle.repl_types.specs.declared.record.Change.TheVariants.{Insert, Update, Delete, Start, Stop}
use Rattle.repl_types.specs.declared.record.LogRecord.{LogRecord}
use Rattle.repl_types.specs.declared.record.LogRecord.TheVariants as records
use Rattle.repl_types.specs.declared.unit.Placed.{Placed}
use Rattle.repl_types.specs.declared.unit.Unit.{Unit}
use Rattle.repl_types.specs.declared.change_row.Registration.{Registration}
use Rattle.repl_types.specs.declared.change_row.CdRow.{CdRow}
use Rattle.repl_model.specs.Tables.{Rows, key_of, same_values, table_of, effect, after_change, after_changes}
use Rattle.repl_model.specs.Units.{At, positions, change_of, changes_up_to, last_end, unit_at, units, last_commit}
use Rattle.repl_model.specs.SourceAt.{unplaced, after_units, units_between}
use Rattle.repl_model.specs.ChangeRows.{rows_of, rows_of_placed, shows_nothing, change_rows, changes_between, after_change_row, after_change_rows}
use Rattle.repl_model.specs.Copies.{copy_at, KeepsWholeRows, IsWhole, LeavesKey, RecordLeavesKey, LeavesKeys}
use Rattle.repl_model.specs.laws.Lists.{each_filter_map}
use Rattle.repl_types.specs.laws.Lists.{all_filter}
use Rattle.repl_model.specs.laws.Rows.{insert_removed}
use Rattle.repl_model.specs.laws.Source.{source_zero, source_onward}

-- the after-images of a whole row are the row
after_images : (def : TableDef) (reg : Registration) (row : Values) → KeepsWholeRows def reg → IsWhole def row → images reg.after row ≡ row
after_images def reg row keeps whole =
    ap (λ (places : List ℕ). images places row) keeps.after
    ∙ sym (fill_by_all (λ place. slice_index_or row place Null) row (length def.columns) Null whole (λ k h. refl))

-- ---- one change

-- the change rows of a change of the table do what it does
same_effect : (def : TableDef) (reg : Registration) (seq pos : ℕ) (change : Change) (rows : Rows) → KeepsWholeRows def reg → LeavesKey def change → after_change_rows def (rows_of reg seq pos change) rows ≡ effect def change rows
same_effect def reg seq pos (Insert table row) rows keeps h = ap (λ (r : Values). insert rows (key_of def r) r) (after_images def reg row keeps h)
same_effect def reg seq pos (Update table before after) rows keeps h =
    let key = key_of def after in
    ap (λ (crs : List CdRow). after_change_rows def crs rows) (cond-false (shows_nothing reg before after) [] _ (ap (λ (b : Bool). b && same_values (images reg.after before) (images reg.after after)) keeps.changes_only) ∙ cond-false reg.del_ins _ _ keeps.del_ins)
    ∙ ap (λ (r : Values). insert rows (key_of def r) r) (after_images def reg after keeps h.1)
    ∙ sym (insert_removed rows key after)
    ∙ ap (λ (k : Values). insert (remove rows k) key after) (sym h.2)
same_effect def reg seq pos (Delete table row) rows keeps h = ap (λ (r : Values). remove rows (key_of def r)) (after_images def reg row keeps h)
same_effect def reg seq pos (Start table) rows keeps h = refl
same_effect def reg seq pos (Stop table) rows keeps h = refl

-- the change rows of a change of any table do what it does to this one
pub by_change : (def : TableDef) (reg : Registration) (seq : ℕ) (placed : Placed) (rows : Rows) → KeepsWholeRows def reg → (IsTrue (bytes_eq (table_of placed.change) def.name) → LeavesKey def placed.change) → after_change_rows def (rows_of_placed reg seq placed) rows ≡ after_change def placed.change rows
unfolding after_change
by_change def reg seq placed rows keeps h =
    ap (λ (name : List ℕ). after_change_rows def (cond (bytes_eq (table_of placed.change) name) (rows_of reg seq placed.pos placed.change) []) rows) keeps.table
    ∙ by_named (bytes_eq (table_of placed.change) def.name) h
  where
    by_named : (named : Bool) → (IsTrue named → LeavesKey def placed.change) → after_change_rows def (cond named (rows_of reg seq placed.pos placed.change) []) rows ≡ cond named (effect def placed.change rows) rows
    by_named true h = same_effect def reg seq placed.pos placed.change rows keeps (h refl)
    by_named false h = refl

-- ---- units

-- change rows, and then more
pub after_change_rows-append : (def : TableDef) (xs ys : List CdRow) (rows : Rows) → after_change_rows def (xs ++ ys) rows ≡ after_change_rows def ys (after_change_rows def xs rows)
after_change_rows-append def [] ys rows = refl
after_change_rows-append def (x ∷ xs) ys rows = after_change_rows-append def xs ys (after_change_row def x rows)

-- a change of a unit leaves the key, if it is of the table
abbrev pub PlacedLeavesKey : TableDef → Placed → Type 0
PlacedLeavesKey def placed = IsTrue (bytes_eq (table_of placed.change) def.name) → LeavesKey def placed.change

-- the change rows of changes do what these do
by_changes : (def : TableDef) (reg : Registration) (seq : ℕ) (changes : List Placed) (rows : Rows) → KeepsWholeRows def reg → AllByRecursion (PlacedLeavesKey def) changes → after_change_rows def (flat_map (rows_of_placed reg seq) changes) rows ≡ after_changes def (unplaced changes) rows
by_changes def reg seq [] rows keeps h = refl
by_changes def reg seq (placed ∷ changes) rows keeps h =
    after_change_rows-append def (rows_of_placed reg seq placed) (flat_map (rows_of_placed reg seq) changes) rows
    ∙ ap (after_change_rows def (flat_map (rows_of_placed reg seq) changes)) (by_change def reg seq placed rows keeps h.0)
    ∙ by_changes def reg seq changes (after_change def placed.change rows) keeps h.1

-- the change rows of a unit do what its changes do
pub by_unit : (def : TableDef) (reg : Registration) (u : Unit) (rows : Rows) → KeepsWholeRows def reg → AllByRecursion (PlacedLeavesKey def) u.changes → after_change_rows def (change_rows reg u) rows ≡ after_changes def (unplaced u.changes) rows
unfolding change_rows
by_unit def reg u rows keeps h = by_changes def reg u.head.seq u.changes rows keeps h

-- the change rows of units do what the units do
pub by_units : (def : TableDef) (reg : Registration) (us : List Unit) (rows : Rows) → KeepsWholeRows def reg → AllByRecursion (λ u. AllByRecursion (PlacedLeavesKey def) u.changes) us → after_change_rows def (flat_map (change_rows reg) us) rows ≡ after_units def us rows
by_units def reg [] rows keeps h = refl
by_units def reg (u ∷ us) rows keeps h =
    after_change_rows-append def (change_rows reg u) (flat_map (change_rows reg) us) rows
    ∙ ap (after_change_rows def (flat_map (change_rows reg) us)) (by_unit def reg u rows keeps h.0)
    ∙ by_units def reg us (after_changes def (unplaced u.changes) rows) keeps h.1

-- ---- the log

-- what holds of each record of a log holds at each position
at_positions : (def : TableDef) (k : ℕ) (log : List LogRecord) → LeavesKeys def log → AllByRecursion (λ (r : At). RecordLeavesKey def r.1) (enumerate_from k log)
at_positions def k [] h = tt
at_positions def k (r ∷ log) h = (h.0, at_positions def (k + 1) log h.1)

-- the change that a record is leaves the key
change_leaves : (def : TableDef) (tx : ℕ) (r : At) → RecordLeavesKey def r.1 → IfSome (change_of tx r) (PlacedLeavesKey def)
change_leaves def tx (pos, records.Change t change) h = by_own (t == tx)
  where
    by_own : (own : Bool) → IfSome (cond own (Some (record { pos = pos; change = change })) None) (PlacedLeavesKey def)
    by_own true = h
    by_own false = tt
change_leaves def tx (pos, records.Commit t time authid origin) h = tt
change_leaves def tx (pos, records.Abort t) h = tt

-- the changes of a transaction up to a position leave the keys
changes_leave : (def : TableDef) (tx before : ℕ) (log : List LogRecord) → LeavesKeys def log → AllByRecursion (PlacedLeavesKey def) (changes_up_to tx before log)
changes_leave def tx before log h =
    let here = λ (r : At). RecordLeavesKey def r.1 in
    let between = λ (r : At). nat_lt (last_end tx before log) r.0 && nat_lt r.0 before in
    each_filter_map (change_of tx) here (PlacedLeavesKey def) (change_leaves def tx) (filter between (positions log)) (all_filter here between (positions log) (at_positions def 1 log h))

-- the changes of each unit leave the keys
pub units_leave : (def : TableDef) (log : List LogRecord) → LeavesKeys def log → AllByRecursion (λ u. AllByRecursion (PlacedLeavesKey def) u.changes) (units log)
unfolding units
units_leave def log h = each_filter_map (unit_at log) (λ (r : At). RecordLeavesKey def r.1) (λ u. AllByRecursion (PlacedLeavesKey def) u.changes) ended (positions log) (at_positions def 1 log h)
  where
    ended : (r : At) → RecordLeavesKey def r.1 → IfSome (unit_at log r) (λ u. AllByRecursion (PlacedLeavesKey def) u.changes)
    ended (pos, records.Change tx change) k = tt
    ended (pos, records.Commit tx time authid origin) k = changes_leave def tx pos log h
    ended (pos, records.Abort tx) k = tt

-- a copy at a point, and then the change rows up to a later point, are the copy at that point
pub copy_onward : (def : TableDef) (reg : Registration) (low high : ℕ) (log : List LogRecord) → KeepsWholeRows def reg → LeavesKeys def log → low ≤ high → after_change_rows def (changes_between log reg low high) (copy_at def log low) ≡ copy_at def log high
unfolding changes_between
copy_onward def reg low high log keeps h below =
    by_units def reg (units_between low high log) (copy_at def log low) keeps (all_filter {X = Unit} (λ u. AllByRecursion (PlacedLeavesKey def) u.changes) (λ u. nat_lt low u.head.seq && nat_le u.head.seq high) (units log) (units_leave def log h))
    ∙ sym (source_onward def low high log below)

-- a copy that is kept only by change rows is the source
pub copy_by_rows : (def : TableDef) (reg : Registration) (log : List LogRecord) → KeepsWholeRows def reg → LeavesKeys def log → after_change_rows def (changes_between log reg 0 (last_commit log)) empty ≡ copy_at def log (last_commit log)
copy_by_rows def reg log keeps h =
    ap (after_change_rows def (changes_between log reg 0 (last_commit log))) (sym (source_zero def log))
    ∙ copy_onward def reg 0 (last_commit log) log keeps h zero-le
