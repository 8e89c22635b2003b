-- The source of a sound log, and what one more record makes of its stored tables.
use Rattle.std.proofs.Common.{◌≡◌, ℕ, Bool, true, false, ◌&&◌, ◌||◌, List, [], ◌∷◌, ◌++◌, map, Option, Some, None, inl, inr, refl, sym, ap, subst, ◌∙◌, ◌==◌, IsTrue, slice_get, bytes_eq}
use Rattle.std.specs.List.{AllByRecursion, list_any}
use Rattle.std.specs.Option.{option_map, option_map_or}
use Rattle.std.specs.FinMap.{empty, entries}
use Rattle.std.proofs.lemmas.Bool.{and_parts, or_cases, or_left, or_right}
use Rattle.std.proofs.lemmas.Slice.Eq.{bytes_eq-Decides}
use Rattle.world_store.specs.Words.{IsLogRecord, no_rows}
use Rattle.repl_model.specs.Words.{Values, all_weaker, Change, LogRecord, TableDef, In, at_each, in_map, find_image, found_alone, Rows, table_of, after_change, units, last_commit, source_at, fits, table_named, change_fits, is_change_applicable, is_signal, is_signal_applicable, ServerTable, Server, tables_of, registered_of, LogIsSound, record_fits, name_itself, source_abort, source_at_last, source_change, entries_empty}
use Rattle.repl_types.specs.declared.record.LogRecord.TheVariants as records
use Rattle.keep_core.specs.Contents.{Table}
use Rattle.stored_commits.specs.records.SourceTables.{rows_table, StandsUnderKey, HasRows, Suits}
use Rattle.stored_commits.specs.records.SourceLogs.{SourceRowsStand, SourceRowsFit, TablesAreFound, ChangeLeavesSource, AbortLeavesSource}
use Rattle.stored_commits.specs.laws.LoggedRows.{RecordHas, units_have, units_keep}
use Rattle.stored_commits.specs.laws.StoredRows.{typed_rows, change_stands}
use Rattle.stored_commits.specs.laws.FittingRows.{change_fits_rows}

-- ---- the records of a sound log

-- the rows of a typed record are rows of values
record_has_rows : (r : LogRecord) → IsLogRecord r → RecordHas HasRows r
record_has_rows (records.Change tx change) typed = typed_rows tx change typed
record_has_rows (records.Commit tx time authid origin) typed = tt
record_has_rows (records.Abort tx) typed = tt

-- so are those of a sound log
log_has_rows : (server : Server) → LogIsSound server → AllByRecursion (RecordHas HasRows) server.log
log_has_rows server sound = all_weaker IsLogRecord (RecordHas HasRows) server.log record_has_rows sound.typed

-- a change that fits a server suits a table that is found by its name
change_suits : (server : Server) (def : TableDef) (own : Bool) (change : Change) → table_named def.name (tables_of server) ≡ Some def
    → (is_change_applicable (tables_of server) change || (own && is_signal_applicable (map (λ r. r.reg) (registered_of server)) change)) ≡ true → Suits def change
change_suits server def own change found fit same =
    let regs = map (λ r. r.reg) (registered_of server) in
    elim (or_cases (is_change_applicable (tables_of server) change) (own && is_signal_applicable regs change) fit) [
      | inl applicable ↦ or_right (is_signal change) (change_fits def change)
          (sym (ap (λ (o : Option TableDef). option_map_or (λ d. change_fits d change) o false) (ap (λ (name : List ℕ). table_named name (tables_of server)) ((bytes_eq-Decides (table_of change) def.name).0 same) ∙ found)) ∙ applicable)
      | inr signal ↦ or_left (is_signal change) (change_fits def change) (and_parts (is_signal change) (list_any (λ reg. bytes_eq (table_of change) reg.table) regs) (and_parts own (is_signal_applicable regs change) signal).1).0
    ]

-- and so does the change of a record that fits it
record_suits : (server : Server) (def : TableDef) → table_named def.name (tables_of server) ≡ Some def → (r : LogRecord) → IsTrue (record_fits server r) → RecordHas (Suits def) r
record_suits server def found (records.Change tx change) fit = change_suits server def (tx == 0) change found fit
record_suits server def found (records.Commit tx time authid origin) fit = tt
record_suits server def found (records.Abort tx) fit = tt

-- so do those of a sound log
log_suits : (server : Server) (def : TableDef) → table_named def.name (tables_of server) ≡ Some def → LogIsSound server → AllByRecursion (RecordHas (Suits def)) server.log
log_suits server def found sound = all_weaker (λ r. IsTrue (record_fits server r)) (RecordHas (Suits def)) server.log (record_suits server def found) sound.fits

-- ---- the rows of the source

-- what changes keep holds of the source, if it holds of no rows
source_keeps : (P : Change → Type 0) (def : TableDef) (Q : Values × Values → Type 0) → ((change : Change) (rows : Rows) → P change → AllByRecursion Q (entries rows) → AllByRecursion Q (entries (after_change def change rows)))
    → (log : List LogRecord) → AllByRecursion (RecordHas P) log → AllByRecursion Q (entries (source_at def log (last_commit log)))
source_keeps P def Q keeps log all = subst (λ (rows : Rows). AllByRecursion Q (entries rows)) (sym (source_at_last def log))
    (units_keep P def (λ rows. AllByRecursion Q (entries rows)) keeps (units log) empty (units_have P log all) (subst (AllByRecursion Q) (sym entries_empty) tt))

-- they stand under their keys
pub source_stands : SourceRowsStand
source_stands server def sound = source_keeps HasRows def (StandsUnderKey def) (λ change rows has stand. change_stands def change rows stand has) server.log (log_has_rows server sound)

-- and fit their table
pub source_fits : SourceRowsFit
source_fits server def sound found = source_keeps (Suits def) def (λ entry. IsTrue (fits def entry.1)) (λ change rows suits all. change_fits_rows def change rows all suits) server.log (log_suits server def found sound)

-- ---- tables by their names

-- two that are one name are alike
names_alike : (name a b : List ℕ) → bytes_eq name a ≡ true → bytes_eq name b ≡ true → bytes_eq a b ≡ true
names_alike name a b e f = (bytes_eq-Decides a b).1 (sym ((bytes_eq-Decides name a).0 e) ∙ (bytes_eq-Decides name b).0 f)

-- at a server that keeps the rules each table is found by its name
pub tables_are_found : TablesAreFound
tables_are_found world server rules = at_each (λ def. table_named def.name (tables_of server) ≡ Some def) (tables_of server) one
  where
    def_of : ServerTable → TableDef
    def_of t = t.def

    one : (def : TableDef) → In def (tables_of server) → table_named def.name (tables_of server) ≡ Some def
    one def j =
        let t = in_map def_of server.tables def j in
        find_image def_of (λ d. bytes_eq def.name d.name) server.tables
        ∙ ap (option_map def_of) (found_alone (λ a b. bytes_eq a.def.name b.def.name) (λ a. bytes_eq def.name a.def.name) (λ a b. names_alike def.name a.def.name b.def.name) server.tables t.0 rules.differ t.1 (ap (λ (d : TableDef). bytes_eq def.name d.name) (sym t.2) ∙ name_itself def.name))
        ∙ ap Some (sym t.2)

-- ---- one more record

-- the stored table with a number, given the rows of each table
abbrev table_with : (TableDef → Rows) → Option ServerTable → Table
table_with rows o = option_map_or (λ t. rows_table (rows t.def)) o no_rows

-- tables of which the rows are the same are the same
tables_same : (old new : TableDef → Rows) → ((def : TableDef) → new def ≡ old def) → (o : Option ServerTable) → table_with new o ≡ table_with old o
tables_same old new same None = refl
tables_same old new same (Some t) = ap rows_table (same t.def)

-- the rows of a source at the end of a log
abbrev rows_at_end : List LogRecord → TableDef → Rows
rows_at_end log def = source_at def log (last_commit log)

-- a change leaves the stored tables
pub change_leaves : ChangeLeavesSource
change_leaves server tx change n = tables_same (rows_at_end server.log) (rows_at_end (server.log ++ records.Change tx change ∷ [])) (λ def. source_change def tx change server.log) (slice_get server.tables n)

-- and so does an abort
pub abort_leaves : AbortLeavesSource
abort_leaves server tx n = tables_same (rows_at_end server.log) (rows_at_end (server.log ++ records.Abort tx ∷ [])) (λ def. source_abort def tx server.log) (slice_get server.tables n)
