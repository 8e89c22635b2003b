-- The changes of a sound log's units fit their tables.
use Rattle.std.proofs.Common.{◌≡◌, ℕ, Bool, true, false, ◌&&◌, ◌||◌, List, map, Option, Some, inl, inr, sym, ap, ◌∙◌, bytes_eq}
use Rattle.std.specs.Prelude.{◌==◌, IsTrue}
use Rattle.std.specs.List.{AllByRecursion, list_any}
use Rattle.std.specs.Option.{option_map_or}
use Rattle.std.proofs.lemmas.Bool.{and_parts, or_cases, or_left, or_right}
use Rattle.world_store.specs.Words.{IsLogRecord}
use Rattle.repl_model.specs.Words.{Change, LogRecord, TableDef, table_named, change_fits, is_change_applicable, is_signal, is_signal_applicable, LogIsSound, record_fits, table_of, units, Server, tables_of, registered_of, at_each, at_one, same_name}
use Rattle.repl_types.specs.declared.record.LogRecord.TheVariants as records
use Rattle.stored_commits.specs.records.SourceTables.{HasRows, Suits}
use Rattle.stored_commits.specs.laws.LoggedRows.{RecordHas, UnitHas, units_have}
use Rattle.stored_commits.specs.laws.StoredRows.{typed_rows}

-- ---- the changes of a sound log

-- a change that fits a server suits a table that is found by its name
change_suits : (server : Server) (def : TableDef) (own : Bool) (change : Change) → table_named def.name (tables_of server) ≡ Some def
    → (is_change_applicable (tables_of server) change || (own && is_signal_applicable (map (λ r. r.reg) (registered_of server)) change)) ≡ true → Suits def change
change_suits server def own change found fit same =
    let regs = map (λ r. r.reg) (registered_of server) in
    elim (or_cases (is_change_applicable (tables_of server) change) (own && is_signal_applicable regs change) fit) [
      | inl applicable ↦ or_right (is_signal change) (change_fits def change)
          (sym (ap (λ (o : Option TableDef). option_map_or (λ d. change_fits d change) o false) (ap (λ (name : List ℕ). table_named name (tables_of server)) (same_name (table_of change) def.name same) ∙ found)) ∙ applicable)
      | inr signal ↦ or_left (is_signal change) (change_fits def change) (and_parts (is_signal change) (list_any (λ reg. bytes_eq (table_of change) reg.table) regs) (and_parts own (is_signal_applicable regs change) signal).1).0
    ]

-- a change has rows of values, which suit a table
abbrev pub Fits : TableDef → Change → Type 0
Fits def change = HasRows change × Suits def change

-- so has that of a record of a sound log, if the table is one that is found by its name
record_has : (server : Server) (def : TableDef) → table_named def.name (tables_of server) ≡ Some def → (r : LogRecord) → IsLogRecord r → IsTrue (record_fits server r) → RecordHas (Fits def) r
record_has server def found (records.Change tx change) is fit = (typed_rows tx change is, change_suits server def (tx == 0) change found fit)
record_has server def found (records.Commit tx time authid origin) is fit = tt
record_has server def found (records.Abort tx) is fit = tt

-- and each change of the units of a sound log
pub units_fit : (server : Server) (def : TableDef) → LogIsSound server → table_named def.name (tables_of server) ≡ Some def → AllByRecursion (UnitHas (Fits def)) (units server.log)
units_fit server def sound found = units_have (Fits def) server.log (at_each (RecordHas (Fits def)) server.log (λ r j. record_has server def found r (at_one IsLogRecord server.log r sound.typed j) (at_one (λ s. IsTrue (record_fits server s)) server.log r sound.fits j)))
