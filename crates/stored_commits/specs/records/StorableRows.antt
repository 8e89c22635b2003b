-- Which rows and changes can be stored.
use Rattle.std.specs.Prelude.{ℕ, IsTrue}
use Rattle.repl_types.specs.Sizes.{IsKeySize}
use Rattle.repl_types.specs.Value.{Values}
use Rattle.repl_types.specs.declared.record.Change.{Change}
use Rattle.repl_types.specs.declared.record.LogRecord.TheVariants as records
use Rattle.row_codec.specs.LogRecords.{HasLogSpelling, IsChange, log_spelling}
use Rattle.row_codec.specs.Spelling.{IsRow, key_spelling}
use Rattle.row_codec.specs.Storable.{IsStorable}
use Rattle.repl_records.specs.SourceSide.{HasSourceRowSpelling, source_row_spelling}
use Rattle.repl_model.specs.Tables.{key_of}
use Rattle.repl_model.specs.Applicable.{fits, change_fits}
use Rattle.repl_model.specs.World.{ServerTable}
use Rattle.repl_model.specs.SoundDefinitions.{KeepsTable}

-- a row of values that fits a table which keeps the rules can be stored, and so can its key
abbrev pub FittingRowIsStorable : Type 0
FittingRowIsStorable = (t : ServerTable) (row : Values) → KeepsTable t → IsRow row → IsTrue (fits t.def row)
    → IsStorable HasSourceRowSpelling source_row_spelling (record { row = row }) × IsKeySize (key_spelling (key_of t.def row))

-- the record of a change that fits such a table can be stored
abbrev pub FittingChangeIsStorable : Type 0
FittingChangeIsStorable = (t : ServerTable) (tx : ℕ) (change : Change) → KeepsTable t → IsChange tx change → IsTrue (change_fits t.def change)
    → IsStorable HasLogSpelling log_spelling (records.Change tx change)
