-- The spellings of the records of a log.
use Rattle.std.specs.Prelude.{ℕ, ◌≤◌, List, ◌∷◌, ◌++◌, length}
use Rattle.repl_types.specs.Sizes.{row_limit}
use Rattle.repl_types.specs.declared.record.Change.{Change}
use Rattle.repl_types.specs.declared.record.Change.TheVariants.{Insert, Update, Delete, Start, Stop}
use Rattle.repl_types.specs.declared.record.LogRecord.{LogRecord}
use Rattle.repl_types.specs.declared.record.LogRecord.TheVariants as records
use Rattle.row_codec.specs.Spelling.{b32, b64, Is32, Is64, short_text, IsName, origin, IsOrigin, row_spelling, IsRow, IsCounted}

-- a change: its tag, the transaction, the table and the rows
abbrev pub change_spelling : ℕ → Change → List ℕ
change_spelling tx (Insert table row) = 0x11 ∷ b32 tx ++ short_text table ++ row_spelling row
change_spelling tx (Update table before after) = 0x12 ∷ b32 tx ++ short_text table ++ row_spelling before ++ row_spelling after
change_spelling tx (Delete table row) = 0x13 ∷ b32 tx ++ short_text table ++ row_spelling row
change_spelling tx (Start table) = 0x16 ∷ b32 tx ++ short_text table
change_spelling tx (Stop table) = 0x17 ∷ b32 tx ++ short_text table

-- a record: a change; or a tag, the transaction, and of a commit its time, user and origin
abbrev pub log_spelling : LogRecord → List ℕ
log_spelling (records.Change tx change) = change_spelling tx change
log_spelling (records.Commit tx time authid from) = 0x14 ∷ b32 tx ++ b64 time ++ short_text authid ++ origin from
log_spelling (records.Abort tx) = 0x15 ∷ b32 tx

-- the changes whose rows have counts of two bytes
abbrev pub HasChangeSpelling : Change → Type 0
HasChangeSpelling (Insert table row) = IsCounted row
HasChangeSpelling (Update table before after) = IsCounted before × IsCounted after
HasChangeSpelling (Delete table row) = IsCounted row
HasChangeSpelling (Start table) = Unit {0}
HasChangeSpelling (Stop table) = Unit {0}

-- the records that have a spelling
abbrev pub HasLogSpelling : LogRecord → Type 0
HasLogSpelling (records.Change tx change) = HasChangeSpelling change
HasLogSpelling (records.Commit tx time authid from) = Unit {0}
HasLogSpelling (records.Abort tx) = Unit {0}

-- the changes whose rows have at most 64 values
abbrev pub ChangesShortRows : Change → Type 0
ChangesShortRows (Insert table row) = length row ≤ row_limit
ChangesShortRows (Update table before after) = (length before ≤ row_limit) × (length after ≤ row_limit)
ChangesShortRows (Delete table row) = length row ≤ row_limit
ChangesShortRows (Start table) = Unit {0}
ChangesShortRows (Stop table) = Unit {0}

-- the records whose rows have at most 64 values
abbrev pub HasShortRows : LogRecord → Type 0
HasShortRows (records.Change tx change) = ChangesShortRows change
HasShortRows (records.Commit tx time authid from) = Unit {0}
HasShortRows (records.Abort tx) = Unit {0}

-- a change whose parts are in their ranges
abbrev pub IsChange : ℕ → Change → Type 0
IsChange tx (Insert table row) = Is32 tx × IsName table × IsRow row
IsChange tx (Update table before after) = Is32 tx × IsName table × IsRow before × IsRow after
IsChange tx (Delete table row) = Is32 tx × IsName table × IsRow row
IsChange tx (Start table) = Is32 tx × IsName table
IsChange tx (Stop table) = Is32 tx × IsName table

-- a record whose parts are in their ranges
abbrev pub IsLogRecord : LogRecord → Type 0
IsLogRecord (records.Change tx change) = IsChange tx change
IsLogRecord (records.Commit tx time authid from) = Is32 tx × Is64 time × IsName authid × IsOrigin from
IsLogRecord (records.Abort tx) = Is32 tx
