-- The spellings of the records of a source.
use Rattle.std.specs.Prelude.{ℕ, List, [], ◌∷◌, ◌++◌}
use Rattle.repl_records.specs.declared.source_side.SourceRow.{SourceRow}
use Rattle.repl_records.specs.declared.source_side.InFlight.{InFlight}
use Rattle.repl_records.specs.declared.source_side.Head.{Head}
use Rattle.row_codec.specs.Spelling.{Is64, IsCounted, IsRow, b64, row_spelling}

-- a row of a source table
abbrev pub source_row_spelling : SourceRow → List ℕ
source_row_spelling r = row_spelling r.row

-- rows of source tables that have a spelling
abbrev pub IsSourceRow : SourceRow → Type 0
IsSourceRow r = IsRow r.row

-- rows of source tables whose count has two bytes
abbrev pub HasSourceRowSpelling : SourceRow → Type 0
HasSourceRowSpelling r = IsCounted r.row

-- the record of a change in flight: one byte, always the same, since its key says all
abbrev pub in_flight_spelling : InFlight → List ℕ
in_flight_spelling r = 0x00 ∷ []

-- the end of a log: its last position, its last commit and that commit's time
abbrev pub head_spelling : Head → List ℕ
head_spelling r = b64 r.last ++ b64 r.commit ++ b64 r.time

-- the ends of logs whose numbers have eight bytes
abbrev pub IsHead : Head → Type 0
IsHead r = Is64 r.last × Is64 r.commit × Is64 r.time
