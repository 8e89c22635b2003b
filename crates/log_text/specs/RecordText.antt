-- The lines that log records are written as.
use Rattle.std.specs.Prelude.{ℕ, ◌≤◌, codes, List, [], ◌∷◌, ◌++◌, length, map, Option, Some, None, IsTrue, decimal}
use Rattle.std.specs.List.{flat_map, All}
use Rattle.repl_types.specs.Value.{Values}
use Rattle.repl_types.specs.Name.{is_name}
use Rattle.repl_types.specs.ValueText.{value_text, IsValue}
use Rattle.repl_types.specs.declared.record.Change.{Change}
use Rattle.repl_types.specs.declared.record.Change.TheVariants.{Insert, Update, Delete, Start, Stop}
use Rattle.repl_types.specs.declared.record.LogRecord.{LogRecord}
use Rattle.repl_types.specs.declared.record.LogRecord.TheVariants as records
use Rattle.repl_types.specs.declared.record.SetId.{SetId}
use Rattle.repl_types.specs.Sizes.{row_limit, time_limit}
use Rattle.log_text.specs.Words.{blank}
use Rattle.log_text.specs.Records.{tx_limit}

-- ---- writing

-- words, with a blank before each
abbrev pub spaced : List (List ℕ) → List ℕ
spaced ws = flat_map (λ word. blank ∷ word) ws

-- words, with a blank between each two
abbrev pub line_of : List (List ℕ) → List ℕ
line_of [] = []
line_of (word ∷ ws) = word ++ spaced ws

-- a verb, a transaction and a table
abbrev pub head_words : List ℕ → ℕ → List ℕ → List (List ℕ)
head_words verb tx table = verb ∷ decimal tx ∷ table ∷ []

-- the words of a change: its head, then its values, those before and those after it about an arrow
abbrev pub change_words : ℕ → Change → List (List ℕ)
change_words tx (Insert table row) = head_words (codes "insert") tx table ++ map value_text row
change_words tx (Update table before after) = head_words (codes "update") tx table ++ map value_text before ++ codes "->" ∷ map value_text after
change_words tx (Delete table row) = head_words (codes "delete") tx table ++ map value_text row
change_words tx (Start table) = head_words (codes "capstart") tx table
change_words tx (Stop table) = head_words (codes "capstop") tx table

-- the byte between the two parts of a set's name
abbrev pub slash : ℕ
slash = 0x2f

-- the words of the set that made a unit, if a set did
abbrev pub origin_words : Option SetId → List (List ℕ)
origin_words None = []
origin_words (Some set) = codes "origin" ∷ (set.qual ++ slash ∷ set.name) ∷ []

-- the words of a record
abbrev pub record_words : LogRecord → List (List ℕ)
record_words (records.Change tx change) = change_words tx change
record_words (records.Commit tx time authid origin) = head_words (codes "commit") tx authid ++ decimal time ∷ origin_words origin
record_words (records.Abort tx) = codes "abort" ∷ decimal tx ∷ []

-- the line of a record
abbrev pub record_text : LogRecord → List ℕ
record_text entry = line_of (record_words entry)

-- ---- the records that lines are read as

-- the number of a user's transaction
abbrev pub IsUserTx : ℕ → Type 0
IsUserTx tx = (1 ≤ tx) × (tx ≤ tx_limit)

-- 1 to 64 values
abbrev pub IsRecordRow : Values → Type 0
IsRecordRow row = (1 ≤ length row) × (length row ≤ row_limit) × All IsValue row

-- a change of a table whose name is a name, with rows of 1 to 64 values
abbrev pub IsUserChange : Change → Type 0
IsUserChange (Insert table row) = IsTrue (is_name table) × IsRecordRow row
IsUserChange (Update table before after) = IsTrue (is_name table) × IsRecordRow before × IsRecordRow after
IsUserChange (Delete table row) = IsTrue (is_name table) × IsRecordRow row
IsUserChange (Start table) = ⊥
IsUserChange (Stop table) = ⊥

-- a record of a user: a change of a user, a commit that no set made, at a time of at most 10 ^ 12 seconds, or
-- an abort
abbrev pub IsWritable : LogRecord → Type 0
IsWritable (records.Change tx change) = IsUserTx tx × IsUserChange change
IsWritable (records.Commit tx time authid None) = IsUserTx tx × (time ≤ time_limit) × IsTrue (is_name authid)
IsWritable (records.Commit tx time authid (Some set)) = ⊥
IsWritable (records.Abort tx) = IsUserTx tx
