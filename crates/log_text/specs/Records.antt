-- Log records as lines of text.
use Rattle.std.specs.Prelude.{ℕ, Bool, ◌&&◌, nat_le, if◌then◌else◌, codes, List, [], ◌∷◌, length, drop, Option, Some, None}
use Rattle.std.specs.Option.{option_map, option_and_then}
use Rattle.std.specs.List.{before_first, after_first, position_or_len}
use Rattle.std.specs.Str.{bytes_eq}
use Rattle.repl_types.specs.Value.{Values}
use Rattle.repl_types.specs.Name.{name_of}
use Rattle.repl_types.specs.Numbers.{number_of}
use Rattle.repl_types.specs.Sizes.{row_limit, time_limit}
use Rattle.repl_types.specs.ValueText.{value_of}
use Rattle.repl_types.specs.declared.record.Change.{Change}
use Rattle.repl_types.specs.declared.record.Change.TheVariants.{Insert, Update, Delete}
use Rattle.repl_types.specs.declared.record.LogRecord.{LogRecord}
use Rattle.repl_types.specs.declared.record.LogRecord.TheVariants as records
use Rattle.log_text.specs.Words.{words}

-- a step that needs what the step before gave
infixl 10 ◌>>=◌
abbrev pub ◌>>=◌ : {A B : Type 0} → Option A → (A → Option B) → Option B
o >>= f = option_and_then f o

-- the highest number of a user's transaction
abbrev pub tx_limit : ℕ
tx_limit = 4294967295

-- the number of a user's transaction, 1 to 4294967295
abbrev pub tx_of : List ℕ → Option ℕ
tx_of word = number_of 1 tx_limit word

-- the time that a word spells, 0 to 10 ^ 12 seconds
abbrev pub time_of : List ℕ → Option ℕ
time_of word = number_of 0 time_limit word

-- the values that words spell, one each
unfoldable pub values_of : List (List ℕ) → Option Values
values_of [] = Some []
values_of (word ∷ ws) = do
  value ← value_of word
  values ← values_of ws
  Some (value ∷ values)

-- a row of a record has 1 to 64 values
unfoldable pub row_of : List (List ℕ) → Option Values
row_of ws = if nat_le 1 (length ws) && nat_le (length ws) row_limit then values_of ws else None

-- whether a word is the arrow between the rows of an update
abbrev pub is_arrow : List ℕ → Bool
is_arrow word = bytes_eq word (codes "->")

-- VALUES -> VALUES
unfoldable pub update_of : List ℕ → List (List ℕ) → Option Change
update_of table ws = do
  before ← row_of (before_first is_arrow ws)
  after ← row_of (after_first is_arrow ws)
  Some (Update table before after)

-- the words from the first arrow on
abbrev pub from_arrow : List (List ℕ) → List (List ℕ)
from_arrow ws = drop (position_or_len is_arrow ws) ws

-- insert TX TABLE VALUES, delete TX TABLE VALUES, update TX TABLE VALUES -> VALUES
abbrev pub table_change_of : List ℕ → List ℕ → List (List ℕ) → Option Change
table_change_of verb table ws =
    if bytes_eq verb (codes "insert") then option_map (λ row. Insert table row) (row_of ws)
    else (if bytes_eq verb (codes "delete") then option_map (λ row. Delete table row) (row_of ws)
    else (if bytes_eq verb (codes "update") then update_of table ws else None))

-- the change of the table that the first word names
unfoldable pub change_of_words : List ℕ → List (List ℕ) → Option Change
change_of_words verb [] = None
change_of_words verb (name ∷ ws) = do
  table ← name_of name
  table_change_of verb table ws

-- commit TX AUTHID TIME
unfoldable pub commit_of : ℕ → List (List ℕ) → Option LogRecord
commit_of tx [] = None
commit_of tx (name ∷ []) = None
commit_of tx (name ∷ time ∷ []) = do
  authid ← name_of name
  seconds ← time_of time
  Some (records.Commit tx seconds authid None)
commit_of tx (name ∷ time ∷ more ∷ ws) = None

-- abort TX
abbrev pub abort_of : ℕ → List (List ℕ) → Option LogRecord
abort_of tx [] = Some (records.Abort tx)
abort_of tx (word ∷ ws) = None

-- the record of a transaction, by its verb and what follows the transaction
abbrev pub tx_record_of : List ℕ → ℕ → List (List ℕ) → Option LogRecord
tx_record_of verb tx ws =
    if bytes_eq verb (codes "commit") then commit_of tx ws
    else (if bytes_eq verb (codes "abort") then abort_of tx ws
    else option_map (λ change. records.Change tx change) (change_of_words verb ws))

-- VERB TX, and what the verb asks for
unfoldable pub record_of_words : List (List ℕ) → Option LogRecord
record_of_words [] = None
record_of_words (verb ∷ []) = None
record_of_words (verb ∷ number ∷ ws) = do
  tx ← tx_of number
  tx_record_of verb tx ws

-- the record whose text a line is
abbrev pub record_of : List ℕ → Option LogRecord
record_of line = record_of_words (words line)
