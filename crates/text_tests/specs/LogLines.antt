-- Lines of a log and the records that they spell, worked out by hand.
use Rattle.std.specs.Prelude.{◌≡◌, ℕ, pos, neg_ℤ, codes, List, [], ◌∷◌, ◌++◌, map, replicate}
use Rattle.std.specs.Prelude.{Bool, true, false, Option, Some, None, is_some}
use Rattle.std.proofs.Common.{refl}
use Rattle.std.specs.Char.{encode_utf8}
use Rattle.std.specs.Fmt.{digits}
use Rattle.std.specs.Str.{is_utf8, chars}
use Rattle.repl_types.specs.ValueText.{unescaped, value_of}
use Rattle.repl_types.specs.declared.record.Change.TheVariants.{Insert, Update, Delete, Start, Stop}
use Rattle.repl_types.specs.declared.record.LogRecord.{LogRecord}
use Rattle.repl_types.specs.declared.record.LogRecord.TheVariants.{Change, Commit, Abort}
use Rattle.repl_types.specs.declared.value.Value.TheVariants.{Null, Int, Text}
use Rattle.log_text.specs.Words.{words}
use Rattle.log_text.specs.Records.{record_of, record_of_words, change_of_words, commit_of, update_of, row_of, values_of}
use Rattle.log_text.specs.RecordText.{record_text, spaced}

-- each line is the text of the record beside it
abbrev AreWritten : List (List ℕ × LogRecord) → Type 0
AreWritten rows = map (λ row. record_text row.1) rows ≡ map (λ row. row.0) rows

-- each line spells the record beside it
abbrev AreRead : List (List ℕ × LogRecord) → Type 0
AreRead rows = map (λ row. record_of row.0) rows ≡ map (λ row. Some row.1) rows

-- each line is the text of the record beside it, and spells it
abbrev AreReadAndWritten : List (List ℕ × LogRecord) → Type 0
AreReadAndWritten rows = AreRead rows × AreWritten rows

-- all of these lines spell the same record, or none of them spells one
abbrev AllSpell : Option LogRecord → List (List ℕ) → Type 0
AllSpell entry lines = map record_of lines ≡ map (λ line. entry) lines

pub inserts_are_read_and_written : AreReadAndWritten (
    (codes "insert 1 orders 1 'pen' null", Change 1 (Insert (codes "orders") (Int (pos 1) ∷ Text (codes "pen") ∷ Null ∷ [])))
    ∷ (
      codes "insert 4294967295 t_1 -9223372036854775808 9223372036854775807",
      Change 4294967295 (Insert (codes "t_1") (Int (neg_ℤ (pos 9223372036854775808)) ∷ Int (pos 9223372036854775807) ∷ [])),
    )
    ∷ [])
unfolding record_of_words change_of_words row_of values_of value_of words digits is_utf8 chars encode_utf8 unescaped
inserts_are_read_and_written = (refl, refl)

pub texts_are_read_and_written : AreReadAndWritten (
    (codes "insert 2 t 'it''s'", Change 2 (Insert (codes "t") (Text (codes "it's") ∷ [])))
    ∷ (codes "insert 2 t 'a\\\\b\\nc'", Change 2 (Insert (codes "t") (Text (codes "a\\b\nc") ∷ [])))
    ∷ (codes "insert 2 t ''", Change 2 (Insert (codes "t") (Text (codes "") ∷ [])))
    ∷ (codes "insert 2 t ' -> '", Change 2 (Insert (codes "t") (Text (codes " -> ") ∷ [])))
    ∷ [])
unfolding record_of_words change_of_words row_of values_of value_of words digits is_utf8 chars encode_utf8 unescaped
texts_are_read_and_written = (refl, refl)

pub an_update_is_read_and_written : AreReadAndWritten (
    (codes "update 3 t 1 null -> -2", Change 3 (Update (codes "t") (Int (pos 1) ∷ Null ∷ []) (Int (neg_ℤ (pos 2)) ∷ [])))
    ∷ [])
unfolding record_of_words change_of_words update_of row_of values_of value_of words digits
an_update_is_read_and_written = (refl, refl)

pub a_delete_is_read_and_written : AreReadAndWritten (
    (codes "delete 3 t 0", Change 3 (Delete (codes "t") (Int (pos 0) ∷ [])))
    ∷ [])
unfolding record_of_words change_of_words row_of values_of value_of words digits
a_delete_is_read_and_written = (refl, refl)

pub ends_of_transactions_are_read_and_written : AreReadAndWritten (
    (codes "commit 1 ann 0", Commit 1 0 (codes "ann") None)
    ∷ (codes "commit 1 ann 1000000000000", Commit 1 1000000000000 (codes "ann") None)
    ∷ (codes "abort 7", Abort 7)
    ∷ [])
unfolding record_of_words commit_of words digits
ends_of_transactions_are_read_and_written = (refl, refl)

pub more_blanks_may_stand_about_words : AllSpell (Some (Abort 7)) (map codes (
    "abort 7"
    ∷ "  abort 7"
    ∷ "abort   7"
    ∷ "abort 7  "
    ∷ []))
unfolding record_of_words words
more_blanks_may_stand_about_words = refl

pub starts_and_stops_are_only_written : AreWritten (
    (codes "capstart 0 t", Change 0 (Start (codes "t")))
    ∷ (codes "capstop 0 t", Change 0 (Stop (codes "t")))
    ∷ [])
unfolding digits
starts_and_stops_are_only_written = refl

pub an_origin_is_only_written : AreWritten (
    (codes "commit 1 ann 60 origin q/s", Commit 1 60 (codes "ann") (Some (record { qual = codes "q"; name = codes "s" })))
    ∷ [])
unfolding digits
an_origin_is_only_written = refl

pub other_lines_are_no_records : AllSpell None (map codes (
    ""
    ∷ " "
    ∷ "insert"
    ∷ "insert 1"
    ∷ "insert 1 t"
    ∷ "append 1 t 1"
    ∷ "INSERT 1 t 1"
    ∷ "Abort 1"
    ∷ "insert\t1 t 1"
    ∷ "insert 1 t 1\t"
    ∷ "insert 1 t 1\r"
    ∷ "insert 0 t 1"
    ∷ "insert 4294967296 t 1"
    ∷ "insert 01 t 1"
    ∷ "insert -1 t 1"
    ∷ "insert 1 T 1"
    ∷ "insert 1 1t 1"
    ∷ "insert 1 abcdefghijklmnopqrstuvwxyz_012345 1"
    ∷ "insert 1 't' 1"
    ∷ "insert 1 t 'a"
    ∷ "insert 1 t 'a b"
    ∷ "insert 1 t a"
    ∷ "insert 1 t 'a'1"
    ∷ "insert 1 t 'a\\t'"
    ∷ "insert 1 t NULL"
    ∷ "insert 1 t -0"
    ∷ "insert 1 t +1"
    ∷ "insert 1 t 00"
    ∷ "insert 1 t 9223372036854775808"
    ∷ "insert 1 t -9223372036854775809"
    ∷ "insert 1 t 1 -> 2"
    ∷ "delete 1 t"
    ∷ "delete 1 t 1 ->"
    ∷ "update 1 t 1"
    ∷ "update 1 t 1 ->"
    ∷ "update 1 t -> 1"
    ∷ "update 1 t 1 -> 2 -> 3"
    ∷ "update 1 t 1 -> -> 2"
    ∷ "update 1 t 1 '->' 2"
    ∷ "commit 1 ann"
    ∷ "commit 1 ann 1000000000001"
    ∷ "commit 1 ann -1"
    ∷ "commit 1 ann 60 60"
    ∷ "commit 1 'ann' 60"
    ∷ "abort"
    ∷ "abort 0"
    ∷ "abort 1 1"
    ∷ "capstart 0 t"
    ∷ "capstart 1 t"
    ∷ "capstop 0 t"
    ∷ "commit 1 ann 60 origin q/s"
    ∷ []))
unfolding record_of_words change_of_words commit_of update_of row_of values_of value_of words is_utf8 chars encode_utf8 unescaped
other_lines_are_no_records = refl

-- whether each line spells a record stands beside it
abbrev AreTaken : List (List ℕ × Bool) → Type 0
AreTaken rows = map (λ row. is_some (record_of row.0)) rows ≡ map (λ row. row.1) rows

-- the number 1 this many times, with a blank before each
abbrev ones : ℕ → List ℕ
ones count = spaced (replicate count (codes "1"))

pub a_row_has_at_most_64_values : AreTaken (
    (codes "insert 1 t" ++ ones 64, true)
    ∷ (codes "insert 1 t" ++ ones 65, false)
    ∷ (codes "update 1 t 1 ->" ++ ones 64, true)
    ∷ (codes "update 1 t 1 ->" ++ ones 65, false)
    ∷ [])
unfolding record_of_words change_of_words update_of row_of values_of value_of words
a_row_has_at_most_64_values = refl

-- the letter x this many times
abbrev letters : ℕ → List ℕ
letters count = replicate count 0x78

pub a_text_has_at_most_1000_bytes : AreTaken (
    (codes "delete 1 t '" ++ letters 1000 ++ codes "'", true)
    ∷ (codes "delete 1 t '" ++ letters 1001 ++ codes "'", false)
    ∷ [])
unfolding record_of_words change_of_words row_of values_of value_of words is_utf8 chars encode_utf8 unescaped
a_text_has_at_most_1000_bytes = refl
