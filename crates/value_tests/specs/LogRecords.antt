-- Spellings of log records, worked out by hand.
use Rattle.std.specs.Prelude.{ℕ, pos, codes, List, [], ◌∷◌, ◌++◌, Some, None}
use Rattle.std.proofs.Common.{refl, arith}
use Rattle.std.proofs.Math.Utf8.{encode}
use Rattle.std.proofs.lemmas.Str.{IsUtf8-from_is_utf8}
use Rattle.std.specs.Str.{chars, is_utf8}
use Rattle.repl_types.specs.declared.record.Change.TheVariants.{Insert, Update, Delete, Start, Stop}
use Rattle.repl_types.specs.declared.record.LogRecord.{LogRecord}
use Rattle.repl_types.specs.declared.record.LogRecord.TheVariants.{Change, Commit, Abort}
use Rattle.repl_types.specs.declared.record.SetId.{SetId}
use Rattle.repl_types.specs.declared.value.Value.TheVariants.{Null, Int, Text}
use Rattle.row_codec.specs.LogRecords.{log_spelling, IsLogRecord}
use Rattle.row_codec.specs.Spelling.{b16, b32, b64}
use Rattle.value_tests.specs.Spelled.{IsSpelled}

-- the set q/n
abbrev set : SetId
set = record { qual = codes "q"; name = codes "n" }

-- the record has parts that are in their ranges, and the bytes as its spelling
abbrev IsRecord : LogRecord → List ℕ → Type 0
IsRecord = IsSpelled IsLogRecord log_spelling

pub log_records_have_their_spellings :
    IsRecord (Change 1 (Insert (codes "orders") (Int (pos 1) ∷ Text (codes "pen") ∷ Int (pos 20) ∷ []))) (
    0x11 ∷ 0 ∷ 0 ∷ 0 ∷ 1 ∷ 6 ∷ codes "orders" ++ 0 ∷ 3 ∷ 1 ∷ 0x80 ∷ 0 ∷ 0 ∷ 0 ∷ 0 ∷ 0 ∷ 0 ∷ 1 ∷ 2 ∷ codes "pen" ++ 0 ∷ 0 ∷ 1
    ∷ 0x80 ∷ 0 ∷ 0 ∷ 0 ∷ 0 ∷ 0 ∷ 0 ∷ 0x14 ∷ [])
    × IsRecord (Change 7 (Update (codes "t") (Null ∷ []) (Text (codes "a") ∷ []))) (
    0x12 ∷ 0 ∷ 0 ∷ 0 ∷ 7 ∷ 1 ∷ codes "t" ++ 0 ∷ 1 ∷ 0 ∷ 0 ∷ 1 ∷ 2 ∷ codes "a" ++ 0 ∷ 0 ∷ [])
    × IsRecord (Change 7 (Delete (codes "t") (Int (pos 0) ∷ []))) (
    0x13 ∷ 0 ∷ 0 ∷ 0 ∷ 7 ∷ 1 ∷ codes "t" ++ 0 ∷ 1 ∷ 1 ∷ 0x80 ∷ 0 ∷ 0 ∷ 0 ∷ 0 ∷ 0 ∷ 0 ∷ 0 ∷ [])
    × IsRecord (Commit 7 60 (codes "ann") None) (
    0x14 ∷ 0 ∷ 0 ∷ 0 ∷ 7 ∷ 0 ∷ 0 ∷ 0 ∷ 0 ∷ 0 ∷ 0 ∷ 0 ∷ 0x3c ∷ 3 ∷ codes "ann" ++ 0 ∷ [])
    × IsRecord (Commit 7 60 (codes "ann") (Some set)) (
    0x14 ∷ 0 ∷ 0 ∷ 0 ∷ 7 ∷ 0 ∷ 0 ∷ 0 ∷ 0 ∷ 0 ∷ 0 ∷ 0 ∷ 0x3c ∷ 3 ∷ codes "ann" ++ 1 ∷ 1 ∷ codes "q" ++ 1 ∷ codes "n")
    × IsRecord (Abort 7) (0x15 ∷ 0 ∷ 0 ∷ 0 ∷ 7 ∷ [])
    × IsRecord (Change 0 (Start (codes "t"))) (0x16 ∷ 0 ∷ 0 ∷ 0 ∷ 0 ∷ 1 ∷ codes "t")
    × IsRecord (Change 0 (Stop (codes "t"))) (0x17 ∷ 0 ∷ 0 ∷ 0 ∷ 0 ∷ 1 ∷ codes "t")
unfolding b16 b32 b64 chars encode is_utf8
log_records_have_their_spellings = search (arith, refl, IsUtf8-from_is_utf8)
