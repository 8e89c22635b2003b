-- Bytes that are no record of a log, worked out by hand.
use Rattle.std.specs.Prelude.{◌≡◌, ◌≢◌, ℕ, nat_le, Bool, ◌&&◌, true, false, codes, List, [], ◌∷◌, ◌++◌, drop, slice_index, Option, Some, None}
use Rattle.std.proofs.Common.{refl, ap, ◌∙◌, arith}
use Rattle.repl_types.specs.Name.{is_name}
use Rattle.repl_types.specs.declared.record.Change.TheVariants.{Insert, Update, Delete, Start, Stop}
use Rattle.repl_types.specs.declared.record.LogRecord.{LogRecord}
use Rattle.repl_types.specs.declared.record.LogRecord.TheVariants.{Change, Commit, Abort}
use Rattle.repl_types.specs.declared.record.SetId.{SetId}
use Rattle.repl_types.specs.declared.value.Value.TheVariants.{Null}
use Rattle.row_codec.specs.LogRecords.{log_spelling, IsLogRecord}
use Rattle.row_codec.specs.Spelling.{b16, b32, b64, short_text, origin, row_spelling}
use Rattle.row_codec.specs.Takes.{NoSpelling}
use Rattle.row_codec.specs.laws.LogRecords.{one_transaction_table, one_log_record}
use Rattle.row_codec.specs.laws.Names.{one_name}
use Rattle.row_codec.specs.laws.Tags.{other_tag}
use Rattle.value_tests.specs.NoRows.{NoRow, no_value, no_tag}
use Rattle.value_tests.specs.Spelled.{torn}

-- the bytes are the spelling of no record
abbrev NoRecord : List ℕ → Type 0
NoRecord = NoSpelling IsLogRecord log_spelling

-- whether a byte is the tag of a record
abbrev is_tag : ℕ → Bool
is_tag byte = nat_le 0x11 byte && nat_le byte 0x17

-- each record begins with a tag
tagged : (x : LogRecord) → is_tag (slice_index (log_spelling x) 0) ≡ true
tagged (Change tx (Insert table row)) = refl
tagged (Change tx (Update table before after)) = refl
tagged (Change tx (Delete table row)) = refl
tagged (Change tx (Start table)) = refl
tagged (Change tx (Stop table)) = refl
tagged (Commit tx time authid from) = refl
tagged (Abort tx) = refl

-- bytes that begin with no tag are no record
untagged : (bytes : List ℕ) → is_tag (slice_index bytes 0) ≡ false → NoRecord bytes
untagged bytes other x fit e = let tag = ap (λ (bs : List ℕ). is_tag (slice_index bs 0)) e ∙ tagged x in absurd cc

-- a start of what is no name is no record
no_start : (name : List ℕ) → is_name name ≡ false → NoRecord (0x16 ∷ b32 0 ++ short_text name)
unfolding b32
no_start name other (Change tx (Start table)) fit e = let named = ap is_name (ap (drop 6) e) ∙ fit.1 in absurd cc
no_start name other x fit e = absurd (other_tag _ _ _ _ e refl)

-- nor is a delete of what is no row
no_delete : (bytes : List ℕ) → NoRow bytes → NoRecord (0x13 ∷ b32 7 ++ short_text (codes "t") ++ bytes)
unfolding b32
no_delete bytes none (Change tx (Delete table row)) fit e =
    none row fit.2 (one_transaction_table (7, codes "t") (tx, table) bytes (row_spelling row) (omega arith, refl) (fit.0, fit.1) (ap (drop 1) e)).1
no_delete bytes none x fit e = absurd (other_tag _ _ _ _ e refl)

-- the flag before an origin is neither no nor yes
no_origin : (from : Option SetId) (bytes : List ℕ) → 2 ∷ bytes ≢ origin from
no_origin None bytes e = other_tag _ _ _ _ e refl
no_origin (Some set) bytes e = other_tag _ _ _ _ e refl

-- so a commit with it is no record
no_commit : (bytes : List ℕ) → NoRecord (0x14 ∷ b32 7 ++ b64 60 ++ short_text (codes "ann") ++ 2 ∷ bytes)
unfolding b32 b64
no_commit bytes (Commit tx time authid from) fit e =
    no_origin from bytes (one_name (codes "ann") authid (2 ∷ bytes) (origin from) refl fit.2 (ap (drop 13) e)).1
no_commit bytes (Change tx (Start table)) fit e = absurd (other_tag _ _ _ _ e refl)
no_commit bytes x fit e = absurd (other_tag _ _ _ _ e refl)

pub other_bytes_are_no_log_records :
    NoRecord []
    × NoRecord (0x10 ∷ 0 ∷ 0 ∷ 0 ∷ 7 ∷ [])
    × NoRecord (0x18 ∷ 0 ∷ 0 ∷ 0 ∷ 7 ∷ [])
    × NoRecord (0x16 ∷ 0 ∷ 0 ∷ 0 ∷ 0 ∷ 1 ∷ codes "T")
    × NoRecord (0x16 ∷ 0 ∷ 0 ∷ 0 ∷ 0 ∷ 0 ∷ [])
    × NoRecord (0x11 ∷ 0 ∷ 0 ∷ 0 ∷ 7 ∷ 1 ∷ codes "t" ++ 0 ∷ 2 ∷ 0 ∷ [])
    × NoRecord (0x13 ∷ 0 ∷ 0 ∷ 0 ∷ 7 ∷ 1 ∷ codes "t" ++ 0 ∷ 1 ∷ 3 ∷ [])
    × NoRecord (
    0x14 ∷ 0 ∷ 0 ∷ 0 ∷ 7 ∷ 0 ∷ 0 ∷ 0 ∷ 0 ∷ 0 ∷ 0 ∷ 0 ∷ 0x3c ∷ 3 ∷ codes "ann" ++ 2 ∷ 1 ∷ codes "q" ++ 1 ∷ codes "n")
unfolding b16 b32 b64
other_bytes_are_no_log_records = (
  untagged _ refl,
  untagged _ refl,
  untagged _ refl,
  no_start (codes "T") refl,
  no_start [] refl,
  torn _ _ one_log_record _ (0 ∷ []) [] (Change 7 (Insert (codes "t") (Null ∷ Null ∷ []))) (search (arith, refl)) refl refl,
  no_delete _ (no_value (3 ∷ []) (λ v. no_tag v 3 [] (omega arith))),
  no_commit _,
)
