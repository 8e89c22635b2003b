-- Proofs of how many bytes values, rows and log records take. There is nothing to believe here.
use Rattle.std.proofs.Common.{◌≡◌, ℕ, ◌+◌, ◌*◌, ◌≤◌, cond, List, [], ◌∷◌, ◌++◌, length, refl, sym, ap, ◌∙◌, arith, inl, inr}
use Rattle.std.specs.Prelude.{◌==◌, sum_by, count_by}
use Rattle.std.proofs.lemmas.Bool.{cases_Bool}
use Rattle.std.proofs.lemmas.List.{length-append}
use Rattle.std.proofs.lemmas.List.Sums.{sum_by-cons, count_by-le-length}
use Rattle.repl_types.specs.declared.value.Value.{Value}
use Rattle.repl_types.specs.declared.value.Value.TheVariants.{Null, Int, Text}
use Rattle.repl_types.specs.Sizes.{row_limit}
use Rattle.repl_types.specs.Value.{Values, spelled_len, spelled_limit}
use Rattle.repl_types.specs.ValueText.{IsValue}
use Rattle.repl_types.specs.declared.record.Change.TheVariants.{Insert, Update, Delete, Start, Stop}
use Rattle.repl_types.specs.declared.record.LogRecord.{LogRecord}
use Rattle.repl_types.specs.declared.record.LogRecord.TheVariants as records
use Rattle.row_codec.specs.LogRecords.{IsLogRecord, HasLogSpelling, HasShortRows, log_spelling}
use Rattle.row_codec.specs.Storable.{IsStorable}
use Rattle.row_codec.specs.laws.Again.{log_again}
use Rattle.row_codec.specs.laws.Numbers.{length16, length32, length64}
use Rattle.row_codec.specs.laws.Sizes.{name_length, origin_length}
use Rattle.row_codec.specs.Spelling.{IsKey, b16, b32, b64, shifted, short_text, origin, marked_byte, zeros_marked, value_spelling, row_spelling, key_spelling}

-- a marked byte
length_marked_byte : (b : ℕ) → length (marked_byte b) ≡ 1 + cond (b == 0) 1 0
length_marked_byte b = elim (cases_Bool (b == 0)) [
  | inl zero ↦ rw zero refl
  | inr other ↦ rw other refl
]

-- a text takes its bytes, and one more for each zero
length_marked : (t : List ℕ) → length (zeros_marked t) ≡ length t + count_by (λ b. b == 0) t
length_marked [] = refl
length_marked (b ∷ t) = omega (arith, length-append (marked_byte b) (zeros_marked t), length_marked_byte b, length_marked t, sum_by-cons (λ (k : ℕ). cond (k == 0) 1 0) b t)

-- a value
length_value : (v : Value) → length (value_spelling v) ≡ spelled_len v
length_value Null = refl
length_value (Int n) = omega (arith, length64 (shifted n))
length_value (Text t) = omega (arith, length-append (2 ∷ zeros_marked t) (0 ∷ 0 ∷ []), length_marked t)

-- a key
pub length_of_key : (key : List Value) → length (key_spelling key) ≡ sum_by spelled_len key
length_of_key [] = refl
length_of_key (v ∷ key) = length-append (value_spelling v) (key_spelling key) ∙ ap (λ (n : ℕ). n + length (key_spelling key)) (length_value v) ∙ ap (λ (n : ℕ). spelled_len v + n) (length_of_key key) ∙ sym (sum_by-cons spelled_len v key)

-- a value takes at most 2,003 bytes
value_length : (v : Value) → IsValue v → length (value_spelling v) ≤ spelled_limit
value_length Null fits = omega arith
value_length (Int n) fits = omega (arith, length64 (shifted n))
value_length (Text t) fits = omega (arith, length_value (Text t), count_by-le-length (λ b. b == 0) t, fits.0)

-- values, one after another
values_length : (values : Values) → IsKey values → length (key_spelling values) ≤ spelled_limit * length values
values_length [] all = omega arith
values_length (v ∷ values) all = omega (arith, length-append (value_spelling v) (key_spelling values), value_length v all.0, values_length values all.1)

-- a row of at most 64 values takes at most 128,194 bytes
pub row_length : (row : Values) → IsKey row → length row ≤ row_limit → length (row_spelling row) ≤ 128194
row_length row all short = omega (arith, length-append (b16 (length row)) (key_spelling row), length16 (length row), values_length row all)

-- a log record whose rows have at most 64 values may be stored
pub log_storable : (x : LogRecord) → IsLogRecord x → HasShortRows x → IsStorable HasLogSpelling log_spelling x
log_storable (records.Change tx (Insert table row)) fits short = (log_again (records.Change tx (Insert table row)) fits, omega (arith, length-append (b32 tx ++ short_text table) (row_spelling row), length-append (b32 tx) (short_text table), length32 tx, name_length table fits.1, row_length row fits.2.1 short))
log_storable (records.Change tx (Update table before after)) fits short = (log_again (records.Change tx (Update table before after)) fits, omega (arith, length-append (b32 tx ++ short_text table ++ row_spelling before) (row_spelling after), length-append (b32 tx ++ short_text table) (row_spelling before), length-append (b32 tx) (short_text table), length32 tx, name_length table fits.1, row_length before fits.2.1 short.0, row_length after fits.3.1 short.1))
log_storable (records.Change tx (Delete table row)) fits short = (log_again (records.Change tx (Delete table row)) fits, omega (arith, length-append (b32 tx ++ short_text table) (row_spelling row), length-append (b32 tx) (short_text table), length32 tx, name_length table fits.1, row_length row fits.2.1 short))
log_storable (records.Change tx (Start table)) fits short = (tt, omega (arith, length-append (b32 tx) (short_text table), length32 tx, name_length table fits.1))
log_storable (records.Change tx (Stop table)) fits short = (tt, omega (arith, length-append (b32 tx) (short_text table), length32 tx, name_length table fits.1))
log_storable (records.Commit tx time authid from) fits short = (tt, omega (arith, length-append (b32 tx ++ b64 time ++ short_text authid) (origin from), length-append (b32 tx ++ b64 time) (short_text authid), length-append (b32 tx) (b64 time), length32 tx, length64 time, name_length authid fits.2, origin_length from fits.3))
log_storable (records.Abort tx) fits short = (tt, omega (arith, length32 tx))
