-- The row that after-images make, and its key: proofs.
use Rattle.std.proofs.Common.{◌≡◌, ℕ, ◌<◌, ◌^◌, true, false, List, length, arith, ◌==◌, ◌&&◌, nat_lt, nat_le}
use Rattle.std.specs.List.{position_or_len, range_with_len}
use Rattle.std.proofs.lemmas.Bool.{le-leb, leb-true, lt-ltb, ltb-true, and_parts}
use Rattle.std.proofs.lemmas.List.FromFn.{length-map-range_with_len}
use Rattle.world_store.specs.Words.{IsRow, not_both}
use Rattle.repl_model.specs.Words.{each_image, IsKeySize, key_limit, IsValue, CdRow, SourceTable, imaged_row}
use Rattle.cd_tables.specs.laws.InOrder.{all_always}
use Rattle.cd_tables.specs.laws.SoundChanges.{value_at}
use Rattle.stored_commits.specs.copies.ChangedCopies.{image_of}

-- it is a row of values
pub imaged_fits : (source : SourceTable) (change : CdRow) → length source.def.columns < 2 ^ 16 → IsRow change.after → IsRow (imaged_row source change)
imaged_fits source change few fit =
    let n = length source.def.columns in
    let image = image_of source.reg.after change.after in
    (omega (arith, few, length-map-range_with_len image 0 n), each_image IsValue image (range_with_len 0 n) (all_always (λ (column : ℕ). IsValue (image column)) (λ column. value_at change.after (position_or_len (λ place. place == column) source.reg.after) fit.1) (range_with_len 0 n)))

-- the test for the size of a key passes if it has the size
pub has_size : (key : List ℕ) → (nat_lt 0 (length key) && nat_le (length key) key_limit) ≡ true → IsKeySize key
has_size key passes = let both = and_parts (nat_lt 0 (length key)) (nat_le (length key) key_limit) passes in record { some = ltb-true 0 (length key) both.0; short = leb-true (length key) key_limit both.1 }

-- and fails only if it doesn't
pub has_no_size : (key : List ℕ) → (nat_lt 0 (length key) && nat_le (length key) key_limit) ≡ false → IsKeySize key → ⊥
has_no_size key fails size = not_both (nat_lt 0 (length key) && nat_le (length key) key_limit) (λ i. lt-ltb 0 (length key) size.some i && le-leb (length key) key_limit size.short i) fails
