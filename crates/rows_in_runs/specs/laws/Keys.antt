-- The keys of rows, and of the rows before changes.
use Rattle.std.proofs.Common.{◌≡◌, ℕ, zero, suc, List, [], ◌∷◌, length, take, refl, ap, ◌∙◌}
use Rattle.std.specs.Prelude.{Option}
use Rattle.rows_in_runs.specs.declared.row.Piece.{Piece}
use Rattle.rows_in_runs.specs.declared.row.RunRow.{RunRow}
use Rattle.rows_in_runs.specs.declared.row.Old.{Old}
use Rattle.rows_in_runs.specs.Rows.{piece_bytes, rows_of, keys_in, with_value, rows_before, held_rows}

-- there are as many rows of bytes as rows
pub length_rows : (bytes : List ℕ) (rows : List RunRow) → length (rows_of bytes rows) ≡ length rows
length_rows bytes [] = refl
length_rows bytes (r ∷ rs) = ap suc (length_rows bytes rs)

-- there are as many keys as rows
pub length_keys : (bytes : List ℕ) (rows : List RunRow) → length (keys_in bytes rows) ≡ length rows
length_keys bytes [] = refl
length_keys bytes (r ∷ rs) = ap suc (length_keys bytes rs)

-- the first keys are the keys of the first rows
pub take_keys : (bytes : List ℕ) (n : ℕ) (rows : List RunRow) → keys_in bytes (take n rows) ≡ take n (keys_in bytes rows)
take_keys bytes zero rows = refl
take_keys bytes (suc n) [] = refl
take_keys bytes (suc n) (r ∷ rs) = ap (λ (ks : List (List ℕ)). piece_bytes bytes r.key ∷ ks) (take_keys bytes n rs)

-- another value leaves the keys as they are
pub keys_set : (bytes : List ℕ) (rows : List RunRow) (at : ℕ) (now : Option Piece) → keys_in bytes (with_value rows at now) ≡ keys_in bytes rows
keys_set bytes [] at now = refl
keys_set bytes (r ∷ rs) zero now = refl
keys_set bytes (r ∷ rs) (suc at) now = ap (λ (ks : List (List ℕ)). piece_bytes bytes r.key ∷ ks) (keys_set bytes rs at now)

-- the rows before changes have the same keys
pub keys_before : (bytes : List ℕ) (rows : List RunRow) (olds : List Old) → keys_in bytes (rows_before rows olds) ≡ keys_in bytes rows
keys_before bytes rows [] = refl
keys_before bytes rows (o ∷ os) = keys_set bytes (rows_before rows os) o.row o.now ∙ keys_before bytes rows os

-- the rows that stood when the run was last settled have the first keys
pub keys_held : (bytes : List ℕ) (settled : ℕ) (rows : List RunRow) (olds : List Old) → keys_in bytes (held_rows settled rows olds) ≡ take settled (keys_in bytes rows)
keys_held bytes settled rows olds = keys_before bytes (take settled rows) olds ∙ take_keys bytes settled rows
