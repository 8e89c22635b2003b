-- What a run keeps as its bytes are extended and its rows change.
use Rattle.std.proofs.Common.{◌≡◌, ℕ, ◌<◌, ◌≤◌, Bool, true, cond, List, [], length, take, sym, ap, ap₂, subst, ◌∙◌, arith, eq-eqb, length-take, take-take}
use Rattle.std.specs.Prelude.{Option, Some, None, Result, Ok, Err, OnErr, get_or, ◌==◌, ◌&&◌}
use Rattle.std.specs.List.{All}
use Rattle.std.specs.Map.{lookup, keys_of}
use Rattle.keep_core.specs.Contents.{same_key}
use Rattle.rows_in_runs.specs.declared.row.Piece.{Piece}
use Rattle.rows_in_runs.specs.declared.row.RunRow.{RunRow}
use Rattle.rows_in_runs.specs.declared.row.Old.{Old}
use Rattle.rows_in_runs.specs.Rows.{value_bytes, rows_of, keys_in, IsRising, IsRow, IsOld, Extends, with_value, rows_before, held_rows}
use Rattle.rows_in_runs.specs.laws.Found.{found_at}
use Rattle.rows_in_runs.specs.laws.Keys.{length_rows}
use Rattle.rows_in_runs.proofs.Stored.{rows_stay, value_of_row}
use Rattle.rows_in_runs.proofs.Changed.{found_set, fit_held}

-- what holds, holds after an error
pub on_err : {T E : Type 0} (r : Result T E) (P : Type 0) → P → OnErr r P
on_err (Ok x) P p = tt
on_err (Err e) P p = p

-- at the key of a row its value is found
pub row_found : (bytes : List ℕ) (rows : List RunRow) (at : ℕ) (row : RunRow) → IsRising (keys_in bytes rows) → at < length rows → row ≡ get_or rows at row → lookup (same_key (get_or (keys_in bytes rows) at [])) (rows_of bytes rows) ≡ Some (value_bytes bytes row.now)
row_found bytes rows at row rising within is =
    found_at (rows_of bytes rows) at ([], None) rising (omega (arith, length_rows bytes rows))
    ∙ ap (λ (o : Option (List ℕ)). Some o) (value_of_row bytes rows at row ([], None) within ∙ ap (λ (r : RunRow). value_bytes bytes r.now) (sym is))

-- ---- bytes that are extended

module _ (before now : List ℕ) (more : Extends before now) (rows : List RunRow) (fit : All (IsRow (length before)) rows) where
  -- the keys stay
  pub keys_stay : keys_in now rows ≡ keys_in before rows
  keys_stay = ap (λ (es : List (List ℕ × Option (List ℕ))). keys_of es) (rows_stay before now more rows fit)

  -- and still rise
  pub rising_stays : IsRising (keys_in before rows) → IsRising (keys_in now rows)
  rising_stays rising = subst IsRising (sym keys_stay) rising

  -- so does what is found at each key
  pub found_stays : (k : List ℕ) → lookup (same_key k) (rows_of now rows) ≡ lookup (same_key k) (rows_of before rows)
  found_stays k = ap (lookup (same_key k)) (rows_stay before now more rows fit)

  -- and what was found before changes
  pub held_stays : (settled : ℕ) (olds : List Old) → All (IsOld (length before)) olds → (held : List RunRow) → held ≡ held_rows settled rows olds → (k : List ℕ) → lookup (same_key k) (rows_of now held) ≡ lookup (same_key k) (rows_of before (held_rows settled rows olds))
  held_stays settled olds old_fit held is k =
      ap (λ (l : List RunRow). lookup (same_key k) (rows_of now l)) is
      ∙ ap (lookup (same_key k)) (rows_stay before now more (held_rows settled rows olds) (fit_held (length before) settled rows olds fit old_fit))

  -- a row with another value
  pub found_changed : (changed : List RunRow) (at : ℕ) (stored : Option Piece) (value : Option (List ℕ)) → IsRising (keys_in before rows) → at < length rows → changed ≡ with_value rows at stored → value_bytes now stored ≡ value → (k : List ℕ) → lookup (same_key k) (rows_of now changed) ≡ cond (same_key (get_or (keys_in before rows) at []) k) (Some value) (lookup (same_key k) (rows_of before rows))
  found_changed changed at stored value rising within is bytes k =
      ap (λ (l : List RunRow). lookup (same_key k) (rows_of now l)) is
      ∙ found_set now rows at stored k (rising_stays rising) within
      ∙ ap (λ (es : List (List ℕ × Option (List ℕ))). cond (same_key (get_or (keys_of es) at []) k) (Some (value_bytes now stored)) (lookup (same_key k) es)) (rows_stay before now more rows fit)
      ∙ ap (λ (v : Option (List ℕ)). cond (same_key (get_or (keys_in before rows) at []) k) (Some v) (lookup (same_key k) (rows_of before rows))) bytes

-- ---- a row more

-- rows at the end aren't among those that were settled
pub held_pushed : (settled : ℕ) (rows pushed : List RunRow) (olds : List Old) → settled ≤ length rows → take (length rows) pushed ≡ rows → held_rows settled pushed olds ≡ held_rows settled rows olds
held_pushed settled rows pushed olds within front =
    ap (λ (l : List RunRow). rows_before l olds) (sym (take-take settled (length rows) pushed within) ∙ ap (take settled) front)

-- there are no fewer rows
pub no_fewer : (rows pushed : List RunRow) → take (length rows) pushed ≡ rows → length rows ≤ length pushed
no_fewer rows pushed front = omega (arith, ap length front, length-take (length rows) pushed)

-- ---- settled runs

-- if there is no entry, and as many rows as were settled, nothing was changed
pub none_changed : (olds : List Old) (settled count : ℕ) → olds ≡ [] → settled ≡ count → ((length olds == 0) && (settled == count)) ≡ true
none_changed olds settled count none same = ap₂ (λ (a b : Bool). a && b) (eq-eqb (length olds) 0 (ap length none)) (eq-eqb settled count same)
