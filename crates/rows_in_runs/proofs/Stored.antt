-- Pieces of bytes, and rows whose pieces lie within them.
use Rattle.std.proofs.Common.{◌≡◌, ℕ, zero, suc, ◌+◌, ◌<◌, ◌≤◌, List, [], ◌∷◌, ◌++◌, length, take, drop, refl, ap, ◌∙◌, arith}
use Rattle.std.specs.Prelude.{Option, Some, None, get_or}
use Rattle.std.specs.List.{All}
use Rattle.std.proofs.lemmas.List.{length-append, length-drop, drop-append-le, take-append-le, map_push}
use Rattle.std.proofs.lemmas.List.Elements.{All-tail, All-weaker}
use Rattle.rows_in_runs.specs.declared.row.Piece.{Piece}
use Rattle.rows_in_runs.specs.declared.row.RunRow.{RunRow}
use Rattle.rows_in_runs.specs.declared.row.Old.{Old}
use Rattle.rows_in_runs.specs.Rows.{piece_bytes, value_bytes, rows_of, keys_in, value_end, IsValue, IsRow, IsOld, Extends}

-- bytes that were extended are no fewer
pub longer : (before now : List ℕ) → Extends before now → length before ≤ length now
longer before now more = omega (arith, ap length more.is, length-append before more.more)

-- ---- more bytes behind those that stand

module _ (before now : List ℕ) (more : Extends before now) where
  -- a piece within them stays
  pub piece_stays : (p : Piece) → p.at + p.len ≤ length before → piece_bytes now p ≡ piece_bytes before p
  piece_stays p within =
      ap (λ (bytes : List ℕ). take p.len (drop p.at bytes)) more.is
      ∙ ap (take p.len) (drop-append-le p.at before more.more (omega arith))
      ∙ take-append-le p.len (drop p.at before) more.more (omega (arith, length-drop p.at before))

  -- so does a value
  pub value_stays : (v : Option Piece) → value_end v ≤ length before → value_bytes now v ≡ value_bytes before v
  value_stays None within = refl
  value_stays (Some p) within = ap (λ (bytes : List ℕ). Some bytes) (piece_stays p within)

  -- and so do rows
  pub rows_stay : (rows : List RunRow) → All (IsRow (length before)) rows → rows_of now rows ≡ rows_of before rows
  rows_stay [] fit = refl
  rows_stay (r ∷ rs) fit =
      let first : IsRow (length before) r = fit 0 r (omega arith) in
      let rest = rows_stay rs (All-tail (IsRow (length before)) r rs fit) in
      λ i. (piece_stays r.key first.within i, value_stays r.now first.value.within i) ∷ rest i

  -- values that lie within fewer bytes lie within more
  pub value_fits : (v : Option Piece) → IsValue (length before) v → IsValue (length now) v
  value_fits v fits = record { within = omega (arith, fits.within, longer before now more); short = fits.short }

  -- and so do rows
  pub rows_fit : (rows : List RunRow) → All (IsRow (length before)) rows → All (IsRow (length now)) rows
  rows_fit rows fit = All-weaker (IsRow (length before)) (IsRow (length now)) (λ r fits. record {
    within = omega (arith, fits.within, longer before now more);
    some = fits.some;
    short = fits.short;
    value = value_fits r.now fits.value;
  }) rows fit

  -- and so does what rows had
  pub olds_fit : (olds : List Old) → All (IsOld (length before)) olds → All (IsOld (length now)) olds
  olds_fit olds fit = All-weaker (IsOld (length before)) (IsOld (length now)) (λ old fits. value_fits old.now fits) olds fit

-- ---- rows and their keys

-- the key at a place is that of the row there
pub key_of_row : (bytes : List ℕ) (rows : List RunRow) (i : ℕ) (d : RunRow) → i < length rows → get_or (keys_in bytes rows) i [] ≡ piece_bytes bytes (get_or rows i d).key
key_of_row bytes [] i d within = absurd (omega arith)
key_of_row bytes (r ∷ rs) zero d within = refl
key_of_row bytes (r ∷ rs) (suc i) d within = key_of_row bytes rs i d (omega arith)

-- the value at a place is that of the row there
pub value_of_row : (bytes : List ℕ) (rows : List RunRow) (i : ℕ) (d : RunRow) (e : List ℕ × Option (List ℕ)) → i < length rows → (get_or (rows_of bytes rows) i e).1 ≡ value_bytes bytes (get_or rows i d).now
value_of_row bytes [] i d e within = absurd (omega arith)
value_of_row bytes (r ∷ rs) zero d e within = refl
value_of_row bytes (r ∷ rs) (suc i) d e within = value_of_row bytes rs i d e (omega arith)

-- a row whose key and value were stored, at the end of the rows
pub row_pushed : (first second third : List ℕ) (rows pushed : List RunRow) (key value : Piece) (key_bytes value_given : List ℕ) → All (IsRow (length first)) rows → Extends first second → Extends second third → piece_bytes second key ≡ key_bytes → key.at + key.len ≡ length second → piece_bytes third value ≡ value_given → pushed ≡ rows ++ record { key = key; now = Some value } ∷ [] → rows_of third pushed ≡ rows_of first rows ++ (key_bytes, Some value_given) ∷ []
row_pushed first second third rows pushed key value key_bytes value_given fit one two key_is ends value_is is =
    ap (rows_of third) is
    ∙ map_push (λ (r : RunRow). (piece_bytes third r.key, value_bytes third r.now)) rows (record { key = key; now = Some value })
    ∙ (λ i. old i ++ (new_key i, Some (value_is i)) ∷ [])
  where
    old : rows_of third rows ≡ rows_of first rows
    old = rows_stay second third two rows (rows_fit first second one rows fit) ∙ rows_stay first second one rows fit

    new_key : piece_bytes third key ≡ key_bytes
    new_key = piece_stays second third two key (omega arith) ∙ key_is
