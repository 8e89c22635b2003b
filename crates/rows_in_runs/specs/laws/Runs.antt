-- Laws of the rows of a run: proofs, and nothing to believe.
use Rattle.std.proofs.Common.{◌≡◌, ℕ, ◌<◌, Bool, true, false, List, [], length, refl, ap, ◌∙◌, arith, eqb-true}
use Rattle.std.specs.Prelude.{Option, None, is_some, ◌==◌, ◌&&◌}
use Rattle.std.specs.Map.{lookup}
use Rattle.std.specs.declared.cmp.Ordering.TheVariants.{Less}
use Rattle.std.proofs.lemmas.List.{nil_from_length, take_all}
use Rattle.std.proofs.lemmas.List.Elements.{All-weaker}
use Rattle.repl_types.specs.Bytes.{bytes_cmp}
use Rattle.keep_core.specs.Contents.{same_key}
use Rattle.rows_in_runs.specs.declared.row.RunRow.{RunRow}
use Rattle.rows_in_runs.specs.declared.row.Old.{Old}
use Rattle.rows_in_runs.specs.declared.run.Run.{Run}
use Rattle.rows_in_runs.specs.Rows.{rows_of, keys_in, held_rows}
use Rattle.rows_in_runs.specs.Runs.{row_at, row_held, is_settled, key_at, IsAbove}
use Rattle.rows_in_runs.specs.laws.Found.{none_has, none_of_first, found_at, differs_back}
use Rattle.rows_in_runs.specs.laws.Keys.{keys_held, length_rows}

-- a key that no row has, no row had before the changes
pub held_stands : (r : Run) (k : List ℕ) → row_at r k ≡ None → row_held r k ≡ None
held_stands r k none =
    let held = held_rows r.settled r.rows.items r.olds.items in
    none_of_first (rows_of r.bytes.items r.rows.items) (rows_of r.bytes.items held) r.settled k (keys_held r.bytes.items r.settled r.rows.items r.olds.items) none

-- a settled run has no entries, and as many rows as were settled
settled_parts : (olds : List Old) (settled count : ℕ) → ((length olds == 0) && (settled == count)) ≡ true → (length olds ≡ 0) × (settled ≡ count)
settled_parts olds settled count e =
    let parts = both (length olds == 0) (settled == count) e in
    (eqb-true (length olds) 0 parts.0, eqb-true settled count parts.1)
  where
    both : (a b : Bool) → (a && b) ≡ true → (a ≡ true) × (b ≡ true)
    both true true e = (refl, refl)
    both true false e = absurd cc
    both false b e = absurd cc

-- if nothing was changed, each row is what it was
pub settled_held : (r : Run) → is_settled r ≡ true → (k : List ℕ) → row_held r k ≡ row_at r k
settled_held r settled k =
    let parts = settled_parts r.olds.items r.settled (length r.rows.items) settled in
    let no_olds : r.olds.items ≡ [] = nil_from_length r.olds.items parts.0 in
    ap (λ (olds : List Old). lookup (same_key k) (rows_of r.bytes.items (held_rows r.settled r.rows.items olds))) no_olds
    ∙ ap (λ (rows : List RunRow). lookup (same_key k) (rows_of r.bytes.items rows)) (take_all r.settled r.rows.items (omega arith))

-- no row has a key that is above those of all rows
pub above_has_none : (r : Run) (k : List ℕ) → IsAbove r k → row_at r k ≡ None
above_has_none r k above = none_has (rows_of r.bytes.items r.rows.items) k (All-weaker (λ q. bytes_cmp q k ≡ Less) (λ q. same_key k q ≡ false) (λ q less. differs_back q k less) (keys_in r.bytes.items r.rows.items) above)

-- the run has a row at the key of each of its places
pub at_has_row : (r : Run) (at : ℕ) → at < length r.rows.items → is_some (row_at r (key_at r at)) ≡ true
at_has_row r at within = ap (λ (o : Option (Option (List ℕ))). is_some o) (found_at (rows_of r.bytes.items r.rows.items) at ([], None) r.rising (omega (arith, length_rows r.bytes.items r.rows.items)))
