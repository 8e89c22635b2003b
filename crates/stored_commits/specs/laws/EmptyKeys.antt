-- No stored change row has the empty key, so a table without its change rows is empty.
use Rattle.std.proofs.Common.{◌≡◌, ℕ, Bool, false, cond, List, [], ◌∷◌, refl, ap, ◌∙◌, Some, None}
use Rattle.world_store.specs.Words.{b16, b64, change_row_spelling, change_key_spelling, CdKey, ChangeRow, table_from_rows, no_rows}
use Rattle.keep_core.specs.Contents.{Table, same_key}
use Rattle.stored_commits.specs.units.StoredChanges.{cleared}

-- the key of a row isn't empty
not_empty : (key : CdKey) → same_key (change_key_spelling key) [] ≡ false
unfolding b16 b64
not_empty key = refl

-- so no row of a table of change rows has the empty key
pub rows_keyed : (rows : List (CdKey × ChangeRow)) → table_from_rows change_key_spelling change_row_spelling rows [] ≡ None
rows_keyed [] = refl
rows_keyed (r ∷ rows) = ap (λ (b : Bool). cond b (Some (change_row_spelling r.1)) (table_from_rows change_key_spelling change_row_spelling rows [])) (not_empty r.0) ∙ rows_keyed rows

-- a table without its rows is empty, if it has nothing at the empty key
pub cleared_empty : (t : Table) → t [] ≡ None → cleared t ≡ no_rows
cleared_empty t none = λ i key. at key i
  where
    at : (key : List ℕ) → cleared t key ≡ no_rows key
    at [] = none
    at (b ∷ key) = refl
