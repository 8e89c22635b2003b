-- What a run stands for, at each key.
use Rattle.std.specs.Prelude.{◌≡◌, ℕ, ◌<◌, ◌==◌, ◌&&◌, if◌then◌else◌, Bool, true, List, [], length, slice_index_or, Option, Some, None}
use Rattle.std.specs.List.{All}
use Rattle.std.specs.Map.{lookup}
use Rattle.std.specs.declared.cmp.Ordering.TheVariants.{Less}
use Rattle.repl_types.specs.Bytes.{bytes_cmp}
use Rattle.keep_core.specs.Contents.{Table, same_key, IsNextKey}
use Rattle.rows_in_runs.specs.declared.run.Run.{Run}
use Rattle.rows_in_runs.specs.declared.run.Spot.{Spot}
use Rattle.rows_in_runs.specs.declared.run.Spot.TheVariants as spots
use Rattle.rows_in_runs.specs.Rows.{rows_of, keys_in, held_rows}

-- the row at the key: None if the run has none there, else its value, if it has one
abbrev pub row_at : Run → List ℕ → Option (Option (List ℕ))
row_at r k = lookup (same_key k) (rows_of r.bytes.items r.rows.items)

-- that row before the changes since the run was last settled
abbrev pub row_held : Run → List ℕ → Option (Option (List ℕ))
row_held r k = lookup (same_key k) (rows_of r.bytes.items (held_rows r.settled r.rows.items r.olds.items))

-- the value that a row gives
abbrev pub value_in : Option (Option (List ℕ)) → Option (List ℕ)
value_in None = None
value_in (Some value) = value

-- the table that the rows make
abbrev pub run_seen : Run → Table
run_seen r k = value_in (row_at r k)

-- nothing was changed since the run was last settled
abbrev pub is_settled : Run → Bool
is_settled r = (length r.olds.items == 0) && (r.settled == length r.rows.items)

-- the key of the row at a place
abbrev pub key_at : Run → ℕ → List ℕ
key_at r at = slice_index_or (keys_in r.bytes.items r.rows.items) at []

-- the key is above those of all rows
abbrev pub IsAbove : Run → List ℕ → Type 0
IsAbove r k = All (λ q. bytes_cmp q k ≡ Less) (keys_in r.bytes.items r.rows.items)

-- where the key belongs
abbrev pub IsSpot : Run → List ℕ → Spot → Type 0
IsSpot r k (spots.At at) = (at < length r.rows.items) × (key_at r at ≡ k)
IsSpot r k spots.Above = IsAbove r k
IsSpot r k spots.Between = row_at r k ≡ None

-- at this place is the next key after `after`, with its value
pub record IsNextAt (r : Run) (after : List ℕ) (at : ℕ) : Type 0 where
  pub within : at < length r.rows.items
  pub value : List ℕ
  pub next : IsNextKey (run_seen r) after (key_at r at) value

-- each row is what it was
abbrev pub SameSeen : Run → Run → Type 0
SameSeen old new = (k : List ℕ) → row_at new k ≡ row_at old k

-- each row was before the changes what it was
abbrev pub SameHeld : Run → Run → Type 0
SameHeld old new = (k : List ℕ) → row_held new k ≡ row_held old k

-- nothing that the run stands for changed
pub record SameRows (old new : Run) : Type 0 where
  pub seen : SameSeen old new
  pub held : SameHeld old new
  pub settled : is_settled new ≡ is_settled old

-- the row at one key has this value now, or none, and every other row is what it was
abbrev pub SetsRow : List ℕ → Option (List ℕ) → Run → Run → Type 0
SetsRow key value old new = (k : List ℕ) → row_at new k ≡ (if same_key key k then Some value else row_at old k)

-- rows without a value may be gone, and every other row is what it was
pub record OmitsValueless (old new : Run) : Type 0 where
  pub seen : (k : List ℕ) → run_seen new k ≡ run_seen old k
  pub none : (k : List ℕ) → row_at old k ≡ None → row_at new k ≡ None

-- the run has no row, and nothing was changed
pub record HasNoRows (r : Run) : Type 0 where
  pub none : (k : List ℕ) → row_at r k ≡ None
  pub settled : is_settled r ≡ true
