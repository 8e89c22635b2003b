-- The parts of a run: pieces of its bytes, its rows, and what rows had before.
use Rattle.std.specs.Prelude.{◌≡◌, ℕ, zero, suc, ◌+◌, ◌≤◌, ◌<◌, false, List, [], ◌∷◌, ◌++◌, length, take, drop, map, slice_index_or, Option, Some, None, IsSome}
use Rattle.std.specs.Option.{option_map}
use Rattle.std.specs.List.{AllPairs, AllWithin}
use Rattle.std.specs.Map.{keys_of}
use Rattle.std.specs.Ordering.{is_lt}
use Rattle.std.specs.declared.cmp.Ordering.TheVariants.{Less}
use Rattle.repl_types.specs.Bytes.{bytes_cmp}
use Rattle.repl_types.specs.Sizes.{key_limit, value_limit}
use Rattle.rows_in_runs.specs.declared.row.Piece.{Piece}
use Rattle.rows_in_runs.specs.declared.row.RunRow.{RunRow}
use Rattle.rows_in_runs.specs.declared.row.Old.{Old}

-- the bytes of a piece
abbrev pub piece_bytes : List ℕ → Piece → List ℕ
piece_bytes bytes p = take p.len (drop p.at bytes)

-- the bytes of a value, if there is one
abbrev pub value_bytes : List ℕ → Option Piece → Option (List ℕ)
value_bytes bytes now = option_map (λ p. piece_bytes bytes p) now

-- the rows as their bytes: each key, with its value if it has one
abbrev pub rows_of : List ℕ → List RunRow → List (List ℕ × Option (List ℕ))
rows_of bytes rows = map (λ r. (piece_bytes bytes r.key, value_bytes bytes r.now)) rows

-- the keys of the rows
abbrev pub keys_in : List ℕ → List RunRow → List (List ℕ)
keys_in bytes rows = keys_of (rows_of bytes rows)

-- each key is below those after it
abbrev pub IsRising : List (List ℕ) → Type 0
IsRising keys = AllPairs (λ k q. bytes_cmp k q ≡ Less) keys

-- ---- where pieces lie

-- how many bytes a value has
abbrev pub value_len : Option Piece → ℕ
value_len None = 0
value_len (Some p) = p.len

-- where the piece of a value ends
abbrev pub value_end : Option Piece → ℕ
value_end None = 0
value_end (Some p) = p.at + p.len

-- the value, if there is one, lies within the first n bytes, and is of the size of a value
pub record IsValue (n : ℕ) (now : Option Piece) : Type 0 where
  pub within : value_end now ≤ n
  pub short : value_len now ≤ value_limit

-- key and value lie within the first n bytes, and are of the sizes of a key and a value
pub record IsRow (n : ℕ) (row : RunRow) : Type 0 where
  pub within : row.key.at + row.key.len ≤ n
  pub some : 0 < row.key.len
  pub short : row.key.len ≤ key_limit
  pub value : IsValue n row.now

-- what the row had is such a value
abbrev pub IsOld : ℕ → Old → Type 0
IsOld n old = IsValue n old.now

-- bytes were added at the end
pub record Extends (before now : List ℕ) : Type 0 where
  pub more : List ℕ
  pub is : now ≡ before ++ more

-- ---- changes

-- the rows, with another value in the row at a place
abbrev pub with_value : List RunRow → ℕ → Option Piece → List RunRow
with_value [] at now = []
with_value (r ∷ rs) zero now = record r { now = now } ∷ rs
with_value (r ∷ rs) (suc at) now = r ∷ with_value rs at now

-- the rows before the changes: what the entries tell is put back, the oldest entry last
abbrev pub rows_before : List RunRow → List Old → List RunRow
rows_before rows [] = rows
rows_before rows (old ∷ olds) = with_value (rows_before rows olds) old.row old.now

-- the rows that stood when the run was last settled
abbrev pub held_rows : ℕ → List RunRow → List Old → List RunRow
held_rows settled rows olds = rows_before (take settled rows) olds

-- ---- searches

-- at this place is the first key above one
pub record IsFirstAbove (keys : List (List ℕ)) (key : List ℕ) (at : ℕ) : Type 0 where
  pub within : at ≤ length keys
  pub upto : (i : ℕ) → i < at → is_lt (bytes_cmp key (slice_index_or keys i [])) ≡ false
  pub above : (i : ℕ) → at ≤ i → i < length keys → bytes_cmp key (slice_index_or keys i []) ≡ Less

-- no row from one place up to another has a value
abbrev pub NoValues : List RunRow → ℕ → ℕ → Type 0
NoValues rows from to = AllWithin (λ r. r.now ≡ None) rows from to

-- at this place is the first row with a value, from another place on
pub record IsFirstValue (rows : List RunRow) (from at : ℕ) : Type 0 where
  pub low : from ≤ at
  pub within : at < length rows
  pub none : NoValues rows from at
  pub some : (d : RunRow) → IsSome (slice_index_or rows at d).now
