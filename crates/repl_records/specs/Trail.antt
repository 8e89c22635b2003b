-- The spellings of what a set's trail keeps of its steps.
use Rattle.std.specs.Prelude.{ℕ, IfSome, List, ◌∷◌, ◌++◌, Option, Some, None}
use Rattle.repl_records.specs.declared.trail.TrailEntry.{TrailEntry}
use Rattle.repl_records.specs.declared.trail.TrailEntry.TheVariants.{Refresh, Block, Load, Settle}
use Rattle.row_codec.specs.Spelling.{Is64, b64}

-- the point of base aggregates: whether there is one, and the point, 0 if there is none
abbrev pub base_spelling : Option ℕ → List ℕ
base_spelling None = 0x00 ∷ b64 0
base_spelling (Some q) = 0x01 ∷ b64 q

-- no point, or a point that has eight bytes
abbrev pub IsBase : Option ℕ → Type 0
IsBase base = IfSome base Is64

-- an entry of a trail: 0x01 for a refresh, 0x02 for a block, 0x03 for a load, 0x04 for a settling, and its
-- numbers
abbrev pub entry_spelling : TrailEntry → List ℕ
entry_spelling (Refresh p rows base) = 0x01 ∷ (b64 p ++ b64 rows ++ base_spelling base)
entry_spelling (Block from to inserts updates deletes base) = 0x02 ∷ (b64 from ++ b64 to ++ b64 inserts ++ b64 updates ++ b64 deletes ++ base_spelling base)
entry_spelling (Load m f rows) = 0x03 ∷ (b64 m ++ b64 f ++ b64 rows)
entry_spelling (Settle m f rejected applied) = 0x04 ∷ (b64 m ++ b64 f ++ b64 rejected ++ b64 applied)

-- the entries whose numbers have eight bytes
abbrev pub IsEntry : TrailEntry → Type 0
IsEntry (Refresh p rows base) = Is64 p × Is64 rows × IsBase base
IsEntry (Block from to inserts updates deletes base) = Is64 from × Is64 to × Is64 inserts × Is64 updates × Is64 deletes × IsBase base
IsEntry (Load m f rows) = Is64 m × Is64 f × Is64 rows
IsEntry (Settle m f rejected applied) = Is64 m × Is64 f × Is64 rejected × Is64 applied
