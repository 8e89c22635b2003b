-- The changes that a buffer has.
use Rattle.std.specs.Prelude.{◌≡◌, ℕ, ◌≤◌, List, [], ◌∷◌, Option, Some, None, IfSome}
use Rattle.std.specs.Option.{unwrap_or}
use Rattle.std.specs.Ordering.{nat_cmp}
use Rattle.std.specs.BTreeMap.{BTreeMap, get}
use Rattle.repl_types.specs.declared.unit.Placed.{Placed}
use Rattle.txn_buffer.specs.declared.buffer.Buffer.{Buffer}

-- the changes that a map has for a transaction: none if it has no list for it
abbrev pub changes_of : BTreeMap ℕ (List Placed) → ℕ → List Placed
changes_of map tx = unwrap_or (get nat_cmp map tx) []

-- the changes that a transaction has in the buffer, in order
unfoldable pub changes_in : Buffer → ℕ → List Placed
changes_in buffer tx = changes_of buffer.map tx

-- the position of the first change, if there is a change
abbrev pub first_position : List Placed → Option ℕ
first_position [] = None
first_position (placed ∷ more) = Some placed.pos

-- the first change of some transaction has this position, and that of no transaction has a lower one
pub record IsLeastFirst (buffer : Buffer) (position : ℕ) : Type 0 where
  pub tx : ℕ
  pub here : first_position (changes_in buffer tx) ≡ Some position
  pub least : (q : ℕ) → IfSome (first_position (changes_in buffer q)) (λ p. position ≤ p)
