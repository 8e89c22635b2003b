-- The contents of a keeper: a value, or none, at each key of each table of each area.
use Rattle.std.specs.Prelude.{◌≡◌, ℕ, Bool, List, Option, Some, None, if◌then◌else◌, ◌&&◌, ◌==◌}
use Rattle.std.specs.Ordering.{is_eq}
use Rattle.std.specs.declared.cmp.Ordering.TheVariants.{Less}
use Rattle.repl_types.specs.Bytes.{bytes_cmp}
use Rattle.repl_types.specs.Area.{same_area}
use Rattle.repl_types.specs.declared.area.Area.{Area}

-- the value that a table has at each key
abbrev pub Table : Type 0
Table = List ℕ → Option (List ℕ)

-- the tables of each area, by number
abbrev pub Contents : Type 0
Contents = Area → ℕ → Table

-- two keys are the same
abbrev pub same_key : List ℕ → List ℕ → Bool
same_key k q = is_eq (bytes_cmp k q)

-- the contents with no value anywhere
abbrev pub nothing : Contents
nothing a t k = None

-- the table, with its value at one key set or removed
abbrev pub set_key : Table → List ℕ → Option (List ℕ) → Table
set_key t k v q = if same_key k q then v else t q

-- the contents, with one table replaced
abbrev pub with_table : Contents → Area → ℕ → Table → Contents
with_table c a t table b u = if same_area a b && (t == u) then table else c b u

-- the contents, with the value at one key of one table set or removed
abbrev pub put_at : Contents → Area → ℕ → List ℕ → Option (List ℕ) → Contents
put_at c a t k v = with_table c a t (set_key (c a t) k v)

-- `key` is the least key above `after`, and has this value
pub record IsNextKey (t : Table) (after key value : List ℕ) : Type 0 where
  pub above : bytes_cmp after key ≡ Less
  pub has : t key ≡ Some value
  pub least : (q : List ℕ) → bytes_cmp after q ≡ Less → bytes_cmp q key ≡ Less → t q ≡ None

-- the table has no key above `after`
abbrev pub IsLastKey : Table → List ℕ → Type 0
IsLastKey t after = (q : List ℕ) → bytes_cmp after q ≡ Less → t q ≡ None
