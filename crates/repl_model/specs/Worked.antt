-- Two small logs that were worked by hand.
use Rattle.std.specs.Prelude.{ℕ, pos, true, false, List, [], ◌∷◌, codes, None}
use Rattle.repl_types.specs.Value.{Values}
use Rattle.repl_types.specs.declared.value.Value.TheVariants.{Int, Text}
use Rattle.repl_types.specs.declared.table.Kind.TheVariants as kinds
use Rattle.repl_types.specs.declared.table.TableDef.{TableDef}
use Rattle.repl_types.specs.declared.record.Change.TheVariants.{Insert, Update, Delete}
use Rattle.repl_types.specs.declared.record.LogRecord.{LogRecord}
use Rattle.repl_types.specs.declared.record.LogRecord.TheVariants.{Commit, Abort}
use Rattle.repl_types.specs.declared.record.LogRecord.TheVariants as records
use Rattle.repl_types.specs.declared.change_row.Registration.{Registration}
use Rattle.repl_types.specs.declared.change_row.CdRow.{CdRow}
use Rattle.repl_types.specs.declared.change_row.Op.{Op}

-- a table of items: a number, which is the key and fixed, and a name
abbrev pub items : TableDef
items = record {
  name = codes "items";
  columns = record { name = codes "id"; kind = kinds.Int; nullable = false } ∷ record { name = codes "name"; kind = kinds.Text; nullable = true } ∷ [];
  key = 0 ∷ [];
  fixed = 0 ∷ [];
}

-- the key of an item
abbrev pub item_key : ℕ → Values
item_key id = Int (pos id) ∷ []

-- the row of an item
abbrev pub item : ℕ → List ℕ → Values
item id name = Int (pos id) ∷ Text name ∷ []

-- the record that inserts an item
abbrev pub inserts : ℕ → ℕ → List ℕ → LogRecord
inserts tx id name = records.Change tx (Insert (codes "items") (item id name))

-- the record that renames an item
abbrev pub updates : ℕ → ℕ → List ℕ → List ℕ → LogRecord
updates tx id before after = records.Change tx (Update (codes "items") (item id before) (item id after))

-- the record that deletes an item
abbrev pub deletes : ℕ → ℕ → List ℕ → LogRecord
deletes tx id name = records.Change tx (Delete (codes "items") (item id name))

-- the record of a commit
abbrev pub commits : ℕ → ℕ → LogRecord
commits tx time = Commit tx time (codes "ann") None

-- one transaction after another
abbrev pub plain_log : List LogRecord
plain_log =
    inserts 1 1 (codes "pen")
    ∷ inserts 1 2 (codes "ink")
    ∷ commits 1 100
    ∷ updates 2 2 (codes "ink") (codes "red ink")
    ∷ commits 2 110
    ∷ deletes 3 1 (codes "pen")
    ∷ commits 3 120
    ∷ []

-- two transactions at a time: the first is aborted and goes on, and in the end changes a name to itself
abbrev pub mixed_log : List LogRecord
mixed_log =
    inserts 1 1 (codes "pen")
    ∷ inserts 2 2 (codes "ink")
    ∷ Abort 1
    ∷ inserts 1 3 (codes "cap")
    ∷ commits 2 50
    ∷ updates 1 3 (codes "cap") (codes "hat")
    ∷ updates 1 3 (codes "hat") (codes "hat")
    ∷ commits 1 50
    ∷ []

-- all after-images, and the before-image of the name, as the changes come
abbrev pub as_they_come : Registration
as_they_come = record { table = codes "items"; after = 0 ∷ 1 ∷ []; before = 1 ∷ []; del_ins = false; changes_only = false; disable_refresh = false }

-- the same, with each update that changes something taken apart into a delete and an insert
abbrev pub taken_apart : Registration
taken_apart = record { table = codes "items"; after = 0 ∷ 1 ∷ []; before = 1 ∷ []; del_ins = true; changes_only = true; disable_refresh = false }

-- a change row of a registration that keeps one before-image
abbrev pub change_row : ℕ → ℕ → ℕ → Op → Values → Values → CdRow
change_row seq at sub op after before = record { commitseq = seq; intentseq = record { position = at; sub = sub }; op = op; after = after; before = before }
