-- What units are to a replica set.
use Rattle.std.specs.Prelude.{ℕ, Bool, false, ◌&&◌, not, List, [], ◌∷◌, filter, length, nat_lt}
use Rattle.std.specs.List.{list_any}
use Rattle.std.specs.Option.{option_map_or}
use Rattle.std.specs.Str.{bytes_eq}
use Rattle.repl_types.specs.Value.{Values}
use Rattle.repl_types.specs.declared.record.Change.{Change}
use Rattle.repl_types.specs.declared.record.Change.TheVariants.{Insert, Update, Delete, Start, Stop}
use Rattle.repl_types.specs.declared.record.SetId.{SetId}
use Rattle.repl_types.specs.declared.table.TableDef.{TableDef}
use Rattle.repl_types.specs.declared.unit.Unit.{Unit}
use Rattle.repl_definitions.specs.declared.set.SetDef.{SetDef}
use Rattle.repl_model.specs.Tables.{key_of, same_values, table_of}
use Rattle.repl_model.specs.SourceAt.{unplaced}
use Rattle.repl_model.specs.Applicable.{is_signal, table_named}
use Rattle.repl_model.specs.World.{same_set}

-- the set made the unit
abbrev pub comes_from : SetId → Unit → Bool
comes_from id u = option_map_or (same_set id) u.head.origin false

-- a row of a member's table is changed
abbrev pub is_of_set : SetDef → Change → Bool
is_of_set def change = not (is_signal change) && list_any (λ member. bytes_eq (table_of change) member.source) def.members

-- the part of a unit for a set: its changes of rows of the members' tables, in order
abbrev pub part_of : SetDef → Unit → List Change
part_of def u = filter (is_of_set def) (unplaced u.changes)

-- a unit has a part for the set
abbrev pub has_part : SetDef → Unit → Bool
has_part def u = nat_lt 0 (length (part_of def u))

-- the keys of a change's rows, the old one first
abbrev pub keys_changed : TableDef → Change → List Values
keys_changed def (Insert table row) = key_of def row ∷ []
keys_changed def (Update table before after) = key_of def before ∷ key_of def after ∷ []
keys_changed def (Delete table row) = key_of def row ∷ []
keys_changed def (Start table) = []
keys_changed def (Stop table) = []

-- a change of one of these tables changes a row with this key of the table of this name
abbrev pub changes_row : List TableDef → List ℕ → Values → Change → Bool
changes_row tables name key change = bytes_eq (table_of change) name
    && option_map_or (λ def. list_any (same_values key) (keys_changed def change)) (table_named name tables) false

-- some change of the one part and some change of the other change rows with one key of one table
abbrev pub meets : List TableDef → List Change → List Change → Bool
meets tables part other = list_any (λ change. option_map_or (λ def. list_any (λ key. list_any (changes_row tables def.name key) other) (keys_changed def change)) (table_named (table_of change) tables) false) part
