-- Whether changes apply, change by change and each to its own table.
use Rattle.std.specs.Prelude.{◌≡◌, Bool, true, ◌&&◌, List, [], ◌∷◌, Some}
use Rattle.std.specs.List.{AllByRecursion, list_all}
use Rattle.repl_types.specs.declared.record.Change.{Change}
use Rattle.repl_types.specs.declared.table.TableDef.{TableDef}
use Rattle.repl_model.specs.Tables.{Rows, table_of, applies, applies_here, after_change, all_apply}
use Rattle.repl_model.specs.Applicable.{table_named}

-- the change applies to the rows of each of some tables
abbrev pub applies_to_each : List TableDef → Change → (TableDef → Rows) → Bool
applies_to_each tables change rows = list_all (λ def. applies def change (rows def)) tables

-- changes apply to the rows of each table, one after another
abbrev pub apply_to_each : List TableDef → List Change → (TableDef → Rows) → Bool
apply_to_each tables changes rows = list_all (λ def. all_apply def changes (rows def)) tables

-- an empty list of changes applies
abbrev pub EmptyListApplies : Type 0
EmptyListApplies = (tables : List TableDef) (rows : TableDef → Rows) → apply_to_each tables [] rows ≡ true

-- changes apply if the first one does, and the others do after it
abbrev pub FirstThenOthersApply : Type 0
FirstThenOthersApply = (tables : List TableDef) (change : Change) (changes : List Change) (rows : TableDef → Rows)
    → apply_to_each tables (change ∷ changes) rows ≡ (applies_to_each tables change rows && apply_to_each tables changes (λ def. after_change def change (rows def)))

-- each table is the one that is found by its name
abbrev pub AllAreFound : List TableDef → Type 0
AllAreFound tables = AllByRecursion (λ def. table_named def.name tables ≡ Some def) tables

-- a change applies to each of such tables if it applies to the one of its name
abbrev pub AppliesToItsOwn : Type 0
AppliesToItsOwn = (tables : List TableDef) (change : Change) (def : TableDef) (rows : TableDef → Rows)
    → AllAreFound tables → table_named (table_of change) tables ≡ Some def
    → applies_to_each tables change rows ≡ applies_here def change (rows def)
