-- The spellings of columns, tables and registrations.
use Rattle.std.specs.Prelude.{ℕ, List, [], ◌∷◌, ◌++◌}
use Rattle.repl_types.specs.declared.table.Kind.{Kind}
use Rattle.repl_types.specs.declared.table.Kind.TheVariants.{Int, Text}
use Rattle.repl_types.specs.declared.table.ColumnDef.{ColumnDef}
use Rattle.repl_types.specs.declared.table.TableDef.{TableDef}
use Rattle.repl_types.specs.declared.change_row.Registration.{Registration}
use Rattle.row_codec.specs.Spelling.{Any, b16, Is16, flag, short_text, IsName, list_spelling, IsCounted, ListFits}

-- ---- places

-- places of columns: their count, and each in two bytes
abbrev pub places_spelling : List ℕ → List ℕ
places_spelling = list_spelling b16

-- the lists of places whose count and places have two bytes
abbrev pub ArePlaces : List ℕ → Type 0
ArePlaces = ListFits Is16

-- ---- tables

-- 0x01 for integers, 0x02 for texts
abbrev pub kind_spelling : Kind → List ℕ
kind_spelling Int = 0x01 ∷ []
kind_spelling Text = 0x02 ∷ []

-- a column: its name, its kind, and whether it may be NULL
abbrev pub column_spelling : ColumnDef → List ℕ
column_spelling column = short_text column.name ++ kind_spelling column.kind ++ flag column.nullable

-- the columns whose name is a name
abbrev pub IsColumn : ColumnDef → Type 0
IsColumn column = IsName column.name × Any column.kind × Any column.nullable

-- a table: its name, its columns, and the places of its key and of the fixed columns
abbrev pub table_spelling : TableDef → List ℕ
table_spelling table = short_text table.name ++ list_spelling column_spelling table.columns ++ places_spelling table.key ++ places_spelling table.fixed

-- the tables that have a spelling
abbrev pub HasTableSpelling : TableDef → Type 0
HasTableSpelling table = IsCounted table.columns × ArePlaces table.key × ArePlaces table.fixed

-- the tables of names, whose lists have counts of two bytes
abbrev pub IsTable : TableDef → Type 0
IsTable table = IsName table.name × ListFits IsColumn table.columns × ArePlaces table.key × ArePlaces table.fixed

-- ---- registrations

-- a registration: its table's name, the places of the columns whose images are kept, and three flags
abbrev pub registration_spelling : Registration → List ℕ
registration_spelling r = short_text r.table ++ places_spelling r.after ++ places_spelling r.before ++ flag r.del_ins ++ flag r.changes_only ++ flag r.disable_refresh

-- the registrations that have a spelling
abbrev pub HasRegistrationSpelling : Registration → Type 0
HasRegistrationSpelling r = ArePlaces r.after × ArePlaces r.before

-- the registrations of a name, whose lists have counts of two bytes
abbrev pub IsRegistration : Registration → Type 0
IsRegistration r = IsName r.table × ArePlaces r.after × ArePlaces r.before × Any r.del_ins × Any r.changes_only × Any r.disable_refresh
