-- What making changes at the tables of the source makes of contents, and what tells whether they apply.
use Rattle.std.specs.Prelude.{◌≡◌, ℕ, ◌<◌, ◌≤◌, Bool, true, false, if◌then◌else◌, List, [], ◌∷◌, Some, map, take, length, slice_get}
use Rattle.std.specs.List.{AllByRecursion, AllZip}
use Rattle.std.specs.Option.{option_map_or}
use Rattle.repl_types.specs.declared.area.Area.TheVariants as areas
use Rattle.repl_types.specs.declared.record.Change.{Change}
use Rattle.repl_types.specs.declared.table.TableDef.{TableDef}
use Rattle.keep_core.specs.Contents.{Contents, with_table}
use Rattle.repl_definitions.specs.declared.defined.DefinedTable.{DefinedTable}
use Rattle.repl_model.specs.Tables.{Rows, table_of, inverse, applies_here}
use Rattle.repl_model.specs.Applicable.{table_named}
use Rattle.repl_model.specs.World.{ServerTable, Server, tables_of}
use Rattle.world_store.specs.Tables.{no_rows}
use Rattle.stored_commits.specs.records.Applying.{AllAreFound, apply_to_each}
use Rattle.stored_commits.specs.records.SourceTables.{rows_table, RowsStand, with_effect}
use Rattle.source_log.specs.Fitting.{CanBeMade}
use Rattle.source_log.specs.Rules.{HasTable, IsLogged}
use Rattle.source_log.specs.declared.outcome.Outcome.{Outcome}
use Rattle.source_log.specs.declared.outcome.Outcome.TheVariants as outcomes
use Rattle.source_log.specs.declared.step.Step.{Step}

-- ---- one change

-- the contents after a change is made at its table
abbrev pub with_made : DefinedTable → Change → Contents → Contents
with_made table change c = with_table c areas.Source table.number (with_effect table.def change (c areas.Source table.number))

-- This answers whether a change applies at its table; if it does, it can be taken back.
pub record Tells (table : DefinedTable) (change : Change) (answer : Bool) (c : Contents) : Type 0 where
  pub decides : (rows : Rows) → RowsStand table.def rows → c areas.Source table.number ≡ rows_table rows → answer ≡ applies_here table.def change rows
  pub back : answer ≡ true → with_made table (inverse change) (with_made table change c) ≡ c

-- A change was made if it applies, and this answers whether it does.
pub record MakesOne (step : Step) (made : Bool) (c d : Contents) : Type 0 where
  pub tells : Tells step.table step.change made c
  pub makes : d ≡ (if made then with_made step.table step.change c else c)

-- ---- the changes of a commit

-- each can be made
abbrev pub StepCanBeMade : Step → Type 0
StepCanBeMade step = CanBeMade step.table.def step.change

-- The change that a transaction has in flight at a position, with its table.
pub record IsStepAt (tx : ℕ) (c : Contents) (pos : ℕ) (step : Step) : Type 0 where
  pub logged : IsLogged tx c pos step.change
  pub has : HasTable c step.change step.table

-- the changes that a transaction has in flight at these positions, in order
abbrev pub AreSteps : ℕ → List ℕ → List Step → Contents → Type 0
AreSteps tx positions steps c = AllZip (IsStepAt tx c) positions steps

-- the changes of steps
abbrev pub changes_of : List Step → List Change
changes_of steps = map (λ step. step.change) steps

-- the contents after changes are made, one after another
abbrev pub all_made : List Step → Contents → Contents
all_made [] c = c
all_made (step ∷ steps) c = all_made steps (with_made step.table step.change c)

-- the contents after they are taken back, the last one first
abbrev pub all_unmade : List Step → Contents → Contents
all_unmade [] c = c
all_unmade (step ∷ steps) c = with_made step.table (inverse step.change) (all_unmade steps c)

-- ---- at a server

-- the tables of the source have these rows
abbrev pub HasSource : Server → (TableDef → Rows) → Contents → Type 0
HasSource server rows c = (n : ℕ) → c areas.Source n ≡ option_map_or (λ t. rows_table (rows t.def)) (slice_get server.tables n) no_rows

-- The tables of a server are found by their names, each at one number.
pub record TablesApart (server : Server) : Type 0 where
  pub found : AllAreFound (tables_of server)
  pub apart : (m n : ℕ) (t u : ServerTable) → slice_get server.tables m ≡ Some t → slice_get server.tables n ≡ Some u → t.def ≡ u.def → m ≡ n

-- the rows stand under their keys
abbrev pub SourceStands : Server → (TableDef → Rows) → Type 0
SourceStands server rows = AllByRecursion (λ t. RowsStand t.def (rows t.def)) server.tables

-- The table is the server's, and the one that is found by the name of the change's table.
pub record IsOfServer (server : Server) (step : Step) : Type 0 where
  pub table : ServerTable
  pub at_number : slice_get server.tables step.table.number ≡ Some table
  pub def : table.def ≡ step.table.def
  pub named : table_named (table_of step.change) (tables_of server) ≡ Some step.table.def

-- changes apply one after another to the source of a server, or don't
abbrev pub ApplyAll : List Step → Bool → Contents → Type 0
ApplyAll steps answer c = (server : Server) (rows : TableDef → Rows) → TablesApart server → SourceStands server rows → HasSource server rows c → AllByRecursion (IsOfServer server) steps
    → apply_to_each (tables_of server) (changes_of steps) rows ≡ answer

-- The first of the changes were made, and this is how many: all of them if they apply to the source one after
-- another, and else those before the first that doesn't. They can be taken back.
pub record MakesFirst (steps : List Step) (made : ℕ) (c d : Contents) : Type 0 where
  pub few : made ≤ length steps
  pub makes : d ≡ all_made (take made steps) c
  pub back : all_unmade (take made steps) d ≡ c
  pub whole : made ≡ length steps → ApplyAll steps true c
  pub stopped : made < length steps → ApplyAll steps false c

-- All changes were made, if they apply and there is room; else the contents are as they were.
abbrev pub MakesAll : List Step → Bool → Outcome → Contents → Contents → Type 0
MakesAll steps has_room outcomes.Taken c d = (d ≡ all_made steps c) × (has_room ≡ true) × ApplyAll steps true c
MakesAll steps has_room outcomes.NotApplicable c d = (d ≡ c) × ApplyAll steps false c
MakesAll steps has_room outcomes.Full c d = (d ≡ c) × (has_room ≡ false) × ApplyAll steps true c
