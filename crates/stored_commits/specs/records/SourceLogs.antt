-- The stored tables of the source of a server, and what one more record makes of them.
use Rattle.std.specs.Prelude.{◌≡◌, ℕ, [], ◌∷◌, Some}
use Rattle.repl_types.specs.declared.record.Change.{Change}
use Rattle.repl_types.specs.declared.record.LogRecord.TheVariants as records
use Rattle.repl_types.specs.declared.table.TableDef.{TableDef}
use Rattle.repl_model.specs.Units.{last_commit}
use Rattle.repl_model.specs.SourceAt.{source_at}
use Rattle.repl_model.specs.Applicable.{table_named}
use Rattle.repl_model.specs.World.{Server, World, tables_of}
use Rattle.repl_model.specs.SoundDefinitions.{ServerKeepsRules}
use Rattle.repl_model.specs.SoundLogs.{LogIsSound}
use Rattle.repl_model.specs.Longer.{with_more}
use Rattle.world_store.specs.Tables.{source_table}
use Rattle.stored_commits.specs.records.Applying.{AllAreFound}
use Rattle.stored_commits.specs.records.SourceTables.{RowsStand, RowsFit}

-- ---- what a sound log gives

-- the rows of the source of a sound log stand under their keys
abbrev pub SourceRowsStand : Type 0
SourceRowsStand = (server : Server) (def : TableDef) → LogIsSound server → RowsStand def (source_at def server.log (last_commit server.log))

-- they fit their table, if it is the one that is found by its name
abbrev pub SourceRowsFit : Type 0
SourceRowsFit = (server : Server) (def : TableDef) → LogIsSound server → table_named def.name (tables_of server) ≡ Some def
    → RowsFit def (source_at def server.log (last_commit server.log))

-- at a server that keeps the rules each table is the one that is found by its name
abbrev pub TablesAreFound : Type 0
TablesAreFound = (world : World) (server : Server) → ServerKeepsRules world server → AllAreFound (tables_of server)

-- ---- one more record

-- a change leaves the stored tables of the source
abbrev pub ChangeLeavesSource : Type 0
ChangeLeavesSource = (server : Server) (tx : ℕ) (change : Change) (n : ℕ) → source_table (with_more (records.Change tx change ∷ []) server) n ≡ source_table server n

-- an abort leaves them
abbrev pub AbortLeavesSource : Type 0
AbortLeavesSource = (server : Server) (tx n : ℕ) → source_table (with_more (records.Abort tx ∷ []) server) n ≡ source_table server n
