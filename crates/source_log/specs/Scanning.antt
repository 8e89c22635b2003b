-- What a read of the end of a server's log gives, and a scan of a table of its source.
use Rattle.std.specs.Prelude.{◌≡◌, ℕ, ◌<◌, List, [], ◌∷◌, length, map, Option, Some, None, slice_get}
use Rattle.std.specs.FinMap.{entries}
use Rattle.repl_types.specs.Value.{Values}
use Rattle.repl_types.specs.declared.area.Area.{Area}
use Rattle.repl_types.specs.declared.area.Area.TheVariants as areas
use Rattle.repl_types.specs.declared.status.DamageCause.{DamageCause}
use Rattle.repl_types.specs.declared.table.TableDef.{TableDef}
use Rattle.keep_core.specs.Contents.{Contents}
use Rattle.keep_core.specs.Kept.{Kept}
use Rattle.row_codec.specs.Spelling.{IsKey, key_spelling}
use Rattle.repl_definitions.specs.declared.defined.DefinedTable.{DefinedTable}
use Rattle.repl_records.specs.SourceSide.{source_row_spelling, IsSourceRow}
use Rattle.rows_in_order.specs.Rows.{rows_after}
use Rattle.repl_model.specs.Tables.{Rows, key_of}
use Rattle.repl_model.specs.Units.{last_commit}
use Rattle.repl_model.specs.SourceAt.{source_at}
use Rattle.repl_model.specs.World.{ServerTable, Server, World, server_in}
use Rattle.repl_model.specs.Sound.{IsSound}
use Rattle.world_store.specs.Stands.{Reveals}
use Rattle.world_store.specs.Tables.{source_table}
use Rattle.site_store.specs.declared.sites.Sites.{Sites}
use Rattle.site_store.specs.Damage.{Damages}
use Rattle.site_store.specs.Views.{sees}
use Rattle.stored_defs.specs.Reading.{table_rules}
use Rattle.source_log.specs.Storing.{IsKept}

-- ---- servers

-- The server at a place is seen to have what a sound world calls for there. It is if the servers stand for the
-- world and it has no transaction open, or one that has changed nothing.
pub record IsSeenAs {K : Type 0} (kept : K → Kept) (sites : Sites K) (place : ℕ) (w : World) : Type 0 where
  pub sound : IsSound w
  pub within : place < length w
  pub reveals : Reveals w (server_in w place) (sees kept sites place)

-- ---- rows of the source

-- The table is one of a server, and the contents have its committed rows.
pub record HasCommitted (server : Server) (table : DefinedTable) (c : Contents) : Type 0 where
  pub kept : IsKept server
  pub own : ServerTable
  pub at_number : slice_get server.tables table.number ≡ Some own
  pub def : own.def ≡ table.def
  pub source : c areas.Source table.number ≡ source_table server table.number

-- the rows after a row in the order of their keys, and all of them if there is none
abbrev pub rows_left : TableDef → Option Values → Rows → List Values
rows_left def None rows = map (λ e. e.1) (entries rows)
rows_left def (Some row) rows = map (λ e. e.1) (rows_after key_spelling (key_spelling (key_of def row)) (entries rows))

-- the first of them, if there is one
abbrev pub IsFirstLeft : TableDef → Option Values → Option Values → Rows → Type 0
IsFirstLeft def after None rows = rows_left def after rows ≡ []
IsFirstLeft def after (Some row) rows = rows_left def after rows ≡ row ∷ rows_left def (Some row) rows

-- if the contents have the committed rows of the table, this is the first one after a row, if there is one
abbrev pub IsNextCommitted : DefinedTable → Option Values → Option Values → Contents → Type 0
IsNextCommitted table after found c = (server : Server) → HasCommitted server table c → IsFirstLeft table.def after found (source_at table.def server.log (last_commit server.log))

-- what a server was seen to have in a table of the source shows damage: bytes that are no key of a row, or no row
abbrev pub ShowsBadRow : {K : Type 0} → (K → Kept) → Sites K → ℕ → ℕ → ℕ → Area → DamageCause → Type 0
ShowsBadRow kept sites server number = Damages (λ s. s ≡ server) (table_rules IsKey key_spelling IsSourceRow source_row_spelling areas.Source number) kept sites
