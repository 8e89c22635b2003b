-- The rows of the source that a server of a sound world has.
use Rattle.std.proofs.Common.{◌≡◌, ℕ, ◌<◌, length, ap, ◌∙◌, arith, Option, Some, slice_get}
use Rattle.std.specs.FinMap.{entries}
use Rattle.std.specs.Option.{option_map_or}
use Rattle.world_store.specs.Words.{key_spelling, source_row_spelling, table_from_rows, source_rows, Holds, no_rows, tables, source_few}
use Rattle.site_store.specs.Words.{Contents}
use Rattle.repl_model.specs.Words.{IsSound, KeepsTable, ServerKeepsRules, LogIsSound, source_at, last_commit, ServerTable, Server, World, at_place_in, In, at_one}
use Rattle.repl_types.specs.declared.area.Area.TheVariants as areas
use Rattle.stored_commits.specs.records.SourceTables.{RowsStand}
use Rattle.stored_commits.specs.records.laws.StandingRows.{table_of_entries, standing_fit, standing_rise, standing_some}
use Rattle.set_places.specs.laws.Sources.{table_keyed}
use Rattle.apply_copies.specs.Copying.{HasRows}
use Rattle.stored_commits.specs.laws.SourceLogs.{source_stands}

module _ (w : World) (server : Server) (c : Contents) (sound : IsSound w) (i : In server w) (holds : Holds w server c) (number : ℕ) (t : ServerTable) (at : slice_get server.tables number ≡ Some t) where
  -- its log is sound
  log : LogIsSound server
  log = at_one LogIsSound w server sound.logs i

  -- its rows stand under their keys
  rows_stand : RowsStand t.def (source_at t.def server.log (last_commit server.log))
  rows_stand = source_stands server t.def log

  -- the table has a key
  keyed : 0 < length t.def.key
  keyed = table_keyed t (at_one KeepsTable server.tables t (at_one (ServerKeepsRules w) w server sound.definitions.servers i).tables (at_place_in server.tables number t at))

  -- a server of a sound world has the committed rows of each of its tables
  pub has_committed : HasRows number (entries (source_at t.def server.log (last_commit server.log))) c
  unfolding tables
  has_committed =
      let rows = source_at t.def server.log (last_commit server.log) in
      record {
        is = holds areas.Source number ∙ ap (λ (o : Option ServerTable). option_map_or (λ u. table_from_rows key_spelling source_row_spelling (source_rows server u.def)) o no_rows) at ∙ table_of_entries (entries rows);
        rises = standing_rise t.def rows rows_stand;
        some = standing_some t.def rows rows_stand keyed;
        fit = standing_fit t.def rows rows_stand;
        few = omega (arith, source_few t.def server.log (last_commit server.log), log.short);
      }
