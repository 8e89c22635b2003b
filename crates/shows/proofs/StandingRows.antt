-- The rows of the tables that are shown as they stand at a server, and their text.
use Rattle.std.proofs.Common.{◌≡◌, ℕ, ◌*◌, ◌<◌, ◌≤◌, ◌^◌, Bool, true, false, cond, ◌&&◌, List, [], ◌∷◌, ◌++◌, map, length, length-append, refl, sym, ap, subst, ◌∙◌, arith, max, nat_lt, nat_le, Some, slice_get}
use Rattle.std.specs.FinMap.{entries}
use Rattle.std.specs.List.{AllByRecursion, flat_map}
use Rattle.std.proofs.lemmas.List.{length-map, map-id}
use Rattle.std.proofs.lemmas.List.FromFn.{length-enumerate_from}
use Rattle.world_store.specs.Words.{Is64, b64, sequence_spelling, length64, IsKey, key_spelling, IsLogRecord, IsChangeKey, change_key_spelling, IsChangeRow, CdKey, ChangeRow, IsUow, UowRow, SourceRow, IsSourceRow, numbered_below, rises, change_rows_of, uow_rows, source_rows, RowFits, positions_rise, between_few, filter_few, source_few}
use Rattle.site_store.specs.Words.{numbers_in_order}
use Rattle.repl_model.specs.Words.{Values, CdRow, TableDef, At, positions, last_commit, units, units_few, changes_between, LogIsSound, Registered, Server, ServerTable, all_numbered, all_weaker, each_image}
use Rattle.repl_types.specs.declared.unit.Unit.{Unit as LogUnit}
use Rattle.reply_text.specs.Rows.{row_line, log_line}
use Rattle.stored_commits.specs.records.SourceTables.{stored_row, StandsUnderKey, RowsStand}
use Rattle.stored_commits.specs.records.laws.StandingRows.{some_byte, standing_fit, standing_rise}
use Rattle.stored_commits.specs.laws.SourceLogs.{source_stands}
use Rattle.stored_commits.specs.units.StoredChanges.{stored_change}
use Rattle.cd_tables.specs.Captured.{ServerIsSound, unit_row}
use Rattle.cd_tables.specs.laws.InOrder.{all_always}
use Rattle.cd_tables.specs.laws.SoundChanges.{change_rows_are as changes_rise}
use Rattle.cd_tables.specs.laws.SoundUnits.{unit_rows_are as units_rise}
use Rattle.shows.specs.tables.Replies.{captured_changes, captured_units, change_text, committed_rows, count_line, log_text, source_text, stored_change_line, stored_unit_line, unit_text}
use Rattle.shows.specs.tables.Records.{AreShown, rows_text}
use Rattle.shows.specs.tables.laws.Rising.{images_rise}
use Rattle.shows.specs.tables.laws.Texts.{text_shown}

-- ---- the log

-- the records of a sound log are rows as they are shown
pub log_records_are : (server : Server) → LogIsSound server → AreShown Is64 b64 IsLogRecord (positions server.log)
log_records_are server sound = record {
  rise = rises b64 (2 ^ 64) numbers_in_order (positions server.log) (numbered_below 1 (2 ^ 64) server.log (omega (arith, sound.short))) (positions_rise 1 server.log);
  fit = all_numbered IsLogRecord (RowFits Is64 IsLogRecord) (2 ^ 64) 1 server.log (omega (arith, sound.short)) sound.typed (λ m r lt fits. (lt, fits));
  some = all_always (λ (r : At). 0 < length (b64 r.0)) (λ r. omega (arith, length64 r.0)) (positions server.log);
  few = omega (arith, length-enumerate_from 1 server.log, sound.short);
}

-- their text is the reply
pub log_text_is : (server : Server) → rows_text log_line (positions server.log) ≡ log_text server
log_text_is server =
    ap (rows_text log_line) (sym (map-id (positions server.log)))
    ∙ text_shown log_line (λ (r : At). r) (positions server.log)
    ∙ ap (λ (n : ℕ). flat_map (λ line. line) (map (λ (r : At). log_line r.0 r.1) (positions server.log) ++ count_line n ∷ [])) (length-enumerate_from 1 server.log)

-- ---- the source

module _ (server : Server) (def : TableDef) where
  -- the text of the rows of a table is the reply
  pub source_text_is : rows_text {A = Values} (λ _ (r : SourceRow). row_line r.row) (source_rows server def) ≡ source_text server def
  source_text_is = text_shown {A = Values} (λ _ (r : SourceRow). row_line r.row) stored_row (entries (committed_rows server def))

  module _ (sound : LogIsSound server) where
    -- they stand under their keys
    stand : RowsStand def (committed_rows server def)
    stand = source_stands server def sound

    -- each has a spelling, under a key that has one
    pub source_rows_fit : AllByRecursion (RowFits IsKey IsSourceRow) (source_rows server def)
    source_rows_fit = each_image (RowFits IsKey IsSourceRow) stored_row (entries (committed_rows server def)) (standing_fit def (committed_rows server def) stand)

    -- if the table has a key, they are rows as they are shown
    pub source_rows_are : 0 < length def.key → AreShown IsKey key_spelling IsSourceRow (source_rows server def)
    source_rows_are keyed = record {
      rise = images_rise {Y = SourceRow} (λ (row : Values). record { row = row }) (entries (committed_rows server def)) (standing_rise def (committed_rows server def) stand);
      fit = source_rows_fit;
      some = each_image (λ (r : Values × SourceRow). 0 < length (key_spelling r.0)) stored_row (entries (committed_rows server def)) (all_weaker (StandsUnderKey def) (λ e. 0 < length (key_spelling e.0)) (entries (committed_rows server def)) (λ e own. subst (λ (key : Values). 0 < length (key_spelling key)) (sym own.own) (some_byte def.key e.1 keyed)) stand);
      few = omega (arith, length-map (entries (committed_rows server def)) stored_row, source_few def server.log (last_commit server.log), sound.short);
    }

-- ---- units

module _ (server : Server) where
  -- the text of the rows of units is the reply
  pub unit_text_is : rows_text stored_unit_line (uow_rows server) ≡ unit_text server
  unit_text_is = text_shown stored_unit_line (unit_row server) (captured_units server)

  -- those of a sound server are rows as they are shown
  pub unit_rows_are : ServerIsSound server → AreShown Is64 b64 IsUow (uow_rows server)
  unit_rows_are sound =
      let rows = units_rise server sound in
      record {
        rise = rows.rise;
        fit = rows.fit;
        some = all_always (λ (r : ℕ × UowRow). 0 < length (b64 r.0)) (λ r. omega (arith, length64 r.0)) (uow_rows server);
        few = omega (arith, length-map (captured_units server) (unit_row server), filter_few (λ (u : LogUnit). nat_lt server.floor u.head.seq && nat_le u.head.seq server.captured) (units server.log), units_few server.log, sound.log.short);
      }

-- ---- the change rows of a registration

-- no key is spelled by nothing
key_some : (key : CdKey) → 0 < length (change_key_spelling key)
key_some key = omega (arith, length64 key.commitseq, length-append (b64 key.commitseq) (sequence_spelling key.intentseq))

module _ (server : Server) (r : Registered) where
  -- they are stored one by one
  changes_stored : change_rows_of server r ≡ map stored_change (captured_changes server r)
  changes_stored = pick r.active (changes_between server.log r.reg (max r.start r.floor) server.captured)
    where
      pick : (active : Bool) (rows : List CdRow) → cond active (map stored_change rows) [] ≡ map stored_change (cond active rows [])
      pick true rows = refl
      pick false rows = refl

  -- their text is the reply
  pub change_text_is : rows_text stored_change_line (change_rows_of server r) ≡ change_text server r
  change_text_is = ap (rows_text stored_change_line) changes_stored ∙ text_shown stored_change_line stored_change (captured_changes server r)

  -- there are no more than twice the records of the log
  changes_few : length (captured_changes server r) ≤ 2 * length server.log
  changes_few = pick r.active (changes_between server.log r.reg (max r.start r.floor) server.captured) (between_few server.log r.reg (max r.start r.floor) server.captured)
    where
      pick : (active : Bool) (rows : List CdRow) → length rows ≤ 2 * length server.log → length (cond active rows []) ≤ 2 * length server.log
      pick true rows few = few
      pick false rows few = omega arith

  -- those of a sound server are rows as they are shown
  pub change_rows_are : ServerIsSound server → (n : ℕ) (t : ServerTable) → slice_get server.tables n ≡ Some t → t.registered ≡ Some r → AreShown IsChangeKey change_key_spelling IsChangeRow (change_rows_of server r)
  change_rows_are sound n t at is =
      let rows = changes_rise server sound n t r at is in
      record {
        rise = rows.rise;
        fit = rows.fit;
        some = all_always (λ (row : CdKey × ChangeRow). 0 < length (change_key_spelling row.0)) (λ row. key_some row.0) (change_rows_of server r);
        few = omega (arith, ap length changes_stored, length-map (captured_changes server r) stored_change, changes_few, sound.log.short);
      }
