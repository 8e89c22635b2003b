-- What a server has whose tables are those of its log shows no damage: proofs.
use Rattle.std.proofs.Common.{◌≡◌, ℕ, zero, ◌^◌, ◌<◌, List, [], ◌∷◌, inl, inr, refl, sym, ap, subst, ◌∙◌, arith, slice_get, Option, Some, None, Less}
use Rattle.std.specs.FinMap.{entries}
use Rattle.std.specs.List.{AllByRecursion}
use Rattle.std.specs.Option.{option_map_or, option_or}
use Rattle.world_store.specs.Words.{IsLogRecord, log_spelling, IsName, b64, key_spelling, short_text, one_log_record, one_whole, first_head, in_flight_key_spelling, IsInFlightKey, single_spelling, head_spelling, in_flight_spelling, source_row_spelling, Head, table_from_rows, table_rows, log_rows, source_rows, in_flight_rows, head_of, head_rows, no_rows, first_table, RowFits}
use Rattle.site_store.specs.Words.{Contents, Table, IsUndamaged, IsSpelt, rows_spelt}
use Rattle.repl_model.specs.Words.{each_image, bytes_cmp, all_weaker, Area, Change, TableDef, defined_table_spelling, IsDefinedTable, LogIsSound, source_at, last_commit, ServerTable, Server, all_numbered}
use Rattle.repl_types.specs.declared.area.Area.TheVariants as areas
use Rattle.repl_types.specs.declared.record.LogRecord.TheVariants as records
use Rattle.repl_types.specs.declared.status.DamageCause.TheVariants as causes
use Rattle.stored_commits.specs.records.InFlight.{InFlightRow}
use Rattle.stored_commits.specs.records.SourceTables.{StandsUnderKey, stored_row}
use Rattle.source_log.specs.Rules.{all_rules, is_called_for, is_stray, is_past_end, IsInFlight, IsKeptChange}
use Rattle.source_log.specs.Storing.{IsKept, Stores, StoresWhole, MayBeLogged}
use Rattle.source_log.proofs.Extending.{some_none}
use Rattle.source_log.proofs.HeldTables.{whole_end, whole_last}
use Rattle.source_log.proofs.KeptFlights.{flight_kept}
use Rattle.source_log.proofs.OwnTables.{own_rows_fit}
use Rattle.stored_commits.specs.laws.SourceLogs.{source_stands}
use Rattle.stored_commits.specs.laws.InFlightRows.{in_flight_stand}
use Rattle.stored_commits.specs.laws.LogTables.{head_fits}
use Rattle.source_log.specs.laws.Whole.{same_value}

-- a row's key and value are a key and a value of its table
abbrev RowSpelt : {A X : Type 0} → Area → ℕ → (A → List ℕ) → (X → List ℕ) → A × X → Type 0
RowSpelt a t key value r = all_rules.is_key a t (key r.0) × all_rules.is_value a t (value r.1)

-- so are those of each record of a sound log
log_spelt : (server : Server) → LogIsSound server → AllByRecursion (RowSpelt areas.Log 0 b64 log_spelling) (log_rows server)
log_spelt server sound = all_numbered IsLogRecord (RowSpelt areas.Log 0 b64 log_spelling) (2 ^ 64) 1 server.log (omega (arith, sound.short)) sound.typed (λ n r lt typed. ((n, lt, refl), (r, typed, refl)))

-- of each row of its source
source_spelt : (server : Server) (def : TableDef) (n : ℕ) → LogIsSound server → AllByRecursion (RowSpelt areas.Source n key_spelling source_row_spelling) (source_rows server def)
source_spelt server def n sound =
    let spelt = RowSpelt areas.Source n key_spelling source_row_spelling in
    let rows = entries (source_at def server.log (last_commit server.log)) in
    each_image spelt stored_row rows (all_weaker (StandsUnderKey def) (λ e. spelt (stored_row e)) rows (λ e stands. (tt, (record { row = e.1 }, stands.row, refl))) (source_stands server def sound))

-- of each of its changes in flight
in_flight_spelt : (server : Server) → LogIsSound server → AllByRecursion (RowSpelt areas.Inflight 0 in_flight_key_spelling in_flight_spelling) (in_flight_rows server)
in_flight_spelt server sound =
    let spelt = RowSpelt areas.Inflight 0 in_flight_key_spelling in_flight_spelling in
    all_weaker (λ (r : InFlightRow). IsInFlightKey r.0 × (0 < r.0.pos)) spelt (in_flight_rows server) (λ r fit. ((r.0, fit.0, refl), (r.1, tt, refl))) (in_flight_stand server sound).fit

-- and of each table of a server
tables_spelt : (server : Server) → IsKept server → AllByRecursion (RowSpelt areas.Defs 0 short_text defined_table_spelling) (table_rows server)
tables_spelt server kept =
    let spelt = RowSpelt areas.Defs 0 short_text defined_table_spelling in
    all_weaker (RowFits IsName IsDefinedTable) spelt (table_rows server) (λ r fit. (tt, (r.1, fit.1, refl))) (own_rows_fit server kept)

module _ (server : Server) (c : Contents) (whole : StoresWhole server c) where
  -- its log is sound
  sound : LogIsSound server
  sound = whole.kept.log

  -- what is stored is the server's
  stores : Stores server c
  stores = whole.stores

  -- ---- spelling

  -- what is held of the end of the log is the row of the server's
  held_head : (key value : List ℕ) → c areas.Head 0 key ≡ Some value → table_from_rows single_spelling head_spelling (head_rows server) key ≡ Some value
  unfolding first_table
  held_head key value has = sym (ap (λ (t : Table). t key) whole.end) ∙ found (c areas.Head 0 key) has
    where
      found : (o : Option (List ℕ)) → o ≡ Some value → option_or o (table_from_rows single_spelling head_spelling ((record {}, first_head) ∷ []) key) ≡ Some value
      found None e = absurd (some_none (sym e))
      found (Some v) e = e

  -- each entry is a key and a value of its table
  pub all_spelt : IsSpelt all_rules c
  all_spelt areas.Log zero key value has = rows_spelt all_rules areas.Log 0 b64 log_spelling (log_rows server) key value (log_spelt server sound) (sym (ap (λ (t : Table). t key) stores.log) ∙ has)
  all_spelt areas.Source n key value has = by_table (slice_get server.tables n) (sym (ap (λ (t : Table). t key) (stores.source n)) ∙ has)
    where
      by_table : (o : Option ServerTable) → option_map_or (λ t. table_from_rows key_spelling source_row_spelling (source_rows server t.def)) o no_rows key ≡ Some value
          → all_rules.is_key areas.Source n key × all_rules.is_value areas.Source n value
      by_table None e = absurd (some_none (sym e))
      by_table (Some t) e = rows_spelt all_rules areas.Source n key_spelling source_row_spelling (source_rows server t.def) key value (source_spelt server t.def n sound) e
  all_spelt areas.Inflight zero key value has =
      let there = sym (ap (λ (t : Table). t key) stores.in_flight) ∙ has in
      rows_spelt all_rules areas.Inflight 0 in_flight_key_spelling in_flight_spelling (in_flight_rows server) key value (in_flight_spelt server sound) there
  all_spelt areas.Head zero key value has =
      let spelt : AllByRecursion (RowSpelt areas.Head 0 single_spelling head_spelling) (head_rows server) = ((tt, (head_of server, head_fits server sound, refl)), tt) in
      rows_spelt all_rules areas.Head 0 single_spelling head_spelling (head_rows server) key value spelt (held_head key value has)
  all_spelt areas.Defs zero key value has =
      let there = sym (ap (λ (t : Table). t key) stores.defs) ∙ has in
      rows_spelt all_rules areas.Defs 0 short_text defined_table_spelling (table_rows server) key value (tables_spelt server whole.kept) there
  all_spelt a t key value has = (tt, tt)

  -- ---- changes in flight, and the end of the log

  -- the log has each change in flight, and it may stand at its table
  kept : (tx pos : ℕ) → IsInFlight tx c pos → (change : Change) × IsKeptChange tx c pos change
  kept = flight_kept server whole.kept c stores

  -- nothing that is called for is missing
  none_absent : (a : Area) (t : ℕ) (key : List ℕ) → c a t key ≡ None → is_called_for a t key c → ⊥
  none_absent areas.Log zero key none h = some_none (sym (kept h.0 h.1 h.3).1.logged ∙ ap (c areas.Log 0) (sym h.2) ∙ none)
  none_absent areas.Defs zero key none h =
      let k = kept h.0 h.1 h.4 in
      let is : records.Change h.0 k.0 ≡ records.Change h.0 h.2 = one_whole IsLogRecord log_spelling one_log_record (records.Change h.0 k.0) (records.Change h.0 h.2) k.1.typed h.5 (same_value (sym k.1.logged ∙ h.6)) in
      let table = subst (MayBeLogged c) is (k.1.table, k.1.has) in
      some_none (sym table.1.stands ∙ ap (c areas.Defs 0) (sym h.3) ∙ none)
  none_absent a t key none h = h

  -- no change in flight is stray
  none_stray : (a : Area) (t : ℕ) (key value : List ℕ) → is_stray a t key value c → ⊥
  none_stray areas.Inflight zero key value h = let k = kept h.0 h.1 h.3 in h.4 k.0 k.1
  none_stray a t key value h = h

  -- no record is past the end of the log
  none_past : (a : Area) (t : ℕ) (key value : List ℕ) → c a t key ≡ Some value → is_past_end a t key value c → ⊥
  none_past areas.Log zero key value has h =
      let is : h.0 ≡ head_of server = whole_end server c whole h.0 h.1 h.2 in
      some_none (sym has ∙ whole_last server c whole key (subst (λ (head : Head). bytes_cmp (b64 head.last) key ≡ Less) is h.3))
  none_past a t key value has h = h

  -- so no damage is shown
  pub none_shown : IsUndamaged all_rules c
  none_shown a (causes.Spelling bytes) h = elim h.1 [
    | inl key ↦ key.0 (all_spelt a h.0 bytes key.1.0 key.1.1).0
    | inr value ↦ value.0 (all_spelt a h.0 value.1.0 bytes value.1.1).1
  ]
  none_shown a (causes.Absent key) h = none_absent a h.0 key h.1.0 h.1.1
  none_shown a (causes.Unfit bytes) h = elim h.1.2 [
    | inl stray ↦ none_stray a h.0 h.1.0 bytes stray
    | inr past ↦ none_past a h.0 h.1.0 bytes h.1.1 past
  ]
  none_shown a (causes.NoRest steps) h = h
