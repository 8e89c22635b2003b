-- A change in flight of a sound log stands in it, and may stand at its table: proofs.
use Rattle.std.proofs.Common.{◌≡◌, ℕ, ◌<◌, ◌≤◌, Bool, true, false, cond, not, ◌&&◌, List, [], ◌∷◌, length, inl, inr, refl, sym, ap, subst, ◌∙◌, arith, ◌==◌, IsTrue, nat_lt, nat_le, sum_by, map, Option, Some, None, bytes_eq}
use Rattle.std.specs.List.{list_all}
use Rattle.std.specs.Option.{option_map_or}
use Rattle.std.proofs.lemmas.Bool.{false≢true, and_from, and_parts, eq-eqb, eqb-true, le-leb, ltb-true, or_cases}
use Rattle.std.proofs.lemmas.Option.{none-some, same_Some}
use Rattle.world_store.specs.Words.{IsLogRecord, log_spelling, IsName, b64, short_text, one_whole, in_flight_key_spelling, IsInFlightKey, in_flight_spelling, InFlightKey, one_in_flight_key, HasRow, fits_each, row_of, differ_numbers, table_rows, in_flight_rows, RowFits}
use Rattle.site_store.specs.Words.{Contents, Table}
use Rattle.repl_model.specs.Words.{key_limit, row_limit, Values, images, spelled_len, Change, LogRecord, TableDef, Placed, defined_table_spelling, IsDefinedTable, DefinedTable, TableKeepsRules, all_places, may_be_key, are_among, key_of, same_values, table_of, fits, fits_columns, change_fits, table_named, is_change_applicable, is_signal_applicable, open_changes, ServerTable, Server, tables_of, registered_of, KeepsTable, column_limit, record_fits, at_place_in, numbered_in, In, at_one, found_in, in_map, in_second, kept_by, columns_length}
use Rattle.repl_types.specs.declared.area.Area.TheVariants as areas
use Rattle.repl_types.specs.declared.record.Change.TheVariants.{Insert, Update, Delete, Start, Stop}
use Rattle.repl_types.specs.declared.record.LogRecord.TheVariants as records
use Rattle.stored_commits.specs.records.InFlight.{InFlightRow, in_flight_row, of_transaction}
use Rattle.stored_commits.specs.records.LongerTables.{log_table}
use Rattle.source_log.specs.Fitting.{has_short_rows, may_stand}
use Rattle.source_log.specs.Rules.{flight_key, IsInFlight, HasTable, IsKeptChange}
use Rattle.source_log.specs.Storing.{IsKept, Stores}
use Rattle.source_log.proofs.OwnTables.{own_table, own_tables_keep, own_rows_fit, no_table}
use Rattle.source_log.proofs.OwnUnits.{open_in_log, none_open}
use Rattle.stored_commits.specs.laws.InFlightRows.{in_flight_stand, open_rows}
use Rattle.stored_commits.specs.laws.LoggedChanges.{open_stored}

-- ---- changes that fit a table

-- so a row that fits a table is short
row_short : (def : TableDef) (row : Values) → length def.columns ≤ column_limit → fits def row ≡ true → nat_le (length row) row_limit ≡ true
row_short def row few e =
    let same : length row ≡ length def.columns = columns_length def.columns row (and_parts (fits_columns def.columns row) (nat_le (sum_by spelled_len (key_of def row)) key_limit) e).0 in
    le-leb (length row) row_limit (omega (arith, few, same))

-- and so are the rows of a change that fits it
rows_short : (def : TableDef) (change : Change) → length def.columns ≤ column_limit → change_fits def change ≡ true → has_short_rows change ≡ true
unfolding change_fits
rows_short def (Insert table row) few e = row_short def row few e
rows_short def (Update table before after) few e =
    let both = and_parts (fits def before) (fits def after) (and_parts (fits def before && fits def after) (same_values (images def.fixed before) (images def.fixed after)) e).0 in
    and_from (nat_le (length before) row_limit) (nat_le (length after) row_limit) (row_short def before few both.0) (row_short def after few both.1)
rows_short def (Delete table row) few e = row_short def row few e
rows_short def (Start table) few e = refl
rows_short def (Stop table) few e = refl

-- a table that keeps the rules has a key
has_key : (def : TableDef) → TableKeepsRules def → not (length def.key == 0) ≡ true
has_key def keeps =
    let places = and_parts (nat_lt 0 (length def.key) && list_all (may_be_key def) def.key) (are_among (all_places def) def.fixed) keeps.key in
    let some : 0 < length def.key = ltb-true 0 (length def.key) (and_parts (nat_lt 0 (length def.key)) (list_all (may_be_key def) def.key) places.0).0 in
    ap not (differ_numbers (length def.key) 0 (λ none. omega (arith, some, none)))

-- a change of such a table that fits it may stand there
fitting_stands : (t : ServerTable) (change : Change) → KeepsTable t → bytes_eq (table_of change) t.def.name ≡ true → change_fits t.def change ≡ true → may_stand t.def change ≡ true
fitting_stands t change keeps own fit =
    let def = t.def in
    let applies : is_change_applicable (def ∷ []) change ≡ true = ap (λ (b : Bool). option_map_or (λ (d : TableDef). change_fits d change) (cond b (Some def) None) false) own ∙ fit in
    let keyed : (not (length def.key == 0) && has_short_rows change) ≡ true = and_from (not (length def.key == 0)) (has_short_rows change) (has_key def keeps.0) (rows_short def change keeps.1 fit) in
    and_from (not (length def.key == 0) && has_short_rows change) (is_change_applicable (def ∷ []) change) keyed applies

-- a change that is applicable fits the table of its name
applicable_fits : (tables : List TableDef) (change : Change) → is_change_applicable tables change ≡ true → (def : TableDef) × (table_named (table_of change) tables ≡ Some def) × (change_fits def change ≡ true)
applicable_fits tables change e = pick (table_named (table_of change) tables) refl e
  where
    pick : (o : Option TableDef) → table_named (table_of change) tables ≡ o → option_map_or (λ (d : TableDef). change_fits d change) o false ≡ true
        → (def : TableDef) × (table_named (table_of change) tables ≡ Some def) × (change_fits def change ≡ true)
    pick None found fit = absurd (false≢true fit)
    pick (Some def) found fit = (def, found, fit)

-- ---- changes in flight

-- the row of an open change has its position
position_is : (tx pos : ℕ) (row : InFlightRow) (placed : Placed) → row.0 ≡ record { tx = tx; pos = pos } → row ≡ in_flight_row tx placed → placed.pos ≡ pos
position_is tx pos row placed key is = ap (λ (r : InFlightRow). r.0.pos) (sym is) ∙ ap (λ (k : InFlightKey). k.pos) key

module _ (server : Server) (kept : IsKept server) (c : Contents) (stores : Stores server c) where
  -- a change that is applicable may stand at a stored table
  pub has_table : (change : Change) → is_change_applicable (tables_of server) change ≡ true → (table : DefinedTable) × HasTable c change table
  has_table change applicable = by_found (c areas.Defs 0 (short_text name)) refl
    where
      name : List ℕ
      name = table_of change

      fit : (def : TableDef) × (table_named name (tables_of server) ≡ Some def) × (change_fits def change ≡ true)
      fit = applicable_fits (tables_of server) change applicable

      by_found : (o : Option (List ℕ)) → c areas.Defs 0 (short_text name) ≡ o → (table : DefinedTable) × HasTable c change table
      by_found None e = absurd (none-some fit.0 (sym (no_table server c name kept stores e) ∙ fit.1))
      by_found (Some v) e =
          let row = row_of short_text defined_table_spelling (table_rows server) (short_text name) v (sym (ap (λ (t : Table). t (short_text name)) stores.defs) ∙ e) in
          let table : DefinedTable = row.0.1 in
          let spelled : IsDefinedTable table = (fits_each (RowFits IsName IsDefinedTable) (table_rows server) row.0 (own_rows_fit server kept) row.1).1 in
          let stands : c areas.Defs 0 (short_text name) ≡ Some (defined_table_spelling table) = e ∙ ap (λ (l : List ℕ). Some l) (sym row.3) in
          let own = own_table server c name table kept stores stands spelled in
          let same : fit.0 ≡ own.own.def = same_Some fit.0 table.def (sym fit.1 ∙ own.named) ∙ sym own.def in
          let named : bytes_eq name fit.0.name ≡ true = (found_in (λ (d : TableDef). bytes_eq name d.name) (tables_of server) fit.0 fit.1).1 in
          let keeps_own : KeepsTable own.own = at_one KeepsTable server.tables own.own (own_tables_keep server kept) (at_place_in server.tables table.number own.own own.at_number) in
          let named_own : bytes_eq name own.own.def.name ≡ true = subst (λ (d : TableDef). bytes_eq name d.name ≡ true) same named in
          let may : may_stand own.own.def change ≡ true = fitting_stands own.own change keeps_own named_own (subst (λ (d : TableDef). change_fits d change ≡ true) same fit.2) in
          (table, record { stands = stands; fits = spelled; may = subst (λ (d : TableDef). may_stand d change ≡ true) own.def may })

  -- an open change is applicable
  open_applicable : (tx : ℕ) (placed : Placed) → In placed (open_changes tx server.log) → is_change_applicable (tables_of server) placed.change ≡ true
  open_applicable tx placed i =
      let r = records.Change tx placed.change in
      let signal = is_signal_applicable (map (λ r. r.reg) (registered_of server)) placed.change in
      let fit : record_fits server r ≡ true = at_one (λ (r : LogRecord). IsTrue (record_fits server r)) server.log r kept.log.fits (numbered_in 1 server.log (placed.pos, r) (open_in_log tx server.log placed i).logged) in
      elim (or_cases (is_change_applicable (tables_of server) placed.change) (tx == 0 && signal) fit) [
        | inl applicable ↦ applicable
        | inr own ↦ absurd (none_open server.log kept.log.own placed (subst (λ (n : ℕ). In placed (open_changes n server.log)) (eqb-true tx 0 (and_parts (tx == 0) signal own).0) i))
      ]

  -- what is stored as in flight is an open change
  open_change : (tx pos : ℕ) → IsInFlight tx c pos → (placed : Placed) × In placed (open_changes tx server.log) × (placed.pos ≡ pos)
  open_change tx pos flight =
      let rows = in_flight_rows server in
      let key : InFlightKey = record { tx = tx; pos = pos } in
      let found = row_of in_flight_key_spelling in_flight_spelling rows (flight_key tx pos) flight.value (sym (ap (λ (t : Table). t (flight_key tx pos)) stores.in_flight) ∙ flight.stands) in
      let row : InFlightRow = found.0 in
      let has : HasRow rows row = found.1 in
      let fit = fits_each (λ (row : InFlightRow). IsInFlightKey row.0 × (0 < row.0.pos)) rows row (in_flight_stand server kept.log).fit has in
      let same : row.0 ≡ key = one_whole IsInFlightKey in_flight_key_spelling one_in_flight_key row.0 key fit.0 flight.fits found.2 in
      let there : In row rows = subst (In row) (sym has.split) (in_second has.front (row ∷ has.back) row (inl refl)) in
      let own : In row (of_transaction tx rows) = kept_by (λ (row : InFlightRow). row.0.tx == tx) rows row there (eq-eqb row.0.tx tx (ap (λ (k : InFlightKey). k.tx) same)) in
      let placed = in_map (in_flight_row tx) (open_changes tx server.log) row (subst (In row) (open_rows server tx) own) in
      (placed.0, placed.1, position_is tx pos row placed.0 same placed.2)

  -- so the log has it, and it may stand at its table
  pub flight_kept : (tx pos : ℕ) → IsInFlight tx c pos → (change : Change) × IsKeptChange tx c pos change
  flight_kept tx pos flight =
      let found = open_change tx pos flight in
      let placed : Placed = found.0 in
      let r = records.Change tx placed.change in
      let has = has_table placed.change (open_applicable tx placed found.1) in
      let IsStored : Placed → Type 0 = λ p. log_table server (b64 p.pos) ≡ Some (log_spelling (records.Change tx p.change)) in
      let stands : IsStored placed = at_one IsStored (open_changes tx server.log) placed (open_stored server tx kept.log.short) found.1 in
      let logged : IsKeptChange tx c pos placed.change = record {
        typed = at_one IsLogRecord server.log r kept.log.typed (numbered_in 1 server.log (placed.pos, r) (open_in_log tx server.log placed found.1).logged);
        logged = ap (λ (t : Table). t (b64 pos)) stores.log ∙ ap (λ (n : ℕ). log_table server (b64 n)) (sym found.2) ∙ stands;
        table = has.0;
        has = has.1;
      } in
      (placed.change, logged)
