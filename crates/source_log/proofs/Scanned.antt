-- The next committed row of a table of the source: proofs.
use Rattle.std.proofs.Common.{◌≡◌, ℕ, ◌<◌, List, [], ◌∷◌, length, map, refl, sym, ap, subst, ◌∙◌, ◌&&◌, Option, Some, None, nat_lt}
use Rattle.std.specs.FinMap.{entries}
use Rattle.std.specs.List.{AllByRecursion, list_all}
use Rattle.std.specs.Option.{option_map_or, option_map}
use Rattle.std.proofs.lemmas.Bool.{and_parts, ltb-true}
use Rattle.world_store.specs.Words.{IsKey, IsRow, key_spelling, row_spelling, source_row_spelling, IsSourceRow, table_from_rows, rows_after, is_before, IsRising, NextRow, after_all, after_first, after_next, fits_each, fits_next, no_row, source_rows, no_rows, RowFits}
use Rattle.site_store.specs.Words.{Kept, Contents, Table, IsNextKey, IsLastKey, reads_of_one, AtServer, Blames, Fails, Rules, IsUndamaged, IsSpelt, IsNoDamage, after_key, Misread, MisspeltNext, sees, rows_spelt, spelt_undamaged, no_damage, Stops, next_breaks}
use Rattle.site_store.specs.declared.sites.Sites.{Sites}
use Rattle.repl_model.specs.Words.{Values, TableDef, all_weaker, filter_none, Fault, DefinedTable, all_places, may_be_key, are_among, KeepsTable, source_at, Rows, key_of, last_commit, ServerTable, Server, at_place_in, at_one}
use Rattle.repl_types.specs.declared.area.Area.TheVariants as areas
use Rattle.stored_commits.specs.records.SourceTables.{StandsUnderKey, RowsStand}
use Rattle.stored_commits.specs.records.laws.StandingRows.{rows_apart, table_of_entries, standing_fit, standing_rise, standing_some}
use Rattle.stored_defs.specs.Reading.{table_rules}
use Rattle.source_log.specs.Scanning.{HasCommitted, rows_left, IsFirstLeft, ShowsBadRow}
use Rattle.source_log.proofs.OwnTables.{own_tables_keep}
use Rattle.stored_commits.specs.laws.SourceLogs.{source_stands}

-- an entry of the rows of a table
abbrev Entry : Type 0
Entry = Values × Values

-- ---- the rows of a table

module _ (server : Server) (table : DefinedTable) (c : Contents) (has : HasCommitted server table c) where
  -- its committed rows
  abbrev rows : Rows
  rows = source_at table.def server.log (last_commit server.log)

  -- they stand under their keys
  rows_stand : RowsStand table.def rows
  rows_stand = source_stands server table.def has.kept.log

  -- and can be spelled
  rows_fit : AllByRecursion (RowFits IsKey IsRow) (entries rows)
  rows_fit = standing_fit table.def rows rows_stand

  -- their keys rise
  rows_rise : IsRising key_spelling (entries rows)
  rows_rise = standing_rise table.def rows rows_stand

  -- the table has a key
  keyed : 0 < length table.def.key
  keyed =
      let keeps = at_one KeepsTable server.tables has.own (own_tables_keep server has.kept) (at_place_in server.tables table.number has.own has.at_number) in
      let def = has.own.def in
      let key = and_parts (nat_lt 0 (length def.key)) (list_all (may_be_key def) def.key) (and_parts (nat_lt 0 (length def.key) && list_all (may_be_key def) def.key) (are_among (all_places def) def.fixed) keeps.0.key).0 in
      subst (λ (d : TableDef). 0 < length d.key) has.def (ltb-true 0 (length def.key) key.0)

  -- so no key is spelled by nothing
  rows_after_all : rows_after key_spelling [] (entries rows) ≡ entries rows
  rows_after_all = after_all key_spelling [] (entries rows) (standing_some table.def rows rows_stand keyed)

  -- the contents have them
  stored : c areas.Source table.number ≡ table_from_rows key_spelling row_spelling (entries rows)
  stored =
      has.source
      ∙ ap (λ (o : Option ServerTable). option_map_or (λ t. table_from_rows key_spelling source_row_spelling (source_rows server t.def)) o no_rows) has.at_number
      ∙ ap (λ (d : TableDef). table_from_rows key_spelling source_row_spelling (source_rows server d)) has.def
      ∙ table_of_entries (entries rows)

  -- the rows that are left are those after the key of the last one
  left_are : (after : Option Values) → rows_left table.def after rows ≡ map (λ e. e.1) (rows_after key_spelling (after_key key_spelling (option_map (key_of table.def) after)) (entries rows))
  left_are None = ap (map (λ (e : Entry). e.1)) (sym rows_after_all)
  left_are (Some row) = refl

  -- the same of a key that is known to be that
  left_after : (after last : Option Values) → last ≡ option_map (key_of table.def) after → rows_left table.def after rows ≡ map (λ e. e.1) (rows_after key_spelling (after_key key_spelling last) (entries rows))
  left_after after last is = left_are after ∙ ap (λ (o : Option Values). map (λ (e : Entry). e.1) (rows_after key_spelling (after_key key_spelling o) (entries rows))) (sym is)

  -- if no key is after it, none is left
  pub none_next : (after last : Option Values) → last ≡ option_map (key_of table.def) after → IsLastKey (c areas.Source table.number) (after_key key_spelling last) → IsFirstLeft table.def after None rows
  none_next after last is ends =
      let from = after_key key_spelling last in
      let none = no_row key_spelling row_spelling (entries rows) from (subst (λ (t : Table). IsLastKey t from) stored ends) in
      left_after after last is ∙ ap (map (λ (e : Entry). e.1)) (filter_none (λ (e : Entry). is_before from (key_spelling e.0)) (entries rows) none)

  -- the row of the next key is the first that is left
  pub some_next : (after last : Option Values) → last ≡ option_map (key_of table.def) after → (key row : Values) → IsKey key → IsRow row → IsNextKey (c areas.Source table.number) (after_key key_spelling last) (key_spelling key) (row_spelling row) → IsFirstLeft table.def after (Some row) rows
  some_next after last is key row fit_key fit next =
      let es = entries rows in
      let from = after_key key_spelling last in
      let r : NextRow key_spelling es from (key, row) = fits_next (RowFits IsKey IsRow) key_spelling row_spelling es from (key, row) rows_apart rows_fit (fit_key, fit) rows_rise (subst (λ (t : Table). IsNextKey t from (key_spelling key) (row_spelling row)) stored next) in
      let own : key ≡ key_of table.def row = (fits_each (StandsUnderKey table.def) es (key, row) rows_stand (record { front = r.front; back = r.back; split = r.split })).own in
      left_after after last is
      ∙ ap (map (λ (e : Entry). e.1)) (after_first key_spelling es from (key, row) r)
      ∙ ap (λ (l : List Entry). row ∷ map (λ (e : Entry). e.1) l) (sym (after_next key_spelling es from (key, row) r))
      ∙ ap (λ (k : Values). row ∷ map (λ (e : Entry). e.1) (rows_after key_spelling (key_spelling k) es)) own

  -- the contents show no damage of it
  rows_undamaged : IsUndamaged (table_rules IsKey key_spelling IsSourceRow source_row_spelling areas.Source table.number) c
  rows_undamaged = spelt_undamaged of_table (λ a t key d h. h, λ a t key value d h. h) c spelt
    where
      of_table : Rules
      of_table = table_rules IsKey key_spelling IsSourceRow source_row_spelling areas.Source table.number

      each : AllByRecursion (λ (e : Entry). of_table.is_key areas.Source table.number (key_spelling e.0) × of_table.is_value areas.Source table.number (row_spelling e.1)) (entries rows)
      each = all_weaker (RowFits IsKey IsRow) (λ (e : Entry). of_table.is_key areas.Source table.number (key_spelling e.0) × of_table.is_value areas.Source table.number (row_spelling e.1)) (entries rows) (λ e fit. (λ _ _. (e.0, fit.0, refl), λ _ _. (record { row = e.1 }, fit.1, refl))) rows_fit

      there : (key value : List ℕ) → c areas.Source table.number key ≡ Some value → of_table.is_key areas.Source table.number key × of_table.is_value areas.Source table.number value
      there key value is = rows_spelt of_table areas.Source table.number key_spelling row_spelling (entries rows) key value each (sym (ap (λ (t : Table). t key) stored) ∙ is)

      spelt : IsSpelt of_table c
      spelt a t key value is = (
        λ area number. (there key value (sym (λ i. c (area i) (number i) key) ∙ is)).0 refl refl,
        λ area number. (there key value (sym (λ i. c (area i) (number i) key) ∙ is)).1 refl refl,
      )

-- ---- reads

module _ {K : Type 0} (kept : K → Kept) (s0 s1 : Sites K) (server : ℕ) where
  -- the next row can't be read
  pub scan_fails : (number : ℕ) (after : List ℕ) (e : Fault) → Fails kept s0 s1 (reads_of_one 1 server areas.Source) (AtServer server (Misread areas.Source (MisspeltNext IsKey key_spelling IsSourceRow source_row_spelling areas.Source number after (sees kept s0 server)))) e → Stops kept s0 s1 (ShowsBadRow kept s0 server number) e
  scan_fails number after e f =
      let of_table = table_rules IsKey key_spelling IsSourceRow source_row_spelling areas.Source number in
      next_breaks of_table kept IsKey key_spelling IsSourceRow source_row_spelling s0 s1 server areas.Source number after (reads_of_one 1 server areas.Source) e (λ bytes h. h refl refl) (λ bytes h. h refl refl) f

  -- no damage is reported of committed rows
  pub none_bad : (of : Server) (table : DefinedTable) (c : Contents) → HasCommitted of table c → sees kept s0 server ≡ Some c → (e : Fault) → Blames kept s0 s1 (ShowsBadRow kept s0 server table.number) e → IsNoDamage e
  none_bad of table c has seen e blames =
      let of_table = table_rules IsKey key_spelling IsSourceRow source_row_spelling areas.Source table.number in
      no_damage kept s0 s1 (λ s. s ≡ server) of_table e (λ s is. subst (λ (k : ℕ). (d : Contents) × (sees kept s0 k ≡ Some d) × IsUndamaged of_table d) (sym is) (c, seen, rows_undamaged of table c has)) blames
