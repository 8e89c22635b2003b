-- Whether a change is applicable, and what becomes of a record: proofs.
use Rattle.std.proofs.Common.{◌≡◌, ℕ, ◌≤◌, Bool, true, false, cond, [], ◌∷◌, length, refl, sym, ap, ◌∙◌, arith, Option, Some, None, ◌&&◌, ◌==◌, not, nat_lt, nat_le, sum_by, bytes_eq}
use Rattle.std.specs.List.{list_all}
use Rattle.std.specs.Option.{option_map_or}
use Rattle.std.proofs.lemmas.Bool.{and_parts, and_from, ltb-true, le-leb}
use Rattle.world_store.specs.Words.{short_text, Head, not_both, differ_numbers, head_of}
use Rattle.site_store.specs.Words.{Contents}
use Rattle.repl_model.specs.Words.{key_limit, row_limit, Values, images, spelled_len, Change, LogRecord, TableDef, defined_table_spelling, IsDefinedTable, DefinedTable, fits_columns, fits, change_fits, table_named, is_change_applicable, is_applicable, all_places, may_be_key, TableKeepsRules, are_among, column_limit, log_limit, key_of, table_of, same_values, Server, tables_of, found_in, columns_length}
use Rattle.repl_types.specs.declared.area.Area.TheVariants as areas
use Rattle.repl_types.specs.declared.record.Change.TheVariants.{Insert, Update, Delete, Start, Stop}
use Rattle.repl_types.specs.declared.record.LogRecord.TheVariants as records
use Rattle.source_log.specs.Fitting.{has_short_rows, may_stand}
use Rattle.source_log.specs.Storing.{IsKept, Stores, outcome_of}
use Rattle.source_log.specs.declared.outcome.Outcome.TheVariants as outcomes
use Rattle.source_log.proofs.MayStand.{parts_of}
use Rattle.source_log.proofs.OwnTables.{OwnTable, own_table, own_keeps}

-- ---- a row and its table

-- a row that fits a table of at most 64 columns has at most 64
row_short : (def : TableDef) (row : Values) → length def.columns ≤ row_limit → fits def row ≡ true → nat_le (length row) row_limit ≡ true
row_short def row few e =
    let same : length row ≡ length def.columns = columns_length def.columns row (and_parts (fits_columns def.columns row) (nat_le (sum_by spelled_len (key_of def row)) key_limit) e).0 in
    le-leb (length row) row_limit (omega arith)

-- so have the rows of a change that fits it
rows_short : (def : TableDef) (change : Change) → length def.columns ≤ row_limit → change_fits def change ≡ true → has_short_rows change ≡ true
unfolding change_fits
rows_short def (Insert table row) few e = row_short def row few e
rows_short def (Update table before after) few e =
    let fit = and_parts (fits def before) (fits def after) (and_parts (fits def before && fits def after) (same_values (images def.fixed before) (images def.fixed after)) e).0 in
    and_from (nat_le (length before) row_limit) (nat_le (length after) row_limit) (row_short def before few fit.0) (row_short def after few fit.1)
rows_short def (Delete table row) few e = row_short def row few e
rows_short def (Start table) few e = refl
rows_short def (Stop table) few e = refl

-- a number above zero isn't zero
above_zero : (n : ℕ) → nat_lt 0 n ≡ true → not (n == 0) ≡ true
above_zero n e = ap not (differ_numbers n 0 (λ is. omega (arith, ltb-true 0 n e)))

-- a change of a table that keeps the rules may stand in a log if it fits the table
fitting_may : (def : TableDef) (change : Change) → TableKeepsRules def → length def.columns ≤ column_limit → bytes_eq (table_of change) def.name ≡ true → change_fits def change ≡ true → may_stand def change ≡ true
fitting_may def change keeps few own fit =
    let some = nat_lt 0 (length def.key) in
    let key = and_parts some (list_all (may_be_key def) def.key) (and_parts (some && list_all (may_be_key def) def.key) (are_among (all_places def) def.fixed) keeps.key).0 in
    let keyed = above_zero (length def.key) key.0 in
    let applies : is_change_applicable (def ∷ []) change ≡ true = ap (λ (b : Bool). option_map_or (λ d. change_fits d change) (cond b (Some def) None) false) own ∙ fit in
    and_from (not (length def.key == 0) && has_short_rows change) (is_change_applicable (def ∷ []) change) (and_from (not (length def.key == 0)) (has_short_rows change) keyed (rows_short def change few fit)) applies

-- ---- a change and its server

-- a change is applicable if it fits the table of its name
pub applicable_is : (server : Server) (tx : ℕ) (change : Change) (o : Option TableDef) → table_named (table_of change) (tables_of server) ≡ o → is_applicable (tables_of server) server.log (records.Change tx change) ≡ option_map_or (λ def. change_fits def change) o false
unfolding is_applicable
applicable_is server tx change o is = ap (λ (p : Option TableDef). option_map_or (λ def. change_fits def change) p false) is

-- if its table is defined, it is applicable if and only if it may stand in a log
pub applicable_if_may : (server : Server) (tx : ℕ) (change : Change) (c : Contents) (table : DefinedTable) → IsKept server → Stores server c → c areas.Defs 0 (short_text (table_of change)) ≡ Some (defined_table_spelling table) → IsDefinedTable table → (b : Bool) → may_stand table.def change ≡ b → is_applicable (tables_of server) server.log (records.Change tx change) ≡ b
applicable_if_may server tx change c table kept stores stands typed b may = applicable_is server tx change (Some table.def) own.named ∙ by_fit b may (change_fits table.def change) refl
  where
    own : OwnTable server (table_of change) table
    own = own_table server c (table_of change) table kept stores stands typed

    by_fit : (b : Bool) → may_stand table.def change ≡ b → (f : Bool) → change_fits table.def change ≡ f → change_fits table.def change ≡ b
    by_fit true may f fit = (parts_of table.def change may).fits
    by_fit false may false fit = fit
    by_fit false may true fit =
        let keeps = own_keeps server (table_of change) table kept own in
        let named = (found_in (λ (def : TableDef). bytes_eq (table_of change) def.name) (tables_of server) table.def own.named).1 in
        absurd (not_both (may_stand table.def change) (fitting_may table.def change keeps.0 keeps.1 named fit) may)

-- what becomes of a record follows from whether it is applicable and whether there is room
pub outcome_is : (server : Server) (r : LogRecord) (applies room : Bool) → is_applicable (tables_of server) server.log r ≡ applies → nat_lt (length server.log) log_limit ≡ room → cond applies (cond room outcomes.Taken outcomes.Full) outcomes.NotApplicable ≡ outcome_of server r
outcome_is server r applies room a b = sym (λ i. cond (a i) (cond (b i) outcomes.Taken outcomes.Full) outcomes.NotApplicable)

-- whether there is room is seen at the end of the log
pub room_is : (head : Head) (server : Server) (room : Bool) → head ≡ head_of server → nat_lt head.last log_limit ≡ room → nat_lt (length server.log) log_limit ≡ room
room_is head server room is e = sym (ap (λ (h : Head). nat_lt h.last log_limit) is) ∙ e
