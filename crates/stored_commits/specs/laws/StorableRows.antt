-- Rows that fit their table, and changes that do, can be stored.
use Rattle.std.proofs.Common.{◌≡◌, ◌≤◌, ◌<◌, true, ◌&&◌, length, arith, nat_lt, nat_le, sum_by}
use Rattle.std.specs.List.{list_all}
use Rattle.std.proofs.lemmas.Bool.{and_parts, leb-true, ltb-true}
use Rattle.world_store.specs.Words.{ChangesShortRows, key_spelling, key_size, source_storable, length_of_key, log_storable}
use Rattle.repl_model.specs.Words.{key_limit, row_limit, Values, images, spelled_len, Change, all_places, may_be_key, are_among, key_of, same_values, fits_columns, fits, change_fits, ServerTable, KeepsTable, column_limit, columns_length}
use Rattle.repl_types.specs.declared.record.Change.TheVariants.{Insert, Update, Delete, Start, Stop}
use Rattle.repl_types.specs.declared.record.LogRecord.TheVariants as records
use Rattle.stored_commits.specs.records.StorableRows.{FittingRowIsStorable, FittingChangeIsStorable}
use Rattle.stored_commits.specs.records.laws.StandingRows.{some_byte}

-- a row that fits a table has at most 64
fits_short : (t : ServerTable) (row : Values) → KeepsTable t → fits t.def row ≡ true → length row ≤ row_limit
fits_short t row keeps e =
    let same : length row ≡ length t.def.columns = columns_length t.def.columns row (and_parts (fits_columns t.def.columns row) (nat_le (sum_by spelled_len (key_of t.def row)) key_limit) e).0 in
    let few : length t.def.columns ≤ column_limit = keeps.1 in
    omega arith

-- rows that fit
pub fitting_row : FittingRowIsStorable
fitting_row t row keeps values fit =
    let key = key_of t.def row in
    let parts = and_parts (fits_columns t.def.columns row) (nat_le (sum_by spelled_len key) key_limit) fit in
    let size : sum_by spelled_len key ≤ key_limit = leb-true (sum_by spelled_len key) key_limit parts.1 in
    let places = and_parts (nat_lt 0 (length t.def.key) && list_all (may_be_key t.def) t.def.key) (are_among (all_places t.def) t.def.fixed) keeps.0.key in
    let some : 0 < length t.def.key = ltb-true 0 (length t.def.key) (and_parts (nat_lt 0 (length t.def.key)) (list_all (may_be_key t.def) t.def.key) places.0).0 in
    (source_storable (record { row = row }) values (fits_short t row keeps fit), key_size (key_spelling key) (some_byte t.def.key row some) (omega (arith, length_of_key key)))

-- the rows of a change that fits are short
change_short : (t : ServerTable) (change : Change) → KeepsTable t → change_fits t.def change ≡ true → ChangesShortRows change
unfolding change_fits
change_short t (Insert table row) keeps e = fits_short t row keeps e
change_short t (Update table before after) keeps e =
    let both = and_parts (fits t.def before) (fits t.def after) (and_parts (fits t.def before && fits t.def after) (same_values (images t.def.fixed before) (images t.def.fixed after)) e).0 in
    (fits_short t before keeps both.0, fits_short t after keeps both.1)
change_short t (Delete table row) keeps e = fits_short t row keeps e
change_short t (Start table) keeps e = absurd cc
change_short t (Stop table) keeps e = absurd cc

-- so its record can be stored
pub fitting_change : FittingChangeIsStorable
fitting_change t tx change keeps typed fit = log_storable (records.Change tx change) typed (change_short t change keeps fit)
