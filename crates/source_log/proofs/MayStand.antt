-- Rows and changes that may stand in a table: proofs.
use Rattle.std.proofs.Common.{◌≡◌, ℕ, ◌≤◌, ◌<◌, Bool, true, false, cond, ◌&&◌, List, [], ◌∷◌, length, refl, subst, arith, inl, inr, ◌⊎◌, nat_le, sum_by, not, ◌==◌, Some, None, bytes_eq}
use Rattle.std.specs.Option.{option_map_or}
use Rattle.std.proofs.lemmas.Bool.{and_parts, leb-true}
use Rattle.world_store.specs.Words.{key_spelling, key_size, length_of_key}
use Rattle.repl_model.specs.Words.{key_limit, row_limit, IsKeySize, Values, images, spelled_len, Change, TableDef, key_of, table_of, same_values, fits, fits_columns, change_fits, is_change_applicable, above_zero, LogRecord}
use Rattle.repl_types.specs.declared.record.Change.TheVariants.{Insert, Update, Delete, Start, Stop}
use Rattle.stored_commits.specs.records.laws.StandingRows.{some_byte}
use Rattle.source_log.specs.Fitting.{has_short_rows, may_stand, CanBeMade, RowMayStand}
use Rattle.repl_types.specs.declared.record.LogRecord.TheVariants as records
use Rattle.source_log.specs.Storing.{IsCommit}
use Rattle.row_codec.specs.LogRecords.{HasShortRows}

-- the key of a row that may stand in a table has the size of a key
pub row_key_size : (def : TableDef) (row : Values) → RowMayStand def row → IsKeySize (key_spelling (key_of def row))
row_key_size def row may =
    let key = key_of def row in
    let parts = and_parts (fits_columns def.columns row) (nat_le (sum_by spelled_len key) key_limit) may.fit in
    let size : sum_by spelled_len key ≤ key_limit = leb-true (sum_by spelled_len key) key_limit parts.1 in
    key_size (key_spelling key) (some_byte def.key row may.keyed) (omega (arith, length_of_key key))

-- a change that is applicable to one table is of that table, and fits it
pub of_one : (def : TableDef) (change : Change) → is_change_applicable (def ∷ []) change ≡ true → (bytes_eq (table_of change) def.name ≡ true) × (change_fits def change ≡ true)
of_one def change e = pick (bytes_eq (table_of change) def.name) refl e
  where
    pick : (b : Bool) → bytes_eq (table_of change) def.name ≡ b → option_map_or (λ d. change_fits d change) (cond b (Some def) None) false ≡ true → (bytes_eq (table_of change) def.name ≡ true) × (change_fits def change ≡ true)
    pick true is e = (is, e)
    pick false is e = absurd cc

-- what is known of a change that may stand in a log
pub record Parts (def : TableDef) (change : Change) : Type 0 where
  pub keyed : 0 < length def.key
  pub short : has_short_rows change ≡ true
  pub own : bytes_eq (table_of change) def.name ≡ true
  pub fits : change_fits def change ≡ true

pub parts_of : (def : TableDef) (change : Change) → may_stand def change ≡ true → Parts def change
parts_of def change e =
    let outer = and_parts (not (length def.key == 0) && has_short_rows change) (is_change_applicable (def ∷ []) change) e in
    let inner = and_parts (not (length def.key == 0)) (has_short_rows change) outer.0 in
    let one = of_one def change outer.1 in
    record { keyed = above_zero (length def.key) inner.0; short = inner.1; own = one.0; fits = one.1 }

-- the row of an insert may stand in the table
pub insert_may : (def : TableDef) (table : List ℕ) (row : Values) → CanBeMade def (Insert table row) → RowMayStand def row
unfolding change_fits
insert_may def table row can =
    let p = parts_of def (Insert table row) can.stands in
    record { values = can.rows; short = leb-true (length row) row_limit p.short; keyed = p.keyed; fit = p.fits }

-- so may that of a delete
pub delete_may : (def : TableDef) (table : List ℕ) (row : Values) → CanBeMade def (Delete table row) → RowMayStand def row
unfolding change_fits
delete_may def table row can =
    let p = parts_of def (Delete table row) can.stands in
    record { values = can.rows; short = leb-true (length row) row_limit p.short; keyed = p.keyed; fit = p.fits }

-- and both of an update
pub update_may : (def : TableDef) (table : List ℕ) (before after : Values) → CanBeMade def (Update table before after) → RowMayStand def before × RowMayStand def after
unfolding change_fits
update_may def table before after can =
    let p = parts_of def (Update table before after) can.stands in
    let short = and_parts (nat_le (length before) row_limit) (nat_le (length after) row_limit) p.short in
    let fit = and_parts (fits def before) (fits def after) (and_parts (fits def before && fits def after) (same_values (images def.fixed before) (images def.fixed after)) p.fits).0 in
    (record { values = can.rows.0; short = leb-true (length before) row_limit short.0; keyed = p.keyed; fit = fit.0 }, record { values = can.rows.1; short = leb-true (length after) row_limit short.1; keyed = p.keyed; fit = fit.1 })

-- the record of a change that may stand has short rows
pub short_record : (def : TableDef) (tx : ℕ) (change : Change) → may_stand def change ≡ true → HasShortRows (records.Change tx change)
short_record def tx change e = by_kind change (parts_of def change e).short
  where
    by_kind : (change : Change) → has_short_rows change ≡ true → HasShortRows (records.Change tx change)
    by_kind (Insert table row) e = leb-true (length row) row_limit e
    by_kind (Update table before after) e =
        let short = and_parts (nat_le (length before) row_limit) (nat_le (length after) row_limit) e in
        (leb-true (length before) row_limit short.0, leb-true (length after) row_limit short.1)
    by_kind (Delete table row) e = leb-true (length row) row_limit e
    by_kind (Start table) e = tt
    by_kind (Stop table) e = tt

-- so has that of a commit
pub commit_short : (tx time : ℕ) (r : LogRecord) → IsCommit tx time r → HasShortRows r
commit_short tx time (records.Change t change) is = absurd is
commit_short tx time (records.Commit t at authid origin) is = tt
commit_short tx time (records.Abort t) is = absurd is

-- a start or a stop can't be made
pub no_signal : (def : TableDef) (change : Change) → CanBeMade def change → ((name : List ℕ) × (change ≡ Start name)) ⊎ ((name : List ℕ) × (change ≡ Stop name)) → ⊥
unfolding change_fits
no_signal def change can is = elim is [ inl h ↦ start h.0 (subst (λ (x : Change). change_fits def x ≡ true) h.1 fit) | inr h ↦ stop h.0 (subst (λ (x : Change). change_fits def x ≡ true) h.1 fit) ]
  where
    fit : change_fits def change ≡ true
    fit = (parts_of def change can.stands).fits

    start : (name : List ℕ) → change_fits def (Start name) ≡ true → ⊥
    start name e = cc

    stop : (name : List ℕ) → change_fits def (Stop name) ≡ true → ⊥
    stop name e = cc
