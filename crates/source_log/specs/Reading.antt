-- What is read inside a transaction.
use Rattle.std.specs.Prelude.{◌≡◌, ℕ, ◌<◌, Bool, false, ◌||◌, List, [], ◌∷◌, map, Option, Some, None, IfSome, is_none}
use Rattle.std.specs.List.{AllByRecursion}
use Rattle.std.specs.Option.{option_map}
use Rattle.repl_types.specs.Value.{Values}
use Rattle.repl_types.specs.declared.area.Area.TheVariants as areas
use Rattle.keep_core.specs.Contents.{Contents, put_at}
use Rattle.rows_in_order.specs.Rows.{table_from_rows, rows_after}
use Rattle.row_codec.specs.Spelling.{Is64, key_spelling}
use Rattle.repl_definitions.specs.declared.defined.DefinedTable.{DefinedTable}
use Rattle.repl_records.specs.RecordKeys.{in_flight_key_spelling}
use Rattle.repl_records.specs.SourceSide.{source_row_spelling, IsSourceRow, in_flight_spelling}
use Rattle.repl_records.specs.declared.source_side.SourceRow.{SourceRow}
use Rattle.repl_model.specs.Tables.{key_of, same_values}
use Rattle.stored_commits.specs.records.InFlight.{InFlightRow, of_transaction, AreInFlight}
use Rattle.source_log.specs.Rules.{flight_key, IsInFlight}

-- This is the row that a table has at a key, if there is one.
pub record FindsRow (table : ℕ) (key : Values) (found : Option SourceRow) (c : Contents) : Type 0 where
  pub stands : c areas.Source table (key_spelling key) ≡ option_map source_row_spelling found
  pub fits : IfSome found IsSourceRow

-- The key of a row is this one, or this answers whether nothing stands there.
pub record HasFreeKey (table : DefinedTable) (old_key after : Values) (answer : Bool) (c : Contents) : Type 0 where
  pub found : Option SourceRow
  pub says : answer ≡ (same_values old_key (key_of table.def after) || is_none found)
  pub looked : same_values old_key (key_of table.def after) ≡ false → FindsRow table.number (key_of table.def after) found c

-- ---- changes in flight

-- the positions at which a transaction has changes in flight after a position, of these rows
abbrev pub positions_after : ℕ → ℕ → List InFlightRow → List ℕ
positions_after tx after rows = map (λ row. row.0.pos) (of_transaction tx (rows_after in_flight_key_spelling (flight_key tx after) rows))

-- if changes in flight are made of rows, the positions have this to say
abbrev pub OfRows : Contents → (List InFlightRow → Type 0) → Type 0
OfRows c says = (rows : List InFlightRow) → AreInFlight rows → c areas.Inflight 0 ≡ table_from_rows in_flight_key_spelling in_flight_spelling rows → says rows

-- this is the first position after another at which a transaction has a change in flight, if there is one
abbrev pub IsNextPosition : ℕ → ℕ → Option ℕ → Contents → Type 0
IsNextPosition tx after None c = OfRows c (λ rows. positions_after tx after rows ≡ [])
IsNextPosition tx after (Some pos) c = IsInFlight tx c pos × OfRows c (λ rows. positions_after tx after rows ≡ pos ∷ positions_after tx pos rows)

-- a position after another
abbrev pub IsAbove : ℕ → ℕ → Type 0
IsAbove after pos = (after < pos) × Is64 pos

-- At these positions a transaction has changes in flight, and it has no others.
pub record ArePositions (tx : ℕ) (positions : List ℕ) (c : Contents) : Type 0 where
  pub stand : AllByRecursion (IsInFlight tx c) positions
  pub all : OfRows c (λ rows. positions ≡ map (λ row. row.0.pos) (of_transaction tx rows))

-- the contents after changes of a transaction in flight are removed
abbrev pub with_dropped : ℕ → List ℕ → Contents → Contents
with_dropped tx [] c = c
with_dropped tx (pos ∷ positions) c = with_dropped tx positions (put_at c areas.Inflight 0 (flight_key tx pos) None)
