-- The units of a sound log, and the rows of the captured ones.
use Rattle.std.proofs.Common.{◌≡◌, ℕ, ◌<◌, ◌≤◌, ◌^◌, Bool, true, false, cond, ◌&&◌, List, [], ◌∷◌, length, Some, refl, arith, ◌==◌, nat_lt, nat_le, IfSome, find, nat_cmp}
use Rattle.std.specs.List.{AllByRecursion}
use Rattle.std.specs.Option.{option_map_or}
use Rattle.world_store.specs.Words.{Is64, IsName, IsOrigin, b64, IsChange, IsLogRecord, whole_order, order64, IsUow, IsCode, key_before, RowFits}
use Rattle.repl_model.specs.Words.{all_weaker, all_filter, Change, LogRecord, Placed, At, positions, unit_at, units, units_between, LogIsSound, Server, code_in, all_numbered, each_image, each_given}
use Rattle.repl_types.specs.declared.record.LogRecord.TheVariants as records
use Rattle.repl_types.specs.declared.unit.Unit.{Unit as LogUnit}
use Rattle.stored_commits.specs.laws.LoggedRows.{RecordHas, UnitHas, units_have}
use Rattle.stored_commits.specs.laws.CapturedUnits.{place_of, StandsWithin, units_within}
use Rattle.stored_commits.specs.laws.Rising.{numbered_rise, filter_rises, given_rises}
use Rattle.cd_tables.specs.Captured.{ServerIsSound, unit_row, captured_units}
use Rattle.cd_tables.specs.StoredRows.{AreUnitRows}
use Rattle.cd_tables.specs.laws.InOrder.{InOrder, Below, all_both, rows_rise}

-- the number of a unit
abbrev pub seq_of : LogUnit → ℕ
seq_of u = u.head.seq

-- a change of a transaction, in its ranges
abbrev HasRanges : Change → Type 0
HasRanges change = (tx : ℕ) × IsChange tx change

-- it is at a position of eight bytes
abbrev pub ChangeFits : Placed → Type 0
ChangeFits placed = Is64 placed.pos × HasRanges placed.change

-- A unit's names are names, its numbers have eight bytes, and its changes are in their ranges and rise by their
-- positions.
pub record UnitFits (u : LogUnit) : Type 0 where
  pub seq : Is64 u.head.seq
  pub time : Is64 u.head.time
  pub authid : IsName u.head.authid
  pub origin : IsOrigin u.head.origin
  pub rise : InOrder (Below place_of) u.changes
  pub changes : AllByRecursion ChangeFits u.changes

-- the names and the time of a unit are in their ranges
abbrev HeadFits : LogUnit → Type 0
HeadFits u = Is64 u.head.time × IsName u.head.authid × IsOrigin u.head.origin

-- a record's change is in its ranges if the record is
change_fits : (r : LogRecord) → IsLogRecord r → RecordHas HasRanges r
change_fits (records.Change tx change) fit = (tx, fit)
change_fits (records.Commit tx time authid origin) fit = tt
change_fits (records.Abort tx) fit = tt

module _ (log : List LogRecord) (short : length log < 2 ^ 64) (typed : AllByRecursion IsLogRecord log) where
  -- so is what a commit says of its unit
  head_fits : (pos : ℕ) (r : LogRecord) → IsLogRecord r → IfSome (unit_at log (pos, r)) HeadFits
  head_fits pos (records.Change tx change) fit = tt
  head_fits pos (records.Commit tx time authid origin) fit = (fit.1, fit.2, fit.3)
  head_fits pos (records.Abort tx) fit = tt

  heads_fit : AllByRecursion HeadFits (units log)
  unfolding units
  heads_fit = each_given HeadFits (unit_at log) (positions log) (all_numbered IsLogRecord (λ (r : At). IfSome (unit_at log r) HeadFits) (2 ^ 64) 1 log (omega (arith, short)) typed (λ pos r lt fit. head_fits pos r fit))

  -- so all units of the log are in their ranges
  units_fit : AllByRecursion UnitFits (units log)
  units_fit = all_both HeadFits (λ u. StandsWithin (length log) u × UnitHas HasRanges u) UnitFits (units log) unit_fits heads_fit
      (all_both (StandsWithin (length log)) (UnitHas HasRanges) (λ u. StandsWithin (length log) u × UnitHas HasRanges u) (units log) (λ u within have. (within, have)) (units_within log) (units_have HasRanges log (all_weaker IsLogRecord (RecordHas HasRanges) log change_fits typed)))
    where
      unit_fits : (u : LogUnit) → HeadFits u → StandsWithin (length log) u × UnitHas HasRanges u → UnitFits u
      unit_fits u head has = record {
        seq = omega (arith, short, has.0.seq);
        time = head.0;
        authid = head.1;
        origin = head.2;
        rise = has.0.rise;
        changes = all_both (λ placed. placed.pos ≤ length log) (λ placed. HasRanges placed.change) ChangeFits u.changes (λ placed le fit. (omega (arith, short, le), fit)) has.0.within has.1;
      }

-- their seqs rise
units_rise : (log : List LogRecord) → InOrder (Below seq_of) (units log)
unfolding units
units_rise log = given_rises (unit_at log) (λ r. r.0) seq_of seq_is (positions log) (numbered_rise 1 log)
  where
    seq_is : (r : At) → IfSome (unit_at log r) (λ u. u.head.seq ≡ r.0)
    seq_is (pos, records.Change tx change) = tt
    seq_is (pos, records.Commit tx time authid origin) = refl
    seq_is (pos, records.Abort tx) = tt

module _ (server : Server) (sound : LogIsSound server) (low high : ℕ) where
  -- a unit stands after one point and up to another
  abbrev is_between : LogUnit → Bool
  is_between u = nat_lt low u.head.seq && nat_le u.head.seq high

  -- the units between two points of a sound log are in their ranges
  pub between_fit : AllByRecursion UnitFits (units_between low high server.log)
  between_fit = all_filter UnitFits is_between (units server.log) (units_fit server.log (omega (arith, sound.short)) sound.typed)

  -- and their seqs rise
  pub between_rise : InOrder (Below seq_of) (units_between low high server.log)
  between_rise = filter_rises seq_of is_between (units server.log) (units_rise server.log)

-- ---- the unit-of-work table

-- the code that is shown for a unit is a code, if all shown codes are
pub code_small : (limit : ℕ) (codes : List (ℕ × ℕ)) (seq : ℕ) → AllByRecursion (λ c. (c.0 ≤ limit) × (0 < c.1) × (c.1 ≤ 4)) codes → IsCode (code_in codes seq)
code_small limit [] seq all = omega arith
code_small limit (c ∷ codes) seq all = pick (c.0 == seq) (code_small limit codes seq all.1)
  where
    pick : (t : Bool) → IsCode (code_in codes seq) → IsCode (option_map_or (λ (d : ℕ × ℕ). d.1) (cond t (Some c) (find (λ d. d.0 == seq) codes)) 0)
    pick true rest = all.0.2
    pick false rest = rest

-- the captured units of a sound server are rows as they stand in the table
pub unit_rows_are : (server : Server) → ServerIsSound server → AreUnitRows (captured_units server)
unit_rows_are server sound = record {
  rise = rows_rise (Below seq_of) UnitFits b64 (unit_row server) (λ u v fit more lt. key_before b64 (2 ^ 64) (λ x y fx fy. whole_order Is64 b64 nat_cmp order64 x y fx fy) u.head.seq v.head.seq fit.seq more.seq lt) there all (between_rise server sound.log server.floor server.captured);
  fit = each_image (RowFits Is64 IsUow) (unit_row server) there (all_weaker UnitFits (λ u. RowFits Is64 IsUow (unit_row server u)) there (λ u fit. (fit.seq, (fit.time, fit.authid, fit.origin, code_small server.captured server.shown u.head.seq sound.numbers.shown))) all);
}
  where
    there : List LogUnit
    there = units_between server.floor server.captured server.log

    all : AllByRecursion UnitFits there
    all = between_fit server sound.log server.floor server.captured
