-- What the capture of a unit makes of contents.
use Rattle.std.specs.Prelude.{◌≡◌, ℕ, zero, suc, Bool, true, false}
use Rattle.repl_types.specs.declared.area.Area.{Area}
use Rattle.repl_types.specs.declared.area.Area.TheVariants as areas
use Rattle.repl_types.specs.declared.change_row.CdRow.{CdRow}
use Rattle.repl_types.specs.declared.unit.Placed.{Placed}
use Rattle.repl_types.specs.declared.unit.Unit.{Unit}
use Rattle.keep_core.specs.Contents.{Contents}
use Rattle.row_codec.specs.Storable.{IsStorable}
use Rattle.repl_records.specs.Capture.{IsChangeRow, HasChangeRowSpelling, change_row_spelling}
use Rattle.repl_model.specs.World.{Server, World}
use Rattle.site_store.specs.Damage.{ShownBefore}
use Rattle.stored_commits.specs.records.SourceTables.{HasRows}
use Rattle.world_commits.specs.captures.Captures.{with_unit, rows_captured}
use Rattle.stored_commits.specs.units.StoredChanges.{stored_change, CapturesChange}
use Rattle.stored_commits.specs.units.StoredCaptures.{HasCaptured, IsNextUnit}
use Rattle.cd_tables.specs.Rules.{rules}

-- a change row is one of rows of values, and can be stored
abbrev pub CanBeStored : CdRow → Type 0
CanBeStored r = IsChangeRow (stored_change r).1 × IsStorable HasChangeRowSpelling change_row_spelling (stored_change r).1

-- the rows of a placed change are rows of values
abbrev pub IsTyped : Placed → Type 0
IsTyped placed = HasRows placed.change

-- ---- one change

-- the contents became these, and show no damage that they didn't show before
abbrev pub Becomes : (Contents → Contents) → Contents → Contents → Type 0
Becomes made c d = (d ≡ made c) × ShownBefore rules c d

-- A change in a unit with this seq was captured, so many change rows were put, and no damage is shown that wasn't
-- shown before.
pub record AppendsChange (seq : ℕ) (placed : Placed) (rows : ℕ) (c d : Contents) : Type 0 where
  pub captures : CapturesChange seq placed rows c d
  pub shown : ShownBefore rules c d

-- ---- units

-- The tables that the capture of a unit changes: the change-data tables, the unit-of-work table, and the states of
-- registrations.
abbrev pub is_of_unit : Area → ℕ → Bool
is_of_unit areas.Log n = false
is_of_unit areas.Source n = false
is_of_unit areas.Inflight n = false
is_of_unit areas.Head n = false
is_of_unit areas.Defs n = false
is_of_unit areas.Cd n = true
is_of_unit areas.Uow zero = true
is_of_unit areas.Uow (suc n) = false
is_of_unit areas.Capture zero = false
is_of_unit areas.Capture (suc zero) = true
is_of_unit areas.Capture (suc (suc n)) = false
is_of_unit areas.Prune n = false
is_of_unit areas.Spill n = false
is_of_unit areas.Target n = false
is_of_unit areas.SetState n = false
is_of_unit areas.Trail n = false

-- A unit was captured, and so many change rows put.
pub record CapturesUnit (u : Unit) (rows : ℕ) (c d : Contents) : Type 0 where
  pub others : (a : Area) (n : ℕ) → is_of_unit a n ≡ false → d a n ≡ c a n
  pub captures : (world : World) (server : Server) → IsNextUnit world server u → HasCaptured server c
      → HasCaptured (with_unit u server) d × (rows ≡ rows_captured u.head.seq u.changes server)
