-- What is found of captured units and of change rows.
use Rattle.std.specs.Prelude.{◌≡◌, ℕ, ◌<◌, ◌≤◌, nat_lt, nat_le, Bool, ◌&&◌, List, filter, Option, Some, IfSome, slice_get}
use Rattle.std.specs.Option.{option_map}
use Rattle.std.specs.Ordering.{is_lt}
use Rattle.std.specs.declared.cmp.Ordering.TheVariants.{Less}
use Rattle.repl_types.specs.declared.area.Area.TheVariants as areas
use Rattle.repl_types.specs.declared.change_row.CdRow.{CdRow}
use Rattle.repl_types.specs.declared.unit.UnitHead.{UnitHead}
use Rattle.keep_core.specs.Contents.{Contents}
use Rattle.row_codec.specs.Spelling.{Is64, b32, b64}
use Rattle.repl_records.specs.Capture.{IsChangeRow, uow_spelling, IsUow, registration_state_spelling}
use Rattle.repl_records.specs.RecordKeys.{IsChangeKey, change_key_cmp}
use Rattle.repl_records.specs.declared.capture.ChangeRow.{ChangeRow}
use Rattle.repl_records.specs.declared.capture.RegState.{RegState}
use Rattle.repl_records.specs.declared.capture.UowRow.{UowRow}
use Rattle.repl_records.specs.declared.record_keys.CdKey.{CdKey}
use Rattle.repl_model.specs.World.{Registered, Server, ServerTable}
use Rattle.stored_commits.specs.units.StoredCaptures.{HasCaptured}
use Rattle.stored_commits.specs.units.StoredChanges.{stored_change}
use Rattle.cd_tables.specs.Captured.{ServerIsSound, next_captured, captured_changes}
use Rattle.cd_tables.specs.StoredRows.{first_of, change_of, AreChangeRows, HasChangeRows, AreUnitRows, HasUnitRows, head_of, row_of}

-- ---- registrations

-- contents have this state of the registration with a number
abbrev pub HasStateAt : ℕ → RegState → Contents → Type 0
HasStateAt number state c = c areas.Capture 1 (b32 number) ≡ Some (registration_state_spelling state)

-- ---- units

-- the first of the units above a seq
abbrev pub first_unit : ℕ → List (ℕ × UowRow) → Option UnitHead
first_unit after rows = option_map head_of (first_of (filter (λ r. nat_lt after r.0) rows))

-- The unit that is found above a seq stands in the unit-of-work table; and if that is made of rows, it is the first of
-- them above the seq, or none of them is. So of contents that have what a server captured, it is the first captured unit
-- above the seq and the floor.
pub record FindsUnit (after : ℕ) (found : Option UnitHead) (c : Contents) : Type 0 where
  pub stands : IfSome found (λ head. c areas.Uow 0 (b64 head.seq) ≡ Some (uow_spelling (row_of head)))
  pub first : (rows : List (ℕ × UowRow)) → AreUnitRows rows → HasUnitRows rows c → found ≡ first_unit after rows
  pub captured : (server : Server) → ServerIsSound server → HasCaptured server c → found ≡ next_captured after server

-- A unit above a seq, whose row has a spelling.
pub record IsUnitAbove (after : ℕ) (head : UnitHead) : Type 0 where
  pub above : after < head.seq
  pub small : Is64 head.seq
  pub fits : IsUow (row_of head)

-- ---- change rows

-- a change row stands after a key, and is of a unit up to a seq
abbrev pub is_from : CdKey → ℕ → CdKey × ChangeRow → Bool
is_from after upto r = is_lt (change_key_cmp after r.0) && nat_le r.0.commitseq upto

-- the first of the rows that are
abbrev pub first_change : CdKey → ℕ → List (CdKey × ChangeRow) → Option CdRow
first_change after upto rows = option_map change_of (first_of (filter (is_from after upto) rows))

-- If the change rows of the registration with a number are made of rows, this is the first of them after a key, of
-- units up to a seq, or none of them is. So it is of contents that have what a server captured of the registration.
pub record FindsChange (number : ℕ) (after : CdKey) (upto : ℕ) (found : Option CdRow) (c : Contents) : Type 0 where
  pub first : (rows : List (CdKey × ChangeRow)) → AreChangeRows rows → HasChangeRows number rows c → found ≡ first_change after upto rows
  pub captured : (server : Server) (t : ServerTable) (r : Registered) → ServerIsSound server → HasCaptured server c → slice_get server.tables number ≡ Some t → t.registered ≡ Some r → found ≡ first_change after upto (captured_changes server r)

-- A change row after a key, of a unit up to a seq, that has a spelling.
pub record IsChangeFrom (after : CdKey) (upto : ℕ) (row : CdRow) : Type 0 where
  pub above : change_key_cmp after (stored_change row).0 ≡ Less
  pub upto_seq : row.commitseq ≤ upto
  pub fits : IsChangeKey (stored_change row).0 × IsChangeRow (stored_change row).1
