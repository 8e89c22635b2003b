-- What a change that is captured makes of stored tables.
use Rattle.std.specs.Prelude.{◌≡◌, ◌⊎◌, ℕ, Bool, true, false, ◌&&◌, nat_lt, if◌then◌else◌, List, [], ◌∷◌, length, Some, None}
use Rattle.repl_types.specs.declared.area.Area.TheVariants as areas
use Rattle.repl_types.specs.declared.change_row.CdRow.{CdRow}
use Rattle.repl_types.specs.declared.record.Change.{Change}
use Rattle.repl_types.specs.declared.record.Change.TheVariants.{Insert, Update, Delete, Start, Stop}
use Rattle.repl_types.specs.declared.unit.Placed.{Placed}
use Rattle.repl_types.specs.declared.unit.UnitHead.{UnitHead}
use Rattle.row_codec.specs.Spelling.{b32, b64, short_text}
use Rattle.repl_definitions.specs.Defined.{defined_registration_spelling, IsDefinedRegistration}
use Rattle.repl_definitions.specs.declared.defined.DefinedRegistration.{DefinedRegistration}
use Rattle.repl_records.specs.RecordKeys.{change_key_spelling}
use Rattle.repl_records.specs.Capture.{change_row_spelling, uow_spelling, registration_state_spelling, IsRegistrationState}
use Rattle.repl_records.specs.declared.record_keys.CdKey.{CdKey}
use Rattle.repl_records.specs.declared.capture.ChangeRow.{ChangeRow}
use Rattle.repl_records.specs.declared.capture.RegState.{RegState}
use Rattle.keep_core.specs.Contents.{Contents, Table, with_table, put_at}
use Rattle.repl_model.specs.Tables.{table_of}
use Rattle.repl_model.specs.ChangeRows.{rows_of}

-- ---- the unit-of-work table

-- the contents with a unit in the unit-of-work table, which isn't rejected
abbrev pub with_uow_row : UnitHead → Contents → Contents
with_uow_row head c = put_at c areas.Uow 0 (b64 head.seq) (Some (uow_spelling (record { time = head.time; authid = head.authid; origin = head.origin; code = 0 })))

-- ---- change-data tables

-- a change row as it is stored: under its unit's seq and its place in the log
abbrev pub stored_change : CdRow → CdKey × ChangeRow
stored_change r = (record { commitseq = r.commitseq; intentseq = r.intentseq }, record { op = r.op; after = r.after; before = r.before })

-- the contents with a change row in the table of the registration with a number
abbrev pub with_change_row : ℕ → CdRow → Contents → Contents
with_change_row number r c = put_at c areas.Cd number (change_key_spelling (stored_change r).0) (Some (change_row_spelling (stored_change r).1))

-- the contents with change rows in it, one after another
abbrev pub with_change_rows : ℕ → List CdRow → Contents → Contents
with_change_rows number [] c = c
with_change_rows number (r ∷ rs) c = with_change_rows number rs (with_change_row number r c)

-- a table without its rows: what it has at the empty key stays, which is the key of no row
abbrev pub cleared : Table → Table
cleared t [] = t []
cleared t (b ∷ key) = None

-- the contents without the change rows of the registration with a number
abbrev pub with_cleared : ℕ → Contents → Contents
with_cleared number c = with_table c areas.Cd number (cleared (c areas.Cd number))

-- ---- one change

-- the changes of a unit with this seq are captured for a registration in this state: it is active from a unit
-- before this one on, and not pruned up to it
abbrev pub is_captured : ℕ → RegState → Bool
is_captured seq state = state.active && (nat_lt state.start seq && nat_lt state.floor seq)

-- the contents with a state of the registration with a number
abbrev pub with_state : ℕ → RegState → Contents → Contents
with_state number state c = put_at c areas.Capture 1 (b32 number) (Some (registration_state_spelling state))

-- the contents in which the change rows of a change are captured
abbrev pub with_rows_of : ℕ → Placed → DefinedRegistration → RegState → Contents → Contents
with_rows_of seq placed reg state c = if is_captured seq state then with_change_rows reg.number (rows_of reg.registration seq placed.pos placed.change) c else c

-- the contents after a start in a unit with this seq of the registration with a number, which is in this state
abbrev pub started : ℕ → ℕ → RegState → Contents → Contents
started seq number state c = if state.active then c else with_state number (record { active = true; start = seq; floor = state.floor }) c

-- the contents after a stop of it
abbrev pub stopped : ℕ → RegState → Contents → Contents
stopped number state c = if state.active then with_cleared number (with_state number (record state { active = false }) c) else c

-- The contents after a change in a unit with this seq, by the registration of its table and the registration's
-- state: a start makes it active, a stop makes it inactive and removes its change rows, and any other change is
-- captured.
abbrev pub with_change : ℕ → Placed → DefinedRegistration → RegState → Contents → Contents
with_change seq placed reg state c = by_change placed.change
  where
    by_change : Change → Contents
    by_change (Insert table row) = with_rows_of seq placed reg state c
    by_change (Update table before after) = with_rows_of seq placed reg state c
    by_change (Delete table row) = with_rows_of seq placed reg state c
    by_change (Start table) = started seq reg.number state c
    by_change (Stop table) = stopped reg.number state c

-- how many change rows it has then put
abbrev pub rows_put : ℕ → Placed → DefinedRegistration → RegState → ℕ
rows_put seq placed reg state = if is_captured seq state then length (rows_of reg.registration seq placed.pos placed.change) else 0

-- ---- what is read first

-- contents have no registration of a change's table
abbrev pub IsUnregistered : Placed → Contents → Type 0
IsUnregistered placed c = c areas.Defs 1 (short_text (table_of placed.change)) ≡ None

-- Contents have this registration of a change's table, in this state.
pub record IsRegistered (placed : Placed) (reg : DefinedRegistration) (state : RegState) (c : Contents) : Type 0 where
  pub fits : IsDefinedRegistration reg
  pub has : c areas.Defs 1 (short_text (table_of placed.change)) ≡ Some (defined_registration_spelling reg)
  pub state_fits : IsRegistrationState state
  pub has_state : c areas.Capture 1 (b32 reg.number) ≡ Some (registration_state_spelling state)

-- A change in a unit with this seq is captured, and so many change rows are put.
abbrev pub CapturesChange : ℕ → Placed → ℕ → Contents → Contents → Type 0
CapturesChange seq placed rows c d = (IsUnregistered placed c × (d ≡ c) × (rows ≡ 0))
    ⊎ ((reg : DefinedRegistration) × (state : RegState) × IsRegistered placed reg state c × (d ≡ with_change seq placed reg state c) × (rows ≡ rows_put seq placed reg state))
