-- The rows that stand in the change-data tables and in the unit-of-work table, and what shows that these tables, and the
-- states of registrations, are damaged.
use Rattle.std.specs.Prelude.{◌≡◌, ℕ, zero, suc, nat_lt, nat_le, List, [], ◌∷◌, filter, Option, Some, None}
use Rattle.std.specs.List.{AllByRecursion}
use Rattle.repl_types.specs.declared.area.Area.{Area}
use Rattle.repl_types.specs.declared.area.Area.TheVariants as areas
use Rattle.repl_types.specs.declared.change_row.CdRow.{CdRow}
use Rattle.repl_types.specs.declared.unit.UnitHead.{UnitHead}
use Rattle.keep_core.specs.Contents.{Contents}
use Rattle.row_codec.specs.Spelling.{Is64, b32, b64}
use Rattle.repl_definitions.specs.Defined.{defined_registration_spelling, IsDefinedRegistration}
use Rattle.repl_definitions.specs.declared.defined.DefinedRegistration.{DefinedRegistration}
use Rattle.repl_records.specs.RecordKeys.{change_key_spelling, IsChangeKey}
use Rattle.repl_records.specs.Capture.{change_row_spelling, IsChangeRow, uow_spelling, IsUow, registration_state_spelling, IsRegistrationState}
use Rattle.repl_records.specs.declared.record_keys.CdKey.{CdKey}
use Rattle.repl_records.specs.declared.capture.ChangeRow.{ChangeRow}
use Rattle.repl_records.specs.declared.capture.UowRow.{UowRow}
use Rattle.rows_in_order.specs.Rows.{table_from_rows, IsRising}
use Rattle.site_store.specs.Damage.{Rules}
use Rattle.world_store.specs.SpelledRows.{Spells, RowFits}

-- the first of a list, if it has one
abbrev pub first_of : {X : Type 0} → List X → Option X
first_of [] = None
first_of (x ∷ xs) = Some x

-- ---- change rows

-- Change rows as they stand: in the order of their keys, with keys and images that have spellings.
pub record AreChangeRows (rows : List (CdKey × ChangeRow)) : Type 0 where
  pub rise : IsRising change_key_spelling rows
  pub fit : AllByRecursion (RowFits IsChangeKey IsChangeRow) rows

-- a row with its key as a change row
abbrev pub change_of : CdKey × ChangeRow → CdRow
change_of r = record { commitseq = r.0.commitseq; intentseq = r.0.intentseq; op = r.1.op; after = r.1.after; before = r.1.before }

-- contents have these change rows of the registration with a number
abbrev pub HasChangeRows : ℕ → List (CdKey × ChangeRow) → Contents → Type 0
HasChangeRows number rows c = c areas.Cd number ≡ table_from_rows change_key_spelling change_row_spelling rows

-- the change rows of units up to a seq
abbrev pub rows_upto : ℕ → List (CdKey × ChangeRow) → List (CdKey × ChangeRow)
rows_upto seq rows = filter (λ r. nat_le r.0.commitseq seq) rows

-- and those of units above it
abbrev pub rows_above : ℕ → List (CdKey × ChangeRow) → List (CdKey × ChangeRow)
rows_above seq rows = filter (λ r. nat_lt seq r.0.commitseq) rows

-- ---- units

-- Units as they stand: in the order of their seqs, with seqs and rows that have spellings.
pub record AreUnitRows (rows : List (ℕ × UowRow)) : Type 0 where
  pub rise : IsRising b64 rows
  pub fit : AllByRecursion (RowFits Is64 IsUow) rows

-- contents have these units in the unit-of-work table
abbrev pub HasUnitRows : List (ℕ × UowRow) → Contents → Type 0
HasUnitRows rows c = c areas.Uow 0 ≡ table_from_rows b64 uow_spelling rows

-- what the row of a unit says of it, with the code that it shows
abbrev pub head_of : ℕ × UowRow → UnitHead
head_of r = record { seq = r.0; time = r.1.time; authid = r.1.authid; origin = r.1.origin; code = r.1.code }

-- the row that says this
abbrev pub row_of : UnitHead → UowRow
row_of head = record { time = head.time; authid = head.authid; origin = head.origin; code = head.code }

-- contents have the row of a unit under a seq
abbrev pub HasUnit : ℕ → Contents → Type 0
HasUnit seq c = (row : UowRow) × IsUow row × (c areas.Uow 0 (b64 seq) ≡ Some (uow_spelling row))

-- ---- damage

-- keys of change rows and of units
abbrev pub may_be_row_key : Area → ℕ → List ℕ → Type 0
may_be_row_key areas.Cd t bytes = Spells IsChangeKey change_key_spelling bytes
may_be_row_key areas.Uow zero bytes = Spells Is64 b64 bytes
may_be_row_key a t bytes = Unit {0}

-- and values: change rows, units, and states of registrations
abbrev pub may_be_row : Area → ℕ → List ℕ → Type 0
may_be_row areas.Cd t bytes = Spells IsChangeRow change_row_spelling bytes
may_be_row areas.Uow zero bytes = Spells IsUow uow_spelling bytes
may_be_row areas.Capture (suc zero) bytes = Spells IsRegistrationState registration_state_spelling bytes
may_be_row a t bytes = Unit {0}

-- a registration with a number stands among the definitions
abbrev pub HasRegistrationNumbered : ℕ → Contents → Type 0
HasRegistrationNumbered number c = (key : List ℕ) × (row : DefinedRegistration) × IsDefinedRegistration row × (c areas.Defs 1 key ≡ Some (defined_registration_spelling row)) × (row.number ≡ number)

-- such a registration calls for its state
abbrev pub calls_for_state : Area → ℕ → List ℕ → Contents → Type 0
calls_for_state areas.Capture (suc zero) key c = (number : ℕ) × (key ≡ b32 number) × HasRegistrationNumbered number c
calls_for_state a t key c = ⊥

-- what change rows, units and states of registrations should be
abbrev pub row_rules : Rules
row_rules = record { is_key = may_be_row_key; is_value = may_be_row; is_needed = calls_for_state; is_unfit = λ a t key value c. ⊥ }
