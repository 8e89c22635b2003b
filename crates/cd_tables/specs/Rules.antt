-- What may stand in the tables that a capture reads of registrations, and what shows that a server is damaged.
use Rattle.std.specs.Prelude.{◌≡◌, ℕ, zero, suc, Bool, true, false, ◌&&◌, nat_le, List, length, Option, Some}
use Rattle.std.specs.Option.{option_map}
use Rattle.std.specs.Str.{bytes_eq}
use Rattle.repl_types.specs.Sizes.{row_limit}
use Rattle.repl_types.specs.declared.area.Area.{Area}
use Rattle.repl_types.specs.declared.area.Area.TheVariants as areas
use Rattle.keep_core.specs.Contents.{Contents}
use Rattle.row_codec.specs.Spelling.{b32, short_text}
use Rattle.repl_definitions.specs.Defined.{defined_registration_spelling, IsDefinedRegistration}
use Rattle.repl_definitions.specs.declared.defined.DefinedRegistration.{DefinedRegistration}
use Rattle.repl_records.specs.RecordKeys.{change_key_spelling, IsChangeKey}
use Rattle.repl_records.specs.Capture.{change_row_spelling, IsChangeRow, registration_state_spelling, IsRegistrationState}
use Rattle.repl_records.specs.declared.capture.RegState.{RegState}
use Rattle.site_store.specs.Damage.{Rules}
use Rattle.world_store.specs.SpelledRows.{Spells}

-- ---- what may stand there

-- keys of change rows
abbrev pub may_be_key : Area → ℕ → List ℕ → Type 0
may_be_key areas.Cd t bytes = Spells IsChangeKey change_key_spelling bytes
may_be_key a t bytes = Unit {0}

-- and values: change rows, registrations, and their states
abbrev pub may_be_value : Area → ℕ → List ℕ → Type 0
may_be_value areas.Cd t bytes = Spells IsChangeRow change_row_spelling bytes
may_be_value areas.Defs (suc zero) bytes = Spells IsDefinedRegistration defined_registration_spelling bytes
may_be_value areas.Capture (suc zero) bytes = Spells IsRegistrationState registration_state_spelling bytes
may_be_value a t bytes = Unit {0}

-- ---- registrations

-- a registration is one of the table of this name, and has no more columns than a table may have
abbrev pub is_of_table : List ℕ → DefinedRegistration → Bool
is_of_table name reg = bytes_eq reg.registration.table name && (nat_le (length reg.registration.after) row_limit && nat_le (length reg.registration.before) row_limit)

-- It is such a one, and can be spelled.
pub record IsRegistrationOf (name : List ℕ) (reg : DefinedRegistration) : Type 0 where
  pub fits : IsDefinedRegistration reg
  pub is : is_of_table name reg ≡ true

-- contents have this registration under the name of a table, or none
abbrev pub FindsRegistration : List ℕ → Option DefinedRegistration → Contents → Type 0
FindsRegistration name found c = c areas.Defs 1 (short_text name) ≡ option_map defined_registration_spelling found

-- Contents have such a registration under the name of its table.
pub record IsRegistrationIn (name : List ℕ) (reg : DefinedRegistration) (c : Contents) : Type 0 where
  pub stands : FindsRegistration name (Some reg) c
  pub is : IsRegistrationOf name reg

-- Contents have this state of a registration.
pub record HasStateOf (reg : DefinedRegistration) (state : RegState) (c : Contents) : Type 0 where
  pub stands : c areas.Capture 1 (b32 reg.number) ≡ Some (registration_state_spelling state)
  pub fits : IsRegistrationState state

-- A registration calls for its state.
abbrev pub is_called_for : Area → ℕ → List ℕ → Contents → Type 0
is_called_for areas.Capture (suc zero) key c = (name : List ℕ) × (reg : DefinedRegistration) × (key ≡ b32 reg.number) × IsRegistrationIn name reg c
is_called_for a t key c = ⊥

-- A registration is unfit if it stands under another name than that of its table, or has too many columns.
abbrev pub is_misplaced : Area → ℕ → List ℕ → List ℕ → Contents → Type 0
is_misplaced areas.Defs (suc zero) key value c = (name : List ℕ) × (reg : DefinedRegistration) × (key ≡ short_text name) × (value ≡ defined_registration_spelling reg) × IsDefinedRegistration reg × (is_of_table name reg ≡ false)
is_misplaced a t key value c = ⊥

-- what a capture of a unit finds
abbrev pub rules : Rules
rules = record { is_key = may_be_key; is_value = may_be_value; is_needed = is_called_for; is_unfit = is_misplaced }
