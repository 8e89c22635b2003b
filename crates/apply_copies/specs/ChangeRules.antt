-- What the source of a copy should have of change rows, and what shows that a server is damaged.
use Rattle.std.specs.Prelude.{◌≡◌, ◌⊎◌, ℕ, zero, suc, List, [], Some}
use Rattle.repl_types.specs.Sizes.{IsKeySize}
use Rattle.repl_types.specs.declared.area.Area.{Area}
use Rattle.repl_types.specs.declared.area.Area.TheVariants as areas
use Rattle.repl_types.specs.declared.change_row.CdRow.{CdRow}
use Rattle.repl_types.specs.declared.change_row.Registration.{Registration}
use Rattle.repl_types.specs.declared.status.DamageCause.{DamageCause}
use Rattle.repl_types.specs.declared.table.TableDef.{TableDef}
use Rattle.keep_core.specs.Contents.{Contents}
use Rattle.keep_core.specs.Kept.{Kept}
use Rattle.row_codec.specs.Spelling.{short_text, key_spelling}
use Rattle.repl_definitions.specs.Defined.{defined_table_spelling, IsDefinedTable, IsDefinedRegistration}
use Rattle.repl_definitions.specs.declared.defined.DefinedRegistration.{DefinedRegistration}
use Rattle.repl_definitions.specs.declared.defined.DefinedTable.{DefinedTable}
use Rattle.repl_records.specs.Capture.{change_row_spelling, IsChangeRow}
use Rattle.repl_records.specs.RecordKeys.{change_key_spelling, IsChangeKey}
use Rattle.repl_model.specs.Selection.{SourceTable}
use Rattle.site_store.specs.declared.sites.Sites.{Sites}
use Rattle.site_store.specs.Damage.{Rules, joined, Damages}
use Rattle.world_store.specs.SpelledRows.{Spells}
use Rattle.set_places.specs.declared.placed_set.PlacedSet.{PlacedSet}
use Rattle.set_places.specs.Members.{HasRegistration, member_rules}
use Rattle.stored_commits.specs.units.StoredChanges.{stored_change}
use Rattle.cd_tables.specs.laws.SoundChanges.{ChangeRowFits}
use Rattle.stored_commits.specs.copies.ChangedCopies.{key_after}
use Rattle.apply_copies.specs.Rules.{is_too_wide, target_rules}

-- ---- what may stand there

-- keys of change rows
abbrev pub may_be_change_key : Area → ℕ → List ℕ → Type 0
may_be_change_key areas.Cd n bytes = Spells IsChangeKey change_key_spelling bytes
may_be_change_key a n bytes = Unit {0}

-- and values: change rows, and tables
abbrev pub may_be_change : Area → ℕ → List ℕ → Type 0
may_be_change areas.Cd n bytes = Spells IsChangeRow change_row_spelling bytes
may_be_change areas.Defs zero bytes = Spells IsDefinedTable defined_table_spelling bytes
may_be_change a n bytes = Unit {0}

-- ---- tables

-- the contents have this table under the name that a registration gives
abbrev pub HasTableOf : DefinedRegistration → DefinedTable → Contents → Type 0
HasTableOf reg table c = c areas.Defs 0 (short_text reg.registration.table) ≡ Some (defined_table_spelling table)

-- a registration calls for its table
abbrev pub calls_for_table : Area → ℕ → List ℕ → Contents → Type 0
calls_for_table areas.Defs zero key c = (reg : DefinedRegistration) × IsDefinedRegistration reg × HasRegistration reg c × (key ≡ short_text reg.registration.table)
calls_for_table a n key c = ⊥

-- ---- keys

-- a table with its registration as a source, of which the log isn't asked
abbrev pub source_of : TableDef → Registration → SourceTable
source_of def reg = record { def = def; reg = reg; log = [] }

-- The contents have a registration, and its table.
pub record IsRegisteredIn (reg : DefinedRegistration) (table : DefinedTable) (c : Contents) : Type 0 where
  pub fits : IsDefinedRegistration reg
  pub stands : HasRegistration reg c
  pub table_fits : IsDefinedTable table
  pub has_table : HasTableOf reg table c

-- A change row of a registration is of a row whose key can't be stored.
pub record IsKeyless (reg : DefinedRegistration) (table : DefinedTable) (change : CdRow) (c : Contents) : Type 0 where
  pub registered : IsRegisteredIn reg table c
  pub fits : ChangeRowFits change
  pub keyless : IsKeySize (key_spelling (key_after (source_of table.def reg.registration) change)) → ⊥

-- a set is unfit that is too wide, and a change row of a row whose key can't be stored
abbrev pub is_unfit_change : Area → ℕ → List ℕ → List ℕ → Contents → Type 0
is_unfit_change areas.Defs (suc (suc zero)) key value c = is_too_wide areas.Defs 2 key value c
is_unfit_change areas.Cd n key value c = (reg : DefinedRegistration) × (table : DefinedTable) × (change : CdRow) × IsKeyless reg table change c × (n ≡ reg.number) × (key ≡ change_key_spelling (stored_change change).0) × (value ≡ change_row_spelling (stored_change change).1)
is_unfit_change a n key value c = ⊥

-- ---- damage

-- what the source of a copy should have to take change rows
abbrev pub change_source_rules : Rules
change_source_rules = joined member_rules (record { is_key = may_be_change_key; is_value = may_be_change; is_needed = calls_for_table; is_unfit = is_unfit_change })

-- what the source or the target with a number was seen to have shows damage by its rules
abbrev pub ShowsDamageOfChanges : {K : Type 0} → (K → Kept) → Sites K → PlacedSet → ℕ → ℕ → Area → DamageCause → Type 0
ShowsDamageOfChanges kept sites set number s a cause = Damages (λ q. q ≡ set.source) change_source_rules kept sites s a cause ⊎ Damages (λ q. q ≡ set.target) (target_rules number) kept sites s a cause
