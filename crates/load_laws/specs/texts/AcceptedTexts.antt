-- What is shown of texts that are accepted.
use Rattle.std.specs.Prelude.{◌≡◌, ℕ, List, None}
use Rattle.std.specs.List.{AllByRecursion}
use Rattle.row_codec.specs.Definitions.{IsTable, IsRegistration}
use Rattle.row_codec.specs.Storable.{IsStorable}
use Rattle.repl_definitions.specs.Defined.{defined_table_spelling, HasDefinedTableSpelling, defined_registration_spelling, HasDefinedRegistrationSpelling}
use Rattle.repl_definitions.specs.Sets.{source_set_spelling, HasSourceSetSpelling, target_set_spelling, HasTargetSetSpelling}
use Rattle.repl_commands.specs.declared.written.RawDefs.{RawDefs}
use Rattle.raw_defs.specs.Raw.{AreRawDefs}
use Rattle.load_plan.specs.Additions.{additions_at}
use Rattle.load_plan.specs.Differences.{AreSpelled}
use Rattle.load_plan.specs.Refusals.{content_refusal}
use Rattle.load_plan.specs.declared.additions.Additions.{Additions}
use Rattle.load_plan.specs.declared.stored.StoredServer.{StoredServer}
use Rattle.load_laws.specs.texts.Texts.{IsWhole, defs_beside, KeepsRules}

-- a text that is read is whole
abbrev pub ReadsWhole : Type 0
ReadsWhole = (bytes : List ℕ) (raw : RawDefs) → AreRawDefs bytes raw → IsWhole raw

-- the definitions of a text that keeps the rules have spellings
abbrev pub SpellsAll : Type 0
SpellsAll = (raw : RawDefs) (stored : List StoredServer) → KeepsRules raw stored → AreSpelled (defs_beside raw stored)

-- its tables and registrations are made of names and of lists with counts of two bytes
abbrev pub TypesItems : Type 0
TypesItems = (raw : RawDefs) (stored : List StoredServer) → KeepsRules raw stored → AllByRecursion (λ t. IsTable t.def) (defs_beside raw stored).tables × AllByRecursion (λ r. IsRegistration r.def) (defs_beside raw stored).registrations

-- Rows that are added have spellings that are no longer than a stored value may be.
pub record AreStorable (added : Additions) : Type 0 where
  pub tables : AllByRecursion (IsStorable HasDefinedTableSpelling defined_table_spelling) added.tables
  pub registrations : AllByRecursion (IsStorable HasDefinedRegistrationSpelling defined_registration_spelling) added.registrations
  pub sources : AllByRecursion (IsStorable HasSourceSetSpelling source_set_spelling) added.sources
  pub targets : AllByRecursion (IsStorable HasTargetSetSpelling target_set_spelling) added.targets

-- what servers get by the load of a text that keeps the rules and isn't refused can be stored
abbrev pub StoresAdditions : Type 0
StoresAdditions = (raw : RawDefs) (stored : List StoredServer) → KeepsRules raw stored → content_refusal (defs_beside raw stored) stored ≡ None → AllByRecursion (λ server. AreStorable (additions_at (defs_beside raw stored) server)) stored
