-- Proofs about the spellings of tables and registrations with their numbers. There is nothing to believe
-- here.
use Rattle.std.proofs.Common.{ℕ, ap}
use Rattle.repl_definitions.specs.Defined.{defined_table_spelling, IsDefinedTable, HasDefinedTableSpelling, defined_registration_spelling, IsDefinedRegistration, HasDefinedRegistrationSpelling}
use Rattle.repl_definitions.specs.declared.defined.DefinedRegistration.{DefinedRegistration}
use Rattle.repl_definitions.specs.declared.defined.DefinedTable.{DefinedTable}
use Rattle.repl_types.specs.declared.change_row.Registration.{Registration}
use Rattle.repl_types.specs.declared.table.TableDef.{TableDef}
use Rattle.row_codec.specs.Definitions.{table_spelling, IsTable, registration_spelling, IsRegistration}
use Rattle.row_codec.specs.Spelling.{b32, Is32}
use Rattle.row_codec.specs.Takes.{One, PairFits, pair_spelling}
use Rattle.row_codec.specs.laws.Again.{table_again, registration_again}
use Rattle.row_codec.specs.laws.Definitions.{one_table, one_registration}
use Rattle.row_codec.specs.laws.Numbers.{one32}
use Rattle.row_codec.specs.laws.Ones.{one_by, one_pair}

-- tables with their numbers
pub one_defined_table : One IsDefinedTable defined_table_spelling
one_defined_table = one_by (PairFits Is32 IsTable) (pair_spelling b32 table_spelling) IsDefinedTable (λ d. (d.number, d.def)) (λ x y e. ap (λ (p : ℕ × TableDef). record { number = p.0; def = p.1 }) e) (λ _ f. f) (one_pair Is32 IsTable b32 table_spelling one32 one_table)

-- what is taken has a spelling
pub again_defined_table : (x : DefinedTable) → IsDefinedTable x → HasDefinedTableSpelling x
again_defined_table x fits = table_again x.def fits.1

-- registrations with their numbers
pub one_defined_registration : One IsDefinedRegistration defined_registration_spelling
one_defined_registration = one_by (PairFits Is32 IsRegistration) (pair_spelling b32 registration_spelling) IsDefinedRegistration (λ d. (d.number, d.registration)) (λ x y e. ap (λ (p : ℕ × Registration). record { number = p.0; registration = p.1 }) e) (λ _ f. f) (one_pair Is32 IsRegistration b32 registration_spelling one32 one_registration)

-- what is taken has a spelling
pub again_defined_registration : (x : DefinedRegistration) → IsDefinedRegistration x → HasDefinedRegistrationSpelling x
again_defined_registration x fits = registration_again x.registration fits.1
