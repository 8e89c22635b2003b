-- The spellings of tables and registrations with their numbers.
use Rattle.std.specs.Prelude.{ℕ, List, ◌++◌}
use Rattle.repl_definitions.specs.declared.defined.DefinedRegistration.{DefinedRegistration}
use Rattle.repl_definitions.specs.declared.defined.DefinedTable.{DefinedTable}
use Rattle.row_codec.specs.Definitions.{table_spelling, IsTable, HasTableSpelling, registration_spelling, IsRegistration, HasRegistrationSpelling}
use Rattle.row_codec.specs.Spelling.{b32, Is32}

-- a table with its number at its server
abbrev pub defined_table_spelling : DefinedTable → List ℕ
defined_table_spelling defined = b32 defined.number ++ table_spelling defined.def

-- the numbered tables that have a spelling
abbrev pub HasDefinedTableSpelling : DefinedTable → Type 0
HasDefinedTableSpelling defined = HasTableSpelling defined.def

-- the numbered tables whose number has four bytes
abbrev pub IsDefinedTable : DefinedTable → Type 0
IsDefinedTable defined = Is32 defined.number × IsTable defined.def

-- a registration with its number at its server
abbrev pub defined_registration_spelling : DefinedRegistration → List ℕ
defined_registration_spelling defined = b32 defined.number ++ registration_spelling defined.registration

-- the numbered registrations that have a spelling
abbrev pub HasDefinedRegistrationSpelling : DefinedRegistration → Type 0
HasDefinedRegistrationSpelling defined = HasRegistrationSpelling defined.registration

-- the numbered registrations whose number has four bytes
abbrev pub IsDefinedRegistration : DefinedRegistration → Type 0
IsDefinedRegistration defined = Is32 defined.number × IsRegistration defined.registration
