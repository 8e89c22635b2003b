-- The spellings of sets, and of sets with their numbers.
use Rattle.std.specs.Prelude.{ℕ, List, ◌++◌}
use Rattle.repl_definitions.specs.Members.{member_spelling, IsMember, HasMemberSpelling}
use Rattle.repl_definitions.specs.declared.set.SetDef.{SetDef}
use Rattle.repl_definitions.specs.declared.set.SourceSet.{SourceSet}
use Rattle.repl_definitions.specs.declared.set.TargetSet.{TargetSet}
use Rattle.row_codec.specs.Spelling.{b32, Is32, short_text, IsName, set_spelling, IsSet, list_spelling, ListFits}

-- a set: its name, its servers, its two limits and its members
abbrev pub set_def_spelling : SetDef → List ℕ
set_def_spelling s = set_spelling s.id ++ short_text s.source ++ short_text s.target ++ b32 s.commit_count ++ b32 s.max_minutes ++ list_spelling member_spelling s.members

-- the sets that have a spelling
abbrev pub HasSetDefSpelling : SetDef → Type 0
HasSetDefSpelling s = ListFits HasMemberSpelling s.members

-- the sets whose names are names, and whose limits have four bytes
abbrev pub IsSetDef : SetDef → Type 0
IsSetDef s = IsSet s.id × IsName s.source × IsName s.target × Is32 s.commit_count × Is32 s.max_minutes × ListFits IsMember s.members

-- a set with its number at its source
abbrev pub source_set_spelling : SourceSet → List ℕ
source_set_spelling defined = b32 defined.number ++ set_def_spelling defined.def

-- the numbered sets that have a spelling
abbrev pub HasSourceSetSpelling : SourceSet → Type 0
HasSourceSetSpelling defined = HasSetDefSpelling defined.def

-- the numbered sets whose number has four bytes
abbrev pub IsSourceSet : SourceSet → Type 0
IsSourceSet defined = Is32 defined.number × IsSetDef defined.def

-- a set with its number at its target
abbrev pub target_set_spelling : TargetSet → List ℕ
target_set_spelling defined = b32 defined.number ++ set_def_spelling defined.def

-- the numbered sets that have a spelling
abbrev pub HasTargetSetSpelling : TargetSet → Type 0
HasTargetSetSpelling defined = HasSetDefSpelling defined.def

-- the numbered sets whose number has four bytes
abbrev pub IsTargetSet : TargetSet → Type 0
IsTargetSet defined = Is32 defined.number × IsSetDef defined.def
