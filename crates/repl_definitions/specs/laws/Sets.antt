-- Proofs about the spellings of sets. There is nothing to believe here.
use Rattle.std.proofs.Common.{ℕ, List, ap}
use Rattle.repl_definitions.specs.Members.{member_spelling, IsMember, HasMemberSpelling}
use Rattle.repl_definitions.specs.Sets.{set_def_spelling, IsSetDef, HasSetDefSpelling, source_set_spelling, IsSourceSet, HasSourceSetSpelling, target_set_spelling, IsTargetSet, HasTargetSetSpelling}
use Rattle.repl_definitions.specs.declared.member.Member.{Member}
use Rattle.repl_definitions.specs.declared.set.SetDef.{SetDef}
use Rattle.repl_definitions.specs.declared.set.SourceSet.{SourceSet}
use Rattle.repl_definitions.specs.declared.set.TargetSet.{TargetSet}
use Rattle.repl_definitions.specs.laws.Members.{one_member, again_member}
use Rattle.repl_types.specs.declared.record.SetId.{SetId}
use Rattle.row_codec.specs.Spelling.{b32, Is32, short_text, IsName, set_spelling, IsSet, list_spelling, ListFits}
use Rattle.row_codec.specs.Takes.{One, PairFits, pair_spelling}
use Rattle.row_codec.specs.laws.Again.{list_again}
use Rattle.row_codec.specs.laws.Names.{one_name, one_set}
use Rattle.row_codec.specs.laws.Numbers.{one32}
use Rattle.row_codec.specs.laws.Ones.{one_by, one_pair}
use Rattle.row_codec.specs.laws.Values.{one_list}

-- lists of members
one_members : One (ListFits IsMember) (list_spelling member_spelling)
one_members = one_list IsMember member_spelling one_member

-- a set's name and its source
one_at_source : One (PairFits IsSet IsName) (pair_spelling set_spelling short_text)
one_at_source = one_pair IsSet IsName set_spelling short_text one_set one_name

-- and its target
one_ends : One (PairFits (PairFits IsSet IsName) IsName) (pair_spelling (pair_spelling set_spelling short_text) short_text)
one_ends = one_pair (PairFits IsSet IsName) IsName (pair_spelling set_spelling short_text) short_text one_at_source one_name

-- and its first limit
one_counted : One (PairFits (PairFits (PairFits IsSet IsName) IsName) Is32) (pair_spelling (pair_spelling (pair_spelling set_spelling short_text) short_text) b32)
one_counted = one_pair (PairFits (PairFits IsSet IsName) IsName) Is32 (pair_spelling (pair_spelling set_spelling short_text) short_text) b32 one_ends one32

-- and its second
one_limited : One (PairFits (PairFits (PairFits (PairFits IsSet IsName) IsName) Is32) Is32) (pair_spelling (pair_spelling (pair_spelling (pair_spelling set_spelling short_text) short_text) b32) b32)
one_limited = one_pair (PairFits (PairFits (PairFits IsSet IsName) IsName) Is32) Is32 (pair_spelling (pair_spelling (pair_spelling set_spelling short_text) short_text) b32) b32 one_counted one32

-- sets
pub one_set_def : One IsSetDef set_def_spelling
one_set_def = one_by (PairFits (PairFits (PairFits (PairFits (PairFits IsSet IsName) IsName) Is32) Is32) (ListFits IsMember)) (pair_spelling (pair_spelling (pair_spelling (pair_spelling (pair_spelling set_spelling short_text) short_text) b32) b32) (list_spelling member_spelling)) IsSetDef (λ s. (((((s.id, s.source), s.target), s.commit_count), s.max_minutes), s.members)) (λ x y e. ap (λ (p : ((((SetId × List ℕ) × List ℕ) × ℕ) × ℕ) × List Member). record { id = p.0.0.0.0.0; source = p.0.0.0.0.1; target = p.0.0.0.1; commit_count = p.0.0.1; max_minutes = p.0.1; members = p.1 }) e) (λ _ f. (((((f.0, f.1), f.2), f.3), f.4), f.5))
    (one_pair (PairFits (PairFits (PairFits (PairFits IsSet IsName) IsName) Is32) Is32) (ListFits IsMember) (pair_spelling (pair_spelling (pair_spelling (pair_spelling set_spelling short_text) short_text) b32) b32) (list_spelling member_spelling) one_limited one_members)

-- a number and a set
one_numbered : One (PairFits Is32 IsSetDef) (pair_spelling b32 set_def_spelling)
one_numbered = one_pair Is32 IsSetDef b32 set_def_spelling one32 one_set_def

-- sets at their sources
pub one_source_set : One IsSourceSet source_set_spelling
one_source_set = one_by (PairFits Is32 IsSetDef) (pair_spelling b32 set_def_spelling) IsSourceSet (λ d. (d.number, d.def)) (λ x y e. ap (λ (p : ℕ × SetDef). record { number = p.0; def = p.1 }) e) (λ _ f. f) one_numbered

-- sets at their targets
pub one_target_set : One IsTargetSet target_set_spelling
one_target_set = one_by (PairFits Is32 IsSetDef) (pair_spelling b32 set_def_spelling) IsTargetSet (λ d. (d.number, d.def)) (λ x y e. ap (λ (p : ℕ × SetDef). record { number = p.0; def = p.1 }) e) (λ _ f. f) one_numbered

-- what is taken has a spelling: sets
pub again_set_def : (x : SetDef) → IsSetDef x → HasSetDefSpelling x
again_set_def x fits = list_again IsMember HasMemberSpelling again_member x.members fits.5

-- sets at their sources
pub again_source_set : (x : SourceSet) → IsSourceSet x → HasSourceSetSpelling x
again_source_set x fits = again_set_def x.def fits.1

-- sets at their targets
pub again_target_set : (x : TargetSet) → IsTargetSet x → HasTargetSetSpelling x
again_target_set x fits = again_set_def x.def fits.1
