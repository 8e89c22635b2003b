-- Which table of a server is the target of a member.
use Rattle.std.specs.Prelude.{◌≡◌, ℕ, ◌+◌, ◌*◌, min, Bool, true, Some, slice_get}
use Rattle.keep_core.specs.Contents.{Contents}
use Rattle.repl_definitions.specs.Sets.{IsTargetSet}
use Rattle.repl_definitions.specs.declared.member.Member.{Member}
use Rattle.repl_definitions.specs.declared.member.TargetKind.{TargetKind}
use Rattle.repl_definitions.specs.declared.set.TargetSet.{TargetSet}
use Rattle.set_places.specs.Places.{HasTargetRow}

-- the greatest number of a table
abbrev pub greatest_number : ℕ
greatest_number = 4294967295

-- the number of the target of a set's member: 64 times the set's number, and then the member's place
abbrev pub target_number : ℕ → ℕ → ℕ
target_number number place = min (min (number * 64) greatest_number + place) greatest_number

-- A set has a member of such a kind, whose target has this number.
pub record HasTargetOfKind (kinds : TargetKind → Bool) (n : ℕ) (row : TargetSet) : Type 0 where
  pub place : ℕ
  pub member : Member
  pub there : slice_get row.def.members place ≡ Some member
  pub kind : kinds member.kind ≡ true
  pub number : n ≡ target_number row.number place

-- the contents define a set whose target this server is
abbrev pub DefinesTargets : TargetSet → Contents → Type 0
DefinesTargets row c = IsTargetSet row × HasTargetRow row c
