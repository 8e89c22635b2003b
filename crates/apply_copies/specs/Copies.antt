-- Which targets are user copies, and what shows that a server is damaged.
use Rattle.std.specs.Prelude.{◌≡◌, ◌⊎◌, ℕ, Bool, true, false, Option, Some, None, slice_get}
use Rattle.repl_types.specs.declared.area.Area.{Area}
use Rattle.repl_types.specs.declared.status.DamageCause.{DamageCause}
use Rattle.keep_core.specs.Contents.{Contents}
use Rattle.repl_definitions.specs.declared.member.Member.{Member}
use Rattle.repl_definitions.specs.declared.member.TargetKind.{TargetKind}
use Rattle.repl_definitions.specs.declared.member.TargetKind.TheVariants.{UserCopy, PointInTime, BaseAggregate, ChangeAggregate, Ccd, Replica}
use Rattle.repl_definitions.specs.declared.set.SetDef.{SetDef}
use Rattle.repl_definitions.specs.declared.set.TargetSet.{TargetSet}
use Rattle.site_store.specs.Damage.{Shows}
use Rattle.set_places.specs.Targets.{HasTargetOfKind}
use Rattle.apply_copies.specs.ChangeRules.{change_source_rules}
use Rattle.apply_copies.specs.Rules.{source_rules, target_rules}

-- the target is a user copy
abbrev pub is_user_copy : TargetKind → Bool
is_user_copy UserCopy = true
is_user_copy PointInTime = false
is_user_copy BaseAggregate = false
is_user_copy ChangeAggregate = false
is_user_copy (Ccd complete condensed) = false
is_user_copy Replica = false

-- The member of a set at a place is a user copy.
pub record IsCopyAt (def : SetDef) (place : ℕ) : Type 0 where
  pub member : Member
  pub there : slice_get def.members place ≡ Some member
  pub copy : member.kind ≡ UserCopy

-- what was seen of a server shows this damage: of a source of copies or of its change rows, or, with the row of a set, of a
-- table that is the target of a user copy of this set
abbrev pub ShowsCopyDamage : Option TargetSet → Area → DamageCause → Option Contents → Type 0
ShowsCopyDamage None a cause saw = Shows source_rules a cause saw ⊎ Shows change_source_rules a cause saw
ShowsCopyDamage (Some row) a cause saw = (n : ℕ) × HasTargetOfKind is_user_copy n row × Shows (target_rules n) a cause saw
