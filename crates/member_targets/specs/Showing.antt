-- The rows of targets as they are shown, and what shows that they are damaged.
use Rattle.std.specs.Prelude.{◌≡◌, ℕ, ◌<◌, true, List, Some, length, slice_get}
use Rattle.std.specs.List.{flat_map}
use Rattle.repl_types.specs.declared.area.Area.{Area}
use Rattle.repl_types.specs.declared.status.DamageCause.{DamageCause}
use Rattle.keep_core.specs.Kept.{Kept}
use Rattle.repl_definitions.specs.declared.member.Member.{Member}
use Rattle.repl_definitions.specs.declared.set.SetDef.{SetDef}
use Rattle.repl_model.specs.World.{World, KnownSet}
use Rattle.site_store.specs.declared.sites.Sites.{Sites}
use Rattle.site_store.specs.Views.{names, sees}
use Rattle.apply_copies.specs.Showing.{copy_lines}
use Rattle.member_targets.specs.Kinds.{is_taken, ShowsTargetDamage}

-- The member of a set at a place is of a kind that is carried out.
pub record IsTakenAt (def : SetDef) (place : ℕ) : Type 0 where
  pub member : Member
  pub there : slice_get def.members place ≡ Some member
  pub taken : is_taken member.kind ≡ true

-- the lines of the reply about the target of a member whose kind is carried out: those of its kind, which is that of user
-- copies
abbrev pub target_lines : World → KnownSet → Member → List (List ℕ)
target_lines w k member = copy_lines w k member

-- the lines one after another
abbrev pub target_text : World → KnownSet → Member → List ℕ
target_text w k member = flat_map (λ line. line) (target_lines w k member)

-- what one of the servers was seen to have shows damage of targets
abbrev pub ShowsDamage : {K : Type 0} → (K → Kept) → Sites K → ℕ → Area → DamageCause → Type 0
ShowsDamage kept sites s a cause = (s < length (names sites)) × ShowsTargetDamage a cause (sees kept sites s)
