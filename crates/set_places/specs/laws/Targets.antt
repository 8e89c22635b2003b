-- The number of a target, and where it is defined.
use Rattle.std.proofs.Common.{◌≡◌, ℕ, ◌+◌, ◌*◌, ◌<◌, ◌≤◌, length, sym, ap, subst, ◌∙◌, arith, min, IfSome}
use Rattle.std.proofs.Math.Nat.{min-eq_left}
use Rattle.site_store.specs.Words.{Kept, sees, if_seen}
use Rattle.site_store.specs.declared.sites.Sites.{Sites}
use Rattle.repl_model.specs.Words.{SetDef, IsSound, World, KnownSet}
use Rattle.set_places.specs.Places.{IsPlacedAs, IsPlacedAtTarget, HasTargetRow}
use Rattle.set_places.specs.Targets.{greatest_number, target_number, DefinesTargets}
use Rattle.set_places.specs.declared.placed_set.PlacedSet.{PlacedSet}
use Rattle.set_places.specs.laws.Known.{placed_def, members_few, number_few}

-- the number of a target that the code computes doesn't pass the greatest number
pub number_is : (w : World) (k : KnownSet) (set : PlacedSet) (place : ℕ) → IsSound w → IsPlacedAs w k set → place < length set.at_source.def.members → target_number set.at_target.number place ≡ 64 * set.at_target.number + place
number_is w k set place sound placed within =
    let number = set.at_target.number in
    let low : number < 256 = number_few w k set sound placed in
    let few : length set.at_source.def.members ≤ 64 = subst (λ (def : SetDef). length def.members ≤ 64) (sym (placed_def w k set sound placed ∙ placed.target_def)) (members_few w k sound placed.known) in
    let inner : min (number * 64) greatest_number ≡ number * 64 = min-eq_left (omega (arith, low)) in
    let outer : min (number * 64 + place) greatest_number ≡ number * 64 + place = min-eq_left (omega (arith, low, few, within)) in
    ap (λ (n : ℕ). min (n + place) greatest_number) inner ∙ outer ∙ omega arith

-- where a set is placed, its targets are seen to be defined
pub targets_defined : {K : Type 0} (kept : K → Kept) (sites : Sites K) (set : PlacedSet) → IsPlacedAtTarget kept sites set → IfSome (sees kept sites set.target) (DefinesTargets set.at_target)
targets_defined kept sites set placed = if_seen (sees kept sites set.target) (HasTargetRow set.at_target) (DefinesTargets set.at_target) (λ c stands. (placed.fits, stands)) placed.row
