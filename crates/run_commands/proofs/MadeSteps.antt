-- A step of the set of a name, which is looked for first.
use Rattle.std.proofs.Common.{◌≡◌, ◌∙◌, ℕ, cond, Bool, true, false, sym, ap, subst, Option, Some, None}
use Rattle.std.specs.Option.{option_map_or, IfSome}
use Rattle.world_store.specs.Words.{Stands}
use Rattle.site_store.specs.Words.{Kept, names, held}
use Rattle.site_store.specs.declared.sites.Sites.{Sites}
use Rattle.repl_model.specs.Words.{SetId, next_action, World, KnownSet}
use Rattle.repl_types.specs.declared.refusal.Refusal.TheVariants as refusals
use Rattle.set_places.specs.Places.{IsKnownAs, IsPlacedAs, IsPlaced}
use Rattle.set_places.specs.declared.placed_set.PlacedSet.{PlacedSet}
use Rattle.run_commands.specs.apply.StepEvents.{declines, outcome_of, is_carried_out, next_outcome, outcome}

-- ---- what a step comes to

module _ (number : ℕ) (id : SetId) (w : World) where
  -- no set has the name
  pub unknown_declined : IsKnownAs w id None → outcome number id w ≡ declines (refusals.NoSuchSet id.qual (Some id.name))
  unknown_declined none = ap (λ (o : Option KnownSet). option_map_or (next_outcome number w) o (declines (refusals.NoSuchSet id.qual (Some id.name)))) none

  -- a set has it
  pub known_outcome : (set : PlacedSet) (known : IsKnownAs w id (Some set)) → outcome number id w ≡ next_outcome number w known.0
  known_outcome set known = ap (λ (o : Option KnownSet). option_map_or (next_outcome number w) o (declines (refusals.NoSuchSet id.qual (Some id.name)))) known.1

module _ (number : ℕ) (w : World) (k : KnownSet) (set : PlacedSet) (placed : IsPlacedAs w k set) where
  -- by whether it is carried out
  at_known : (b : Bool) → is_carried_out set.at_target.def ≡ b → next_outcome number w k ≡ cond b (outcome_of w k (next_action k)) (declines (refusals.UnknownCommand number))
  at_known b is = ap (λ (c : Bool). cond c (outcome_of w k (next_action k)) (declines (refusals.UnknownCommand number))) (ap is_carried_out (sym placed.target_def) ∙ is)

  -- it is
  pub carried_on : is_carried_out set.at_target.def ≡ true → next_outcome number w k ≡ outcome_of w k (next_action k)
  carried_on is = at_known true is

  -- it isn't
  pub uncarried_declined : is_carried_out set.at_target.def ≡ false → next_outcome number w k ≡ declines (refusals.UnknownCommand number)
  uncarried_declined is = at_known false is

-- ---- what was found

module _ {K : Type 0} (kept : K → Kept) (sites : Sites K) (id : SetId) {found : Option PlacedSet} (known : (w : World) → Stands (names sites) (held kept sites) w → IsKnownAs w id found) where
  -- nothing was
  pub known_none : found ≡ None → (w : World) → Stands (names sites) (held kept sites) w → IsKnownAs w id None
  known_none is = subst (λ (o : Option PlacedSet). (w : World) → Stands (names sites) (held kept sites) w → IsKnownAs w id o) is known

  -- or a set
  pub known_some : (set : PlacedSet) → found ≡ Some set → (w : World) → Stands (names sites) (held kept sites) w → IsKnownAs w id (Some set)
  known_some set is = subst (λ (o : Option PlacedSet). (w : World) → Stands (names sites) (held kept sites) w → IsKnownAs w id o) is known

-- it is placed
pub placed_some : {K : Type 0} (kept : K → Kept) (sites : Sites K) {found : Option PlacedSet} → IfSome found (IsPlaced kept sites) → (set : PlacedSet) → found ≡ Some set → IsPlaced kept sites set
placed_some kept sites placed set is = subst (λ (o : Option PlacedSet). IfSome o (IsPlaced kept sites)) is placed
