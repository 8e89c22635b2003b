-- What is done by the kind of a member.
use Rattle.std.proofs.Common.{◌≡◌, ◌∙◌, ℕ, true, inr, refl, sym, ap, arith, Some, slice_get}
use Rattle.site_store.specs.Words.{Contents, Kept, work, IsOpenAt, GoesOn, goes_none, stops_as}
use Rattle.site_store.specs.declared.sites.Sites.{Sites}
use Rattle.repl_model.specs.Words.{ShowError, Member, SetDef, IsSound, World, KnownSet}
use Rattle.repl_types.specs.declared.call_errors.ShowError.TheVariants as errors
use Rattle.set_places.specs.declared.placed_set.PlacedSet.{PlacedSet}
use Rattle.set_places.specs.Places.{IsPlacedAs}
use Rattle.set_places.specs.laws.Known.{source_def_is}
use Rattle.target_steps.specs.declared.step.Step.{Step}
use Rattle.target_steps.specs.declared.step.Step.TheVariants.{Refresh, Block}
use Rattle.target_steps.specs.Taking.{no_counts, TakesMember, ReadsForStep, CountsReads}
use Rattle.shows.specs.sets.Showing.{FailsShowing}
use Rattle.apply_copies.specs.Copies.{IsCopyAt}
use Rattle.apply_copies.specs.Showing as copies
use Rattle.apply_copies.specs.laws.TargetLaws.{kind_is}
use Rattle.member_targets.specs.Kinds.{is_taken, ShowsMemberDamage}
use Rattle.member_targets.specs.Showing.{IsTakenAt, ShowsDamage}

-- a member of a kind that is carried out is a user copy
pub copy_at : (def : SetDef) (place : ℕ) → IsTakenAt def place → IsCopyAt def place
copy_at def place at = record { member = at.member; there = at.there; copy = sym (kind_is at.member.kind at.taken) }

-- ---- a step

module _ {K : Type 0} (kept : K → Kept) (s0 : Sites K) (set : PlacedSet) (place : ℕ) (other : IsCopyAt set.at_target.def place → ⊥) (step : Step) where
  -- in a world the member at the place isn't one of a kind that is carried out
  not_taken : (w : World) (k : KnownSet) → IsSound w → IsPlacedAs w k set → (member : Member) → slice_get k.at_source.def.members place ≡ Some member → is_taken member.kind ≡ true → ⊥
  not_taken w k sound placed member at taken = other (copy_at set.at_target.def place (record {
    member = member;
    there = ap (λ (def : SetDef). slice_get def.members place) (sym (source_def_is w k set sound placed)) ∙ at;
    taken = taken;
  }))

  -- so nothing is to be done
  takes_none : (c : Contents) → TakesMember kept is_taken s0 set place step ShowsMemberDamage no_counts c c
  takes_none c = record {
    others = λ w k sound placed a n elsewhere. refl;
    shown = λ a cause h. h;
    taken = λ w k sound placed reveals member source read_only can at named taken was. absurd (not_taken w k sound placed member at taken);
  }

  -- and nothing is done
  pub goes_past : IsOpenAt (work kept s0) set.target → GoesOn kept s0 s0 set.target (TakesMember kept is_taken s0 set place step ShowsMemberDamage no_counts)
  goes_past open_at = goes_none kept s0 set.target (TakesMember kept is_taken s0 set place step ShowsMemberDamage no_counts) open_at takes_none

module _ {K : Type 0} (kept : K → Kept) (s0 : Sites K) where
  -- nothing is read
  pub none_read : (step : Step) → ReadsForStep step kept s0 s0
  none_read (Refresh point time) = tt
  none_read (Block low low_time high time base) = λ s a other. omega arith

  -- as often as nothing is counted
  pub none_counted : (step : Step) → CountsReads step 1 kept s0 s0 no_counts
  none_counted (Refresh point time) = tt
  none_counted (Block low low_time high time base) = λ few s. omega arith

-- ---- what is shown

-- damage of the rows of a user copy is damage of a target
pub copies_show : {K : Type 0} (kept : K → Kept) (s0 s1 : Sites K) (before now : ℕ) (e : ShowError) → FailsShowing kept s0 s1 (copies.ShowsDamage kept s0) before now e → FailsShowing kept s0 s1 (ShowsDamage kept s0) before now e
copies_show kept s0 s1 before now (errors.Fault e) f = (stops_as kept s0 s1 (copies.ShowsDamage kept s0) (ShowsDamage kept s0) e (λ s a cause h. (h.0, inr h.1)) f.0, f.1)
copies_show kept s0 s1 before now errors.Output f = f
