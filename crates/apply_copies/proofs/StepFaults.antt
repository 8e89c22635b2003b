-- Why a step of a copy failed: proofs.
use Rattle.std.proofs.Common.{◌≡◌, ◌⊎◌, ℕ, ◌<◌, length, inl, inr, ap, subst, ◌∙◌, Option, None, Result, Ok, Err, IfErr}
use Rattle.std.specs.List.{AllByRecursion}
use Rattle.world_store.specs.Words.{Holds}
use Rattle.site_store.specs.Words.{Contents, Kept, Blames, Rules, Shows, Damages, IsUndamaged, IsNoDamage, sees, Stops, stops_as}
use Rattle.site_store.specs.declared.sites.Sites.{Sites}
use Rattle.repl_model.specs.Words.{Area, DamageCause, Counts, Fault, IsMember, SetDef, IsSound, LogIsSound, synchpoint, Server, World, at_place_in, In, at_one}
use Rattle.repl_types.specs.declared.area.Area.TheVariants as areas
use Rattle.repl_types.specs.declared.fault.Fault.TheVariants as faults
use Rattle.set_places.specs.declared.placed_set.PlacedSet.{PlacedSet}
use Rattle.set_places.specs.Places.{IsPlacedAtSource}
use Rattle.set_places.specs.laws.Sources.{source_is_of}
use Rattle.target_steps.specs.declared.step.Step.{Step}
use Rattle.target_steps.specs.Taking.{ShowsAtEnds, ForMember}
use Rattle.set_places.specs.Targets.{target_number, HasTargetOfKind}
use Rattle.set_places.specs.laws.Targets.{number_is}
use Rattle.apply_copies.specs.Rules.{target_rules}
use Rattle.apply_copies.specs.Copies.{is_user_copy, ShowsCopyDamage}
use Rattle.apply_copies.proofs.CopyTables.{table_is}
use Rattle.apply_copies.specs.laws.CopyRows.{copied_undamaged}

module _ {K : Type 0} (kept : K → Kept) (rules : Rules) (shown : (a : Area) (cause : DamageCause) (saw : Option Contents) → Shows rules a cause saw → ShowsCopyDamage None a cause saw) (s0 : Sites K) (set : PlacedSet) where
  -- what the source was seen to have shows damage by its rules, or the target with a number by its own
  abbrev pub ShowsByRules : ℕ → ℕ → Area → DamageCause → Type 0
  ShowsByRules number s a cause = Damages (λ q. q ≡ set.source) rules kept s0 s a cause ⊎ Damages (λ q. q ≡ set.target) (target_rules number) kept s0 s a cause

  -- damage of a copy or of its source is shown at an end of the set
  shown_at_ends : (number : ℕ) (s1 : Sites K) (e : Fault) → HasTargetOfKind is_user_copy number set.at_target → Stops kept s0 s1 (ShowsByRules number) e → Stops kept s0 s1 (ShowsAtEnds kept ShowsCopyDamage s0 set) e
  shown_at_ends number s1 e has stops = stops_as kept s0 s1 (ShowsByRules number) (ShowsAtEnds kept ShowsCopyDamage s0 set) e at_end stops
    where
      at_end : (s : ℕ) (a : Area) (cause : DamageCause) → ShowsByRules number s a cause → ShowsAtEnds kept ShowsCopyDamage s0 set s a cause
      at_end s a cause (inl source) = inl (source.0, shown a cause (sees kept s0 s) source.1)
      at_end s a cause (inr target) = inr (target.0, (number, has, target.1))

  -- a set whose servers have what a world calls for shows no damage, so none was reported
  no_damage : (place : ℕ) (step : Step) (s1 : Sites K) (e : Fault) → ((w : World) (server : Server) (c : Contents) → IsSound w → In server w → Holds w server c → IsUndamaged rules c) → IsPlacedAtSource kept s0 set → place < length set.at_source.def.members → Stops kept s0 s1 (ShowsByRules (target_number set.at_target.number place)) e → ForMember kept is_user_copy s0 set place step (IsNoDamage e)
  no_damage place step s1 e source_sound placed_at within stops = λ c saw w k sound placed reveals member source read_only can at named copy was.
      let i = at_place_in w set.source k.source placed.source in
      let fits : IsMember member = at_one IsMember k.at_source.def.members member (subst (λ (def : SetDef). AllByRecursion IsMember def.members) placed.source_def placed_at.fits.1.5.1) (at_place_in k.at_source.def.members place member at) in
      let here = ap (λ (n : ℕ). c areas.Target n) (number_is w k set place sound placed within) ∙ was ∙ table_is source member copy k.at_target.trail in
      none (target_number set.at_target.number place) e
      (λ a cause h. source_sound w k.source reveals.0 sound i reveals.2 a cause (subst (Shows rules a cause) reveals.1 h))
      (λ a cause h. copied_undamaged k.source source member (synchpoint k.at_target.trail) (target_number set.at_target.number place) c (at_one LogIsSound w k.source sound.logs i) (source_is_of member.source k.source source named).log fits here a cause (subst (Shows (target_rules (target_number set.at_target.number place)) a cause) saw h))
      stops.blames
    where
      none : (number : ℕ) (e : Fault) → ((a : Area) (cause : DamageCause) → Shows rules a cause (sees kept s0 set.source) → ⊥) → ((a : Area) (cause : DamageCause) → Shows (target_rules number) a cause (sees kept s0 set.target) → ⊥) → Blames kept s0 s1 (ShowsByRules number) e → IsNoDamage e
      none number faults.Memory source target blames = tt
      none number (faults.Keeper s) source target blames = tt
      none number (faults.Damaged s a cause) source target blames = elim blames.1 [
        | inl h ↦ source a cause (subst (λ (n : ℕ). Shows rules a cause (sees kept s0 n)) h.0 h.1)
        | inr h ↦ target a cause (subst (λ (n : ℕ). Shows (target_rules number) a cause (sees kept s0 n)) h.0 h.1)
      ]
      none number (faults.Refused refusal) source target blames = blames

  -- so it is of what a call answers
  pub fault_at_ends : (number : ℕ) (s1 : Sites K) (result : Result Counts Fault) → HasTargetOfKind is_user_copy number set.at_target → IfErr result (Stops kept s0 s1 (ShowsByRules number)) → IfErr result (Stops kept s0 s1 (ShowsAtEnds kept ShowsCopyDamage s0 set))
  fault_at_ends number s1 (Ok counts) has stops = tt
  fault_at_ends number s1 (Err e) has stops = shown_at_ends number s1 e has stops

  pub answer_undamaged : (place : ℕ) (step : Step) (s1 : Sites K) (result : Result Counts Fault) → ((w : World) (server : Server) (c : Contents) → IsSound w → In server w → Holds w server c → IsUndamaged rules c) → IsPlacedAtSource kept s0 set → place < length set.at_source.def.members → IfErr result (Stops kept s0 s1 (ShowsByRules (target_number set.at_target.number place))) → IfErr result (λ e. ForMember kept is_user_copy s0 set place step (IsNoDamage e))
  answer_undamaged place step s1 (Ok counts) source_sound placed_at within stops = tt
  answer_undamaged place step s1 (Err e) source_sound placed_at within stops = no_damage place step s1 e source_sound placed_at within stops
