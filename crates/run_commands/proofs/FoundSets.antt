-- A set that was found and is carried out.
use Rattle.std.proofs.Common.{◌≡◌, List, [], ◌∷◌, true, not, sym, subst, IsTrue, Some}
use Rattle.std.proofs.lemmas.Bool.{and_parts}
use Rattle.std.specs.List.{AllByRecursion, list_all}
use Rattle.site_store.specs.Words.{Kept}
use Rattle.site_store.specs.declared.sites.Sites.{Sites}
use Rattle.repl_model.specs.Words.{Fault, Member, SetDef, after_action, next_action, is_replica_set, IsSound, World, KnownSet}
use Rattle.repl_types.specs.declared.fault.Fault.TheVariants as faults
use Rattle.set_places.specs.Places.{IsPlacedAs, IsReadOnly}
use Rattle.set_places.specs.Steps.{MayHaveBecome}
use Rattle.set_places.specs.declared.placed_set.PlacedSet.{PlacedSet}
use Rattle.set_places.specs.laws.Known.{source_def_is}
use Rattle.apply_cycle.specs.Steps.{TakesEach}
use Rattle.member_targets.specs.Kinds.{is_taken}
use Rattle.apply_cycle.specs.Stepping.{HasFailed}
use Rattle.run_commands.specs.parts.RunErrors.{error_of_fault}
use Rattle.run_commands.specs.declared.parts.run_error.RunError.{RunError}
use Rattle.run_commands.specs.apply.StepEvents.{is_carried_out}
use Rattle.run_commands.proofs.Applying.{not_replicas}

-- members that are user copies are of a kind that is taken
all_taken : (members : List Member) → list_all (λ member. is_taken member.kind) members ≡ true → AllByRecursion (λ member. is_taken member.kind ≡ true) members
all_taken [] all = tt
all_taken (member ∷ members) all =
    let both = and_parts (is_taken member.kind) (list_all (λ m. is_taken m.kind) members) all in
    (both.0, all_taken members both.1)

module _ (set : PlacedSet) (carried : is_carried_out set.at_target.def ≡ true) (w : World) (k : KnownSet) (placed : IsPlacedAs w k set) where
  -- it is read-only in the world
  pub is_read_only : IsReadOnly k
  is_read_only = subst (λ (def : SetDef). IsTrue (not (is_replica_set def))) placed.target_def (not_replicas set.at_target.def.members carried)

  -- all kinds of its members are taken
  pub takes_each : IsSound w → TakesEach is_taken k.at_source.def
  takes_each sound = subst (TakesEach is_taken) (sym (source_def_is w k set sound placed)) (all_taken set.at_target.def.members carried)

-- a step that failed, and ends the run, may have been made
pub may_have_made : {K : Type 0} (kept : K → Kept) (s0 s1 : Sites K) (w : World) (k : KnownSet) (e : Fault) (error : RunError) → Some error ≡ error_of_fault e → HasFailed kept s0 s1 w k (next_action k) e → MayHaveBecome kept s0 s1 w (after_action w k (next_action k)) e
may_have_made kept s0 s1 w k faults.Memory error is failed = failed
may_have_made kept s0 s1 w k (faults.Keeper s) error is failed = failed
may_have_made kept s0 s1 w k (faults.Damaged s a cause) error is failed = failed
may_have_made kept s0 s1 w k (faults.Refused refusal) error is failed = absurd cc
