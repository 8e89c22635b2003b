-- How a refresh of a set is asked for.
use Rattle.std.proofs.Common.{◌≡◌, ◌∙◌, inl, inr, ℕ, ◌<◌, List, [], ◌∷◌, length, cond, Bool, true, false, true≢false, refl, sym, ap, subst, Option, Some, None, IsSome, append-nil}
use Rattle.std.specs.Option.{option_map_or}
use Rattle.world_store.specs.Words.{Stands}
use Rattle.site_store.specs.Words.{Contents, Kept, Takes, TakesPrefix, KeepsServers, HoldsOrInDoubt, IsNoDamage, AllClosed, names, held, work}
use Rattle.site_store.specs.declared.sites.Sites.{Sites}
use Rattle.repl_model.specs.Words.{SetId, Refusal, Fault, SetDef, is_replica_set, World, KnownSet}
use Rattle.repl_types.specs.declared.fault.Fault.TheVariants as faults
use Rattle.repl_types.specs.declared.refusal.GapPlace.TheVariants as places
use Rattle.repl_types.specs.declared.refusal.Refusal.TheVariants as refusals
use Rattle.reply_text.specs.Replies.{reply_line}
use Rattle.reply_text.specs.declared.reply.Reply.TheVariants as replies
use Rattle.run_core.specs.Runs.{Event, commits, writes, Went, Stopped}
use Rattle.run_core.specs.laws.Runs.{stopped_before, stopped_after, stopped_in_line}
use Rattle.world_commits.specs.actions.Flags.{with_flag}
use Rattle.set_places.specs.Places.{IsKnownAs, IsPlacedAs, IsPlaced}
use Rattle.set_places.specs.Steps.{HasBecome, MayHaveBecome, BlamesUnchanged}
use Rattle.set_places.specs.declared.placed_set.PlacedSet.{PlacedSet}
use Rattle.set_places.specs.laws.Commits.{unchanged_if_damaged}
use Rattle.subs_sets.specs.Flagging.{IsBlamed, IsRefused, ShowsStateDamage}
use Rattle.subs_sets.specs.Rules.{state_rules}
use Rattle.run_commands.specs.parts.Causes.{PartHasCause}
use Rattle.run_commands.specs.parts.Refusing.{refused}
use Rattle.run_commands.specs.parts.RunErrors.{error_of_fault}
use Rattle.run_commands.specs.declared.parts.run_error.RunError.{RunError}
use Rattle.run_commands.specs.parts.laws.Damage.{layer_shown, fault_cause}
use Rattle.run_commands.specs.refresh.RefreshEvents.{known_refresh_events, refresh_events}
use Rattle.run_commands.proofs.StepDamage.{state_shown}

-- the line that says that a flag is set
abbrev pub flag_line : List ℕ
flag_line = reply_line replies.Flagged

-- ---- what is done

module _ (w : World) (k : KnownSet) (set : PlacedSet) (placed : IsPlacedAs w k set) where
  -- at a known set, by whether it is a replica set
  at_set : (b : Bool) → is_replica_set set.at_target.def ≡ b → cond b (refused (refusals.RefreshDisabled (places.Replica set.at_target.def.id))) (commits (with_flag true w k) ∷ writes flag_line ∷ []) ≡ known_refresh_events w k
  at_set b is = subst (λ (def : SetDef). cond b (refused (refusals.RefreshDisabled (places.Replica set.at_target.def.id))) (commits (with_flag true w k) ∷ writes flag_line ∷ []) ≡ cond (is_replica_set def) (refused (refusals.RefreshDisabled (places.Replica def.id))) (commits (with_flag true w k) ∷ writes flag_line ∷ [])) placed.target_def
      (ap (λ (c : Bool). cond c (refused (refusals.RefreshDisabled (places.Replica set.at_target.def.id))) (commits (with_flag true w k) ∷ writes flag_line ∷ [])) (sym is))

  -- it is one
  pub replica_refused : is_replica_set set.at_target.def ≡ true → refused (refusals.RefreshDisabled (places.Replica set.at_target.def.id)) ≡ known_refresh_events w k
  replica_refused is = at_set true is

  -- it isn't
  pub set_flagged : is_replica_set set.at_target.def ≡ false → commits (with_flag true w k) ∷ writes flag_line ∷ [] ≡ known_refresh_events w k
  set_flagged is = at_set false is

module _ (id : SetId) (w : World) where
  -- at what the world has of the set
  abbrev at_known : Option KnownSet → List (Event World)
  at_known o = option_map_or (known_refresh_events w) o (refused (refusals.NoSuchSet id.qual (Some id.name)))

  -- no set has the name
  pub none_known : IsKnownAs w id None → refused (refusals.NoSuchSet id.qual (Some id.name)) ≡ refresh_events id w
  none_known none = ap at_known (sym none)

  -- a set has it
  pub one_known : (set : PlacedSet) (known : IsKnownAs w id (Some set)) → known_refresh_events w known.0 ≡ refresh_events id w
  one_known set known = ap at_known (sym known.1)

-- ---- how far it came

module _ {K : Type 0} (kept : K → Kept) (s0 s1 : Sites K) (w v : World) (t : Option (List ℕ)) where
  -- for which world servers stand, by their names at the beginning
  abbrev Means : List (Option Contents) → World → Type 0
  Means = Stands (names s0)

  -- the flag was set, and its line was written
  pub wrote_flag : (u : Option (List ℕ)) → HasBecome kept s0 s1 v → Takes t u flag_line → Went Means (commits v ∷ writes flag_line ∷ []) w (held kept s1) t u
  wrote_flag u become took = record { stands = become; bytes = subst (Takes t u) (sym (append-nil flag_line)) took }

  -- or a prefix of the line
  pub began_flag : (u : Option (List ℕ)) → HasBecome kept s0 s1 v → TakesPrefix t u flag_line → Stopped Means (commits v ∷ writes flag_line ∷ []) w (held kept s1) t u
  began_flag u become took = stopped_after Means w v (writes flag_line ∷ []) (held kept s1) t u (stopped_in_line Means v flag_line [] (held kept s1) t u become took)

  -- the commit failed, or what comes before it
  pub failed_flag : (e : Fault) → MayHaveBecome kept s0 s1 w v e → Stopped Means (commits v ∷ writes flag_line ∷ []) w (held kept s1) t t
  failed_flag e may = elim may.stands [
    | inl same ↦ stopped_before Means w (commits v ∷ writes flag_line ∷ []) (held kept s1) t same
    | inr became ↦ stopped_after Means w v (writes flag_line ∷ []) (held kept s1) t t (stopped_before Means v (writes flag_line ∷ []) (held kept s1) t became.2)
  ]

-- ---- why it ends

-- no set but a replica set is refused
no_refusal : (set : PlacedSet) → is_replica_set set.at_target.def ≡ false → (refusal : Refusal) → IsRefused set refusal → ⊥
no_refusal set is (refusals.RefreshDisabled place) refuses = true≢false (sym refuses.0 ∙ is)
no_refusal set is other refuses = refuses

module _ {K : Type 0} (kept : K → Kept) (s0 s1 : Sites K) (set : PlacedSet) (is : is_replica_set set.at_target.def ≡ false) where
  -- so no refusal ends it
  pub flag_run : (e : Fault) → IsBlamed kept s0 s1 set e → IsSome (error_of_fault e)
  flag_run faults.Memory blamed = refl
  flag_run (faults.Keeper s) blamed = refl
  flag_run (faults.Damaged s a cause) blamed = refl
  flag_run (faults.Refused refusal) blamed = absurd (no_refusal set is refusal blamed.0)

  module _ (placed : IsPlaced kept s0 set) (closed : AllClosed (work kept s0)) (keeps : KeepsServers kept s0 s1) where
    -- why the run ends at a fault
    pub flag_cause : (before now : ℕ) (e : Fault) (error : RunError) → Some error ≡ error_of_fault e → IsBlamed kept s0 s1 set e → ((w : World) → Stands (names s0) (held kept s0) w → IsNoDamage e) → PartHasCause kept s0 s1 before now error
    flag_cause before now e error says blamed none = by_fault e says blamed none
      where
        by_blames : (e : Fault) → Some error ≡ error_of_fault e → BlamesUnchanged kept s0 s1 (ShowsStateDamage kept s0 set.target) e → ((w : World) → Stands (names s0) (held kept s0) w → IsNoDamage e) → PartHasCause kept s0 s1 before now error
        by_blames e says blames none = fault_cause kept s0 s1 closed keeps (ShowsStateDamage kept s0 set.target) (layer_shown kept s0 state_rules state_shown (λ n. n ≡ set.target) (λ n there. subst (λ (m : ℕ). m < length (names s0)) (sym there) placed.target.within)) before now e error says blames.blames (λ n a cause met. unchanged_if_damaged kept s0 s1 n a cause (subst (HoldsOrInDoubt kept s0 s1) met blames.holds)) none

        by_fault : (e : Fault) → Some error ≡ error_of_fault e → IsBlamed kept s0 s1 set e → ((w : World) → Stands (names s0) (held kept s0) w → IsNoDamage e) → PartHasCause kept s0 s1 before now error
        by_fault faults.Memory says blamed none = by_blames faults.Memory says blamed none
        by_fault (faults.Keeper s) says blamed none = by_blames (faults.Keeper s) says blamed none
        by_fault (faults.Damaged s a cause) says blamed none = by_blames (faults.Damaged s a cause) says blamed none
        by_fault (faults.Refused refusal) says blamed none = absurd cc
