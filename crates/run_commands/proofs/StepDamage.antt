-- Damage that a step met is damage by the rules of a run.
use Rattle.std.proofs.Common.{◌≡◌, ◌⊎◌, inl, inr, ℕ, ◌<◌, List, length, map, false, sym, subst, true≢false, zero, Option, Some, None, IfSome}
use Rattle.world_store.specs.Words.{Stands}
use Rattle.site_store.specs.Words.{Contents, Kept, KeepsServers, HoldsOrInDoubt, Rules, joined, Shows, Damages, IsNoDamage, shown_first, shown_second, AllClosed, names, held, work, sees, if_seen}
use Rattle.site_store.specs.declared.sites.Sites.{Sites}
use Rattle.repl_model.specs.Words.{Area, DamageCause, Placed, Fault, SetDef, source_tables, is_signal, World, in_map}
use Rattle.repl_types.specs.declared.area.Area.TheVariants as areas
use Rattle.repl_types.specs.declared.status.DamageCause.TheVariants as causes
use Rattle.repl_types.specs.declared.fault.Fault.TheVariants as faults
use Rattle.set_places.specs.laws.Commits.{unchanged_if_damaged}
use Rattle.source_log.specs.Rules.{all_rules}
use Rattle.source_log.specs.Units.{calls_for_table, is_unfit_table}
use Rattle.subs_sets.specs.Rules as sets
use Rattle.subs_sets.specs.Rules.{captured_rules, state_rules}
use Rattle.set_places.specs.Members.{member_rules}
use Rattle.set_places.specs.Places.{IsPlaced}
use Rattle.set_places.specs.Steps.{BlamesUnchanged}
use Rattle.set_places.specs.Targets.{DefinesTargets}
use Rattle.set_places.specs.laws.Targets.{targets_defined}
use Rattle.set_places.specs.declared.placed_set.PlacedSet.{PlacedSet}
use Rattle.apply_cycle.specs.Noting.{mark_rules}
use Rattle.apply_cycle.specs.Signals.{start_of, signal_rules}
use Rattle.apply_cycle.specs.Taking.{ShowsAtEnds}
use Rattle.member_targets.specs.Kinds.{ShowsMemberDamage, ShowsTargetDamage}
use Rattle.apply_cycle.specs.Stepping.{IsBlamed, ShowsDamage}
use Rattle.run_commands.specs.parts.Causes.{PartHasCause, FoundByRead}
use Rattle.run_commands.specs.parts.Damage as running
use Rattle.run_commands.specs.parts.Damage.{rules}
use Rattle.run_commands.specs.parts.RunErrors.{error_of_fault}
use Rattle.run_commands.specs.declared.parts.run_error.RunError.{RunError}
use Rattle.run_commands.specs.parts.laws.Damage.{IsShown, append_shown, set_shown, seen_after, fault_reads, blamed_cause}

-- ---- of a signal

-- no start calls for its table
no_start_calls : (tables : List (List ℕ)) (a : Area) (t : ℕ) (key : List ℕ) → calls_for_table (map start_of tables) a t key → ⊥
no_start_calls tables areas.Defs zero key h = let r = in_map start_of tables h.0 h.1 in true≢false (subst (λ (p : Placed). is_signal p.change ≡ false) r.2 h.2)
no_start_calls tables a t key h = absurd h

-- nor is a table unfit for it
no_start_unfit : (tables : List (List ℕ)) (a : Area) (t : ℕ) (key value : List ℕ) → is_unfit_table (map start_of tables) a t key value → ⊥
no_start_unfit tables areas.Defs zero key value h = let r = in_map start_of tables h.0 h.1 in true≢false (subst (λ (p : Placed). is_signal p.change ≡ false) r.2 h.2)
no_start_unfit tables a t key value h = absurd h

-- what the rules of a signal show, those of a run show
pub signal_shown : (def : SetDef) → IsShown (signal_rules def)
signal_shown def a (causes.Spelling bytes) saw h = elim h.1 [
  | inl k ↦ (h.0, inl ((λ all. k.0 ((all.1.1.1.0, tt), tt)), k.1))
  | inr v ↦ (h.0, inr ((λ all. v.0 ((all.1.1.1.0, all.1.1.1.1.1.1.0), all.1.1.1.1.1.0.0.1.0)), v.1))
]
signal_shown def a (causes.Absent key) saw h = (
  h.0,
  if_seen saw (λ c. (c a h.0 key ≡ None) × (signal_rules def).is_needed a h.0 key c) (λ c. (c a h.0 key ≡ None) × rules.is_needed a h.0 key c) (λ c p. (
    p.0,
    elim p.1 [
      | inl q ↦ elim q [
        | inl log ↦ inr (inr (inr (inl log)))
        | inr table ↦ absurd (no_start_calls (source_tables def) a h.0 key table)
      ]
      | inr mark ↦ inr (inr (inr (inr (inr (inl (inl (inr (inl mark))))))))
    ],
  )) h.1,
)
signal_shown def a (causes.Unfit bytes) saw h = (
  h.0,
  if_seen saw (λ c. (key : List ℕ) × (c a h.0 key ≡ Some bytes) × (signal_rules def).is_unfit a h.0 key bytes c) (λ c. (key : List ℕ) × (c a h.0 key ≡ Some bytes) × rules.is_unfit a h.0 key bytes c) (λ c p. (
    p.0,
    p.1,
    elim p.2 [
      | inl q ↦ elim q [
        | inl log ↦ inr (inr (inr (inl log)))
        | inr table ↦ absurd (no_start_unfit (source_tables def) a h.0 p.0 bytes table)
      ]
      | inr mark ↦ inr (inr (inr (inr (inr (inl (inl (inr (inl mark))))))))
    ],
  )) h.1,
)
signal_shown def a (causes.NoRest n) saw h = h

-- ---- of a set

-- what the rules of its source show
pub source_shown : IsShown sets.source_rules
source_shown a cause saw h = set_shown a cause saw (shown_first sets.source_rules state_rules a cause saw h)

-- those of its state
pub state_shown : IsShown state_rules
state_shown a cause saw h = set_shown a cause saw (shown_second sets.source_rules state_rules a cause saw h)

-- and those of its mark
mark_shown : IsShown mark_rules
mark_shown a cause saw h = source_shown a cause saw (shown_second member_rules (joined mark_rules captured_rules) a cause saw (shown_first mark_rules captured_rules a cause saw h))

module _ {K : Type 0} (kept : K → Kept) (s0 s1 : Sites K) (set : PlacedSet) (placed : IsPlaced kept s0 set) (closed : AllClosed (work kept s0)) (keeps : KeepsServers kept s0 s1) where
  -- what a server was seen to have, by the rules of a run
  abbrev Shown : ℕ → Area → DamageCause → Type 0
  Shown n a cause = (n < length (names s0)) × (Shows rules a cause (sees kept s0 n) ⊎ ShowsTargetDamage a cause (sees kept s0 n))

  -- of one of the ends
  at_source : (layer : Rules) → IsShown layer → (n : ℕ) (a : Area) (cause : DamageCause) → Damages (λ s. s ≡ set.source) layer kept s0 n a cause → Shown n a cause
  at_source layer all n a cause h = (subst (λ (m : ℕ). m < length (names s0)) (sym h.0) placed.source.within, inl (all a cause (sees kept s0 n) h.1))

  at_target : (layer : Rules) → IsShown layer → (n : ℕ) (a : Area) (cause : DamageCause) → Damages (λ s. s ≡ set.target) layer kept s0 n a cause → Shown n a cause
  at_target layer all n a cause h = (subst (λ (m : ℕ). m < length (names s0)) (sym h.0) placed.target.within, inl (all a cause (sees kept s0 n) h.1))

  -- of targets
  at_ends : (n : ℕ) (a : Area) (cause : DamageCause) → ShowsAtEnds kept ShowsMemberDamage s0 set n a cause → Shown n a cause
  at_ends n a cause (inl h) = (subst (λ (m : ℕ). m < length (names s0)) (sym h.0) placed.source.within, inr (inl h.1))
  at_ends n a cause (inr h) = (
    subst (λ (m : ℕ). m < length (names s0)) (sym h.0) placed.target.within,
    inr (inr (set.at_target, subst (λ (m : ℕ). IfSome (sees kept s0 m) (DefinesTargets set.at_target)) (sym h.0) (targets_defined kept s0 set placed.target), h.1)),
  )

  -- whichever action met it
  step_shown : (n : ℕ) (a : Area) (cause : DamageCause) → ShowsDamage kept ShowsMemberDamage s0 set n a cause → Shown n a cause
  step_shown n a cause (inl next) = (next.0, inl (set_shown a cause (sees kept s0 n) next.1))
  step_shown n a cause (inr (inl signal)) = at_source (signal_rules set.at_source.def) (signal_shown set.at_source.def) n a cause signal
  step_shown n a cause (inr (inr (inl (inl (inl end))))) = at_source all_rules append_shown n a cause end
  step_shown n a cause (inr (inr (inl (inl (inr state))))) = at_target state_rules state_shown n a cause state
  step_shown n a cause (inr (inr (inl (inr rows)))) = at_ends n a cause rows
  step_shown n a cause (inr (inr (inr (inl (inl (inl captured)))))) = at_source sets.source_rules source_shown n a cause captured
  step_shown n a cause (inr (inr (inr (inl (inl (inr state)))))) = at_target state_rules state_shown n a cause state
  step_shown n a cause (inr (inr (inr (inl (inr rows))))) = at_ends n a cause rows
  step_shown n a cause (inr (inr (inr (inr (inl state))))) = at_target state_rules state_shown n a cause state
  step_shown n a cause (inr (inr (inr (inr (inr mark))))) = at_source mark_rules mark_shown n a cause mark

  -- where nothing changed, it is shown at the end
  shown_after : held kept s1 ≡ held kept s0 → (n : ℕ) (a : Area) (cause : DamageCause) → Shown n a cause → running.ShowsDamage kept s1 n a cause
  shown_after same n a cause h = (
    subst (λ (l : List (List ℕ)). n < length l) (sym keeps.names) h.0,
    subst (λ (saw : Option Contents). Shows rules a cause saw ⊎ ShowsTargetDamage a cause saw) (seen_after kept s0 s1 closed keeps same n) h.1,
  )

  -- what it found was read
  pub step_reads : (e : Fault) (error : RunError) → Some error ≡ error_of_fault e → IsBlamed kept s0 s1 (ShowsDamage kept ShowsMemberDamage s0 set) e → FoundByRead error
  step_reads e error is blamed = by_fault e is blamed
    where
      by_blames : (e : Fault) → Some error ≡ error_of_fault e → BlamesUnchanged kept s0 s1 (ShowsDamage kept ShowsMemberDamage s0 set) e → FoundByRead error
      by_blames e is blames = fault_reads kept s0 s1 (ShowsDamage kept ShowsMemberDamage s0 set) step_shown e error is blames.blames

      by_fault : (e : Fault) → Some error ≡ error_of_fault e → IsBlamed kept s0 s1 (ShowsDamage kept ShowsMemberDamage s0 set) e → FoundByRead error
      by_fault faults.Memory is blamed = by_blames faults.Memory is blamed
      by_fault (faults.Keeper s) is blamed = by_blames (faults.Keeper s) is blamed
      by_fault (faults.Damaged s a cause) is blamed = by_blames (faults.Damaged s a cause) is blamed
      by_fault (faults.Refused refusal) is blamed = absurd cc

  -- why a run ends at a step that failed
  pub step_cause : (before now : ℕ) (e : Fault) (error : RunError) → Some error ≡ error_of_fault e → IsBlamed kept s0 s1 (ShowsDamage kept ShowsMemberDamage s0 set) e → ((w : World) → Stands (names s0) (held kept s0) w → IsNoDamage e) → PartHasCause kept s0 s1 before now error
  step_cause before now e error is blamed none = by_fault e is blamed none
    where
      by_blames : (e : Fault) → Some error ≡ error_of_fault e → BlamesUnchanged kept s0 s1 (ShowsDamage kept ShowsMemberDamage s0 set) e → ((w : World) → Stands (names s0) (held kept s0) w → IsNoDamage e) → PartHasCause kept s0 s1 before now error
      by_blames e is blames none = blamed_cause kept s0 s1 closed keeps (ShowsDamage kept ShowsMemberDamage s0 set) before now e error is blames.blames (λ n a cause met shows. shown_after (unchanged_if_damaged kept s0 s1 n a cause (subst (HoldsOrInDoubt kept s0 s1) met blames.holds)) n a cause (step_shown n a cause shows)) none

      by_fault : (e : Fault) → Some error ≡ error_of_fault e → IsBlamed kept s0 s1 (ShowsDamage kept ShowsMemberDamage s0 set) e → ((w : World) → Stands (names s0) (held kept s0) w → IsNoDamage e) → PartHasCause kept s0 s1 before now error
      by_fault faults.Memory is blamed none = by_blames faults.Memory is blamed none
      by_fault (faults.Keeper s) is blamed none = by_blames (faults.Keeper s) is blamed none
      by_fault (faults.Damaged s a cause) is blamed none = by_blames (faults.Damaged s a cause) is blamed none
      by_fault (faults.Refused refusal) is blamed none = absurd cc
