-- Damage that a part of a run met, by the rules of one of its layers, and why the run ends.
use Rattle.std.proofs.Common.{◌≡◌, ◌∙◌, ◌⊎◌, inl, inr, ℕ, List, [], ◌<◌, length, refl, sym, ap, subst, Option, Some, None, slice_index_or}
use Rattle.std.proofs.lemmas.Option.{same_Some}
use Rattle.world_store.specs.Words.{Stands}
use Rattle.site_store.specs.Words.{Contents, Kept, seen_of, AllClosed, names, held, work, sees, Bounds, IsRead, KeepsServers, Blames, Fails, Rules, joined, Shows, Damages, IsNoDamage, keeps_passed, shown_first, shown_second}
use Rattle.site_store.specs.declared.sites.Sites.{Sites}
use Rattle.repl_model.specs.Words.{Area, DamageCause, Fault, World}
use Rattle.repl_types.specs.declared.status.DamageCause.TheVariants as causes
use Rattle.repl_types.specs.declared.fault.Fault.TheVariants as faults
use Rattle.stored_defs.specs.Rules.{rules as stored_rules}
use Rattle.shows.specs.servers.Rules.{rules as status_rules}
use Rattle.shows.specs.tables.Rules.{rules as source_rules}
use Rattle.source_log.specs.Rules.{all_rules as append_rules}
use Rattle.source_log.specs.Units.{table_rules}
use Rattle.capture_core.specs.Rules.{rules as capture_rules}
use Rattle.subs_sets.specs.Rules.{rules as set_rules}
use Rattle.shows.specs.sets.Rules.{rules as shown_rules}
use Rattle.member_targets.specs.Kinds.{ShowsTargetDamage}
use Rattle.member_targets.specs.Showing.{ShowsDamage as ShowsTargets}
use Rattle.member_targets.specs.laws.Kinds.{no_rest_of_targets}
use Rattle.run_commands.specs.parts.Causes.{PartHasCause, FoundByRead}
use Rattle.run_commands.specs.parts.Damage.{rules, ShowsDamage}
use Rattle.run_commands.specs.parts.RunErrors.{error_of_fault}
use Rattle.run_commands.specs.declared.parts.run_error.RunError.{RunError}
use Rattle.run_commands.specs.declared.parts.run_error.RunError.TheVariants as errors

-- ---- what the rules of one layer show, those of a run show

-- the last of the rules, from those of one layer on
abbrev after_sets : Rules
after_sets = joined (table_rules []) shown_rules

abbrev after_capture : Rules
after_capture = joined set_rules after_sets

abbrev after_append : Rules
after_append = joined capture_rules after_capture

abbrev after_source : Rules
after_source = joined append_rules after_append

abbrev after_status : Rules
after_status = joined source_rules after_source

abbrev after_stored : Rules
after_stored = joined status_rules after_status

-- damage that some rules show, those of a run show
abbrev pub IsShown : Rules → Type 0
IsShown layer = (a : Area) (cause : DamageCause) (saw : Option Contents) → Shows layer a cause saw → Shows rules a cause saw

-- of definitions
pub stored_shown : IsShown stored_rules
stored_shown a cause saw = shown_first stored_rules after_stored a cause saw

-- what comes after them
rest_shown : IsShown after_stored
rest_shown a cause saw = shown_second stored_rules after_stored a cause saw

-- of how far a server is
pub status_shown : IsShown status_rules
status_shown a cause saw shows = rest_shown a cause saw (shown_first status_rules after_status a cause saw shows)

rest_of_status : IsShown after_status
rest_of_status a cause saw shows = rest_shown a cause saw (shown_second status_rules after_status a cause saw shows)

-- of a source
pub source_shown : IsShown source_rules
source_shown a cause saw shows = rest_of_status a cause saw (shown_first source_rules after_source a cause saw shows)

rest_of_source : IsShown after_source
rest_of_source a cause saw shows = rest_of_status a cause saw (shown_second source_rules after_source a cause saw shows)

-- of what is read before a log is made longer
pub append_shown : IsShown append_rules
append_shown a cause saw shows = rest_of_source a cause saw (shown_first append_rules after_append a cause saw shows)

rest_of_append : IsShown after_append
rest_of_append a cause saw shows = rest_of_source a cause saw (shown_second append_rules after_append a cause saw shows)

-- of what is read when a log is captured
pub capture_shown : IsShown capture_rules
capture_shown a cause saw shows = rest_of_append a cause saw (shown_first capture_rules after_capture a cause saw shows)

rest_of_capture : IsShown after_capture
rest_of_capture a cause saw shows = rest_of_append a cause saw (shown_second capture_rules after_capture a cause saw shows)

-- of how far a set is
pub set_shown : IsShown set_rules
set_shown a cause saw shows = rest_of_capture a cause saw (shown_first set_rules after_sets a cause saw shows)

-- of what is shown of sets
pub sets_shown : IsShown shown_rules
sets_shown a cause saw shows = rest_of_capture a cause saw (shown_second set_rules after_sets a cause saw (shown_second (table_rules []) shown_rules a cause saw shows))

-- ---- damage of a run

-- what shows this damage shows it by the rules of a run
abbrev pub IsOfRun : {K : Type 0} → (K → Kept) → Sites K → (ℕ → Area → DamageCause → Type 0) → Type 0
IsOfRun kept sites damage = (n : ℕ) (a : Area) (cause : DamageCause) → damage n a cause → ShowsDamage kept sites n a cause

module _ {K : Type 0} (kept : K → Kept) (sites : Sites K) where
  -- so it is with what the rules of a layer show of servers that are there
  pub layer_shown : (layer : Rules) → IsShown layer → (at : ℕ → Type 0) → ((n : ℕ) → at n → n < length (names sites)) → IsOfRun kept sites (Damages at layer kept sites)
  layer_shown layer all at below n a cause h = (below n h.0, inl (all a cause (sees kept sites n) h.1))

  -- of any server
  pub all_shown : (layer : Rules) → IsShown layer → IsOfRun kept sites (Damages (λ n. n < length (names sites)) layer kept sites)
  all_shown layer all = layer_shown layer all (λ n. n < length (names sites)) (λ n lt. lt)

  -- and with what is shown of targets
  pub targets_shown : IsOfRun kept sites (ShowsTargets kept sites)
  targets_shown n a cause h = (h.0, inr h.1)

-- damage that is shown was read
pub shown_is_read : {K : Type 0} (kept : K → Kept) (sites : Sites K) (n : ℕ) (a : Area) (cause : DamageCause) → ShowsDamage kept sites n a cause → IsRead cause
shown_is_read kept sites n a (causes.Spelling bytes) h = tt
shown_is_read kept sites n a (causes.Absent key) h = tt
shown_is_read kept sites n a (causes.Unfit bytes) h = tt
shown_is_read kept sites n a (causes.NoRest steps) h = elim h.1 [
  | inl by_rules ↦ absurd by_rules
  | inr of_targets ↦ absurd (no_rest_of_targets a steps (sees kept sites n) of_targets)
]

-- so a fault that it is reported by was found by a read
pub fault_reads : {K : Type 0} (kept : K → Kept) (s0 s1 : Sites K) (damage : ℕ → Area → DamageCause → Type 0) → IsOfRun kept s0 damage → (e : Fault) (error : RunError) → Some error ≡ error_of_fault e → Blames kept s0 s1 damage e → FoundByRead error
fault_reads kept s0 s1 damage shown faults.Memory error is blames = rw (same_Some error errors.Memory is) tt
fault_reads kept s0 s1 damage shown (faults.Keeper n) error is blames = rw (same_Some error (errors.KeeperFailed n) is) tt
fault_reads kept s0 s1 damage shown (faults.Damaged n a cause) error is blames = rw (same_Some error (errors.Damaged n a cause) is) (shown_is_read kept s0 n a cause (shown n a cause blames.1))
fault_reads kept s0 s1 damage shown (faults.Refused refusal) error is blames = absurd cc

-- ---- why a part ends

module _ {K : Type 0} (kept : K → Kept) (s0 s1 : Sites K) (closed : AllClosed (work kept s0)) (keeps : KeepsServers kept s0 s1) where
  -- with no transaction open, what is seen is what is held
  sees_held : (s : Sites K) → AllClosed (work kept s) → (n : ℕ) → sees kept s n ≡ slice_index_or (held kept s) n None
  sees_held s none n = ap (seen_of (slice_index_or (held kept s) n None)) (none n)

  -- so the same is seen where the same is held
  pub seen_after : held kept s1 ≡ held kept s0 → (n : ℕ) → sees kept s0 n ≡ sees kept s1 n
  seen_after same n = sees_held s0 closed n ∙ ap (λ (h : List (Option Contents)). slice_index_or h n None) (sym same) ∙ sym (sees_held s1 keeps.closed n)

  -- why a part ends at a fault: if it is damage, it is shown at the end, and the servers stood for no world
  pub blamed_cause : (damage : ℕ → Area → DamageCause → Type 0) (before now : ℕ) (e : Fault) (error : RunError) → Some error ≡ error_of_fault e → Blames kept s0 s1 damage e → ((n : ℕ) (a : Area) (cause : DamageCause) → e ≡ faults.Damaged n a cause → damage n a cause → ShowsDamage kept s1 n a cause) → ((w : World) → Stands (names s0) (held kept s0) w → IsNoDamage e) → PartHasCause kept s0 s1 before now error
  blamed_cause damage before now faults.Memory error is blames shown none = rw (same_Some error errors.Memory is) (record { streams = tt; servers = tt })
  blamed_cause damage before now (faults.Keeper n) error is blames shown none = rw (same_Some error (errors.KeeperFailed n) is) (record { streams = tt; servers = blames })
  blamed_cause damage before now (faults.Damaged n a cause) error is blames shown none =
      let here = shown n a cause refl blames.1 in
      rw (same_Some error (errors.Damaged n a cause) is) (record {
        streams = tt;
        servers = record {
          server = subst (λ (l : List (List ℕ)). n < length l) keeps.names here.0;
          read = blames.0;
          shown = λ read. here;
          rest = λ unread. absurd (unread (shown_is_read kept s1 n a cause here));
          unsound = none;
        };
      })
  blamed_cause damage before now (faults.Refused refusal) error is blames shown none = absurd cc

  module _ (damage : ℕ → Area → DamageCause → Type 0) (shown : IsOfRun kept s0 damage) where
    -- damage that was found is shown at the end of the part
    shown_after : held kept s1 ≡ held kept s0 → (n : ℕ) (a : Area) (cause : DamageCause) → damage n a cause → ShowsDamage kept s1 n a cause
    shown_after same n a cause met =
        let here = shown n a cause met in (
          subst (λ (l : List (List ℕ)). n < length l) (sym keeps.names) here.0,
          subst (λ (saw : Option Contents). Shows rules a cause saw ⊎ ShowsTargetDamage a cause saw) (seen_after same n) here.1,
        )

    -- why a part ends at a fault: if it is damage, the servers hold what they held, and they stand for no world
    pub fault_cause : (before now : ℕ) (e : Fault) (error : RunError) → Some error ≡ error_of_fault e → Blames kept s0 s1 damage e → ((n : ℕ) (a : Area) (cause : DamageCause) → e ≡ faults.Damaged n a cause → held kept s1 ≡ held kept s0) → ((w : World) → Stands (names s0) (held kept s0) w → IsNoDamage e) → PartHasCause kept s0 s1 before now error
    fault_cause before now e error is blames same none = blamed_cause damage before now e error is blames (λ n a cause met shows. shown_after (same n a cause met) n a cause shows) none

  module _ (layer : Rules) (all : IsShown layer) (at : ℕ → Type 0) (below : (n : ℕ) → at n → n < length (names s0)) where
    -- why a part ends at a fault, if the damage is shown by what the servers hold at the end
    pub end_cause : (before now : ℕ) (e : Fault) (error : RunError) → Some error ≡ error_of_fault e → Blames kept s0 s1 (Damages at layer kept s1) e → ((w : World) → Stands (names s0) (held kept s0) w → IsNoDamage e) → PartHasCause kept s0 s1 before now error
    end_cause before now e error is blames none = blamed_cause (Damages at layer kept s1) before now e error is blames (λ n a cause met shows. shown_there n a cause shows) none
      where
        -- damage that a layer shows there is of the run
        shown_there : (n : ℕ) (a : Area) (cause : DamageCause) → Damages at layer kept s1 n a cause → ShowsDamage kept s1 n a cause
        shown_there n a cause shows = layer_shown kept s1 layer all at (λ m there. subst (λ (l : List (List ℕ)). m < length l) (sym keeps.names) (below m there)) n a cause shows

module _ {K : Type 0} (kept : K → Kept) (s0 s1 : Sites K) (closed : AllClosed (work kept s0)) (layer : Rules) (all : IsShown layer) where
  -- why a part ends at a call that failed and left the servers as they were
  pub failed_cause : (most : Bounds) (before now : ℕ) (e : Fault) (error : RunError) → Some error ≡ error_of_fault e → Fails kept s0 s1 most (Damages (λ s. s < length (names s0)) layer kept s0) e → ((w : World) → Stands (names s0) (held kept s0) w → IsNoDamage e) → PartHasCause kept s0 s1 before now error
  failed_cause most before now e error is fails none =
      let closes = fails.closes in
      fault_cause kept s0 s1 closed (keeps_passed kept s0 s1 most closes.passes closes.closed) (Damages (λ s. s < length (names s0)) layer kept s0) (all_shown kept s0 layer all) before now e error is fails.blames (λ n a cause same. closes.held) none
