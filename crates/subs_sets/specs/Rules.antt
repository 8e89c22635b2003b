-- What may stand in the tables that tell what a set does next, and what shows that a server is damaged.
use Rattle.std.specs.Prelude.{◌≡◌, ℕ, ◌<◌, zero, suc, Bool, true, false, List, length, Some}
use Rattle.repl_types.specs.declared.area.Area.{Area}
use Rattle.repl_types.specs.declared.area.Area.TheVariants as areas
use Rattle.repl_types.specs.declared.status.DamageCause.{DamageCause}
use Rattle.keep_core.specs.Contents.{Contents}
use Rattle.keep_core.specs.Kept.{Kept}
use Rattle.row_codec.specs.Spelling.{b32, b64, Is64}
use Rattle.repl_definitions.specs.Defined.{defined_registration_spelling, IsDefinedRegistration}
use Rattle.repl_definitions.specs.Sets.{target_set_spelling, IsTargetSet}
use Rattle.repl_definitions.specs.declared.defined.DefinedRegistration.{DefinedRegistration}
use Rattle.repl_definitions.specs.declared.set.TargetSet.{TargetSet}
use Rattle.repl_records.specs.Capture.{capture_spelling, IsCapture, registration_state_spelling, IsRegistrationState, uow_spelling, IsUow}
use Rattle.repl_records.specs.SetState.{state_spelling, IsState}
use Rattle.repl_records.specs.Trail.{entry_spelling, IsEntry}
use Rattle.repl_records.specs.declared.set_state.SetState.{SetState}
use Rattle.repl_records.specs.declared.set_state.SetState.TheVariants.{ReadOnly, Replica}
use Rattle.repl_model.specs.Rules.{is_replica_set}
use Rattle.site_store.specs.declared.sites.Sites.{Sites}
use Rattle.site_store.specs.Damage.{Rules, joined, Damages}
use Rattle.site_store.specs.Views.{names}
use Rattle.world_store.specs.SpelledRows.{Spells}
use Rattle.set_places.specs.Members.{member_rules}
use Rattle.prune_control.specs.Noting.{mark_rules}

-- the areas that tell what a set does next
abbrev pub is_read : Area → Bool
is_read areas.Log = false
is_read areas.Source = false
is_read areas.Inflight = false
is_read areas.Head = false
is_read areas.Defs = true
is_read areas.Cd = false
is_read areas.Uow = true
is_read areas.Capture = true
is_read areas.Prune = true
is_read areas.Spill = false
is_read areas.Target = false
is_read areas.SetState = true
is_read areas.Trail = true

-- ---- at the target

-- values of states and of trails
abbrev pub may_be_state : Area → ℕ → List ℕ → Type 0
may_be_state areas.SetState zero bytes = Spells IsState state_spelling bytes
may_be_state areas.Trail n bytes = Spells IsEntry entry_spelling bytes
may_be_state a t bytes = Unit {0}

-- the state is that of a replica set
abbrev pub IsOfReplica : SetState → Type 0
IsOfReplica (ReadOnly has_points synchpoint time base refresh entries) = ⊥
IsOfReplica (Replica has_points m f signal entries) = Unit {0}

-- a read-only set with a number stands among those whose target the server is
abbrev pub HasReadOnlyTarget : ℕ → Contents → Type 0
HasReadOnlyTarget number c = (key : List ℕ) × (row : TargetSet) × IsTargetSet row × (c areas.Defs 3 key ≡ Some (target_set_spelling row)) × (row.number ≡ number) × (is_replica_set row.def ≡ false)

-- the state of a replica set doesn't fit there
abbrev pub is_of_other_kind : Area → ℕ → List ℕ → List ℕ → Contents → Type 0
is_of_other_kind areas.SetState zero key value c = (number : ℕ) × (key ≡ b32 number) × HasReadOnlyTarget number c × ((state : SetState) × IsState state × IsOfReplica state × (value ≡ state_spelling state))
is_of_other_kind a t key value c = ⊥

-- what states of sets, and trails, should be
abbrev pub state_rules : Rules
state_rules = record {
  is_key = λ a t bytes. Unit {0};
  is_value = may_be_state;
  is_needed = λ a t key c. ⊥;
  is_unfit = is_of_other_kind;
}

-- ---- at the source

-- keys of captured units
abbrev pub may_be_seq : Area → ℕ → List ℕ → Type 0
may_be_seq areas.Uow zero bytes = Spells Is64 b64 bytes
may_be_seq a t bytes = Unit {0}

-- and values: captured units, how far capture is, and states of registrations
abbrev pub may_be_captured : Area → ℕ → List ℕ → Type 0
may_be_captured areas.Uow zero bytes = Spells IsUow uow_spelling bytes
may_be_captured areas.Capture zero bytes = Spells IsCapture capture_spelling bytes
may_be_captured areas.Capture (suc zero) bytes = Spells IsRegistrationState registration_state_spelling bytes
may_be_captured a t bytes = Unit {0}

-- a registration with a number stands among the definitions
abbrev pub HasRegistrationNumbered : ℕ → Contents → Type 0
HasRegistrationNumbered number c = (key : List ℕ) × (row : DefinedRegistration) × IsDefinedRegistration row × (c areas.Defs 1 key ≡ Some (defined_registration_spelling row)) × (row.number ≡ number)

-- such a registration calls for its state
abbrev pub calls_for_state : Area → ℕ → List ℕ → Contents → Type 0
calls_for_state areas.Capture (suc zero) key c = (number : ℕ) × (key ≡ b32 number) × HasRegistrationNumbered number c
calls_for_state a t key c = ⊥

-- what is captured, and the states of registrations, should be
abbrev pub captured_rules : Rules
captured_rules = record {
  is_key = may_be_seq;
  is_value = may_be_captured;
  is_needed = calls_for_state;
  is_unfit = λ a t key value c. ⊥;
}

-- what the source of a set should have
abbrev pub source_rules : Rules
source_rules = joined member_rules (joined mark_rules captured_rules)

-- ---- both

-- what each of a set's two servers should have
abbrev pub rules : Rules
rules = joined source_rules state_rules

-- what one of the servers was seen to have shows damage by these rules
abbrev pub ShowsDamage : {K : Type 0} → (K → Kept) → Sites K → ℕ → Area → DamageCause → Type 0
ShowsDamage kept sites = Damages (λ s. s < length (names sites)) rules kept sites
