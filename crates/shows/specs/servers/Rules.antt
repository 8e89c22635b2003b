-- What may stand in the tables that are shown, and how often they are read.
use Rattle.std.specs.Prelude.{◌≡◌, ℕ, zero, suc, ◌+◌, ◌*◌, ◌==◌, ◌<◌, if◌then◌else◌, List, length, Some}
use Rattle.repl_types.specs.declared.area.Area.{Area}
use Rattle.repl_types.specs.declared.area.Area.TheVariants as areas
use Rattle.repl_types.specs.declared.status.DamageCause.{DamageCause}
use Rattle.keep_core.specs.Contents.{Contents}
use Rattle.keep_core.specs.Kept.{Kept}
use Rattle.row_codec.specs.Spelling.{b32}
use Rattle.repl_definitions.specs.Defined.{defined_registration_spelling}
use Rattle.repl_definitions.specs.Sets.{source_set_spelling}
use Rattle.repl_definitions.specs.declared.defined.DefinedRegistration.{DefinedRegistration}
use Rattle.repl_definitions.specs.declared.set.SourceSet.{SourceSet}
use Rattle.repl_records.specs.SourceSide.{head_spelling, IsHead}
use Rattle.repl_records.specs.Capture.{capture_spelling, IsCapture, registration_state_spelling, IsRegistrationState}
use Rattle.repl_records.specs.Prune.{mark_spelling, IsMark}
use Rattle.site_store.specs.declared.sites.Sites.{Sites}
use Rattle.site_store.specs.Views.{names}
use Rattle.site_store.specs.Calls.{Bounds}
use Rattle.site_store.specs.Damage.{Rules, Damages}
use Rattle.world_store.specs.SpelledRows.{definition_limit, Spells}
use Rattle.stored_defs.specs.Rules.{may_be_key, may_be_value as may_be_definition}

-- ---- how often is read

-- each area of one server is read at most this many times, and nothing else is
abbrev pub reads_at : ℕ → ℕ → Bounds
reads_at n server = record { reads = λ s a. if server == s then n else 0; writes = λ s a. 0 }

-- the most reads for the status of a server: of each registration and set and of its state, and two more
abbrev pub status_reads : ℕ
status_reads = 4 * definition_limit + 2

-- ---- what may stand there

-- values of definitions, of the end of the log, of states, and of what is known of sets
abbrev pub may_be_value : Area → ℕ → List ℕ → Type 0
may_be_value areas.Defs t bytes = may_be_definition areas.Defs t bytes
may_be_value areas.Head zero bytes = Spells IsHead head_spelling bytes
may_be_value areas.Capture zero bytes = Spells IsCapture capture_spelling bytes
may_be_value areas.Capture (suc zero) bytes = Spells IsRegistrationState registration_state_spelling bytes
may_be_value areas.Prune zero bytes = Spells IsMark mark_spelling bytes
may_be_value a t bytes = Unit {0}

-- a registration with a number stands among the definitions
abbrev pub HasRegistration : Contents → ℕ → Type 0
HasRegistration c n = (k : List ℕ) × (row : DefinedRegistration) × (c areas.Defs 1 k ≡ Some (defined_registration_spelling row)) × (row.number ≡ n)

-- a set with a number stands there
abbrev pub HasSet : Contents → ℕ → Type 0
HasSet c n = (k : List ℕ) × (row : SourceSet) × (c areas.Defs 2 k ≡ Some (source_set_spelling row)) × (row.number ≡ n)

-- each registration calls for its state, and each set for what is known of it
abbrev pub is_called_for : Area → ℕ → List ℕ → Contents → Type 0
is_called_for areas.Capture (suc zero) key c = (n : ℕ) × (key ≡ b32 n) × HasRegistration c n
is_called_for areas.Prune zero key c = (n : ℕ) × (key ≡ b32 n) × HasSet c n
is_called_for a t key c = ⊥

-- and each record fits
abbrev pub rules : Rules
rules = record {
  is_key = may_be_key;
  is_value = may_be_value;
  is_needed = is_called_for;
  is_unfit = λ a t key value c. ⊥;
}

-- what one of the servers was seen to have shows damage by these rules
abbrev pub ShowsDamage : {K : Type 0} → (K → Kept) → Sites K → ℕ → Area → DamageCause → Type 0
ShowsDamage kept sites = Damages (λ s. s < length (names sites)) rules kept sites
