-- How a refresh or a block of a set is stored at its target: in puts of the set's state and of an entry of its trail,
-- and in the targets of its members.
use Rattle.std.specs.Prelude.{◌≡◌, ℕ, ◌+◌, ◌*◌, ◌<◌, Bool, true, false, not, [], ◌∷◌, ◌++◌, length, Option, Some, slice_get}
use Rattle.std.specs.List.{AllByRecursion}
use Rattle.repl_types.specs.declared.area.Area.{Area}
use Rattle.repl_types.specs.declared.area.Area.TheVariants as areas
use Rattle.row_codec.specs.Spelling.{b32, b64}
use Rattle.repl_definitions.specs.declared.member.Member.{Member}
use Rattle.repl_definitions.specs.declared.member.TargetKind.{TargetKind}
use Rattle.repl_definitions.specs.declared.member.TargetKind.TheVariants.{UserCopy, PointInTime, BaseAggregate, ChangeAggregate, Ccd, Replica}
use Rattle.repl_definitions.specs.declared.set.SetDef.{SetDef}
use Rattle.repl_records.specs.SetState.{state_spelling}
use Rattle.repl_records.specs.Trail.{entry_spelling}
use Rattle.repl_records.specs.declared.set_state.SetState.{SetState}
use Rattle.repl_records.specs.declared.set_state.SetState.TheVariants as states
use Rattle.repl_records.specs.declared.trail.TrailEntry.{TrailEntry}
use Rattle.keep_core.specs.Contents.{Contents, set_key}
use Rattle.repl_model.specs.Selection.{SourceTable}
use Rattle.repl_model.specs.Trails.{Entry, refresh, block, base_of}
use Rattle.repl_model.specs.World.{World, KnownSet, source_named, known_sets}
use Rattle.repl_model.specs.SoundDefinitions.{read_only_sets}
use Rattle.repl_model.specs.Sound.{IsSound}
use Rattle.repl_model.specs.AfterActions.{with_entry, refreshed}
use Rattle.world_store.specs.Tables.{member_table, no_rows}
use Rattle.world_store.specs.TargetRows.{trail_entry, source_time}
use Rattle.world_store.specs.Stands.{Holds}
use Rattle.world_store.specs.Becoming.{Becomes}
use Rattle.lists.specs.laws.Members.{In}
use Rattle.stored_commits.specs.actions.ActedServers.{HasTargetNumber, is_of_step, with_step, with_refresh}

-- ---- what is put

-- the rows of this kind of target are numbered
abbrev pub is_numbered : TargetKind → Bool
is_numbered UserCopy = false
is_numbered PointInTime = false
is_numbered BaseAggregate = true
is_numbered ChangeAggregate = true
is_numbered (Ccd complete condensed) = not condensed
is_numbered Replica = false

-- no target of a set has rows that are numbered
abbrev pub NoneNumbered : SetDef → Type 0
NoneNumbered def = AllByRecursion (λ member. is_numbered member.kind ≡ false) def.members

-- Contents after a step of the set with a number: its state was put, and an entry after so many of its trail. The
-- targets of its members may have other rows; last numbers and all other tables are as they were.
pub record PutsStep (number : ℕ) (state : SetState) (entries : ℕ) (entry : TrailEntry) (before now : Contents) : Type 0 where
  pub state_put : now areas.SetState 0 ≡ set_key (before areas.SetState 0) (b32 number) (Some (state_spelling state))
  pub numbers : now areas.SetState 1 ≡ before areas.SetState 1
  pub entry_put : now areas.Trail number ≡ set_key (before areas.Trail number) (b64 (entries + 1)) (Some (entry_spelling entry))
  pub others : (a : Area) (n : ℕ) → is_of_step number a n ≡ false → now a n ≡ before a n

-- The target of each member of a set is what a trail makes of it, and no other target of the set has a row.
pub record HasTargets (k : KnownSet) (number : ℕ) (entry : Entry) (now : Contents) : Type 0 where
  pub members : (place : ℕ) (member : Member) (source : SourceTable) → slice_get k.at_target.def.members place ≡ Some member → source_named member.source k.source ≡ Some source
      → now areas.Target (64 * number + place) ≡ member_table source member (k.at_target.trail ++ entry ∷ [])
  pub none : (place : ℕ) → place < 64 → length k.at_target.def.members < place + 1 → now areas.Target (64 * number + place) ≡ no_rows

-- ---- states

-- the state of a set after a refresh at a point and time, with so many entries before
abbrev pub refreshed_state : ℕ → ℕ → ℕ → SetState
refreshed_state point time entries = states.ReadOnly true point time point false (entries + 1)

-- the state of a set after a block up to a point at a time, with this base, flag and number of entries before
abbrev pub block_state : ℕ → ℕ → ℕ → Bool → ℕ → SetState
block_state point time base flag entries = states.ReadOnly true point time base flag (entries + 1)

-- ---- laws

-- what is put at a refresh of a set at a point, at which base aggregates were read or not, makes the tables of a step
abbrev pub RefreshIsStored : Type 0
RefreshIsStored = (world : World) (k : KnownSet) (number p : ℕ) (q : Option ℕ) (before now : Contents) → IsSound world → In k (read_only_sets (known_sets world)) → HasTargetNumber k number
    → IsSound (with_refresh world k (refresh p q)) → Holds world k.target before → NoneNumbered k.at_target.def
    → PutsStep number (refreshed_state p (source_time world k.at_target.def p) (length k.at_target.trail)) (length k.at_target.trail) (trail_entry world k.at_target.def (refresh p q)) before now
    → HasTargets k number (refresh p q) now
    → Becomes (is_of_step number) (with_refresh world k (refresh p q)) (refreshed k.at_target.def (refresh p q) k.target) before now

-- and so does what is put at a block
abbrev pub BlockIsStored : Type 0
BlockIsStored = (world : World) (k : KnownSet) (number low high : ℕ) (q : Option ℕ) (before now : Contents) → IsSound world → In k (read_only_sets (known_sets world)) → HasTargetNumber k number
    → IsSound (with_step world k (block low high q)) → Holds world k.target before → NoneNumbered k.at_target.def
    → PutsStep number (block_state high (source_time world k.at_target.def high) (base_of k.at_target.trail) k.at_target.flag (length k.at_target.trail)) (length k.at_target.trail) (trail_entry world k.at_target.def (block low high q)) before now
    → HasTargets k number (block low high q) now
    → Becomes (is_of_step number) (with_step world k (block low high q)) (with_entry k.at_target.def (block low high q) k.target) before now

-- the target of a member with a place is what the trail makes of it, and a set has no other target
abbrev pub TargetsStand : Type 0
TargetsStand = (world : World) (k : KnownSet) (number : ℕ) (held : Contents) → IsSound world → In k (read_only_sets (known_sets world)) → HasTargetNumber k number → Holds world k.target held
    → ((place : ℕ) (member : Member) (source : SourceTable) → slice_get k.at_target.def.members place ≡ Some member → source_named member.source k.source ≡ Some source → held areas.Target (64 * number + place) ≡ member_table source member k.at_target.trail)
    × ((place : ℕ) → place < 64 → length k.at_target.def.members < place + 1 → held areas.Target (64 * number + place) ≡ no_rows)
