-- How far a set is at its target, in a world.
use Rattle.std.specs.Prelude.{◌≡◌, ℕ, ◌-◌, false, if◌then◌else◌, Option, None, nat_lt, slice_get, length}
use Rattle.std.specs.Option.{option_map}
use Rattle.repl_types.specs.declared.area.Area.TheVariants as areas
use Rattle.keep_core.specs.Contents.{Contents}
use Rattle.row_codec.specs.Spelling.{b32}
use Rattle.repl_definitions.specs.declared.set.SetDef.{SetDef}
use Rattle.repl_definitions.specs.declared.set.TargetSet.{TargetSet}
use Rattle.repl_records.specs.SetState.{state_spelling}
use Rattle.repl_records.specs.declared.set_state.SetState.{SetState}
use Rattle.repl_records.specs.declared.trail.TrailEntry.{TrailEntry}
use Rattle.repl_records.specs.FirstStates.{first_read_only, first_replica}
use Rattle.repl_model.specs.Rules.{is_replica_set}
use Rattle.repl_model.specs.Trails.{synchpoint, base_of}
use Rattle.repl_model.specs.World.{World, KnownSet}
use Rattle.site_store.specs.Records.{StateIs}
use Rattle.world_store.specs.TargetRows.{has_points, source_time, trail_entry}
use Rattle.subs_sets.specs.declared.states.ReadOnlyState.{ReadOnlyState}

-- what a missing state of a set stands for
abbrev pub first_state_of : SetDef → SetState
first_state_of def = if is_replica_set def then first_replica else first_read_only

-- the contents have this state of a set whose row stands at its target, or none if it is what a missing one stands for
abbrev pub HasState : TargetSet → SetState → Contents → Type 0
HasState row state c = StateIs state_spelling areas.SetState 0 (b32 row.number) (first_state_of row.def) state c

-- the numbers of points that are absent are 0
abbrev pub AbsentAreZero : ReadOnlyState → Type 0
AbsentAreZero state = state.has_points ≡ false → (state.synchpoint ≡ 0) × (state.time ≡ 0) × (state.base ≡ 0)

-- how far the targets of a read-only set are
abbrev pub state_in : World → KnownSet → ReadOnlyState
state_in w k = let side = k.at_target in record {
  has_points = has_points side.trail;
  synchpoint = synchpoint side.trail;
  time = source_time w side.def (synchpoint side.trail);
  base = base_of side.trail;
  flag = side.flag;
  entries = length side.trail;
}

-- the entry of a set's trail with a number, counted from 1
abbrev pub entry_at : World → KnownSet → ℕ → Option TrailEntry
entry_at w k number = if nat_lt 0 number then option_map (trail_entry w k.at_target.def) (slice_get k.at_target.trail (number - 1)) else None
