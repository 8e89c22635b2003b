-- What servers hold once a refresh is asked for, or no longer.
use Rattle.std.specs.Prelude.{ℕ, Bool, Some}
use Rattle.repl_types.specs.declared.area.Area.TheVariants as areas
use Rattle.row_codec.specs.Spelling.{b32}
use Rattle.repl_definitions.specs.declared.set.SetDef.{SetDef}
use Rattle.repl_records.specs.SetState.{state_spelling}
use Rattle.repl_records.specs.declared.set_state.SetState.{SetState}
use Rattle.keep_core.specs.Contents.{Contents, put_at}
use Rattle.repl_model.specs.World.{Server, World, KnownSet, known_sets}
use Rattle.repl_model.specs.SoundDefinitions.{read_only_sets}
use Rattle.repl_model.specs.Sound.{IsSound}
use Rattle.repl_model.specs.AfterActions.{with_target_side}
use Rattle.world_store.specs.TargetRows.{state_of}
use Rattle.world_store.specs.Stands.{Holds}
use Rattle.lists.specs.laws.Members.{In}
use Rattle.world_commits.specs.actions.Flags.{with_flag}
use Rattle.stored_commits.specs.actions.ActedServers.{HasTargetNumber}

-- a target with this flag of a set
abbrev pub flagged : SetDef → Bool → Server → Server
flagged def flag server = with_target_side def.id (λ side. record side { flag = flag }) server

-- the contents with this as what is stored of the state of the set with a number
abbrev pub with_state : ℕ → SetState → Contents → Contents
with_state number state c = put_at c areas.SetState 0 (b32 number) (Some (state_spelling state))

-- the target of a set, with the set's state at this flag, holds what the world with the flag calls for
abbrev pub FlagHolds : Type 0
FlagHolds = (world : World) (k : KnownSet) (number : ℕ) (flag : Bool) (held : Contents) → IsSound world → In k (read_only_sets (known_sets world)) → HasTargetNumber k number
    → Holds world k.target held → Holds (with_flag flag world k) (flagged k.at_target.def flag k.target) (with_state number (state_of world (record k.at_target { flag = flag })) held)

-- and so do the other servers, as they are
abbrev pub OthersHoldAfterFlag : Type 0
OthersHoldAfterFlag = (world : World) (k : KnownSet) (flag : Bool) (other : Server) (held : Contents) → Holds world other held → Holds (with_flag flag world k) other held
