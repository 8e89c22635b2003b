-- Asking a read-only set for a refresh.
use Rattle.std.specs.Prelude.{Bool}
use Rattle.repl_model.specs.World.{World, KnownSet, known_sets}
use Rattle.repl_model.specs.SoundDefinitions.{read_only_sets}
use Rattle.repl_model.specs.Sound.{IsSound}
use Rattle.repl_model.specs.AfterActions.{with_server, with_target_side}
use Rattle.lists.specs.laws.Members.{In}

-- the group of servers once this is the flag of a set, which says whether a refresh is asked for
abbrev pub with_flag : Bool → World → KnownSet → World
with_flag flag world k = with_server k.target.name (with_target_side k.at_target.def.id (λ side. record side { flag = flag })) world

-- a world stays sound with any flag of a read-only set
abbrev pub FlagsSound : Type 0
FlagsSound = (world : World) (k : KnownSet) (flag : Bool) → IsSound world → In k (read_only_sets (known_sets world)) → IsSound (with_flag flag world k)
