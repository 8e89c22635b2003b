-- What a record that is missing stands for.
use Rattle.std.specs.Prelude.{false}
use Rattle.repl_records.specs.declared.source_side.Head.{Head}
use Rattle.repl_records.specs.declared.capture.CaptureState.{CaptureState}
use Rattle.repl_records.specs.declared.prune.Decided.{Decided}
use Rattle.repl_records.specs.declared.set_state.LastNumber.{LastNumber}
use Rattle.repl_records.specs.declared.set_state.SetState.{SetState}
use Rattle.repl_records.specs.declared.set_state.SetState.TheVariants.{ReadOnly, Replica}

-- an empty log: no position, no commit, and no time
abbrev pub first_head : Head
first_head = record { last = 0; commit = 0; time = 0 }

-- nothing is captured or pruned, and the log has to be read from its first position on
abbrev pub first_capture : CaptureState
first_capture = record { captured = 0; restart = 1; floor = 0 }

-- a master has decided nothing
abbrev pub first_decided : Decided
first_decided = record { t = 0; d = 0 }

-- a target has no rows that are numbered
abbrev pub first_number : LastNumber
first_number = record { number = 0 }

-- a read-only set has no points, asks for no refresh, and has an empty trail
abbrev pub first_read_only : SetState
first_read_only = ReadOnly false 0 0 0 false 0

-- a replica set has no points, no signal and an empty trail
abbrev pub first_replica : SetState
first_replica = Replica false 0 0 0 0
