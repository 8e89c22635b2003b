-- The status of a run, by how it ended.
use Rattle.std.specs.Prelude.{Bool, if◌then◌else◌}
use Rattle.repl_types.specs.declared.status.Status.{Status}
use Rattle.repl_types.specs.declared.status.Status.TheVariants as statuses
use Rattle.run_commands.specs.declared.parts.run_error.RunError.{RunError}
use Rattle.run_commands.specs.declared.parts.run_error.RunError.TheVariants as errors

-- the status of a run that came to its end, by whether something was refused
abbrev pub status_of_done : Bool → Status
status_of_done refused = if refused then statuses.Refused else statuses.Ok

-- the status of a run that ended early, by its cause
abbrev pub status_of_error : RunError → Status
status_of_error errors.Memory = statuses.Memory
status_of_error errors.InputFailed = statuses.InputFault
status_of_error errors.InputTooLong = statuses.InputTooLong
status_of_error errors.OutputFailed = statuses.OutputFault
status_of_error (errors.KeeperFailed server) = statuses.KeeperFault server
status_of_error (errors.Damaged server area cause) = statuses.Damaged server area cause
