-- Why a run ends early, by the error of a call.
use Rattle.std.specs.Prelude.{Option, Some, None}
use Rattle.repl_types.specs.declared.fault.Fault.{Fault}
use Rattle.repl_types.specs.declared.fault.Fault.TheVariants as faults
use Rattle.repl_types.specs.declared.call_errors.ShowError.{ShowError}
use Rattle.repl_types.specs.declared.call_errors.ShowError.TheVariants as shows
use Rattle.keep_core.specs.declared.streams.ReadError.{ReadError}
use Rattle.keep_core.specs.declared.streams.ReadError.TheVariants as reads
use Rattle.line_input.specs.declared.input.InputError.{InputError}
use Rattle.line_input.specs.declared.input.InputError.TheVariants as inputs
use Rattle.run_commands.specs.declared.parts.run_error.RunError.{RunError}
use Rattle.run_commands.specs.declared.parts.run_error.RunError.TheVariants as errors

-- why a run ends at an error of its input
abbrev pub error_of_input : InputError → RunError
error_of_input inputs.Memory = errors.Memory
error_of_input inputs.Failed = errors.InputFailed
error_of_input inputs.TooLong = errors.InputTooLong

-- why a run ends at an error of its output
abbrev pub error_of_output : ReadError → RunError
error_of_output reads.Memory = errors.Memory
error_of_output reads.Failed = errors.OutputFailed

-- why a run ends at a fault, None if the fault is that something is refused, which ends no run
abbrev pub error_of_fault : Fault → Option RunError
error_of_fault faults.Memory = Some errors.Memory
error_of_fault (faults.Keeper server) = Some (errors.KeeperFailed server)
error_of_fault (faults.Damaged server area cause) = Some (errors.Damaged server area cause)
error_of_fault (faults.Refused refusal) = None

-- why a run ends at a reply that wasn't written whole
abbrev pub error_of_show : ShowError → Option RunError
error_of_show (shows.Fault fault) = error_of_fault fault
error_of_show shows.Output = Some errors.OutputFailed
