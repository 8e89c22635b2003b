use Rattle.run_commands.specs.apply.StepEvents.{apply_events}
use Rattle.run_commands.specs.parts.laws.Composing.{no_memory, part_err}
use Rattle.session_core.specs.copy.CopyEvents.{copy_set, silent}
use Rattle.session_core.specs.copy.unwritten.laws.Unwritten.{part_unwritten, failed_unwritten}
use Rattle.session_core.proofs.copy.silent.apply_items.Goals as goal

pub returns-in_err-set : goal.returns-in_err-set
returns-in_err-set g c = λ bytes count. part_err c.from_residual.result c.from_residual.ensures.1 (no_memory (silent (apply_events 0 copy_set)) c.requires)

pub apply_set-requires : goal.apply_set-requires
apply_set-requires g c = c.requires

pub returns-in_err-apply_set : goal.returns-in_err-apply_set
returns-in_err-apply_set g c =
    let part = rw c.in_ok-set.ensures at c.in_err-apply_set.ensures.part in
    λ bytes count. part_err c.from_residual-in_err-apply_set.result c.from_residual-in_err-apply_set.ensures.1 (failed_unwritten bytes count part)

pub returns : goal.returns
returns g c =
    let part = rw c.in_ok-set.ensures at c.in_ok-apply_set.ensures.part in
    λ bytes count. part_unwritten bytes count tt part
