use Rattle.std.specs.Prelude.{None, codes}
use Rattle.run_commands.specs.capture.CaptureEvents.{capture_events}
use Rattle.run_commands.specs.parts.laws.Composing.{no_memory, part_err}
use Rattle.session_core.specs.copy.CopyEvents.{silent}
use Rattle.session_core.specs.copy.unwritten.laws.Unwritten.{part_unwritten, failed_unwritten}
use Rattle.session_core.proofs.copy.silent.capture_items.Goals as goal

pub returns-in_err-source : goal.returns-in_err-source
returns-in_err-source g c = λ bytes count. part_err c.from_residual.result c.from_residual.ensures.1 (no_memory (silent (capture_events (codes "src") None None)) c.requires)

pub capture_server-requires : goal.capture_server-requires
capture_server-requires g c = c.requires

pub returns-in_err-capture_server : goal.returns-in_err-capture_server
returns-in_err-capture_server g c =
    let part = rw c.in_ok-source.ensures at c.in_err-capture_server.ensures in
    λ bytes count. part_err c.from_residual-in_err-capture_server.result c.from_residual-in_err-capture_server.ensures.1 (failed_unwritten bytes count part)

pub returns : goal.returns
returns g c =
    let part = rw c.in_ok-source.ensures at c.in_ok-capture_server.ensures in
    λ bytes count. part_unwritten bytes count tt part
