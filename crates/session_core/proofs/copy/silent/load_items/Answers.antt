use Rattle.std.specs.Prelude.{Some}
use Rattle.run_commands.specs.load.LoadEvents.{load_text_events}
use Rattle.run_commands.specs.parts.laws.Composing.{no_memory, part_err}
use Rattle.session_core.specs.copy.CopyEvents.{copy_text, silent}
use Rattle.session_core.specs.copy.unwritten.laws.Unwritten.{part_unwritten, failed_unwritten}
use Rattle.session_core.proofs.copy.silent.load_items.Goals as goal

pub returns-in_err-text : goal.returns-in_err-text
returns-in_err-text g c = λ bytes count. part_err c.from_residual.result c.from_residual.ensures.1 (no_memory (silent (load_text_events (Some copy_text))) c.requires)

pub load_text-requires : goal.load_text-requires
load_text-requires g c = c.requires

pub returns-in_err-load_text : goal.returns-in_err-load_text
returns-in_err-load_text g c =
    let part = rw c.in_ok-text.ensures at c.in_err-load_text.ensures in
    λ bytes count. part_err c.from_residual-in_err-load_text.result c.from_residual-in_err-load_text.ensures.1 (failed_unwritten bytes count part)

pub returns : goal.returns
returns g c =
    let part = rw c.in_ok-text.ensures at c.in_ok-load_text.ensures in
    λ bytes count. part_unwritten bytes count tt part
