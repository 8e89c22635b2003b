use Rattle.std.proofs.Common.{◌||◌, refl}
use Rattle.run_commands.specs.parts.laws.Composing.{part_err, part_failed, part_gives, part_then, first_fails}
use Rattle.session_core.specs.copy.unwritten.Unwritten.{refusals_in}
use Rattle.session_core.proofs.CopyRefusals.{refusals_part}
use Rattle.session_core.proofs.copy.showing.write_copy.Goals as goal

pub show_items-requires : goal.show_items-requires
show_items-requires g c = c.requires

pub returns-in_err-shown : goal.returns-in_err-shown
returns-in_err-shown g c = λ fed known. part_err c.from_residual.result c.from_residual.ensures.1 (first_fails (λ w. refusals_in fed) (λ any. any) c.in_err-shown.ensures)

pub returns-in_err-written : goal.returns-in_err-written
returns-in_err-written g c = λ fed known. part_err c.from_residual-in_err-written.result c.from_residual-in_err-written.ensures.1 (part_failed (λ any. any) (part_then c.in_ok-shown.ensures (refusals_part fed known c.show_items.ensures.servers.closed c.in_err-written.ensures)))

pub returns : goal.returns
returns g c = λ fed known. part_gives (λ any. any) (c.in_ok-shown.shown || c.in_ok-written.written) refl (part_then c.in_ok-shown.ensures (refusals_part fed known c.show_items.ensures.servers.closed c.in_ok-written.ensures))
