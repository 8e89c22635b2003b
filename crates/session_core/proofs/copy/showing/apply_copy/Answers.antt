use Rattle.run_commands.specs.parts.laws.Composing.{part_err, part_then, first_fails}
use Rattle.session_core.specs.copy.CopyEvents.{written_events}
use Rattle.session_core.proofs.CopyReading.{silent_part}
use Rattle.session_core.proofs.copy.showing.apply_copy.Goals as goal

pub apply_items-requires : goal.apply_items-requires
apply_items-requires g c = c.requires

pub returns-in_err-apply_items : goal.returns-in_err-apply_items
returns-in_err-apply_items g c = λ fed known. part_err c.from_residual.result c.from_residual.ensures.1 (first_fails (written_events fed) (λ any. any) (silent_part c.in_err-apply_items.ensures))

pub write_copy-requires : goal.write_copy-requires
write_copy-requires g c = (c.apply_items.ensures (g.O.Sink.taken c.args.output.now) 0).servers.closed

pub returns : goal.returns
returns g c = λ fed known. part_then (silent_part c.in_ok-apply_items.ensures) (c.write_copy.ensures fed known)
