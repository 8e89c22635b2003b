use Rattle.run_commands.specs.parts.laws.Composing.{part_err, part_then, first_fails}
use Rattle.session_core.specs.copy.CopyEvents.{applied_events}
use Rattle.session_core.proofs.CopyReading.{silent_part}
use Rattle.session_core.proofs.copy.showing.show_fed.Goals as goal

pub capture_items-requires : goal.capture_items-requires
capture_items-requires g c = c.requires

pub returns-in_err-capture_items : goal.returns-in_err-capture_items
returns-in_err-capture_items g c = λ fed known. part_err c.from_residual.result c.from_residual.ensures.1 (first_fails (applied_events fed) (λ any. any) (silent_part c.in_err-capture_items.ensures))

pub apply_copy-requires : goal.apply_copy-requires
apply_copy-requires g c = (c.capture_items.ensures (g.O.Sink.taken c.args.output.now) 0).servers.closed

pub returns : goal.returns
returns g c = λ fed known. part_then (silent_part c.in_ok-capture_items.ensures) (c.apply_copy.ensures fed known)
