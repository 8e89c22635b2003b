use Rattle.std.proofs.Common.{refl}
use Rattle.session_core.specs.copy.CopyEvents.{brought_events}
use Rattle.session_core.proofs.CopyReading.{silent_part, reading_err, first_fails_unread, reads_then}
use Rattle.session_core.proofs.copy.copying.copy_items.Goals as goal

pub load_items-requires : goal.load_items-requires
load_items-requires g c = c.requires

pub returns-in_err-load_items : goal.returns-in_err-load_items
returns-in_err-load_items g c = reading_err c.from_residual.result c.from_residual.ensures.1 (first_fails_unread brought_events (silent_part c.in_err-load_items.ensures))

pub bring_copy-requires : goal.bring_copy-requires
bring_copy-requires g c = (c.load_items.ensures (g.O.Sink.taken c.args.output.now) 0).servers.closed

pub returns : goal.returns
returns g c = reads_then (silent_part c.in_ok-load_items.ensures) refl c.bring_copy.ensures
