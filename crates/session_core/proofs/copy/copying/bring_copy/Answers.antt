use Rattle.std.proofs.Common.{refl}
use Rattle.session_core.specs.copy.CopyEvents.{fed_events}
use Rattle.session_core.proofs.CopyReading.{silent_part, reading_err, first_fails_unread, reads_then}
use Rattle.session_core.proofs.copy.copying.bring_copy.Goals as goal

pub apply_items-requires : goal.apply_items-requires
apply_items-requires g c = c.requires

pub returns-in_err-apply_items : goal.returns-in_err-apply_items
returns-in_err-apply_items g c = reading_err c.from_residual.result c.from_residual.ensures.1 (first_fails_unread fed_events (silent_part c.in_err-apply_items.ensures))

pub feed_copy-requires : goal.feed_copy-requires
feed_copy-requires g c = (c.apply_items.ensures (g.O.Sink.taken c.args.output.now) 0).servers.closed

pub returns : goal.returns
returns g c = reads_then (silent_part c.in_ok-apply_items.ensures) refl c.feed_copy.ensures
