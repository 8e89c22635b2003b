use Rattle.std.proofs.Common.{subst}
use Rattle.site_store.specs.Words.{Takes, TakesPrefix}
use Rattle.reply_text.specs.declared.reply.Reply.TheVariants.{ReadOnlySet}
use Rattle.reply_text.specs.declared.status.ReadOnlyStatus.{ReadOnlyStatus}
use Rattle.reply_text.specs.Replies.{reply_line}
use Rattle.shows.specs.sets.Replies.{set_line}
use Rattle.shows.proofs.Passed.{on_err}
use Rattle.shows.proofs.status.show_set.Goals as goal
use Rattle.shows.proofs.Pieces.{none_taken}

pub returns-in_err-status-clause-err : goal.returns-in_err-status-clause-err
returns-in_err-status-clause-err g c = on_err c.from_residual.result (λ w k stands placed read_only. none_taken (g.O.Sink.taken c.args.output.now) (set_line k))

pub returns-in_err-write_status-clause-err : goal.returns-in_err-write_status-clause-err
returns-in_err-write_status-clause-err g c = on_err c.from_residual-in_err-write_status.result (λ w k stands placed read_only. subst (λ (status : ReadOnlyStatus). TakesPrefix (g.O.Sink.taken c.args.output.now) (g.O.Sink.taken c.write_status.new.output) (reply_line (ReadOnlySet status))) (c.in_ok-status.ensures.status w k stands placed read_only) c.in_err-write_status.ensures.err)

pub returns-clause-ok : goal.returns-clause-ok
returns-clause-ok g c = λ w k stands placed read_only. subst (λ (status : ReadOnlyStatus). Takes (g.O.Sink.taken c.args.output.now) (g.O.Sink.taken c.write_status.new.output) (reply_line (ReadOnlySet status))) (c.in_ok-status.ensures.status w k stands placed read_only) c.in_ok-write_status.ensures.ok
