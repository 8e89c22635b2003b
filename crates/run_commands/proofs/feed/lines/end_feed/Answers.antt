use Rattle.std.proofs.Common.{◌+◌, ◌∷◌, [], arith, refl, true}
use Rattle.reply_text.specs.Replies.{reply_line}
use Rattle.reply_text.specs.declared.reply.Reply.TheVariants as replies
use Rattle.run_core.specs.Runs.{writes}
use Rattle.run_commands.specs.parts.laws.Composing.{part_err, part_replied}
use Rattle.run_commands.proofs.BodyLines.{batch_fails, batch_refused, batch_then, told_same, fed_line}
use Rattle.run_commands.proofs.feed.lines.end_feed.Goals as goal

pub commit_batch-requires : goal.commit_batch-requires
commit_batch-requires g c = record { closed = c.requires.closed; feed = c.requires.feed }

pub overflow_add-records : goal.overflow_add-records
overflow_add-records g c = omega (arith, c.requires.feed.few, c.len.ensures.len)

pub returns-in_err-last : goal.returns-in_err-last
returns-in_err-last g c = part_err c.from_residual.result c.from_residual.ensures.1 (batch_fails c.args.feed.now (fed_line c.args.feed.now) (λ refused. refused) c.in_err-last.ensures.part)

pub returns-in_default : goal.returns-in_default
returns-in_default g c = batch_refused c.args.feed.now (fed_line c.args.feed.now) (λ refused. refused) true refl (rw c.in_default.is at c.in_ok-last.ensures.part)

pub returns : goal.returns
returns g c =
    let s0 = c.args.sites.now in
    let feed = c.args.feed.now in
    let last = c.in-Some.last in
    let line = reply_line (replies.Fed (feed.fed + c.len.result) last) in
    let position = rw c.in-Some.is at c.in_ok-last.ensures.last in
    batch_then feed (fed_line feed) (λ w. writes line ∷ []) (λ w stands v. told_same feed w c.len.result last c.len.ensures.len (position w stands)) (rw c.in-Some.is at c.in_ok-last.ensures.part)
    (part_replied (λ refused. refused) c.commit_batch.ensures.part.servers.closed refl c.write_counts.ensures)
