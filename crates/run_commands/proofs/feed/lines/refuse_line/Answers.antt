use Rattle.std.proofs.Common.{refl, None, is_none}
use Rattle.run_commands.specs.parts.Refusing.{refused}
use Rattle.run_commands.specs.parts.laws.Composing.{answered, err_value, part_err, part_refused}
use Rattle.run_commands.proofs.BodyLines.{batch_fails, batch_refused, batch_then}
use Rattle.run_commands.proofs.feed.lines.refuse_line.Goals as goal

pub commit_batch-requires : goal.commit_batch-requires
commit_batch-requires g c = record { closed = c.requires.closed; feed = c.requires.feed }

pub returns-in_err-commit_batch : goal.returns-in_err-commit_batch
returns-in_err-commit_batch g c =
    let r = c.from_residual.result in
    let is = c.from_residual.ensures.1 in
    record { part = part_err r is (batch_fails c.args.feed.now (λ w. refused c.args.refusal.now) is_none c.in_err-commit_batch.ensures.part); none = err_value _ _ r is }

pub returns-in-Some : goal.returns-in-Some
returns-in-Some g c =
    let events = refused c.args.refusal.now in
    let r = c.refuse_none.result in
    let wrote = c.refuse_none.ensures in
    record {
      part = batch_then c.args.feed.now (λ w. events) (λ w. events) (λ w stands v. refl) (rw c.in-Some.is at c.in_ok-commit_batch.ensures.part) (part_refused is_none c.commit_batch.ensures.part.servers.closed refl wrote);
      none = answered _ r wrote.line refl;
    }

pub returns-in-None : goal.returns-in-None
returns-in-None g c = record { part = batch_refused c.args.feed.now (λ w. refused c.args.refusal.now) is_none None refl (rw c.in-None.is at c.in_ok-commit_batch.ensures.part); none = refl }
