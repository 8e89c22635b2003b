use Rattle.std.proofs.Common.{refl, Some, None, is_none}
use Rattle.run_commands.specs.parts.laws.Composing.{part_err, part_failed, part_gives, err_value}
use Rattle.run_commands.proofs.feed.lines.commit_waiting.Goals as goal

pub returns-in_err-commit_batch : goal.returns-in_err-commit_batch
returns-in_err-commit_batch g c =
    let r = c.from_residual.result in
    let is = c.from_residual.ensures.1 in
    record { part = part_err r is (part_failed is_none c.in_err-commit_batch.ensures.part); after = err_value _ _ r is }

pub returns-in-Some : goal.returns-in-Some
returns-in-Some g c = record { part = part_gives is_none (Some c.committed.result) refl (rw c.in-Some.is at c.in_ok-commit_batch.ensures.part); after = c.committed.ensures }

pub returns-in-None : goal.returns-in-None
returns-in-None g c = record { part = part_gives is_none None refl (rw c.in-None.is at c.in_ok-commit_batch.ensures.part); after = tt }
