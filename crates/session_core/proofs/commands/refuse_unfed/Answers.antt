use Rattle.std.proofs.Common.{refl}
use Rattle.run_commands.specs.parts.laws.Composing.{part_err, part_failed, part_refused}
use Rattle.session_core.proofs.commands.refuse_unfed.Goals as goal

-- of the line a part was written
pub returns-in_err-refused-clause-part : goal.returns-in_err-refused-clause-part
returns-in_err-refused-clause-part g c = part_err c.from_residual.result c.from_residual.ensures.1 (part_failed (λ answer. answer.refused) (part_refused (λ refused. refused) c.requires refl c.in_err-refused.ensures))
