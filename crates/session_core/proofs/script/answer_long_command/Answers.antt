use Rattle.std.proofs.Common.{◌||◌, refl}
use Rattle.repl_types.specs.declared.refusal.Refusal.TheVariants as refusals
use Rattle.run_commands.specs.parts.Refusing.{refused}
use Rattle.run_commands.specs.parts.laws.Composing.{err_value, first_fails, part_err, part_failed, part_gives, part_refused, part_then}
use Rattle.session_core.specs.declared.bodies.Bodies.TheVariants.{Refused}
use Rattle.session_core.proofs.Feeding.{is_feed}
use Rattle.session_core.proofs.script.answer_long_command.Goals as goal

pub end_bodies-requires : goal.end_bodies-requires
end_bodies-requires g c = record { closed = c.requires.closed; bodies = is_feed c.args.number c.args.bodies.now c.requires.bodies }

pub returns-in_err-ended : goal.returns-in_err-ended
returns-in_err-ended g c =
    let r = c.from_residual.result in
    let is = c.from_residual.ensures.1 in
    record { part = part_err r is (first_fails (λ w. refused (refusals.LineTooLong c.args.number)) (λ answer. answer.refused) c.in_err-ended.ensures); bodies = err_value _ _ r is }

pub returns-in_err-refused : goal.returns-in_err-refused
returns-in_err-refused g c =
    let r = c.from_residual-in_err-refused.result in
    let is = c.from_residual-in_err-refused.ensures.1 in
    record {
      part = part_err r is (part_failed (λ answer. answer.refused) (part_then c.in_ok-ended.ensures (part_refused (λ refused. refused) c.end_bodies.ensures.servers.closed refl c.in_err-refused.ensures)));
      bodies = err_value _ _ r is;
    }

pub returns : goal.returns
returns g c = record {
  part = part_gives (λ answer. answer.refused) (record { refused = c.in_ok-ended.ended || c.in_ok-refused.refused; bodies = Refused }) refl (part_then c.in_ok-ended.ensures (part_refused (λ refused. refused) c.end_bodies.ensures.servers.closed refl c.in_ok-refused.ensures));
  bodies = record { bodies = λ w at. refl; keeps = tt };
}
