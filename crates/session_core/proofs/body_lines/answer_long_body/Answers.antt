use Rattle.std.proofs.Common.{◌+◌, refl, sym, subst}
use Rattle.run_commands.specs.parts.laws.Composing.{err_value, part_err, part_failed, part_gives}
use Rattle.session_core.specs.Bodies.{KeepsBodies}
use Rattle.session_core.proofs.Feeding.{is_feed, keeps_long}
use Rattle.session_core.proofs.body_lines.answer_long_body.Goals as goal

pub refuse_long_body-requires : goal.refuse_long_body-requires
refuse_long_body-requires g c = record { closed = c.requires.closed; bodies = is_feed c.args.number c.args.bodies.now c.requires.bodies }

pub returns-in_err-refused : goal.returns-in_err-refused
returns-in_err-refused g c =
    let r = c.from_residual.result in
    let is = c.from_residual.ensures.1 in
    record { part = part_err r is (part_failed (λ answer. answer.refused) c.in_err-refused.ensures); bodies = err_value _ _ r is }

pub returns : goal.returns
returns g c = record {
  part = part_gives (λ answer. answer.refused) (record { refused = c.in_ok-refused.refused; bodies = c.after_long_body.result }) refl c.in_ok-refused.ensures;
  bodies = record {
    bodies = λ w at. c.after_long_body.ensures;
    keeps = subst (KeepsBodies (c.args.number + 1)) (sym c.after_long_body.ensures) (keeps_long (c.args.number + 1) c.args.bodies.now);
  };
}
