use Rattle.std.proofs.Common.{drop, ap, refl, sym}
use Rattle.run_commands.specs.parts.laws.Composing.{err_value, no_memory, part_as, part_err, part_failed, part_gives, part_refused}
use Rattle.session_core.specs.Talk.{body_events}
use Rattle.session_core.specs.declared.bodies.Bodies.{Bodies}
use Rattle.session_core.specs.declared.bodies.Bodies.TheVariants.{Refused}
use Rattle.session_core.proofs.body_lines.answer_body.Goals as goal

-- a body line that is refused was written in part
pub returns-in_err-refuse-in-Refused : goal.returns-in_err-refuse-in-Refused
returns-in_err-refuse-in-Refused g c =
    let r = c.from_residual.result in
    let is = c.from_residual.ensures.1 in
    let number = c.args.number in
    let line = drop 1 c.args.text.now in
    record {
      part = part_err r is (part_failed (λ answer. answer.refused) (part_as (body_events c.args.bodies number line) (λ w stands. ap (λ (bodies : Bodies). body_events bodies number line w) (sym c.in-Refused.is)) (part_refused (λ refused. refused) c.requires.closed refl c.in_err-refuse-in-Refused.ensures)));
      bodies = err_value _ _ r is;
    }

-- nothing was done at a line of a load for which there was no memory
pub returns-in_err-gather-in-Gathered : goal.returns-in_err-gather-in-Gathered
returns-in_err-gather-in-Gathered g c =
    let r = c.from_residual-in_err-gather-in-Gathered.result in
    let is = c.from_residual-in_err-gather-in-Gathered.ensures.1 in
    record { part = part_err r is (no_memory (body_events c.args.bodies c.args.number (drop 1 c.args.text.now)) c.requires.closed); bodies = err_value _ _ r is }

-- a body line that is refused was written
pub returns-in_ok-refuse-in-Refused : goal.returns-in_ok-refuse-in-Refused
returns-in_ok-refuse-in-Refused g c =
    let number = c.args.number in
    let line = drop 1 c.args.text.now in
    let was = c.in_ok-refuse-in-Refused.field-0 in
    record {
      part = part_gives (λ answer. answer.refused) (record { refused = was; bodies = Refused }) refl
          (part_as (body_events c.args.bodies number line) (λ w stands. ap (λ (bodies : Bodies). body_events bodies number line w) (sym c.in-Refused.is)) (part_refused (λ refused. refused) c.requires.closed refl c.in_ok-refuse-in-Refused.ensures));
      bodies = search c.in-Refused.is;
    }
