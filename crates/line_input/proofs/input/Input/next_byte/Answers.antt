use Rattle.std.proofs.Common.{◌≡◌, ◌∙◌}
use Rattle.line_input.specs.Input.{left_of}
use Rattle.line_input.proofs.Bytes.{left_of-given}
use Rattle.line_input.proofs.input.Input.next_byte.Goals as goal
use Rattle.line_input.proofs.input.Input.next_byte.Goals.{else-self-via-then-self+in_ok-refill+else-not-branch, else-self-via-else-self}

pub returns-clause-left : goal.returns-clause-left
returns-clause-left g c =
    let same : left_of c.args.self.now (g.I.Source.left c.args.source.now) ≡ left_of c.else-self.self (g.I.Source.left c.else-self.source) =
    elim c.else-self.branch [
      | else-self-via-then-self+in_ok-refill+else-not-branch w ↦ cc (w.in_ok-refill.ensures.left)
      | else-self-via-else-self w ↦ cc
    ] in
    same ∙ left_of-given c.else-self.self c.give.new.self c.give.result (g.I.Source.left c.else-self.source) c.give.ensures.left
