use Rattle.std.proofs.Common.{◌≡◌, ◌∙◌, ap, rules, sym, subst, IfOk}
use Rattle.script_text.specs.Asked.{Asked, asked_by, unknown, bad}
use Rattle.run_commands.specs.parts.Refusing.{refused}
use Rattle.run_commands.specs.parts.laws.Composing.{no_memory, part_as}
use Rattle.session_core.specs.Answers.{Follows}
use Rattle.session_core.specs.Bodies.{after_asked}
use Rattle.session_core.specs.Commands.{asked_events, command_line_events}
use Rattle.session_core.proofs.commands.run_line.Goals as goal

-- nothing was done at a line for which there was no memory
pub returns-in-Err-Memory : goal.returns-in-Err-Memory
returns-in-Err-Memory g c = record { part = no_memory (command_line_events c.args.number c.args.line.now) c.requires; bodies = tt }

-- a line that asks for no command was refused
pub returns-in-Err-UnknownCommand-clause-part : goal.returns-in-Err-UnknownCommand-clause-part
returns-in-Err-UnknownCommand-clause-part g c =
    let number = c.args.number in
    let line = c.args.line.now in
    let is : asked_by line ≡ unknown = search rules in
    part_as (command_line_events number line) (λ w stands. ap (λ (asked : Asked). asked_events number line asked w) (sym is)) c.refuse_unfed.ensures.part

-- a line that isn't of the form of its command was refused
pub returns-in-Err-BadLine : goal.returns-in-Err-BadLine
returns-in-Err-BadLine g c =
    let number = c.args.number in
    let line = c.args.line.now in
    let r = c.refuse_unfed-in-Err-BadLine.result in
    let answers = c.refuse_unfed-in-Err-BadLine.ensures in
    let is : asked_by line ≡ bad = search rules in
    record {
      part = part_as (command_line_events number line) (λ w stands. ap refused c.bad_line_refusal-refusal.ensures ∙ ap (λ (asked : Asked). asked_events number line asked w) (sym is)) answers.part;
      bodies = subst (λ (asked : Asked). IfOk r (Follows g.K.Keeper.kept c.args.sites.now (after_asked line asked) 1)) (sym is) answers.bodies;
    }
