use Rattle.std.proofs.Common.{ℕ, ◌≤◌, List, ◌∷◌, length, refl, ap, arith}
use Rattle.std.specs.Prelude.{codes}
use Rattle.std.proofs.lemmas.Grind.{common_steps}
use Rattle.repl_commands.specs.declared.command.Command.{Command}
use Rattle.repl_commands.specs.declared.command.Command.TheVariants.{ShowSource, ShowCd, ShowUow, ShowLog, ShowTarget, ShowTrail, ShowRejected}
use Rattle.script_text.specs.Words.{texts}
use Rattle.script_text.specs.Commands.{AreCommandWords}
use Rattle.script_text.proofs.Apart.{apart}
use Rattle.script_text.proofs.Slices.{counted}
use Rattle.script_text.proofs.commands.read_show.Goals as goal

-- two to four words follow `show`
few : (ws : List (List ℕ)) (c : Command) → AreCommandWords (codes "show" ∷ ws) c → (2 ≤ length ws) × (length ws ≤ 4)
few ws (ShowSource s t) is = (omega (arith, ap length is.spelled), omega (arith, ap length is.spelled))
few ws (ShowCd s t) is = (omega (arith, ap length is.spelled), omega (arith, ap length is.spelled))
few ws (ShowUow s) is = (omega (arith, ap length is.spelled), omega (arith, ap length is.spelled))
few ws (ShowLog s) is = (omega (arith, ap length is.spelled), omega (arith, ap length is.spelled))
few ws (ShowTarget s t) is = (omega (arith, ap length is.spelled), omega (arith, ap length is.spelled))
few ws (ShowTrail s set) is = (omega (arith, ap length is.spelled), omega (arith, ap length is.spelled))
few ws (ShowRejected s set) is = (omega (arith, ap length is.spelled), omega (arith, ap length is.spelled))
few ws _ is = absurd (apart (codes "show" ∷ ws) _ refl is.spelled)

pub returns-in_default-clause-refused : goal.returns-in_default-clause-refused
returns-in_default-clause-refused c (command, is) =
    let some = few (texts c.args.rest.now) command is in
    absurd (grind (arith, common_steps, some.0, some.1, counted c.args.rest.now))
