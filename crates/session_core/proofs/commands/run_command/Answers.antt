use Rattle.std.proofs.Common.{◌≡◌, ℕ, List, ap, refl, sym, Option, None}
use Rattle.std.specs.Option.{option_map_or}
use Rattle.repl_model.specs.Words.{World}
use Rattle.repl_types.specs.declared.refusal.Refusal.TheVariants as refusals
use Rattle.run_core.specs.Runs.{Event}
use Rattle.run_commands.specs.parts.Refusing.{refused}
use Rattle.run_commands.specs.parts.laws.Composing.{part_as, part_refused}
use Rattle.session_core.specs.Commands.{command_events, talk_of}
use Rattle.session_core.proofs.Verbs.{not_carried_out}
use Rattle.session_core.proofs.commands.run_command.Goals as goal

pub returns : goal.returns
returns g c =
    let number = c.args.number in
    let unknown = refusals.UnknownCommand number in
    let none : talk_of c.args.command ≡ None = not_carried_out c.args.command c.requires.bodiless (record {
      capture = c.in_default.not-Capture;
      step = c.in_default.not-Step;
      apply = c.in_default.not-Apply;
      refresh = c.in_default.not-Refresh;
      status = c.in_default.not-StatusServer;
      set_status = c.in_default.not-StatusSet;
      source = c.in_default.not-ShowSource;
      changes = c.in_default.not-ShowCd;
      units = c.in_default.not-ShowUow;
      log = c.in_default.not-ShowLog;
      target = c.in_default.not-ShowTarget;
    }) in
    part_as (command_events number c.args.command) (λ w stands. ap (λ (talk : Option (ℕ → World → List (Event World))). option_map_or (λ events. events number w) talk (refused unknown)) (sym none)) (part_refused (λ refused. refused) c.requires.closed refl c.refuse.ensures)
