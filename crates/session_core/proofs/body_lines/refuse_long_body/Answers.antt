use Rattle.std.proofs.Common.{◌≡◌, ◌⊎◌, inl, inr, ℕ, List, ap, refl, sym, Option}
use Rattle.repl_model.specs.Words.{World}
use Rattle.repl_types.specs.declared.refusal.Refusal.TheVariants as refusals
use Rattle.run_commands.specs.parts.Refusing.{refused}
use Rattle.run_commands.specs.parts.laws.Composing.{part_as, part_gives, part_refused}
use Rattle.session_core.specs.Talk.{long_body_events}
use Rattle.session_core.specs.declared.bodies.Bodies.{Bodies}
use Rattle.session_core.specs.declared.bodies.Bodies.TheVariants.{Refused, Gathered}
use Rattle.session_core.proofs.CopyLines.{none_is}
use Rattle.session_core.proofs.body_lines.refuse_long_body.Goals as goal

-- where body lines are refused or gathered, one over the limit is refused
long_refused : (bodies : Bodies) (number : ℕ) → (bodies ≡ Refused) ⊎ ((text : Option (List ℕ)) × (bodies ≡ Gathered text)) → (w : World) → refused (refusals.LineTooLong number) ≡ long_body_events bodies number w
long_refused bodies number (inl is) w = ap (λ (b : Bodies). long_body_events b number w) (sym is)
long_refused bodies number (inr is) w = ap (λ (b : Bodies). long_body_events b number w) (sym is.1)

pub returns-in-Refused : goal.returns-in-Refused
returns-in-Refused g c = part_as (long_body_events c.args.bodies.now c.args.number) (λ w stands. long_refused c.args.bodies.now c.args.number c.in-Refused.is w) (part_refused (λ refused. refused) c.requires.closed refl c.refuse.ensures)

pub returns-in_ok-after-in-Fed : goal.returns-in_ok-after-in-Fed
returns-in_ok-after-in-Fed g c =
    let number = c.args.number in
    part_as (long_body_events c.args.bodies.now number) (λ w stands. ap (λ (b : Bodies). long_body_events b number w) (sym c.in-Fed.is))
    (part_gives (λ refused. refused) c.is_none.result (sym (none_is c.in_ok-after-in-Fed.after c.is_none.result c.is_none.ensures)) c.in_ok-after-in-Fed.ensures.part)
