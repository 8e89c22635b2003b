use Rattle.std.proofs.Common.{◌+◌, ◌||◌, List, ℕ, refl, subst, sym, arith}
use Rattle.world_store.specs.Words.{Stands}
use Rattle.site_store.specs.Words.{held}
use Rattle.run_core.specs.Runs.{last_world}
use Rattle.run_commands.specs.parts.laws.Composing.{err_value, first_fails, part_err, part_failed, part_gives, part_then}
use Rattle.session_core.specs.Commands.{command_line_events}
use Rattle.session_core.specs.Talk.{end_events}
use Rattle.session_core.proofs.Feeding.{is_feed, keeps_later}
use Rattle.session_core.proofs.script.answer_command.Goals as goal

pub end_bodies-requires : goal.end_bodies-requires
end_bodies-requires g c = record { closed = c.requires.closed; bodies = is_feed c.args.number c.args.bodies.now c.requires.bodies }

pub returns-in_err-ended : goal.returns-in_err-ended
returns-in_err-ended g c =
    let r = c.from_residual.result in
    let is = c.from_residual.ensures.1 in
    record { part = part_err r is (first_fails (command_line_events c.args.number c.args.line.now) (λ answer. answer.refused) c.in_err-ended.ensures); bodies = err_value _ _ r is }

pub returns-in_err-answer : goal.returns-in_err-answer
returns-in_err-answer g c =
    let r = c.from_residual-in_err-answer.result in
    let is = c.from_residual-in_err-answer.ensures.1 in
    record { part = part_err r is (part_failed (λ answer. answer.refused) (part_then c.in_ok-ended.ensures c.in_err-answer.ensures.part)); bodies = err_value _ _ r is }

pub returns : goal.returns
returns g c =
    let kept = g.K.Keeper.kept in
    let s1 = c.end_bodies.new.sites in
    let first = end_events c.args.bodies.now in
    let ended = c.in_ok-ended.ensures in
    let answer = c.in_ok-answer.answer in
    let follows = c.in_ok-answer.ensures.bodies in
    record {
      part = part_gives (λ answer. answer.refused) (record { refused = c.in_ok-ended.ended || answer.refused; bodies = answer.bodies }) refl (part_then ended c.in_ok-answer.ensures.part);
      bodies = record {
        bodies = λ w at.
            let x = last_world w (first w) in
            follows.bodies x (subst (λ (names : List (List ℕ)). Stands names (held kept s1) x) (sym ended.servers.names) (ended.ok w at).0.stands);
        keeps = keeps_later 1 (c.args.number + 1) answer.bodies (omega arith) follows.keeps;
      };
    }
