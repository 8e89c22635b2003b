use Rattle.std.proofs.Common.{refl, ap, ◌∙◌}
use Rattle.rows_in_runs.specs.Rows.{with_value, held_rows}
use Rattle.rows_in_runs.proofs.Changed.{noted, not_noted}
use Rattle.rows_in_runs.proofs.row.note_old.Goals as goal

pub returns-in_ok-push-clause-ok : goal.returns-in_ok-push-clause-ok
returns-in_ok-push-clause-ok c = λ now.
    ap (held_rows c.args.settled (with_value c.args.rows.now c.args.at now)) c.in_ok-push.ensures.items
    ∙ noted c.args.settled c.args.rows.now c.args.olds.now.items c.args.at now _ _ refl c.if-at-settled.true

pub returns-else-at-settled-clause-ok : goal.returns-else-at-settled-clause-ok
returns-else-at-settled-clause-ok c = λ now.
    not_noted c.args.settled c.args.rows.now c.args.olds.now.items c.args.at now c.if-at-settled.false
