use Rattle.std.proofs.Common.{List, sym, subst}
use Rattle.std.specs.List.{All}
use Rattle.rows_in_runs.specs.declared.row.RunRow.{RunRow}
use Rattle.rows_in_runs.specs.Rows.{IsRow}
use Rattle.rows_in_runs.proofs.row.change_row.Goals as goal

pub returns-clause-olds : goal.returns-clause-olds
returns-clause-olds c = λ n fit old_fit.
    c.note_old.ensures.olds n (subst (λ (rows : List RunRow). All (IsRow n) rows) (sym c.deref.ensures.value) fit) old_fit
