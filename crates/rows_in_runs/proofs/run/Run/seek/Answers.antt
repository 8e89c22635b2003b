use Rattle.std.proofs.Common.{List, length, sym, subst}
use Rattle.std.specs.Prelude.{IfNone}
use Rattle.keep_core.specs.Contents.{IsLastKey}
use Rattle.rows_in_runs.specs.declared.row.RunRow.{RunRow}
use Rattle.rows_in_runs.specs.Rows.{NoValues, IsFirstValue}
use Rattle.rows_in_runs.specs.Runs.{run_seen}
use Rattle.rows_in_runs.proofs.Search.{is_last, is_next, its_value}
use Rattle.rows_in_runs.proofs.run.Run.seek.Goals as goal

pub returns-in_err-at-clause-none : goal.returns-in_err-at-clause-none
returns-in_err-at-clause-none c =
    let r = c.args.self.now in
    let from = c.above-from.result in
    let none : NoValues r.rows.items from (length r.rows.items) = subst (λ (rows : List RunRow). NoValues rows from (length rows)) c.deref.ensures.value c.in_err-at.ensures.none in
    subst (λ o. IfNone o (IsLastKey (run_seen r) c.args.after.now)) (sym c.from_residual.ensures) (is_last r.bytes.items r.rows.items c.args.after.now from r.rising c.above-from.ensures none)

pub returns-clause-next : goal.returns-clause-next
returns-clause-next c =
    let r = c.args.self.now in
    let from = c.above-from.result in
    let at = c.in_ok-at.at in
    let first : IsFirstValue r.rows.items from at = subst (λ (rows : List RunRow). IsFirstValue rows from at) c.deref.ensures.value c.in_ok-at.ensures.some in
    record {
      within = first.within;
      value = (its_value r.bytes.items r.rows.items c.args.after.now from r.rising c.above-from.ensures at first).0;
      next = is_next r.bytes.items r.rows.items c.args.after.now from r.rising c.above-from.ensures at first;
    }
