use Rattle.std.proofs.Common.{None, sym, ◌∙◌}
use Rattle.keep_core.specs.Contents.{Table, set_key}
use Rattle.keep_map.proofs.RunChanges.{then_becomes, after_same, at_error, unset_none, none_of}
use Rattle.keep_map.proofs.table_run.TableRun.remove.Goals as goal

pub returns-in_err-unset-clause-err : goal.returns-in_err-unset-clause-err
returns-in_err-unset-clause-err c =
    at_error c.from_residual-in_err-unset.result (then_becomes _ _ _ (λ (t : Table). t) (after_same _ _ _ c.sees-found.ensures.same c.touch.ensures.rows) c.in_err-unset.ensures.err)

pub returns-in_ok-unset-clause-ok : goal.returns-in_ok-unset-clause-ok
returns-in_ok-unset-clause-ok c =
    then_becomes _ _ _ (λ (t : Table). set_key t c.args.key.now None) (after_same _ _ _ c.sees-found.ensures.same c.touch.ensures.rows) c.in_ok-unset.ensures.ok

pub returns-else-found-clause-ok : goal.returns-else-found-clause-ok
returns-else-found-clause-ok c =
    unset_none _ _ c.args.key.now (none_of _ (sym c.sees-found.ensures.seen ∙ c.if-found.false)) c.sees-found.ensures.same
