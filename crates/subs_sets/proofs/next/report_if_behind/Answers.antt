use Rattle.std.proofs.lemmas.Result.{err_from_is_err_and}
use Rattle.subs_sets.proofs.JoinedRules.{mark_breaks}
use Rattle.subs_sets.proofs.next.report_if_behind.Goals as goal

pub returns-in_err-known-clause-fault : goal.returns-in_err-known-clause-fault
returns-in_err-known-clause-fault g c =
    let p = err_from_is_err_and c.from_residual.result c.from_residual.ensures.1 in
    rw (p.1, p.2) (mark_breaks g.K.Keeper.kept c.args.sites.now c.read_mark.new.sites c.args.set.now.source c.in_err-known.field-0.0 c.in_err-known.ensures.fault)
