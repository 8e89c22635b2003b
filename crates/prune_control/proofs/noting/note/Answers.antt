use Rattle.std.proofs.lemmas.Result.{err_from_is_err_and}
use Rattle.prune_control.proofs.Reports.{reported_there, maybe_reported}
use Rattle.prune_control.proofs.noting.note.Goals as goal

pub returns-in_err-put_mark-clause-fault : goal.returns-in_err-put_mark-clause-fault
returns-in_err-put_mark-clause-fault g c =
    let p = err_from_is_err_and c.from_residual.result c.from_residual.ensures.1 in
    rw (p.1, p.2) (λ w k stands placed read_only report. maybe_reported w k c.args.set.now c.args.point stands.sound placed read_only report g.K.Keeper.kept c.args.sites.now c.put_mark.new.sites stands c.in_err-put_mark.field-0.0 c.requires.closed c.in_err-put_mark.ensures.fault)

pub returns-clause-ok : goal.returns-clause-ok
returns-clause-ok g c =
    λ w k stands placed read_only report. reported_there w k c.args.set.now c.args.point stands.sound placed read_only report g.K.Keeper.kept c.args.sites.now c.put_mark.new.sites stands c.in_ok-put_mark.ensures.ok.stepped
