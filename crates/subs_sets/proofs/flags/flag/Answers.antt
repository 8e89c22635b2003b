use Rattle.std.proofs.lemmas.Result.{err_from_is_err_and}
use Rattle.subs_sets.proofs.Flagged.{flagged_there, maybe_flagged}
use Rattle.subs_sets.proofs.flags.flag.Goals as goal

pub returns-in_err-put_flag-clause-fault : goal.returns-in_err-put_flag-clause-fault
returns-in_err-put_flag-clause-fault g c =
    let p = err_from_is_err_and c.from_residual-in_err-put_flag.result c.from_residual-in_err-put_flag.ensures.1 in
    rw (p.1, p.2) (λ w k stands placed read_only. maybe_flagged w k c.args.set.now stands.sound placed read_only g.K.Keeper.kept c.args.sites.now c.put_flag.new.sites stands c.in_err-put_flag.field-0.0 c.requires.closed c.in_err-put_flag.ensures.fault)

pub returns-clause-ok : goal.returns-clause-ok
returns-clause-ok g c =
    λ w k stands placed read_only. flagged_there w k c.args.set.now stands.sound placed read_only g.K.Keeper.kept c.args.sites.now c.put_flag.new.sites stands c.in_ok-put_flag.ensures.ok.stepped
