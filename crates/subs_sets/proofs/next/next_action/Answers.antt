use Rattle.subs_sets.specs.Rules.{ShowsDamage}
use Rattle.subs_sets.proofs.NoDamage.{stops_closed, none_reported}
use Rattle.subs_sets.proofs.next.next_action.Goals as goal

pub returns-in-Err-clause-fault : goal.returns-in-Err-clause-fault
returns-in-Err-clause-fault g c = stops_closed g.K.Keeper.kept c.args.sites.now c.find_action.new.sites c.rollback_all.new.self (ShowsDamage g.K.Keeper.kept c.args.sites.now) c.in-Err.e c.in-Err.ensures.fault c.rollback_all.ensures

pub returns-in-Err-clause-undamaged : goal.returns-in-Err-clause-undamaged
returns-in-Err-clause-undamaged g c = λ w k stands placed read_only. none_reported g.K.Keeper.kept c.args.sites.now c.find_action.new.sites c.in-Err.e w c.requires.closed c.in-Err.ensures.fault stands
