use Rattle.set_places.specs.Targets.{target_number}
use Rattle.apply_copies.specs.Rules.{ShowsDamage}
use Rattle.apply_copies.proofs.MemberFaults.{stops_closed}
use Rattle.apply_copies.proofs.loading.load_rows.Goals as goal

pub returns-in-Err-clause-fault : goal.returns-in-Err-clause-fault
returns-in-Err-clause-fault g c = stops_closed g.K.Keeper.kept c.args.sites.now c.load_member.new.sites c.rollback_all.new.self (ShowsDamage g.K.Keeper.kept c.args.sites.now c.args.set.now (target_number c.args.set.now.at_target.number c.args.member)) c.in-Err.e c.in-Err.ensures.fault c.rollback_all.ensures
