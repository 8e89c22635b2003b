use Rattle.source_log.proofs.UnitUndamaged.{none_damaged}
use Rattle.source_log.proofs.units.append_unit.Goals as goal

pub returns-in-Err-clause-undamaged : goal.returns-in-Err-clause-undamaged
returns-in-Err-clause-undamaged g c = λ s d seen whole fit.
    none_damaged s d whole c.args.unit.now fit g.K.Keeper.kept c.args.sites.now c.put_unit.new.sites c.args.server seen c.in-Err.e c.in-Err.ensures.fault
