use Rattle.source_log.proofs.Scanned.{none_bad}
use Rattle.source_log.proofs.reads.scan_table.Goals as goal

pub returns-in-Err-clause-undamaged : goal.returns-in-Err-clause-undamaged
returns-in-Err-clause-undamaged g c = λ s d seen has. none_bad g.K.Keeper.kept c.args.sites.now c.next_row.new.sites c.args.server s c.args.table.now d has seen c.in-Err.e c.in-Err.ensures.fault.blames
