use Rattle.std.proofs.Common.{subst}
use Rattle.repl_model.specs.Words.{AppendError}
use Rattle.source_log.specs.Units.{IsUndamagedAppend}
use Rattle.full_refresh.proofs.signals.append.Goals as goal

pub returns-in-Err-Fault-clause-undamaged : goal.returns-in-Err-Fault-clause-undamaged
returns-in-Err-Fault-clause-undamaged g c = λ server d sees whole fit. subst (λ (e : AppendError). IsUndamagedAppend e) c.in-Err-Fault.field-0-is (c.in-Err-Fault.ensures.undamaged server d sees whole fit)
