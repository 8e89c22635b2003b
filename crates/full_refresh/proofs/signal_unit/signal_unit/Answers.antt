use Rattle.std.proofs.Common.{◌≡◌, map, sym, ap, subst, ◌∙◌, arith}
use Rattle.world_store.specs.Words.{Is64}
use Rattle.repl_types.specs.declared.unit.Unit.{Unit as LogUnit}
use Rattle.source_log.specs.Units.{MayAppendUnit}
use Rattle.full_refresh.specs.Signals.{start_of, unit_of_signal}
use Rattle.full_refresh.proofs.SignalRecords.{signal_may}
use Rattle.full_refresh.proofs.signal_unit.signal_unit.Goals as goal

-- the unit that was made
made : (c : goal.In_ok-head) → ◌≡◌ {A = LogUnit} (record { head = c.in_ok-head.head; changes = c.in_ok-changes.changes }) (unit_of_signal c.args.def.now c.args.time)
made c = λ i. record { head = c.in_ok-head.ensures i; changes = (c.in_ok-changes.ensures ∙ ap (map start_of) c.in_ok-names.ensures) i }

pub returns-clause-unit : goal.returns-clause-unit
returns-clause-unit c = made c

pub returns-clause-may : goal.returns-clause-may
returns-clause-may c =
    let small : Is64 c.args.time = omega arith in
    subst MayAppendUnit (sym (made c)) (signal_may c.args.def.now c.args.time c.requires small)
