use Rattle.std.proofs.Common.{refl}
use Rattle.repl_model.specs.Units.{units}
use Rattle.repl_model.specs.WorkedOrders.{orders}
use Rattle.repl_model.specs.WorkedCopies.{parts, interleaved_log}
use Rattle.repl_model.specs.laws.Evaluate.{source_entries}
use Rattle.repl_model.proofs.worked_copies.worked_interleaved.Goals as goal

pub returns-clause-seqs : goal.returns-clause-seqs
unfolding units
returns-clause-seqs c = refl

pub returns-clause-changes : goal.returns-clause-changes
unfolding units
returns-clause-changes c = refl

pub returns-clause-orders_before : goal.returns-clause-orders_before
unfolding units
returns-clause-orders_before c = source_entries orders interleaved_log 5

pub returns-clause-parts_before : goal.returns-clause-parts_before
unfolding units
returns-clause-parts_before c = source_entries parts interleaved_log 5

pub returns-clause-orders_first : goal.returns-clause-orders_first
unfolding units
returns-clause-orders_first c = source_entries orders interleaved_log 6

pub returns-clause-parts_first : goal.returns-clause-parts_first
unfolding units
returns-clause-parts_first c = source_entries parts interleaved_log 6

pub returns-clause-orders_both : goal.returns-clause-orders_both
unfolding units
returns-clause-orders_both c = source_entries orders interleaved_log 7

pub returns-clause-parts_both : goal.returns-clause-parts_both
unfolding units
returns-clause-parts_both c = source_entries parts interleaved_log 7
