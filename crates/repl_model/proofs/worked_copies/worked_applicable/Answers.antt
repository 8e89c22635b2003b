use Rattle.std.proofs.Common.{◌∷◌, [], ◌++◌, None, refl, pos, codes}
use Rattle.repl_types.specs.declared.value.Value.TheVariants.{Int}
use Rattle.repl_model.specs.Units.{units}
use Rattle.repl_model.specs.Applicable.{change_fits, is_applicable}
use Rattle.repl_model.specs.WorkedOrders.{orders, orders_insert}
use Rattle.repl_model.specs.WorkedCopies.{parts, interleaved_log}
use Rattle.repl_model.specs.laws.Applied.{commit_applicable}
use Rattle.repl_model.proofs.worked_copies.worked_applicable.Goals as goal

pub returns-clause-change : goal.returns-clause-change
unfolding is_applicable change_fits
returns-clause-change c = refl

pub returns-clause-no_table : goal.returns-clause-no_table
unfolding is_applicable
returns-clause-no_table c = refl

pub returns-clause-key_stands : goal.returns-clause-key_stands
unfolding units
returns-clause-key_stands c = commit_applicable (orders ∷ parts ∷ []) (interleaved_log ++ orders_insert 3 1 (codes "pen") (Int (pos 20)) ∷ []) 3 70 (codes "cem") None

pub returns-clause-key_is_free : goal.returns-clause-key_is_free
unfolding units
returns-clause-key_is_free c = commit_applicable (orders ∷ parts ∷ []) (interleaved_log ++ orders_insert 3 3 (codes "pen") (Int (pos 20)) ∷ []) 3 70 (codes "cem") None

pub returns-clause-same_time : goal.returns-clause-same_time
unfolding units
returns-clause-same_time c = commit_applicable (orders ∷ parts ∷ []) (interleaved_log ++ orders_insert 3 3 (codes "pen") (Int (pos 20)) ∷ []) 3 60 (codes "cem") None

pub returns-clause-too_early : goal.returns-clause-too_early
unfolding units
returns-clause-too_early c = commit_applicable (orders ∷ parts ∷ []) (interleaved_log ++ orders_insert 3 3 (codes "pen") (Int (pos 20)) ∷ []) 3 40 (codes "cem") None
