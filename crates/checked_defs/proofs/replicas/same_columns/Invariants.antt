use Rattle.std.proofs.Common.{◌≡◌, length}
use Rattle.std.specs.Cmp.Lexicographic.{pointwise}
use Rattle.checked_defs.specs.Rules.{same_column}
use Rattle.checked_defs.proofs.replicas.same_columns.Given as goal

abbrev pub invariant-columns : goal.invariant-columns
invariant-columns l = pointwise same_column l.rest l.others ≡ pointwise same_column l.columns l.fn.others

abbrev pub decreases-columns : goal.decreases-columns
decreases-columns l = length l.rest
