use Rattle.std.proofs.Common.{◌≡◌, ◌≤◌, sum_by, take}
use Rattle.repl_model.specs.Words.{key_limit, spelled_len}
use Rattle.row_changes.proofs.changes.is_short.Given as goal

abbrev pub invariant-loop-value : goal.invariant-loop-value
invariant-loop-value l = (l.len ≡ sum_by spelled_len (take l.value-index l.key)) × (l.len ≤ key_limit)
