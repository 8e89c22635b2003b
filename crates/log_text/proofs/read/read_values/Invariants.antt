use Rattle.std.proofs.Common.{◌≡◌, length}
use Rattle.std.specs.List.{before_first}
use Rattle.log_text.specs.Words.{words}
use Rattle.log_text.specs.Records.{is_arrow, from_arrow, values_of}
use Rattle.log_text.proofs.Values.{with_values}
use Rattle.log_text.proofs.read.read_values.Given as goal

abbrev pub invariant-loop-word : goal.invariant-loop-word
invariant-loop-word l = record {
  values : with_values l.values (values_of (before_first is_arrow (words l.rest))) ≡ values_of (before_first is_arrow (words l.line));
  rest : from_arrow (words l.rest) ≡ from_arrow (words l.line);
}

abbrev pub decreases-loop-word : goal.decreases-loop-word
decreases-loop-word l = length l.rest
