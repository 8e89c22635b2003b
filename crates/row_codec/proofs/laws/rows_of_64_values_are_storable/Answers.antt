use Rattle.std.proofs.Common.{arith}
use Rattle.row_codec.specs.laws.Lengths.{row_length, log_storable}
use Rattle.row_codec.proofs.laws.rows_of_64_values_are_storable.Goals as goal

pub returns-clause-row : goal.returns-clause-row
returns-clause-row c row all short = (omega (arith, short), omega (arith, row_length row all short))

pub returns-clause-log_record : goal.returns-clause-log_record
returns-clause-log_record c = log_storable
