use Rattle.row_codec.specs.laws.Numbers.{length16, length32, length64}
use Rattle.row_codec.proofs.laws.lengths_of_numbers.Goals as goal

pub returns-clause-b16 : goal.returns-clause-b16
returns-clause-b16 c = length16

pub returns-clause-b32 : goal.returns-clause-b32
returns-clause-b32 c = length32

pub returns-clause-b64 : goal.returns-clause-b64
returns-clause-b64 c = length64
