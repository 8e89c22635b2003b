use Rattle.row_codec.specs.laws.Lengths.{length_of_key}
use Rattle.row_codec.proofs.laws.length_of_a_key.Goals as goal

pub returns : goal.returns
returns c = length_of_key
