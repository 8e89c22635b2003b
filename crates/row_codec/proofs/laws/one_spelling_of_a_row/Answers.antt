use Rattle.row_codec.specs.laws.Ones.{one_whole}
use Rattle.row_codec.specs.Spelling.{IsRow, row_spelling}
use Rattle.row_codec.specs.laws.Values.{one_row}
use Rattle.row_codec.proofs.laws.one_spelling_of_a_row.Goals as goal

pub returns : goal.returns
returns c = one_whole IsRow row_spelling one_row
