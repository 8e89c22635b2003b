-- Proofs that several numbers, one after another, have one spelling. There is nothing to believe here.
use Rattle.row_codec.specs.Spelling.{Is64, b64}
use Rattle.row_codec.specs.Takes.{One, PairFits, pair_spelling}
use Rattle.row_codec.specs.laws.Numbers.{one64}
use Rattle.row_codec.specs.laws.Ones.{one_pair}

-- two numbers
pub one_two_numbers : One (PairFits Is64 Is64) (pair_spelling b64 b64)
one_two_numbers = one_pair _ _ _ _ one64 one64

-- three numbers
pub one_three_numbers : One (PairFits (PairFits Is64 Is64) Is64) (pair_spelling (pair_spelling b64 b64) b64)
one_three_numbers = one_pair _ _ _ _ one_two_numbers one64
