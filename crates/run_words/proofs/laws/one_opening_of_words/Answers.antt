use Rattle.run_words.proofs.OneOpening.{one_opening}
use Rattle.run_words.proofs.laws.one_opening_of_words.Goals as goal

pub returns : goal.returns
returns c = one_opening
