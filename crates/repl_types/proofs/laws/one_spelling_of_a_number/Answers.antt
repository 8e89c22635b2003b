use Rattle.repl_types.specs.laws.Numbers.{number_found, number_again}
use Rattle.repl_types.proofs.laws.one_spelling_of_a_number.Goals as goal

pub returns-clause-found : goal.returns-clause-found
returns-clause-found c = number_found

pub returns-clause-again : goal.returns-clause-again
returns-clause-again c = number_again
