use Rattle.repl_types.specs.laws.ValueText.{value_found, value_again}
use Rattle.repl_types.proofs.laws.one_spelling_of_a_value.Goals as goal

pub returns-clause-found : goal.returns-clause-found
returns-clause-found c = value_found

pub returns-clause-again : goal.returns-clause-again
returns-clause-again c = value_again
