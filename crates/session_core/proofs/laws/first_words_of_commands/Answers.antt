use Rattle.session_core.proofs.Verbs.{command_of_verb, verb_of_command}
use Rattle.session_core.proofs.laws.first_words_of_commands.Goals as goal

pub returns : goal.returns
returns c = λ word. (command_of_verb word, λ found. verb_of_command word found.0 found.1 found.2)
