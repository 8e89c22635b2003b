use Rattle.repl_defs.specs.laws.TextTrees.{is_source_text, source_tree_is, is_predicate_text, predicate_tree_is}
use Rattle.repl_defs.proofs.texts.the_tree_of_a_text.Goals as goal

pub returns-clause-source : goal.returns-clause-source
returns-clause-source c = λ columns text from. (is_source_text columns text from, source_tree_is columns text from)

pub returns-clause-predicate : goal.returns-clause-predicate
returns-clause-predicate c = λ columns text p. (is_predicate_text columns text p, predicate_tree_is columns text p)
