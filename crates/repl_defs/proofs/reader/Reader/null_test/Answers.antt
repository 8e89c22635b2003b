-- Each word that the machine takes, from what the calls ensure.
use Rattle.repl_defs.specs.laws.PredicateReader.{null_tested, not_null_tested, untested}
use Rattle.repl_defs.specs.laws.PredicateSteps.{column_fails}
use Rattle.repl_defs.proofs.reader.Reader.null_test.Goals as goal

pub returns-then-not-word-clause-refused : goal.returns-then-not-word-clause-refused
returns-then-not-word-clause-refused c = λ is h around. column_fails _ _ _ around h c.if-not-word.ensures.word.0

pub returns-then-not-word-2-clause-refused : goal.returns-then-not-word-2-clause-refused
returns-then-not-word-2-clause-refused c = λ is h around. untested _ _ _ _ _ _ c.if-not-word.ensures.word c.word-negated.ensures.word c.if-not-word-2.ensures.word.0 around

pub returns-then-negated-clause-ok : goal.returns-then-negated-clause-ok
returns-then-negated-clause-ok c = not_null_tested _ _ _ _ _ _ c.if-not-word.ensures.word c.if-negated.ensures.word c.if-not-word-2.ensures.word

pub returns-else-negated-clause-ok : goal.returns-else-negated-clause-ok
returns-else-negated-clause-ok c = null_tested _ _ _ _ _ _ c.if-not-word.ensures.word c.if-negated.ensures.word c.if-not-word-2.ensures.word
