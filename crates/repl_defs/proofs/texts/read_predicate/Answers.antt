use Rattle.std.proofs.Common.{sym, subst}
use Rattle.repl_defs.specs.Texts.{IsPredicateText}
use Rattle.repl_defs.proofs.texts.read_predicate.Goals as goal

pub returns-clause-refused : goal.returns-clause-refused
returns-clause-refused c = λ is p h. c.predicate_of_text.ensures.refused is p (subst (λ t. IsPredicateText c.args.columns.now t p) (sym c.as_bytes.ensures.value) h)
