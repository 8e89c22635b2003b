use Rattle.std.proofs.Common.{sym, subst}
use Rattle.repl_defs.specs.Texts.{IsSourceText}
use Rattle.repl_defs.proofs.texts.read_source.Goals as goal

pub returns-clause-refused : goal.returns-clause-refused
returns-clause-refused c = λ is from h. c.source_of_text.ensures.refused is from (subst (λ t. IsSourceText c.args.columns.now t from) (sym c.as_bytes.ensures.value) h)
