use Rattle.std.proofs.Common.{◌∙◌, arith}
use Rattle.repl_defs.specs.laws.Capitals.{capitals-zip}
use Rattle.repl_defs.proofs.words.is_in_capitals.Goals as goal

pub returns-then-word-spelled : goal.returns-then-word-spelled
returns-then-word-spelled c = c.has_capitals.ensures ∙ capitals-zip c.args.word.now c.args.spelled.now (omega arith)
