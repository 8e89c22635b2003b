use Rattle.std.proofs.Common.{sym}
use Rattle.repl_types.specs.laws.Names.{name_is_text}
use Rattle.repl_types.proofs.name.Name.read.Goals as goal

pub returns-in_default : goal.returns-in_default
returns-in_default c = absurd (c.in_default.ensures.cases.0 (name_is_text c.args.bytes.now (sym c.if-not-is_name.ensures)))
