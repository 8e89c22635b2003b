use Rattle.std.proofs.Common.{ap, sym, ◌∙◌, arith, inl, inr, length}
use Rattle.std.proofs.lemmas.Bool.{eqb-true}
use Rattle.repl_types.specs.Name.{name_of}
use Rattle.repl_types.specs.laws.Names.{name_again}
use Rattle.run_words.proofs.OneServer.{split_server}
use Rattle.run_words.proofs.servers.read_server.Goals as goal

pub returns-in_default-clause-usage : goal.returns-in_default-clause-usage
returns-in_default-clause-usage c = λ _ server right same.
    rw c.in_default.is at (split_server c.args.word.now server c.split_once.result c.split_once.ensures.cases right same)

pub returns-then-is_empty-clause-usage : goal.returns-then-is_empty-clause-usage
returns-then-is_empty-clause-usage c = λ _ server right same.
    let parts = rw c.in-Some.is at (split_server c.args.word.now server c.split_once.result c.split_once.ensures.cases right same) in
    elim c.then-is_empty.either [
      | inl empty ↦ omega (arith, right.path.some, ap length parts.1, eqb-true _ _ (sym c.is_empty.ensures ∙ empty))
      | inr long ↦ omega (arith, right.path.short, ap length parts.1, long.1)
    ]

pub returns-in_default-2-clause-usage : goal.returns-in_default-2-clause-usage
returns-in_default-2-clause-usage c = λ _ server right same.
    let parts = rw c.in-Some.is at (split_server c.args.word.now server c.split_once.result c.split_once.ensures.cases right same) in
    let found = name_again server.name right.name in
    cc (c.in_ok-name.ensures, c.in_default-2.is, c.as_bytes.ensures.value, ap name_of parts.0, found)
