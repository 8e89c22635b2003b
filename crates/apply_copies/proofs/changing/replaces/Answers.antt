use Rattle.std.proofs.Common.{sym, ◌∙◌}
use Rattle.world_store.specs.Words.{is_equal}
use Rattle.repl_model.specs.Words.{key_cmp, exact_key}
use Rattle.apply_copies.proofs.changing.replaces.Goals as goal

pub returns-then-same_values-clause-same : goal.returns-then-same_values-clause-same
returns-then-same_values-clause-same c = λ yes. exact_key c.args.before.now c.args.key.now (is_equal (key_cmp c.args.before.now c.args.key.now) (sym c.same_values.ensures ∙ c.if-same_values.true))
