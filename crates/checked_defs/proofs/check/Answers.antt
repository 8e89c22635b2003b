use Rattle.std.proofs.Common.{sym, subst, ◌∙◌}
use Rattle.checked_defs.specs.Whole.{LeavesNothingOut}
use Rattle.spelled_defs.specs.declared.context.Context.{Context}
use Rattle.checked_defs.proofs.Whole.{nothing_left_out}
use Rattle.checked_defs.proofs.check.Goals as goal

pub returns-clause-whole : goal.returns-clause-whole
returns-clause-whole c = λ kinds.
    let whole = nothing_left_out c.args.raw.now c.in_ok-context.context (sym c.in_ok-rule.ensures ∙ c.in_default.is) kinds in
    let P : Context → Type 0 = λ x. LeavesNothingOut c.args.raw.now x.tables in
    subst P c.in_ok-context.ensures whole
