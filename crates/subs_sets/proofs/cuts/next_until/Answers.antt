use Rattle.std.proofs.Common.{sym, ◌∙◌}
use Rattle.repl_model.specs.Words.{at_place_in}
use Rattle.subs_sets.specs.Cuts.{captured_after}
use Rattle.subs_sets.proofs.BlockCuts.{none_until, first_until, late_is_none}
use Rattle.subs_sets.proofs.cuts.next_until.Goals as goal

pub returns-in_default-clause-unit : goal.returns-in_default-clause-unit
returns-in_default-clause-unit g c = λ w k sound placed reveals.
    none_until c.args.end (captured_after c.args.point k.source) (sym c.in_default.is ∙ c.in_ok-next.ensures.unit w k sound placed reveals)

pub returns-then-not-is_until-clause-unit : goal.returns-then-not-is_until-clause-unit
returns-then-not-is_until-clause-unit g c = λ w k sound placed reveals.
    late_is_none w k sound (at_place_in w c.args.set.now.source k.source placed.source) c.args.end c.args.point c.in-Some.seq c.in-Some.time (sym c.in-Some.is ∙ c.in_ok-next.ensures.unit w k sound placed reveals) (sym c.is_until.ensures ∙ c.if-not-is_until.true)

pub returns-clause-unit : goal.returns-clause-unit
returns-clause-unit g c = λ w k sound placed reveals.
    first_until c.args.end (captured_after c.args.point k.source) c.in-Some.seq c.in-Some.time (sym c.in-Some.is ∙ c.in_ok-next.ensures.unit w k sound placed reveals) (sym c.is_until.ensures ∙ c.if-not-is_until.false)
