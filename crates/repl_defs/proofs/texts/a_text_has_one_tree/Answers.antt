-- A text has one list of tokens, and that has one tree at most.
use Rattle.std.proofs.Common.{sym, subst, ◌∙◌}
use Rattle.std.proofs.lemmas.Option.{same_Some}
use Rattle.repl_defs.specs.laws.TextsRead.{one_source, one_predicate}
use Rattle.repl_defs.specs.Grammar.{IsSource, IsPredicate, disjunction}
use Rattle.repl_defs.proofs.texts.a_text_has_one_tree.Goals as goal

pub returns-clause-source : goal.returns-clause-source
returns-clause-source c = λ columns text x y h k.
    let one = same_Some k.tokens h.tokens (sym k.are ∙ h.are) in
    one_source columns h.tokens x y h.spelled (subst (λ ts. IsSource columns ts y) one k.spelled)

pub returns-clause-predicate : goal.returns-clause-predicate
returns-clause-predicate c = λ columns text x y h k.
    let one = same_Some k.tokens h.tokens (sym k.are ∙ h.are) in
    one_predicate columns h.tokens x y (record { spelled = h.spelled; fits = h.fits }) (record { spelled = subst (λ ts. IsPredicate columns disjunction ts y) one k.spelled; fits = k.fits })
