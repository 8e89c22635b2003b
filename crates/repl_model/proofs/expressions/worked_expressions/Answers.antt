use Rattle.std.proofs.Common.{refl}
use Rattle.std.proofs.lemmas.List.{append-nil, length_push}
use Rattle.repl_model.specs.laws.Trees.{by_nodes}
use Rattle.repl_model.proofs.expressions.worked_expressions.Goals as goal

pub returns-clause-sum : goal.returns-clause-sum
returns-clause-sum c = simp by_nodes refl

pub returns-clause-greatest : goal.returns-clause-greatest
returns-clause-greatest c = simp by_nodes refl

pub returns-clause-past_greatest : goal.returns-clause-past_greatest
returns-clause-past_greatest c = simp by_nodes refl

pub returns-clause-least : goal.returns-clause-least
returns-clause-least c = simp by_nodes refl

pub returns-clause-past_least : goal.returns-clause-past_least
returns-clause-past_least c = simp by_nodes refl

pub returns-clause-past_inside : goal.returns-clause-past_inside
returns-clause-past_inside c = simp by_nodes refl

pub returns-clause-past_product : goal.returns-clause-past_product
returns-clause-past_product c = simp by_nodes refl

pub returns-clause-product : goal.returns-clause-product
returns-clause-product c = simp by_nodes refl

pub returns-clause-null_sum : goal.returns-clause-null_sum
returns-clause-null_sum c = simp by_nodes refl

pub returns-clause-null_text : goal.returns-clause-null_text
returns-clause-null_text c = simp by_nodes refl

pub returns-clause-joined : goal.returns-clause-joined
returns-clause-joined c = simp by_nodes refl

pub returns-clause-longest : goal.returns-clause-longest
returns-clause-longest c t h = simp by_nodes (rw (append-nil t, h) refl)

pub returns-clause-too_long : goal.returns-clause-too_long
returns-clause-too_long c t byte h = simp by_nodes (rw (length_push t byte, h) refl)
