use Rattle.std.proofs.Common.{◌++◌, ap, ◌∙◌}
use Rattle.row_codec.specs.Spelling.{b16}
use Rattle.repl_definitions.specs.Predicates.{compare_op_spelling, operand_spelling, predicate_node_spelling, predicate_top}
use Rattle.repl_definitions.specs.laws.Predicates.{top_compare, top_null, top_not_null}
use Rattle.repl_definitions.proofs.Tagged.{tagged, three_written}
use Rattle.repl_definitions.proofs.predicate.PredicateNested.put_root.Goals as goal

pub returns-in_ok-put_part-in-Compare-3-clause-ok : goal.returns-in_ok-put_part-in-Compare-3-clause-ok
returns-in_ok-put_part-in-Compare-3-clause-ok c =
    let top = ap predicate_node_spelling (ap predicate_top c.in-Compare.is ∙ top_compare c.in-Compare.left c.in-Compare.op c.in-Compare.right) in
    let written = three_written _ _ _ _ (operand_spelling c.in-Compare.left) (compare_op_spelling c.in-Compare.op) (operand_spelling c.in-Compare.right) c.in_ok-put_part-in-Compare.ensures.ok c.in_ok-put_part-in-Compare-2.ensures.ok c.in_ok-put_part-in-Compare-3.ensures.ok in
    tagged _ _ _ (operand_spelling c.in-Compare.left ++ compare_op_spelling c.in-Compare.op ++ operand_spelling c.in-Compare.right) _ 32 c.in_ok-push-in-Compare.ensures.items written top

pub returns-in_ok-put_part-in-IsNull-clause-ok : goal.returns-in_ok-put_part-in-IsNull-clause-ok
returns-in_ok-put_part-in-IsNull-clause-ok c =
    let top = ap predicate_node_spelling (ap predicate_top c.in-IsNull.is ∙ top_null c.in-IsNull.place) in
    tagged _ _ _ (b16 c.in-IsNull.place) _ 33 c.in_ok-push-in-IsNull.ensures.items c.in_ok-put_part-in-IsNull.ensures.ok top

pub returns-in_ok-put_part-in-IsNotNull-clause-ok : goal.returns-in_ok-put_part-in-IsNotNull-clause-ok
returns-in_ok-put_part-in-IsNotNull-clause-ok c =
    let top = ap predicate_node_spelling (ap predicate_top c.in-IsNotNull.is ∙ top_not_null c.in-IsNotNull.place) in
    tagged _ _ _ (b16 c.in-IsNotNull.place) _ 34 c.in_ok-push-in-IsNotNull.ensures.items c.in_ok-put_part-in-IsNotNull.ensures.ok top
