use Rattle.std.proofs.Common.{[], ◌∷◌, ◌++◌, SFits, w64, rules, ap, ◌∙◌, append_assoc}
use Rattle.std.proofs.lemmas.Int.{to_z-of_z}
use Rattle.repl_types.specs.declared.value.Value.TheVariants as values
use Rattle.row_codec.specs.Spelling.{b16, zeros_marked, value_spelling}
use Rattle.repl_definitions.specs.Exprs.{expr_node_spelling, expr_top}
use Rattle.repl_definitions.specs.laws.Exprs.{top_column, top_int, top_text}
use Rattle.repl_definitions.proofs.Tagged.{tagged}
use Rattle.repl_definitions.proofs.expr.ExprNested.put_root.Goals as goal

pub returns-in_ok-put_part-in-Column-clause-ok : goal.returns-in_ok-put_part-in-Column-clause-ok
returns-in_ok-put_part-in-Column-clause-ok c =
    let top = ap expr_node_spelling (ap expr_top c.in-Column.is ∙ top_column c.in-Column.place) in
    tagged _ _ _ (b16 c.in-Column.place) _ 0x10 c.in_ok-push-in-Column.ensures.items c.in_ok-put_part-in-Column.ensures.ok top

pub returns-in_ok-put_part-in-Int-clause-ok : goal.returns-in_ok-put_part-in-Int-clause-ok
returns-in_ok-put_part-in-Int-clause-ok c =
    let top = ap expr_node_spelling (ap expr_top c.in-Int.is ∙ top_int c.in-Int.number) in
    let fits : SFits w64 c.in-Int.number = search rules in
    let same = ap (λ n. c.push-in-Int.new.self.items ++ value_spelling (values.Int n)) (to_z-of_z w64 c.in-Int.number fits) in
    tagged _ _ _ (value_spelling (values.Int c.in-Int.number)) _ 0x11 c.in_ok-push-in-Int.ensures.items (c.in_ok-put_part-in-Int.ensures.ok ∙ same) top

pub returns-in_ok-put_text-in-Text-clause-ok : goal.returns-in_ok-put_text-in-Text-clause-ok
returns-in_ok-put_text-in-Text-clause-ok c =
    let top = ap expr_node_spelling (ap expr_top c.in-Text.is ∙ top_text c.in-Text.text) in
    tagged _ _ _ (value_spelling (values.Text c.in-Text.text)) _ 0x11 c.in_ok-push-in-Text.ensures.items (c.in_ok-put_text-in-Text.ensures.ok ∙ append_assoc c.push-in-Text.new.self.items (0x02 ∷ zeros_marked c.in-Text.text) (0x00 ∷ 0x00 ∷ [])) top
