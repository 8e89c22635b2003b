-- Bytes after a tag.
use Rattle.std.proofs.Common.{◌≡◌, ℕ, List, [], ◌∷◌, ◌++◌, drop, get_or, sym, ap, ◌∙◌, arith, append_assoc}
use Rattle.repl_types.specs.ValueText.{IsValue}
use Rattle.repl_types.specs.declared.value.Value.{Value}
use Rattle.repl_types.specs.declared.value.Value.TheVariants as values
use Rattle.repl_definitions.specs.declared.nested.Root.TheVariants.{Single, Joined}
use Rattle.repl_definitions.specs.declared.expr.ExprLeaf.TheVariants.{Column, Int, Text}
use Rattle.repl_definitions.specs.declared.expr.ExprJoint.TheVariants.{Add, Sub, Mul, Concat}
use Rattle.row_codec.specs.Spelling.{value_spelling}
use Rattle.repl_definitions.specs.Exprs.{ExprNode, expr_node_spelling, IsExprNode}

-- a tag is written, and then what it announces
pub tagged : (before between after rest whole : List ℕ) (tag : ℕ) → between ≡ before ++ tag ∷ [] → after ≡ between ++ rest → whole ≡ tag ∷ rest → after ≡ before ++ whole
tagged before between after rest whole tag e f g = f ∙ ap (λ s. s ++ rest) e ∙ append_assoc before (tag ∷ []) rest ∙ ap (λ s. before ++ s) (sym g)

-- the nodes of the tag 0x11 are values
pub value_node : (bytes rest : List ℕ) (x : ExprNode) → get_or bytes 0 0 ≡ 0x11 → IsExprNode x → bytes ≡ expr_node_spelling x ++ rest → (v : Value) × IsValue v × (drop 1 bytes ≡ value_spelling v ++ rest)
value_node bytes rest (Single (Column p)) tag fits e = let other = ap (λ s. get_or s 0 0) e in absurd (omega arith)
value_node bytes rest (Single (Int n)) tag fits e = (values.Int n, fits, ap (drop 1) e)
value_node bytes rest (Single (Text t)) tag fits e = (values.Text t, fits, ap (drop 1) e)
value_node bytes rest (Joined Add) tag fits e = let other = ap (λ s. get_or s 0 0) e in absurd (omega arith)
value_node bytes rest (Joined Sub) tag fits e = let other = ap (λ s. get_or s 0 0) e in absurd (omega arith)
value_node bytes rest (Joined Mul) tag fits e = let other = ap (λ s. get_or s 0 0) e in absurd (omega arith)
value_node bytes rest (Joined Concat) tag fits e = let other = ap (λ s. get_or s 0 0) e in absurd (omega arith)

-- three parts are written, one after another
pub three_written : (start after later last x y z : List ℕ) → after ≡ start ++ x → later ≡ after ++ y → last ≡ later ++ z → last ≡ start ++ (x ++ y ++ z)
three_written start after later last x y z e f g = g ∙ ap (λ s. s ++ z) (f ∙ ap (λ s. s ++ y) e ∙ append_assoc start x y) ∙ append_assoc start (x ++ y) z
