-- The kind of an expression that is joined while it is read.
use Rattle.std.proofs.Common.{◌≡◌, List, sym, ◌∙◌}
use Rattle.repl_model.specs.Words.{ColumnDef, kind_of, kind_add, kind_sub, kind_mul, kind_concat}
use Rattle.repl_defs.specs.ReadingExpressions.{HasKind, joined_by, joined_kind}
use Rattle.repl_defs.specs.declared.reader.expression.KindedExpr.{KindedExpr}
use Rattle.repl_defs.specs.declared.reader.expression.Operator.{Operator}
use Rattle.repl_defs.specs.declared.reader.expression.Operator.TheVariants.{Add, Sub, Mul, Concat}

-- the kind of two expressions that are joined
pub kind_joined : (columns : List ColumnDef) (operator : Operator) (left right : KindedExpr) (joined : KindedExpr) → joined.kind ≡ joined_kind operator left.kind right.kind → joined.expr ≡ joined_by operator left.expr right.expr → HasKind columns left → HasKind columns right → HasKind columns joined
kind_joined columns operator left right joined kind expr l r = kind ∙ rw (l, r, expr) (by_operator operator)
  where
    by_operator : (o : Operator) → joined_kind o (kind_of columns left.expr) (kind_of columns right.expr) ≡ kind_of columns (joined_by o left.expr right.expr)
    by_operator Add = sym (kind_add columns left.expr right.expr)
    by_operator Sub = sym (kind_sub columns left.expr right.expr)
    by_operator Mul = sym (kind_mul columns left.expr right.expr)
    by_operator Concat = sym (kind_concat columns left.expr right.expr)
