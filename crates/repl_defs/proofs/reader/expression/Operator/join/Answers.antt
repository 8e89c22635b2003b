-- What the operator makes, and of which kind it is.
use Rattle.std.proofs.Common.{◌≡◌, refl}
use Rattle.repl_defs.specs.ReadingExpressions.{joined_by}
use Rattle.repl_defs.specs.laws.TreeKinds.{kind_joined}
use Rattle.repl_defs.proofs.reader.expression.Operator.join.Goals as goal
use Rattle.repl_defs.proofs.reader.expression.Operator.join.Goals.{in-Add, in-Sub, in-Mul, in-Concat}

made : (c : goal.Joined-self) → c.match-self.expr ≡ joined_by c.args.self c.args.left.expr c.args.right.expr
made c = elim c.match-self.branch [
  | in-Add w ↦ rw (w.expr-is, w.in-Add.is, c.in_ok-left.ensures, c.in_ok-right.ensures) refl
  | in-Sub w ↦ rw (w.expr-is, w.in-Sub.is, c.in_ok-left.ensures, c.in_ok-right.ensures) refl
  | in-Mul w ↦ rw (w.expr-is, w.in-Mul.is, c.in_ok-left.ensures, c.in_ok-right.ensures) refl
  | in-Concat w ↦ rw (w.expr-is, w.in-Concat.is, c.in_ok-left.ensures, c.in_ok-right.ensures) refl
]

pub returns : goal.returns
returns c = record {
  expr = made c;
  kind = λ columns l r. kind_joined columns c.args.self c.args.left c.args.right _ c.kind-kind.ensures (made c) l r;
}
