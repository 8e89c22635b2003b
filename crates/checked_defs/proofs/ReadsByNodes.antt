-- The columns that expressions and predicates read, node by node.
use Rattle.std.proofs.Common.{◌≡◌, ◌&&◌, ◌++◌, ℕ, ℤ, Bool, true, List, [], ◌∷◌, refl, sym, ap, ◌∙◌}
use Rattle.repl_model.specs.Words.{Expr, fold-roll-Expr, Predicate, fold-roll-Predicate, layer_columns, columns_read, layer_tested, columns_tested, is_among, are_among, read_column, tested_compare}
use Rattle.repl_definitions.specs.declared.expr.Expr.TheOpen as layer
use Rattle.repl_definitions.specs.declared.expr.Expr.TheVariants as exprs
use Rattle.repl_definitions.specs.declared.predicate.Predicate.TheOpen as test
use Rattle.repl_definitions.specs.declared.predicate.Predicate.TheVariants as predicates

-- what holds of all of two lists, one after the other, holds of all of each
pub among_both : (places some others : List ℕ) → are_among places (some ++ others) ≡ (are_among places some && are_among places others)
among_both places [] others = refl
among_both places (p ∷ ps) others = ap (λ b. is_among places p && b) (among_both places ps others) ∙ joined (is_among places p) (are_among places ps) (are_among places others)
  where
    joined : (a b c : Bool) → (a && (b && c)) ≡ (a && b && c)
    joined true b c = refl
    joined _ b c = refl

pub read_int : (n : ℤ) → columns_read (exprs.Int n) ≡ []
unfolding columns_read
read_int n = ap columns_read (sym (exprs.rolls-Int n)) ∙ fold-roll-Expr (List ℕ) layer_columns (layer.Int n)

pub read_text : (t : List ℕ) → columns_read (exprs.Text t) ≡ []
unfolding columns_read
read_text t = ap columns_read (sym (exprs.rolls-Text t)) ∙ fold-roll-Expr (List ℕ) layer_columns (layer.Text t)

pub read_add : (left right : Expr) → columns_read (exprs.Add left right) ≡ columns_read left ++ columns_read right
unfolding columns_read
read_add left right = ap columns_read (sym (exprs.rolls-Add left right)) ∙ fold-roll-Expr (List ℕ) layer_columns (layer.Add left right)

pub read_sub : (left right : Expr) → columns_read (exprs.Sub left right) ≡ columns_read left ++ columns_read right
unfolding columns_read
read_sub left right = ap columns_read (sym (exprs.rolls-Sub left right)) ∙ fold-roll-Expr (List ℕ) layer_columns (layer.Sub left right)

pub read_mul : (left right : Expr) → columns_read (exprs.Mul left right) ≡ columns_read left ++ columns_read right
unfolding columns_read
read_mul left right = ap columns_read (sym (exprs.rolls-Mul left right)) ∙ fold-roll-Expr (List ℕ) layer_columns (layer.Mul left right)

pub read_concat : (left right : Expr) → columns_read (exprs.Concat left right) ≡ columns_read left ++ columns_read right
unfolding columns_read
read_concat left right = ap columns_read (sym (exprs.rolls-Concat left right)) ∙ fold-roll-Expr (List ℕ) layer_columns (layer.Concat left right)

pub tested_null : (place : ℕ) → columns_tested (predicates.IsNull place) ≡ place ∷ []
unfolding columns_tested
tested_null place = ap columns_tested (sym (predicates.rolls-IsNull place)) ∙ fold-roll-Predicate (List ℕ) layer_tested (test.IsNull place)

pub tested_not_null : (place : ℕ) → columns_tested (predicates.IsNotNull place) ≡ place ∷ []
unfolding columns_tested
tested_not_null place = ap columns_tested (sym (predicates.rolls-IsNotNull place)) ∙ fold-roll-Predicate (List ℕ) layer_tested (test.IsNotNull place)

pub tested_and : (left right : Predicate) → columns_tested (predicates.And left right) ≡ columns_tested left ++ columns_tested right
unfolding columns_tested
tested_and left right = ap columns_tested (sym (predicates.rolls-And left right)) ∙ fold-roll-Predicate (List ℕ) layer_tested (test.And left right)

pub tested_or : (left right : Predicate) → columns_tested (predicates.Or left right) ≡ columns_tested left ++ columns_tested right
unfolding columns_tested
tested_or left right = ap columns_tested (sym (predicates.rolls-Or left right)) ∙ fold-roll-Predicate (List ℕ) layer_tested (test.Or left right)

-- all of them, for a tactic
pub ruleset reads_by_nodes = (among_both, read_column, read_int, read_text, read_add, read_sub, read_mul, read_concat, tested_compare, tested_null, tested_not_null, tested_and, tested_or)
