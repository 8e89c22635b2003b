-- The values that expressions have are values, and rows that are made of them are rows.
use Rattle.std.proofs.Common.{◌≡◌, suc, ◌-◌, ◌≤◌, ◌^◌, ℤ, pos, negsuc, Bool, true, false, cond, nat_le, leb, List, [], ◌∷◌, ◌++◌, length, refl, sym, subst, arith, ◌+ℤ◌, ◌-ℤ◌, ◌*ℤ◌, Option, Some, None, w64, FitsSigned}
use Rattle.std.specs.List.{AllByRecursion, filter_map, cons_option}
use Rattle.std.proofs.lemmas.Bool.{and_parts, leb-true}
use Rattle.std.proofs.lemmas.Str.{IsUtf8-append}
use Rattle.repl_model.specs.Words.{text_limit, Values, IsValue, Value, ExprNode, IsExprNode, expr_layer_top, expr_layer_below, expr_nodes, IsExpr, IsSource, IsTargetColumn, IsMember, Expr, Expr-F, fold-roll-Expr, ind-Expr, map-Expr, roll-Expr, ColumnFrom, Member, TargetColumn, has_64_bits, integer, of_integers, of_texts, layer_value, value_of, plain_value, target_row, all_parts}
use Rattle.world_store.specs.Words.{IsRow}
use Rattle.cd_tables.specs.laws.SoundChanges.{value_at}
use Rattle.repl_types.specs.declared.value.Value.TheVariants.{Null, Int, Text}
use Rattle.repl_definitions.specs.declared.expr.Expr.TheOpen as layer
use Rattle.repl_definitions.specs.declared.member.ColumnFrom.TheVariants.{Plain, Count, CountOf, Sum, Min, Max}

-- ---- what operators make

-- an integer of 64 bits is a value, and any other is NULL
integer_fits : (n : ℤ) → IsValue (integer n)
integer_fits n = pick (has_64_bits n) refl
  where
    fits : (m : ℤ) → has_64_bits m ≡ true → FitsSigned w64 m
    fits (pos m) e = let le = leb-true m (2 ^ 63 - 1) e in record { sfits = omega (arith, le) }
    fits (negsuc m) e = let le = leb-true m (2 ^ 63 - 1) (and_parts (leb m (2 ^ 63 - 1)) true e).0 in record { sfits = omega (arith, le) }

    pick : (t : Bool) → has_64_bits n ≡ t → IsValue (cond t (Int n) Null)
    pick true e = fits n e
    pick false e = tt

-- so what an operation makes of integers is a value
integers_fit : (f : ℤ → ℤ → ℤ) (v w : Value) → IsValue (of_integers f v w)
integers_fit f (Int n) (Int m) = integer_fits (f n m)
integers_fit f (Int n) Null = tt
integers_fit f (Int n) (Text t) = tt
integers_fit f Null w = tt
integers_fit f (Text t) w = tt

-- and one text after another
texts_fit : (v w : Value) → IsValue v → IsValue w → IsValue (of_texts v w)
texts_fit (Text t) (Text u) fv fw = pick (nat_le (length (t ++ u)) text_limit) refl
  where
    pick : (b : Bool) → nat_le (length (t ++ u)) text_limit ≡ b → IsValue (cond b (Text (t ++ u)) Null)
    pick true e = (leb-true (length (t ++ u)) text_limit e, IsUtf8-append t u fv.1 fw.1)
    pick false e = tt
texts_fit (Text t) Null fv fw = tt
texts_fit (Text t) (Int n) fv fw = tt
texts_fit Null w fv fw = tt
texts_fit (Int n) w fv fw = tt

-- ---- expressions

module _ (row : Values) (all : AllByRecursion IsValue row) where
  -- the value of an expression is a value, if its literals are
  abbrev HasValue : Expr → Type 0
  HasValue e = IsExpr e → IsValue (value_of row e)

  -- the value of an expression, layer by layer
  values_layer : (x : Expr-F Expr) → value_of row (roll-Expr x) ≡ layer_value row (map-Expr Expr Value (value_of row) x)
  unfolding value_of
  values_layer x = fold-roll-Expr Value (layer_value row) x

  -- its nodes
  nodes_layer : (x : Expr-F Expr) → expr_nodes (roll-Expr x) ≡ expr_layer_top (map-Expr Expr (List ExprNode) expr_nodes x) ∷ expr_layer_below (map-Expr Expr (List ExprNode) expr_nodes x)
  unfolding expr_nodes
  nodes_layer x = fold-roll-Expr (List ExprNode) (λ nodes. expr_layer_top nodes ∷ expr_layer_below nodes) x

  -- it has one if its layer does
  at_expr : (x : Expr-F Expr) → (AllByRecursion IsExprNode (expr_layer_top (map-Expr Expr (List ExprNode) expr_nodes x) ∷ expr_layer_below (map-Expr Expr (List ExprNode) expr_nodes x)) → IsValue (layer_value row (map-Expr Expr Value (value_of row) x))) → HasValue (roll-Expr x)
  at_expr x fits nodes = subst IsValue (sym (values_layer x)) (fits (subst (AllByRecursion IsExprNode) (nodes_layer x) nodes))

  -- a layer over expressions that have values has one
  expr_step : (x : Expr-F Expr) (y : Expr-F ((e : Expr) × HasValue e)) → map-Expr ((e : Expr) × HasValue e) Expr (λ e. e.0) y ≡ x → HasValue (roll-Expr x)
  expr_step x (layer.Column p) e = subst (λ z. HasValue (roll-Expr z)) e (at_expr (layer.Column p) (λ nodes. value_at row p all))
  expr_step x (layer.Int n) e = subst (λ z. HasValue (roll-Expr z)) e (at_expr (layer.Int n) (λ nodes. nodes.0))
  expr_step x (layer.Text t) e = subst (λ z. HasValue (roll-Expr z)) e (at_expr (layer.Text t) (λ nodes. nodes.0))
  expr_step x (layer.Add l r) e = subst (λ z. HasValue (roll-Expr z)) e (at_expr (layer.Add l.0 r.0) (λ nodes. integers_fit ◌+ℤ◌ (value_of row l.0) (value_of row r.0)))
  expr_step x (layer.Sub l r) e = subst (λ z. HasValue (roll-Expr z)) e (at_expr (layer.Sub l.0 r.0) (λ nodes. integers_fit ◌-ℤ◌ (value_of row l.0) (value_of row r.0)))
  expr_step x (layer.Mul l r) e = subst (λ z. HasValue (roll-Expr z)) e (at_expr (layer.Mul l.0 r.0) (λ nodes. integers_fit ◌*ℤ◌ (value_of row l.0) (value_of row r.0)))
  expr_step x (layer.Concat l r) e = subst (λ z. HasValue (roll-Expr z)) e (at_expr (layer.Concat l.0 r.0) (λ nodes. let both = all_parts IsExprNode (expr_nodes l.0) (expr_nodes r.0) nodes.1 in texts_fit (value_of row l.0) (value_of row r.0) (l.1 both.0) (r.1 both.1)))

  -- the value of an expression for a row of values is a value, if the expression's literals are
  pub value_fits : (e : Expr) → IsExpr e → IsValue (value_of row e)
  value_fits = ind-Expr HasValue expr_step

  -- ---- rows of targets

  -- so are the values of columns
  values_fit : (columns : List TargetColumn) → AllByRecursion IsTargetColumn columns → AllByRecursion IsValue (filter_map (λ column. plain_value row column.from) columns)
  values_fit [] fit = tt
  values_fit (column ∷ columns) fit = one column.from fit.0.1 (values_fit columns fit.1)
    where
      rest : List Value
      rest = filter_map (λ (c : TargetColumn). plain_value row c.from) columns

      one : (from : ColumnFrom) → IsSource from → AllByRecursion IsValue rest → AllByRecursion IsValue (cons_option (plain_value row from) rest)
      one (Plain e) is more = (value_fits e is, more)
      one Count is more = more
      one (CountOf place) is more = more
      one (Sum place) is more = more
      one (Min place) is more = more
      one (Max place) is more = more

  -- the row that a row makes has no more values than the member has columns
  pub target_row_short : (member : Member) → length (target_row member row) ≤ length member.columns
  target_row_short member = few member.columns
    where
      few : (columns : List TargetColumn) → length (filter_map (λ column. plain_value row column.from) columns) ≤ length columns
      few [] = omega arith
      few (column ∷ columns) = one (plain_value row column.from) (few columns)
        where
          one : (o : Option Value) → length (filter_map (λ (c : TargetColumn). plain_value row c.from) columns) ≤ length columns → length (cons_option o (filter_map (λ (c : TargetColumn). plain_value row c.from) columns)) ≤ suc (length columns)
          one None le = omega arith
          one (Some v) le = omega arith

  -- the row that a row of values makes is one
  pub target_row_fits : (member : Member) → IsMember member → IsRow (target_row member row)
  target_row_fits member fit = (omega (arith, target_row_short member, fit.3.0), values_fit member.columns fit.3.1)
