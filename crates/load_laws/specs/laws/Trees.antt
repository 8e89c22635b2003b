-- Expressions and predicates have spellings if the places of the columns that they read have two bytes.
use Rattle.std.proofs.Common.{◌≡◌, ℕ, Bool, true, ◌&&◌, ◌||◌, ◌⊎◌, inl, inr, List, ◌∷◌, ◌++◌, sym, subst, ◌∙◌}
use Rattle.std.specs.List.{AllByRecursion}
use Rattle.std.proofs.lemmas.Bool.{and_parts, false≢true, or_cases}
use Rattle.world_store.specs.Words.{Is16}
use Rattle.repl_model.specs.Words.{ColumnDef, all_append, ExprNode, HasExprNodeSpelling, expr_layer_top, expr_layer_below, expr_nodes, HasExprSpelling, NodesFit, HasOperandSpelling, PredicateNode, HasPredicateNodeSpelling, predicate_layer_top, predicate_layer_below, predicate_nodes, HasPredicateSpelling, Expr, Expr-F, fold-roll-Expr, ind-Expr, map-Expr, roll-Expr, Operand, Predicate, Predicate-F, fold-roll-Predicate, ind-Predicate, map-Predicate, roll-Predicate, layer_columns, columns_read, operand_columns, operand_kind, layer_tested, columns_tested, is_int, is_text, layer_fits, kinds_fit, at_one, at_each, in_first, in_second}
use Rattle.repl_types.specs.declared.value.Value.TheVariants as values
use Rattle.repl_definitions.specs.declared.expr.Expr.TheOpen as layer
use Rattle.repl_definitions.specs.declared.predicate.Operand.TheVariants as operands
use Rattle.repl_definitions.specs.declared.predicate.Predicate.TheOpen as test

-- what holds of each of the nodes of two trees, if it follows from what holds of each of the columns of both
joined : {X : Type 0} (P : ℕ → Type 0) (Q : X → Type 0) (ms ns : List ℕ) (xs ys : List X) → (AllByRecursion P ms → AllByRecursion Q xs) → (AllByRecursion P ns → AllByRecursion Q ys) → AllByRecursion P (ms ++ ns) → AllByRecursion Q (xs ++ ys)
joined P Q ms ns xs ys left right all = all_append Q xs ys (left (at_each P ms (λ n i. at_one P (ms ++ ns) n all (in_first ms ns n i)))) (right (at_each P ns (λ n i. at_one P (ms ++ ns) n all (in_second ms ns n i))))

-- ---- expressions

-- the columns of an expression, layer by layer
expr_columns : (x : Expr-F Expr) → columns_read (roll-Expr x) ≡ layer_columns (map-Expr Expr (List ℕ) columns_read x)
unfolding columns_read
expr_columns x = fold-roll-Expr (List ℕ) layer_columns x

-- its nodes
expr_layers : (x : Expr-F Expr) → expr_nodes (roll-Expr x) ≡ expr_layer_top (map-Expr Expr (List ExprNode) expr_nodes x) ∷ expr_layer_below (map-Expr Expr (List ExprNode) expr_nodes x)
unfolding expr_nodes
expr_layers x = fold-roll-Expr (List ExprNode) (λ nodes. expr_layer_top nodes ∷ expr_layer_below nodes) x

-- an expression has a spelling if its columns have places of two bytes
abbrev ExprFits : Expr → Type 0
ExprFits e = AllByRecursion Is16 (columns_read e) → HasExprSpelling e

-- it fits if the nodes of its layer have spellings as soon as the layer's columns have places of two bytes
at_expr : (x : Expr-F Expr) → (AllByRecursion Is16 (layer_columns (map-Expr Expr (List ℕ) columns_read x)) → AllByRecursion HasExprNodeSpelling (expr_layer_top (map-Expr Expr (List ExprNode) expr_nodes x) ∷ expr_layer_below (map-Expr Expr (List ExprNode) expr_nodes x))) → ExprFits (roll-Expr x)
at_expr x fits all = subst (NodesFit HasExprNodeSpelling) (sym (expr_layers x)) (fits (subst (AllByRecursion Is16) (expr_columns x) all))

-- the nodes of two expressions that fit have spellings, if the columns of both have places of two bytes
joined_exprs : (left right : (e : Expr) × ExprFits e) → AllByRecursion Is16 (columns_read left.0 ++ columns_read right.0) → AllByRecursion HasExprNodeSpelling (expr_nodes left.0 ++ expr_nodes right.0)
joined_exprs left right = joined Is16 HasExprNodeSpelling (columns_read left.0) (columns_read right.0) (expr_nodes left.0) (expr_nodes right.0) left.1 right.1

-- a layer over expressions that fit fits
expr_step : (x : Expr-F Expr) (y : Expr-F ((e : Expr) × ExprFits e)) → map-Expr ((e : Expr) × ExprFits e) Expr (λ e. e.0) y ≡ x → ExprFits (roll-Expr x)
expr_step x (layer.Column p) e = subst (λ z. ExprFits (roll-Expr z)) e (at_expr (layer.Column p) (λ all. all))
expr_step x (layer.Int n) e = subst (λ z. ExprFits (roll-Expr z)) e (at_expr (layer.Int n) (λ all. (tt, tt)))
expr_step x (layer.Text t) e = subst (λ z. ExprFits (roll-Expr z)) e (at_expr (layer.Text t) (λ all. (tt, tt)))
expr_step x (layer.Add l r) e = subst (λ z. ExprFits (roll-Expr z)) e (at_expr (layer.Add l.0 r.0) (λ all. (tt, joined_exprs l r all)))
expr_step x (layer.Sub l r) e = subst (λ z. ExprFits (roll-Expr z)) e (at_expr (layer.Sub l.0 r.0) (λ all. (tt, joined_exprs l r all)))
expr_step x (layer.Mul l r) e = subst (λ z. ExprFits (roll-Expr z)) e (at_expr (layer.Mul l.0 r.0) (λ all. (tt, joined_exprs l r all)))
expr_step x (layer.Concat l r) e = subst (λ z. ExprFits (roll-Expr z)) e (at_expr (layer.Concat l.0 r.0) (λ all. (tt, joined_exprs l r all)))

-- an expression has a spelling if the columns that it reads have places of two bytes
pub expr_fits : (e : Expr) → ExprFits e
expr_fits = ind-Expr ExprFits expr_step

-- ---- predicates

-- the columns of a predicate, layer by layer
predicate_columns : (x : Predicate-F Predicate) → columns_tested (roll-Predicate x) ≡ layer_tested (map-Predicate Predicate (List ℕ) columns_tested x)
unfolding columns_tested
predicate_columns x = fold-roll-Predicate (List ℕ) layer_tested x

-- whether its operands have kinds
predicate_kinds : (columns : List ColumnDef) (x : Predicate-F Predicate) → kinds_fit columns (roll-Predicate x) ≡ layer_fits columns (map-Predicate Predicate Bool (kinds_fit columns) x)
unfolding kinds_fit
predicate_kinds columns x = fold-roll-Predicate Bool (layer_fits columns) x

-- its nodes
predicate_layers : (x : Predicate-F Predicate) → predicate_nodes (roll-Predicate x) ≡ predicate_layer_top (map-Predicate Predicate (List PredicateNode) predicate_nodes x) ∷ predicate_layer_below (map-Predicate Predicate (List PredicateNode) predicate_nodes x)
unfolding predicate_nodes
predicate_layers x = fold-roll-Predicate (List PredicateNode) (λ nodes. predicate_layer_top nodes ∷ predicate_layer_below nodes) x

-- an operand that has a kind has a spelling if its column has a place of two bytes
operand_fits : (columns : List ColumnDef) (o : Operand) → (is_int (operand_kind columns o) ≡ true) ⊎ (is_text (operand_kind columns o) ≡ true) → AllByRecursion Is16 (operand_columns o) → HasOperandSpelling o
operand_fits columns (operands.Column p) kind all = all.0
operand_fits columns (operands.Value values.Null) (inl e) all = absurd (false≢true e)
operand_fits columns (operands.Value values.Null) (inr e) all = absurd (false≢true e)
operand_fits columns (operands.Value (values.Int n)) kind all = tt
operand_fits columns (operands.Value (values.Text t)) kind all = tt

module _ (columns : List ColumnDef) where
  -- a predicate has a spelling if its operands have kinds, and its columns have places of two bytes
  abbrev PredicateFits : Predicate → Type 0
  PredicateFits p = kinds_fit columns p ≡ true → AllByRecursion Is16 (columns_tested p) → HasPredicateSpelling p

  -- it fits if the nodes of its layer have spellings as soon as the layer's operands have kinds, and its columns places of two bytes
  at_predicate : (x : Predicate-F Predicate) → (layer_fits columns (map-Predicate Predicate Bool (kinds_fit columns) x) ≡ true → AllByRecursion Is16 (layer_tested (map-Predicate Predicate (List ℕ) columns_tested x)) → AllByRecursion HasPredicateNodeSpelling (predicate_layer_top (map-Predicate Predicate (List PredicateNode) predicate_nodes x) ∷ predicate_layer_below (map-Predicate Predicate (List PredicateNode) predicate_nodes x))) → PredicateFits (roll-Predicate x)
  at_predicate x fits kinds all = subst (NodesFit HasPredicateNodeSpelling) (sym (predicate_layers x)) (fits (sym (predicate_kinds columns x) ∙ kinds) (subst (AllByRecursion Is16) (predicate_columns x) all))

  -- the operands of a comparison have spellings, if they have kinds, and their columns have places of two bytes
  compared : (left right : Operand) → (is_int (operand_kind columns left) && is_int (operand_kind columns right) || is_text (operand_kind columns left) && is_text (operand_kind columns right)) ≡ true → AllByRecursion Is16 (operand_columns left ++ operand_columns right) → HasOperandSpelling left × HasOperandSpelling right
  compared left right kinds all = (
    operand_fits columns left kind.0 (at_each Is16 (operand_columns left) (λ n i. at_one Is16 (operand_columns left ++ operand_columns right) n all (in_first (operand_columns left) (operand_columns right) n i))),
    operand_fits columns right kind.1 (at_each Is16 (operand_columns right) (λ n i. at_one Is16 (operand_columns left ++ operand_columns right) n all (in_second (operand_columns left) (operand_columns right) n i))),
  )
    where
      HasKind : Operand → Type 0
      HasKind o = (is_int (operand_kind columns o) ≡ true) ⊎ (is_text (operand_kind columns o) ≡ true)

      by_kind : ((is_int (operand_kind columns left) && is_int (operand_kind columns right)) ≡ true) ⊎ ((is_text (operand_kind columns left) && is_text (operand_kind columns right)) ≡ true) → HasKind left × HasKind right
      by_kind (inl e) = let both = and_parts (is_int (operand_kind columns left)) (is_int (operand_kind columns right)) e in (inl both.0, inl both.1)
      by_kind (inr e) = let both = and_parts (is_text (operand_kind columns left)) (is_text (operand_kind columns right)) e in (inr both.0, inr both.1)

      kind : HasKind left × HasKind right
      kind = by_kind (or_cases (is_int (operand_kind columns left) && is_int (operand_kind columns right)) (is_text (operand_kind columns left) && is_text (operand_kind columns right)) kinds)

  -- the nodes of two predicates that fit have spellings, if the operands of both have kinds, and their columns have places of two bytes
  joined_predicates : (left right : (p : Predicate) × PredicateFits p) → (kinds_fit columns left.0 && kinds_fit columns right.0) ≡ true → AllByRecursion Is16 (columns_tested left.0 ++ columns_tested right.0) → AllByRecursion HasPredicateNodeSpelling (predicate_nodes left.0 ++ predicate_nodes right.0)
  joined_predicates left right kinds =
      let both = and_parts (kinds_fit columns left.0) (kinds_fit columns right.0) kinds in
      joined Is16 HasPredicateNodeSpelling (columns_tested left.0) (columns_tested right.0) (predicate_nodes left.0) (predicate_nodes right.0) (left.1 both.0) (right.1 both.1)

  -- a layer over predicates that fit fits
  predicate_step : (x : Predicate-F Predicate) (y : Predicate-F ((p : Predicate) × PredicateFits p)) → map-Predicate ((p : Predicate) × PredicateFits p) Predicate (λ p. p.0) y ≡ x → PredicateFits (roll-Predicate x)
  predicate_step x (test.Compare l o r) e = subst (λ z. PredicateFits (roll-Predicate z)) e (at_predicate (test.Compare l o r) (λ kinds all. (compared l r kinds all, tt)))
  predicate_step x (test.IsNull p) e = subst (λ z. PredicateFits (roll-Predicate z)) e (at_predicate (test.IsNull p) (λ kinds all. all))
  predicate_step x (test.IsNotNull p) e = subst (λ z. PredicateFits (roll-Predicate z)) e (at_predicate (test.IsNotNull p) (λ kinds all. all))
  predicate_step x (test.And l r) e = subst (λ z. PredicateFits (roll-Predicate z)) e (at_predicate (test.And l.0 r.0) (λ kinds all. (tt, joined_predicates l r kinds all)))
  predicate_step x (test.Or l r) e = subst (λ z. PredicateFits (roll-Predicate z)) e (at_predicate (test.Or l.0 r.0) (λ kinds all. (tt, joined_predicates l r kinds all)))

  -- a predicate has a spelling if its operands have kinds, and the columns that it reads have places of two bytes
  pub predicate_fits : (p : Predicate) → PredicateFits p
  predicate_fits = ind-Predicate PredicateFits predicate_step
