-- Two rows with the same values in the columns that are read: expressions, predicates, members and keys make
-- the same of both.
use Rattle.std.proofs.Common.{◌≡◌, ℕ, Bool, true, not, ◌&&◌, ◌||◌, List, [], ◌∷◌, ◌++◌, map, drop, get_or, Option, Some, None, refl, sym, ap, ap₂, subst, ◌∙◌, ◌==◌, ◌+ℤ◌, ◌-ℤ◌, ◌*ℤ◌, eqb-true}
use Rattle.std.specs.List.{AllByRecursion, filter_map, cons_option}
use Rattle.std.specs.Option.{option_map_or}
use Rattle.repl_model.specs.Words.{Values, images, Value, Expr, Expr-F, fold-roll-Expr, ind-Expr, map-Expr, roll-Expr, Operand, Predicate, Predicate-F, fold-roll-Predicate, ind-Predicate, map-Predicate, roll-Predicate, ColumnFrom, Member, TargetColumn, is_null, of_integers, of_texts, layer_value, value_of, operand_value, compares, layer_truth, is_true_of, layer_columns, columns_read, operand_columns, layer_tested, columns_tested, columns_from, filter_columns, is_among, are_among, is_selected, plain_value, target_row, at_one, at_each, passes_at, some_passes, in_first, in_second}
use Rattle.repl_types.specs.declared.value.Value.TheVariants.{Null}
use Rattle.repl_definitions.specs.declared.expr.Expr.TheOpen as layer
use Rattle.repl_definitions.specs.declared.predicate.Operand.TheVariants as operands
use Rattle.repl_definitions.specs.declared.predicate.Predicate.TheOpen as test
use Rattle.repl_definitions.specs.declared.member.ColumnFrom.TheVariants.{Plain, Count, CountOf, Sum, Min, Max}

-- ---- columns

-- what holds of each of some columns holds of one among them
pub among_one : (P : ℕ → Type 0) (places : List ℕ) (place : ℕ) → is_among places place ≡ true → AllByRecursion P places → P place
among_one P places place e all =
    let here = some_passes (λ p. p == place) places e in
    subst P (eqb-true here.0 place here.2) (at_one P places here.0 all here.1)

-- and of each of others among them
pub among_all : (P : ℕ → Type 0) (places some : List ℕ) → are_among places some ≡ true → AllByRecursion P places → AllByRecursion P some
among_all P places some e all = at_each P some (λ place i. among_one P places place (passes_at (is_among places) some place e i) all)

-- two functions that agree at each column give the same
pub map_agrees : (f g : ℕ → Value) (places : List ℕ) → AllByRecursion (λ place. f place ≡ g place) places → map f places ≡ map g places
map_agrees f g [] all = refl
map_agrees f g (place ∷ places) all = ap₂ (λ (v : Value) (vs : Values). v ∷ vs) all.0 (map_agrees f g places all.1)

-- two rows have the same value in each of these columns
abbrev pub Agree : Values → Values → List ℕ → Type 0
Agree a b places = AllByRecursion (λ place. get_or a place Null ≡ get_or b place Null) places

-- rows whose values in some columns are equal agree there
pub agree_from : (a b : Values) (places : List ℕ) → images places a ≡ images places b → Agree a b places
agree_from a b [] e = tt
agree_from a b (place ∷ places) e = (ap (λ (vs : Values). get_or vs 0 Null) e, agree_from a b places (ap (λ (vs : Values). drop 1 vs) e))

module _ (a b : Values) where
  -- rows that agree in the columns of two lists do so in those of each
  of_both : (ms ns : List ℕ) → Agree a b (ms ++ ns) → Agree a b ms × Agree a b ns
  of_both ms ns all =
      let same = λ (place : ℕ). get_or a place Null ≡ get_or b place Null in
      (at_each same ms (λ n i. at_one same (ms ++ ns) n all (in_first ms ns n i)), at_each same ns (λ n i. at_one same (ms ++ ns) n all (in_second ms ns n i)))

  -- ---- expressions

  -- an expression has the same value for both rows, if they agree in the columns that it reads
  abbrev HasSameValue : Expr → Type 0
  HasSameValue e = Agree a b (columns_read e) → value_of a e ≡ value_of b e

  -- the value of an expression, layer by layer
  value_layer : (row : Values) (x : Expr-F Expr) → value_of row (roll-Expr x) ≡ layer_value row (map-Expr Expr Value (value_of row) x)
  unfolding value_of
  value_layer row x = fold-roll-Expr Value (layer_value row) x

  -- the columns that it reads
  columns_layer : (x : Expr-F Expr) → columns_read (roll-Expr x) ≡ layer_columns (map-Expr Expr (List ℕ) columns_read x)
  unfolding columns_read
  columns_layer x = fold-roll-Expr (List ℕ) layer_columns x

  -- it has the same value if its layer does
  at_expr : (x : Expr-F Expr) → (Agree a b (layer_columns (map-Expr Expr (List ℕ) columns_read x)) → layer_value a (map-Expr Expr Value (value_of a) x) ≡ layer_value b (map-Expr Expr Value (value_of b) x)) → HasSameValue (roll-Expr x)
  at_expr x same agree = value_layer a x ∙ same (subst (Agree a b) (columns_layer x) agree) ∙ sym (value_layer b x)

  -- so does an operation of two such expressions
  operation : (f : Value → Value → Value) (left right : (e : Expr) × HasSameValue e) → Agree a b (columns_read left.0 ++ columns_read right.0) → f (value_of a left.0) (value_of a right.0) ≡ f (value_of b left.0) (value_of b right.0)
  operation f left right agree = let both = of_both (columns_read left.0) (columns_read right.0) agree in ap₂ f (left.1 both.0) (right.1 both.1)

  -- a layer over expressions with the same value has the same value
  expr_step : (x : Expr-F Expr) (y : Expr-F ((e : Expr) × HasSameValue e)) → map-Expr ((e : Expr) × HasSameValue e) Expr (λ e. e.0) y ≡ x → HasSameValue (roll-Expr x)
  expr_step x (layer.Column p) e = subst (λ z. HasSameValue (roll-Expr z)) e (at_expr (layer.Column p) (λ agree. agree.0))
  expr_step x (layer.Int n) e = subst (λ z. HasSameValue (roll-Expr z)) e (at_expr (layer.Int n) (λ agree. refl))
  expr_step x (layer.Text t) e = subst (λ z. HasSameValue (roll-Expr z)) e (at_expr (layer.Text t) (λ agree. refl))
  expr_step x (layer.Add l r) e = subst (λ z. HasSameValue (roll-Expr z)) e (at_expr (layer.Add l.0 r.0) (operation (of_integers ◌+ℤ◌) l r))
  expr_step x (layer.Sub l r) e = subst (λ z. HasSameValue (roll-Expr z)) e (at_expr (layer.Sub l.0 r.0) (operation (of_integers ◌-ℤ◌) l r))
  expr_step x (layer.Mul l r) e = subst (λ z. HasSameValue (roll-Expr z)) e (at_expr (layer.Mul l.0 r.0) (operation (of_integers ◌*ℤ◌) l r))
  expr_step x (layer.Concat l r) e = subst (λ z. HasSameValue (roll-Expr z)) e (at_expr (layer.Concat l.0 r.0) (operation of_texts l r))

  -- an expression has the same value for rows that agree in the columns that it reads
  same_value : (e : Expr) → HasSameValue e
  same_value = ind-Expr HasSameValue expr_step

  -- ---- predicates

  -- a predicate is true of both rows or of none, if they agree in the columns that it reads
  abbrev HasSameTruth : Predicate → Type 0
  HasSameTruth p = Agree a b (columns_tested p) → is_true_of a p ≡ is_true_of b p

  -- whether a predicate is true, layer by layer
  truth_layer : (row : Values) (x : Predicate-F Predicate) → is_true_of row (roll-Predicate x) ≡ layer_truth row (map-Predicate Predicate Bool (is_true_of row) x)
  unfolding is_true_of
  truth_layer row x = fold-roll-Predicate Bool (layer_truth row) x

  -- the columns that it reads
  tested_layer : (x : Predicate-F Predicate) → columns_tested (roll-Predicate x) ≡ layer_tested (map-Predicate Predicate (List ℕ) columns_tested x)
  unfolding columns_tested
  tested_layer x = fold-roll-Predicate (List ℕ) layer_tested x

  -- it has the same truth if its layer does
  at_predicate : (x : Predicate-F Predicate) → (Agree a b (layer_tested (map-Predicate Predicate (List ℕ) columns_tested x)) → layer_truth a (map-Predicate Predicate Bool (is_true_of a) x) ≡ layer_truth b (map-Predicate Predicate Bool (is_true_of b) x)) → HasSameTruth (roll-Predicate x)
  at_predicate x same agree = truth_layer a x ∙ same (subst (Agree a b) (tested_layer x) agree) ∙ sym (truth_layer b x)

  -- an operand has the same value
  same_operand : (o : Operand) → Agree a b (operand_columns o) → operand_value a o ≡ operand_value b o
  same_operand (operands.Column place) agree = agree.0
  same_operand (operands.Value v) agree = refl

  -- two predicates with the same truth have the same joined
  joined : (f : Bool → Bool → Bool) (left right : (p : Predicate) × HasSameTruth p) → Agree a b (columns_tested left.0 ++ columns_tested right.0) → f (is_true_of a left.0) (is_true_of a right.0) ≡ f (is_true_of b left.0) (is_true_of b right.0)
  joined f left right agree = let both = of_both (columns_tested left.0) (columns_tested right.0) agree in ap₂ f (left.1 both.0) (right.1 both.1)

  -- a layer over predicates with the same truth has the same truth
  predicate_step : (x : Predicate-F Predicate) (y : Predicate-F ((p : Predicate) × HasSameTruth p)) → map-Predicate ((p : Predicate) × HasSameTruth p) Predicate (λ p. p.0) y ≡ x → HasSameTruth (roll-Predicate x)
  predicate_step x (test.Compare l op r) e = subst (λ z. HasSameTruth (roll-Predicate z)) e (at_predicate (test.Compare l op r) (λ agree. let both = of_both (operand_columns l) (operand_columns r) agree in ap₂ (compares op) (same_operand l both.0) (same_operand r both.1)))
  predicate_step x (test.IsNull p) e = subst (λ z. HasSameTruth (roll-Predicate z)) e (at_predicate (test.IsNull p) (λ agree. ap is_null agree.0))
  predicate_step x (test.IsNotNull p) e = subst (λ z. HasSameTruth (roll-Predicate z)) e (at_predicate (test.IsNotNull p) (λ agree. ap (λ (v : Value). not (is_null v)) agree.0))
  predicate_step x (test.And l r) e = subst (λ z. HasSameTruth (roll-Predicate z)) e (at_predicate (test.And l.0 r.0) (joined ◌&&◌ l r))
  predicate_step x (test.Or l r) e = subst (λ z. HasSameTruth (roll-Predicate z)) e (at_predicate (test.Or l.0 r.0) (joined ◌||◌ l r))

  -- a predicate has the same truth for rows that agree in the columns that it reads
  same_truth : (p : Predicate) → HasSameTruth p
  same_truth = ind-Predicate HasSameTruth predicate_step

  -- ---- members

  -- a member selects both rows or none, if they agree in the columns of its predicate
  pub same_selection : (member : Member) → Agree a b (filter_columns member) → is_selected member a ≡ is_selected member b
  same_selection member = by_filter member.filter
    where
      by_filter : (filter : Option Predicate) → Agree a b (option_map_or columns_tested filter []) → option_map_or (is_true_of a) filter true ≡ option_map_or (is_true_of b) filter true
      by_filter None agree = refl
      by_filter (Some p) agree = same_truth p agree

  -- a column has the same value, if it sums nothing up
  same_plain : (from : ColumnFrom) → Agree a b (columns_from from) → plain_value a from ≡ plain_value b from
  same_plain (Plain e) agree = ap Some (same_value e agree)
  same_plain Count agree = refl
  same_plain (CountOf place) agree = refl
  same_plain (Sum place) agree = refl
  same_plain (Min place) agree = refl
  same_plain (Max place) agree = refl

  -- a member copies the same of both rows, if they agree in the columns that it reads
  pub same_target : (member : Member) → AllByRecursion (λ column. Agree a b (columns_from column.from)) member.columns → target_row member a ≡ target_row member b
  same_target member = by_columns member.columns
    where
      by_columns : (columns : List TargetColumn) → AllByRecursion (λ column. Agree a b (columns_from column.from)) columns → filter_map (λ column. plain_value a column.from) columns ≡ filter_map (λ column. plain_value b column.from) columns
      by_columns [] all = refl
      by_columns (column ∷ columns) all = ap₂ (λ (o : Option Value) (vs : Values). cons_option o vs) (same_plain column.from all.0) (by_columns columns all.1)
