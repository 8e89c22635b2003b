-- The grammar of the texts of columns and predicates, as relations of tokens and trees: one case for each
-- production.
use Rattle.std.specs.Prelude.{◌≡◌, ℕ, ℤ, Bool, true, IsTrue, codes, List, [], ◌∷◌, ◌++◌, Some}
use Rattle.repl_types.specs.Numbers.{integer_of}
use Rattle.repl_types.specs.declared.table.ColumnDef.{ColumnDef}
use Rattle.repl_types.specs.declared.value.Value.TheVariants as values
use Rattle.repl_definitions.specs.declared.expr.Expr.{Expr}
use Rattle.repl_definitions.specs.declared.expr.Expr.TheVariants as exprs
use Rattle.repl_definitions.specs.declared.member.ColumnFrom.{ColumnFrom}
use Rattle.repl_definitions.specs.declared.member.ColumnFrom.TheVariants as sources
use Rattle.repl_definitions.specs.declared.predicate.CompareOp.{CompareOp}
use Rattle.repl_definitions.specs.declared.predicate.Operand.{Operand}
use Rattle.repl_definitions.specs.declared.predicate.Operand.TheVariants as operands
use Rattle.repl_definitions.specs.declared.predicate.Predicate.{Predicate}
use Rattle.repl_definitions.specs.declared.predicate.Predicate.TheVariants as predicates
use Rattle.repl_defs.specs.Words.{says, Names}
use Rattle.repl_defs.specs.declared.token.Token.{Token}
use Rattle.repl_defs.specs.declared.token.Token.TheVariants.{Word, Number, Text, Minus, Plus, Times, Joined, Open, Close, Compare}

-- an integer: digits, or `-` and digits that follow at once
pub data IsInteger : List Token → ℤ → Type 0 where
  digits : (ds : List ℕ) (n : ℤ) → integer_of ds ≡ Some n → IsInteger (Number ds ∷ []) n
  negative : (ds : List ℕ) (n : ℤ) → integer_of (45 ∷ ds) ≡ Some n → IsInteger (Minus true ∷ Number ds ∷ []) n

-- the parts of an expression, from the narrowest on
pub data Level : Type 0 where
  factor : Level
  term : Level
  whole : Level

-- the tokens are an expression, of a level
pub data IsExpr (columns : List ColumnDef) : Level → List Token → Expr → Type 0 where
  column : (word : List ℕ) (place : ℕ) → Names columns word place → IsExpr columns factor (Word word ∷ []) (exprs.Column place)
  integer : (ts : List Token) (n : ℤ) → IsInteger ts n → IsExpr columns factor ts (exprs.Int n)
  text : (t : List ℕ) → IsExpr columns factor (Text t ∷ []) (exprs.Text t)
  nested : (ts : List Token) (e : Expr) → IsExpr columns whole ts e → IsExpr columns factor (Open ∷ ts ++ Close ∷ []) e
  one_factor : (ts : List Token) (e : Expr) → IsExpr columns factor ts e → IsExpr columns term ts e
  times : (ts us : List Token) (e f : Expr) → IsExpr columns term ts e → IsExpr columns factor us f → IsExpr columns term (ts ++ Times ∷ us) (exprs.Mul e f)
  one_term : (ts : List Token) (e : Expr) → IsExpr columns term ts e → IsExpr columns whole ts e
  plus : (ts us : List Token) (e f : Expr) → IsExpr columns whole ts e → IsExpr columns term us f → IsExpr columns whole (ts ++ Plus ∷ us) (exprs.Add e f)
  minus : (ts us : List Token) (b : Bool) (e f : Expr) → IsExpr columns whole ts e → IsExpr columns term us f → IsExpr columns whole (ts ++ Minus b ∷ us) (exprs.Sub e f)
  joined : (ts us : List Token) (e f : Expr) → IsExpr columns whole ts e → IsExpr columns term us f → IsExpr columns whole (ts ++ Joined ∷ us) (exprs.Concat e f)

-- the tokens are an operand: a column, or a value other than NULL
pub data IsOperand (columns : List ColumnDef) : List Token → Operand → Type 0 where
  column : (word : List ℕ) (place : ℕ) → Names columns word place → IsOperand columns (Word word ∷ []) (operands.Column place)
  integer : (ts : List Token) (n : ℤ) → IsInteger ts n → IsOperand columns ts (operands.Value (values.Int n))
  text : (t : List ℕ) → IsOperand columns (Text t ∷ []) (operands.Value (values.Text t))

-- the parts of a predicate, from the narrowest on
pub data Joint : Type 0 where
  atom : Joint
  conjunction : Joint
  disjunction : Joint

-- the tokens are a predicate, of a part
pub data IsPredicate (columns : List ColumnDef) : Joint → List Token → Predicate → Type 0 where
  compared : (ts us : List Token) (left right : Operand) (op : CompareOp) → IsOperand columns ts left → IsOperand columns us right → IsPredicate columns atom (ts ++ Compare op ∷ us) (predicates.Compare left op right)
  is_null : (word is null : List ℕ) (place : ℕ) → Names columns word place → IsTrue (says (codes "is") is) → IsTrue (says (codes "null") null) → IsPredicate columns atom (Word word ∷ Word is ∷ Word null ∷ []) (predicates.IsNull place)
  is_not_null : (word is not null : List ℕ) (place : ℕ) → Names columns word place → IsTrue (says (codes "is") is) → IsTrue (says (codes "not") not) → IsTrue (says (codes "null") null) → IsPredicate columns atom (Word word ∷ Word is ∷ Word not ∷ Word null ∷ []) (predicates.IsNotNull place)
  nested : (ts : List Token) (p : Predicate) → IsPredicate columns disjunction ts p → IsPredicate columns atom (Open ∷ ts ++ Close ∷ []) p
  one_atom : (ts : List Token) (p : Predicate) → IsPredicate columns atom ts p → IsPredicate columns conjunction ts p
  both : (ts us : List Token) (word : List ℕ) (p q : Predicate) → IsPredicate columns conjunction ts p → IsTrue (says (codes "and") word) → IsPredicate columns atom us q → IsPredicate columns conjunction (ts ++ Word word ∷ us) (predicates.And p q)
  one_conjunction : (ts : List Token) (p : Predicate) → IsPredicate columns conjunction ts p → IsPredicate columns disjunction ts p
  either : (ts us : List Token) (word : List ℕ) (p q : Predicate) → IsPredicate columns disjunction ts p → IsTrue (says (codes "or") word) → IsPredicate columns conjunction us q → IsPredicate columns disjunction (ts ++ Word word ∷ us) (predicates.Or p q)

-- the tokens are what a column of a target comes from: an expression, or what is summed up
pub data IsSource (columns : List ColumnDef) : List Token → ColumnFrom → Type 0 where
  plain : (ts : List Token) (e : Expr) → IsExpr columns whole ts e → IsSource columns ts (sources.Plain e)
  rows : (count : List ℕ) → IsTrue (says (codes "count") count) → IsSource columns (Word count ∷ Open ∷ Times ∷ Close ∷ []) sources.Count
  count : (count word : List ℕ) (place : ℕ) → IsTrue (says (codes "count") count) → Names columns word place → IsSource columns (Word count ∷ Open ∷ Word word ∷ Close ∷ []) (sources.CountOf place)
  sum : (sum word : List ℕ) (place : ℕ) → IsTrue (says (codes "sum") sum) → Names columns word place → IsSource columns (Word sum ∷ Open ∷ Word word ∷ Close ∷ []) (sources.Sum place)
  least : (min word : List ℕ) (place : ℕ) → IsTrue (says (codes "min") min) → Names columns word place → IsSource columns (Word min ∷ Open ∷ Word word ∷ Close ∷ []) (sources.Min place)
  greatest : (max word : List ℕ) (place : ℕ) → IsTrue (says (codes "max") max) → Names columns word place → IsSource columns (Word max ∷ Open ∷ Word word ∷ Close ∷ []) (sources.Max place)
