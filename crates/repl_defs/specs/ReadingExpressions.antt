-- How a reader goes over the tokens of an expression, for its contracts alone: a machine that takes one token
-- after the other, and what a method of the reader does in its words.
use Rattle.std.specs.Prelude.{◌≡◌, ◌<◌, true, false, ◌&&◌, if◌then◌else◌, List, [], ◌∷◌, length, Option, Some, None}
use Rattle.std.specs.Option.{option_map, option_and_then}
use Rattle.repl_types.specs.Numbers.{integer_of}
use Rattle.repl_types.specs.declared.table.ColumnDef.{ColumnDef}
use Rattle.repl_types.specs.declared.table.Kind.{Kind}
use Rattle.repl_types.specs.declared.table.Kind.TheVariants.{Int}
use Rattle.repl_types.specs.declared.table.Kind.TheVariants as kinds
use Rattle.repl_definitions.specs.declared.expr.Expr.{Expr}
use Rattle.repl_definitions.specs.declared.expr.Expr.TheVariants as exprs
use Rattle.repl_model.specs.Rules.{is_int, is_text, kind_of}
use Rattle.repl_defs.specs.Grammar.{Level, factor, term, whole}
use Rattle.repl_defs.specs.Reading.{place_named, integer_at, times_follows}
use Rattle.repl_defs.specs.declared.reader.expression.KindedExpr.{KindedExpr}
use Rattle.repl_defs.specs.declared.reader.expression.Operator.{Operator}
use Rattle.repl_defs.specs.declared.reader.expression.Operator.TheVariants.{Add, Sub, Mul, Concat}
use Rattle.repl_defs.specs.declared.token.Token.{Token}
use Rattle.repl_defs.specs.declared.token.Token.TheVariants.{Word, Number, Text, Minus, Plus, Times, Joined, Open, Close}

-- the expression of one token, or of a `-` and a number, in front of tokens, and the tokens after it
abbrev pub leaf_at : List ColumnDef → List Token → Option (Expr × List Token)
leaf_at columns (Word word ∷ ts) = option_map (λ place. (exprs.Column place, ts)) (place_named columns word)
leaf_at columns (Text t ∷ ts) = Some (exprs.Text t, ts)
leaf_at columns ts = option_map (λ n. (exprs.Int n.0, n.1)) (integer_at ts)

-- what an expression becomes
abbrev pub Change : Type 0
Change = Expr → Expr

-- an expression as it is
abbrev pub same : Change
same e = e

-- Where the machine stands in an expression. `sum` is what a term becomes together with the terms before it,
-- and `product` what a factor becomes together with the factors before it. `outer` has both for each open
-- parenthesis, the innermost first.
pub data ExprState : Type 0 where
  -- a factor comes next
  awaits : (sum product : Change) (outer : List (Change × Change)) → ExprState
  -- a term has been read, and what follows may go on with it
  has : (sum : Change) (e : Expr) (outer : List (Change × Change)) → ExprState

-- the expression that the tokens complete, if they complete one
unfoldable pub outcome : List ColumnDef → ExprState → List Token → Option Expr
outcome columns (awaits sum product outer) [] = None
outcome columns (awaits sum product outer) (Word word ∷ ts) = option_and_then (λ place. outcome columns (has sum (product (exprs.Column place)) outer) ts) (place_named columns word)
outcome columns (awaits sum product outer) (Number ds ∷ ts) = option_and_then (λ n. outcome columns (has sum (product (exprs.Int n)) outer) ts) (integer_of ds)
outcome columns (awaits sum product outer) (Text t ∷ ts) = outcome columns (has sum (product (exprs.Text t)) outer) ts
outcome columns (awaits sum product outer) (Minus true ∷ Number ds ∷ ts) = option_and_then (λ n. outcome columns (has sum (product (exprs.Int n)) outer) ts) (integer_of (45 ∷ ds))
outcome columns (awaits sum product outer) (Open ∷ ts) = outcome columns (awaits same same ((sum, product) ∷ outer)) ts
outcome columns (awaits sum product outer) (t ∷ ts) = None
outcome columns (has sum e []) [] = Some (sum e)
outcome columns (has sum e (o ∷ outer)) [] = None
outcome columns (has sum e outer) (Times ∷ ts) = outcome columns (awaits sum (exprs.Mul e) outer) ts
outcome columns (has sum e outer) (Plus ∷ ts) = outcome columns (awaits (exprs.Add (sum e)) same outer) ts
outcome columns (has sum e outer) (Minus b ∷ ts) = outcome columns (awaits (exprs.Sub (sum e)) same outer) ts
outcome columns (has sum e outer) (Joined ∷ ts) = outcome columns (awaits (exprs.Concat (sum e)) same outer) ts
outcome columns (has sum e (o ∷ outer)) (Close ∷ ts) = outcome columns (has o.0 (o.1 (sum e)) outer) ts
outcome columns (has sum e outer) (t ∷ ts) = None

-- from before the tokens of a part of an expression the machine comes to after them, within whatever stands
-- around that part
abbrev pub Leads : List ColumnDef → Level → List Token → Expr → List Token → Type 0
Leads columns factor before e after = (sum product : Change) (outer : List (Change × Change)) → outcome columns (awaits sum product outer) before ≡ outcome columns (has sum (product e) outer) after
Leads columns term before e after = (sum : Change) (outer : List (Change × Change)) → outcome columns (awaits sum same outer) before ≡ outcome columns (has sum e outer) after
Leads columns whole before e after = (outer : List (Change × Change)) → outcome columns (awaits same same outer) before ≡ outcome columns (has same e outer) after

-- no tokens in front are such a part
abbrev pub Fails : List ColumnDef → Level → List Token → Type 0
Fails columns factor before = (sum product : Change) (outer : List (Change × Change)) → outcome columns (awaits sum product outer) before ≡ None
Fails columns term before = (sum : Change) (outer : List (Change × Change)) → outcome columns (awaits sum same outer) before ≡ None
Fails columns whole before = (outer : List (Change × Change)) → outcome columns (awaits same same outer) before ≡ None

-- what joins two terms, if it is the next token, and the tokens after it
abbrev pub sign_at : List Token → Option (Operator × List Token)
sign_at (Plus ∷ ts) = Some (Add, ts)
sign_at (Minus b ∷ ts) = Some (Sub, ts)
sign_at (Joined ∷ ts) = Some (Concat, ts)
sign_at ts = None

-- what follows doesn't go on with a part of an expression
abbrev pub Ends : Level → List Token → Type 0
Ends factor ts = Unit {0}
Ends term ts = times_follows ts ≡ false
Ends whole ts = (times_follows ts ≡ false) × (sign_at ts ≡ None)

-- the kind that the reader keeps of an expression is its kind
abbrev pub HasKind : List ColumnDef → KindedExpr → Type 0
HasKind columns read = read.kind ≡ kind_of columns read.expr

-- A part of an expression has been read, and more of it may follow.
pub record IsReadSoFar (columns : List ColumnDef) (level : Level) (before after : List Token) (read : KindedExpr) : Type 0 where
  pub leads : Leads columns level before read.expr after
  pub shorter : length after < length before
  pub kind : HasKind columns read

-- A part of an expression has been read, all of it.
pub record IsRead (columns : List ColumnDef) (level : Level) (before after : List Token) (read : KindedExpr) : Type 0 where
  pub part : IsReadSoFar columns level before after read
  pub ends : Ends level after

-- two expressions, joined
abbrev pub joined_by : Operator → Expr → Change
joined_by Add left = exprs.Add left
joined_by Sub left = exprs.Sub left
joined_by Mul left = exprs.Mul left
joined_by Concat left = exprs.Concat left

-- the kind of the result of an operator, if its operands have their kinds
abbrev pub joined_kind : Operator → Option Kind → Option Kind → Option Kind
joined_kind Add left right = if is_int left && is_int right then Some Int else None
joined_kind Sub left right = if is_int left && is_int right then Some Int else None
joined_kind Mul left right = if is_int left && is_int right then Some Int else None
joined_kind Concat left right = if is_text left && is_text right then Some kinds.Text else None

-- The expression joins these two.
pub record IsJoined (operator : Operator) (left right joined : KindedExpr) : Type 0 where
  pub expr : joined.expr ≡ joined_by operator left.expr right.expr
  pub kind : (columns : List ColumnDef) → HasKind columns left → HasKind columns right → HasKind columns joined
