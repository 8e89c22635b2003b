-- How a reader goes over the tokens of a predicate, for its contracts alone: a machine that takes one token
-- after the other, and what a method of the reader does in its words. The machine stops at a comparison whose
-- sides don't have one kind.
use Rattle.std.specs.Prelude.{◌≡◌, ℕ, ◌<◌, Bool, true, false, ◌&&◌, ◌||◌, if◌then◌else◌, codes, List, [], ◌∷◌, length, Option, Some, None}
use Rattle.std.specs.Option.{option_map, option_and_then}
use Rattle.repl_types.specs.Numbers.{integer_of}
use Rattle.repl_types.specs.declared.table.ColumnDef.{ColumnDef}
use Rattle.repl_types.specs.declared.value.Value.TheVariants as values
use Rattle.repl_definitions.specs.declared.predicate.CompareOp.{CompareOp}
use Rattle.repl_definitions.specs.declared.predicate.Operand.{Operand}
use Rattle.repl_definitions.specs.declared.predicate.Operand.TheVariants as operands
use Rattle.repl_definitions.specs.declared.predicate.Predicate.{Predicate}
use Rattle.repl_definitions.specs.declared.predicate.Predicate.TheVariants as predicates
use Rattle.repl_model.specs.Rules.{is_int, is_text, operand_kind}
use Rattle.repl_defs.specs.Words.{says}
use Rattle.repl_defs.specs.Grammar.{Joint, atom, conjunction, disjunction}
use Rattle.repl_defs.specs.Reading.{place_named, integer_at, word_follows}
use Rattle.repl_defs.specs.declared.token.Token.{Token}
use Rattle.repl_defs.specs.declared.token.Token.TheVariants.{Word, Number, Text, Minus, Open, Close, Compare}

-- the operand in front of tokens, and the tokens after it
abbrev pub operand_at : List ColumnDef → List Token → Option (Operand × List Token)
operand_at columns (Word word ∷ ts) = option_map (λ place. (operands.Column place, ts)) (place_named columns word)
operand_at columns (Text t ∷ ts) = Some (operands.Value (values.Text t), ts)
operand_at columns ts = option_map (λ n. (operands.Value (values.Int n.0), n.1)) (integer_at ts)

-- how two operands are compared, if that is the next token, and the tokens after it
abbrev pub comparison_at : List Token → Option (CompareOp × List Token)
comparison_at (Compare op ∷ ts) = Some (op, ts)
comparison_at ts = None

-- two operands have one kind
abbrev pub comparable : List ColumnDef → Operand → Operand → Bool
comparable columns left right = is_int (operand_kind columns left) && is_int (operand_kind columns right)
    || is_text (operand_kind columns left) && is_text (operand_kind columns right)

-- what a predicate becomes
abbrev pub Turn : Type 0
Turn = Predicate → Predicate

-- a predicate as it is
abbrev pub kept : Turn
kept p = p

-- What stands around a part of a predicate: what a conjunction becomes together with those before it, what an
-- atom becomes together with those before it, and both for each open parenthesis, the innermost first.
pub record Around : Type 0 where
  pub either : Turn
  pub both : Turn
  pub outer : List (Turn × Turn)

-- where the machine stands in a predicate
pub data PredicateState : Type 0 where
  -- an atom comes next
  wants : Around → PredicateState
  -- the operand that an atom begins with has been read
  after_left : Operand → Around → PredicateState
  -- the right operand of a comparison comes next
  wants_right : Operand → CompareOp → Around → PredicateState
  -- a column and `is` have been read
  after_is : ℕ → Around → PredicateState
  -- a column, `is` and `not` have been read
  after_not : ℕ → Around → PredicateState
  -- a conjunction has been read, and what follows may go on with it
  has : (either : Turn) (p : Predicate) (outer : List (Turn × Turn)) → PredicateState

-- an atom has been read
abbrev pub with_atom : Around → Predicate → PredicateState
with_atom around p = has around.either (around.both p) around.outer

-- within one parenthesis more
abbrev pub inside : Around → Around
inside around = record { either = kept; both = kept; outer = (around.either, around.both) ∷ around.outer }

-- the predicate that the tokens complete, if they complete one
unfoldable pub predicate_outcome : List ColumnDef → PredicateState → List Token → Option Predicate
predicate_outcome columns (wants around) [] = None
predicate_outcome columns (wants around) (Word word ∷ ts) = option_and_then (λ place. predicate_outcome columns (after_left (operands.Column place) around) ts) (place_named columns word)
predicate_outcome columns (wants around) (Number ds ∷ ts) = option_and_then (λ n. predicate_outcome columns (after_left (operands.Value (values.Int n)) around) ts) (integer_of ds)
predicate_outcome columns (wants around) (Text t ∷ ts) = predicate_outcome columns (after_left (operands.Value (values.Text t)) around) ts
predicate_outcome columns (wants around) (Minus false ∷ ts) = None
predicate_outcome columns (wants around) (Minus true ∷ Number ds ∷ ts) = option_and_then (λ n. predicate_outcome columns (after_left (operands.Value (values.Int n)) around) ts) (integer_of (45 ∷ ds))
predicate_outcome columns (wants around) (Open ∷ ts) = predicate_outcome columns (wants (inside around)) ts
predicate_outcome columns (wants around) (t ∷ ts) = None
predicate_outcome columns (after_left left around) (Compare op ∷ ts) = predicate_outcome columns (wants_right left op around) ts
predicate_outcome columns (after_left (operands.Column place) around) (Word word ∷ ts) = if says (codes "is") word then predicate_outcome columns (after_is place around) ts else None
predicate_outcome columns (after_left left around) ts = None
predicate_outcome columns (wants_right left op around) (Word word ∷ ts) = option_and_then (λ place. if comparable columns left (operands.Column place) then predicate_outcome columns (with_atom around (predicates.Compare left op (operands.Column place))) ts else None) (place_named columns word)
predicate_outcome columns (wants_right left op around) (Number ds ∷ ts) = option_and_then (λ n. if comparable columns left (operands.Value (values.Int n)) then predicate_outcome columns (with_atom around (predicates.Compare left op (operands.Value (values.Int n)))) ts else None) (integer_of ds)
predicate_outcome columns (wants_right left op around) (Text t ∷ ts) = if comparable columns left (operands.Value (values.Text t)) then predicate_outcome columns (with_atom around (predicates.Compare left op (operands.Value (values.Text t)))) ts else None
predicate_outcome columns (wants_right left op around) (Minus false ∷ ts) = None
predicate_outcome columns (wants_right left op around) (Minus true ∷ Number ds ∷ ts) = option_and_then (λ n. if comparable columns left (operands.Value (values.Int n)) then predicate_outcome columns (with_atom around (predicates.Compare left op (operands.Value (values.Int n)))) ts else None) (integer_of (45 ∷ ds))
predicate_outcome columns (wants_right left op around) ts = None
predicate_outcome columns (after_is place around) (Word word ∷ ts) = if says (codes "not") word then predicate_outcome columns (after_not place around) ts
    else (if says (codes "null") word then predicate_outcome columns (with_atom around (predicates.IsNull place)) ts else None)
predicate_outcome columns (after_is place around) ts = None
predicate_outcome columns (after_not place around) (Word word ∷ ts) = if says (codes "null") word then predicate_outcome columns (with_atom around (predicates.IsNotNull place)) ts else None
predicate_outcome columns (after_not place around) ts = None
predicate_outcome columns (has either p []) [] = Some (either p)
predicate_outcome columns (has either p (o ∷ outer)) [] = None
predicate_outcome columns (has either p outer) (Word word ∷ ts) = if says (codes "and") word then predicate_outcome columns (wants (record { either = either; both = predicates.And p; outer = outer })) ts
    else (if says (codes "or") word then predicate_outcome columns (wants (record { either = predicates.Or (either p); both = kept; outer = outer })) ts else None)
predicate_outcome columns (has either p (o ∷ outer)) (Close ∷ ts) = predicate_outcome columns (has o.0 (o.1 (either p)) outer) ts
predicate_outcome columns (has either p outer) (t ∷ ts) = None

-- around a conjunction
abbrev pub around_conjunction : Turn → List (Turn × Turn) → Around
around_conjunction either outer = record { either = either; both = kept; outer = outer }

-- around a whole predicate
abbrev pub around_whole : List (Turn × Turn) → Around
around_whole outer = record { either = kept; both = kept; outer = outer }

-- from before the tokens of a part of a predicate the machine comes to after them, within whatever stands
-- around that part
abbrev pub LeadsPredicate : List ColumnDef → Joint → List Token → Predicate → List Token → Type 0
LeadsPredicate columns atom before p after = (around : Around) → predicate_outcome columns (wants around) before ≡ predicate_outcome columns (with_atom around p) after
LeadsPredicate columns conjunction before p after = (either : Turn) (outer : List (Turn × Turn)) → predicate_outcome columns (wants (around_conjunction either outer)) before ≡ predicate_outcome columns (has either p outer) after
LeadsPredicate columns disjunction before p after = (outer : List (Turn × Turn)) → predicate_outcome columns (wants (around_whole outer)) before ≡ predicate_outcome columns (has kept p outer) after

-- no tokens in front are such a part
abbrev pub FailsPredicate : List ColumnDef → Joint → List Token → Type 0
FailsPredicate columns atom before = (around : Around) → predicate_outcome columns (wants around) before ≡ None
FailsPredicate columns conjunction before = (either : Turn) (outer : List (Turn × Turn)) → predicate_outcome columns (wants (around_conjunction either outer)) before ≡ None
FailsPredicate columns disjunction before = (outer : List (Turn × Turn)) → predicate_outcome columns (wants (around_whole outer)) before ≡ None

-- what follows doesn't go on with a part of a predicate
abbrev pub EndsPredicate : Joint → List Token → Type 0
EndsPredicate atom ts = Unit {0}
EndsPredicate conjunction ts = word_follows (codes "and") ts ≡ false
EndsPredicate disjunction ts = (word_follows (codes "and") ts ≡ false) × (word_follows (codes "or") ts ≡ false)

-- A part of a predicate has been read, and more of it may follow.
pub record IsPredicateReadSoFar (columns : List ColumnDef) (joint : Joint) (before after : List Token) (p : Predicate) : Type 0 where
  pub leads : LeadsPredicate columns joint before p after
  pub shorter : length after < length before

-- A part of a predicate has been read, all of it.
pub record IsPredicateRead (columns : List ColumnDef) (joint : Joint) (before after : List Token) (p : Predicate) : Type 0 where
  pub part : IsPredicateReadSoFar columns joint before after p
  pub ends : EndsPredicate joint after

-- From a state on, an atom has been completed, this predicate.
pub record Completes (columns : List ColumnDef) (from : Around → PredicateState) (before after : List Token) (p : Predicate) : Type 0 where
  pub leads : (around : Around) → predicate_outcome columns (from around) before ≡ predicate_outcome columns (with_atom around p) after
  pub shorter : length after < length before

-- From a state on, no atom is completed.
abbrev pub NeverCompletes : List ColumnDef → (Around → PredicateState) → List Token → Type 0
NeverCompletes columns from before = (around : Around) → predicate_outcome columns (from around) before ≡ None
