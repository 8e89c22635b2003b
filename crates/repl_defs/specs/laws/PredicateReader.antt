-- The steps of the reader of predicates, in the words of its contracts.
use Rattle.std.proofs.Common.{◌≡◌, ℕ, ◌<◌, Bool, true, false, List, [], ◌∷◌, length, Some, None, Result, Ok, Err, MatchBool, IfOk, sym, ap, subst, ◌∙◌, arith, codes}
use Rattle.std.proofs.lemmas.Option.{some_pair_parts}
use Rattle.repl_model.specs.Words.{integer_of, ColumnDef, Value, CompareOp, Operand, Predicate}
use Rattle.repl_types.specs.declared.value.Value.TheVariants as values
use Rattle.repl_definitions.specs.declared.predicate.Operand.TheVariants as operands
use Rattle.repl_definitions.specs.declared.predicate.Predicate.TheVariants as predicates
use Rattle.repl_defs.specs.Grammar.{Joint, atom, conjunction, disjunction}
use Rattle.repl_defs.specs.Reading.{place_named, open_follows, close_follows, word_follows, TakesWord}
use Rattle.repl_defs.specs.ReadingPredicates.{operand_at, comparison_at, comparable, kept, Around, wants, after_left, wants_right, has, with_atom, predicate_outcome, FailsPredicate, IsPredicateReadSoFar, IsPredicateRead, Completes, NeverCompletes}
use Rattle.repl_defs.specs.declared.token.Token.{Token}
use Rattle.repl_defs.specs.declared.token.Token.TheVariants.{Word, Number, Text, Minus, Open, Close, Compare}
use Rattle.repl_defs.specs.laws.Fronts.{front, goes_on, at_number}
use Rattle.repl_defs.specs.laws.PredicateSteps.{int_operand, left_leads, right_leads, comparison_leads, value_fails, is_leads, not_leads, null_leads, not_null_leads, null_fails, not_null_fails, and_leads, or_leads, settles, unclosed}

-- ---- tests for NULL

-- a word is one token
word_shorter : (spelled : List ℕ) (before after : List Token) → TakesWord spelled before after → length after < length before
word_shorter spelled before after t = rw t.is (omega arith)

-- `is null` completes a test
pub null_tested : (columns : List ColumnDef) (place : ℕ) (before middle last after : List Token) → TakesWord (codes "is") before middle → (word_follows (codes "not") middle ≡ false) × (last ≡ middle) → TakesWord (codes "null") last after → Completes columns (after_left (operands.Column place)) before after (predicates.IsNull place)
null_tested columns place before middle last after i n u = let u' = rw n.1 at u in record {
  leads = λ around. is_leads columns before middle place around i ∙ null_leads columns middle after place around u';
  shorter = omega (arith, word_shorter (codes "is") before middle i, word_shorter (codes "null") middle after u');
}

-- `is not null` completes a test
pub not_null_tested : (columns : List ColumnDef) (place : ℕ) (before middle last after : List Token) → TakesWord (codes "is") before middle → TakesWord (codes "not") middle last → TakesWord (codes "null") last after → Completes columns (after_left (operands.Column place)) before after (predicates.IsNotNull place)
not_null_tested columns place before middle last after i n u = record {
  leads = λ around. is_leads columns before middle place around i ∙ not_leads columns middle last place around n ∙ not_null_leads columns last after place around u;
  shorter = omega (arith, word_shorter (codes "is") before middle i, word_shorter (codes "not") middle last n, word_shorter (codes "null") last after u);
}

-- no `null` follows
pub untested : (columns : List ColumnDef) (place : ℕ) (before middle last : List Token) (negated : Bool) → TakesWord (codes "is") before middle → MatchBool negated (TakesWord (codes "not") middle last) ((word_follows (codes "not") middle ≡ false) × (last ≡ middle)) → word_follows (codes "null") last ≡ false → (around : Around) → predicate_outcome columns (after_left (operands.Column place) around) before ≡ None
untested columns place before middle last true i n u around = is_leads columns before middle place around i ∙ not_leads columns middle last place around n ∙ not_null_fails columns last place around u
untested columns place before middle last false i n u around = is_leads columns before middle place around i ∙ null_fails columns middle place around n.0 (ap (word_follows (codes "null")) (sym n.1) ∙ u)

-- ---- comparisons

-- an operand is a token or two
operand_shorter : (columns : List ColumnDef) (before after : List Token) (o : Operand) → operand_at columns before ≡ Some (front o after) → length after < length before
operand_shorter columns [] after o h = absurd (cc)
operand_shorter columns (Word word ∷ ts) after o h = rw (goes_on {R = Unit {0}} (place_named columns word) operands.Column ts o after h).0 (omega arith)
operand_shorter columns (Number ds ∷ ts) after o h = rw (goes_on {R = Unit {0}} (integer_of ds) int_operand ts o after (at_number int_operand (integer_of ds) ts ∙ h)).0 (omega arith)
operand_shorter columns (Text t ∷ ts) after o h = rw (← (some_pair_parts (operands.Value (values.Text t)) o ts after h).1) (omega arith)
operand_shorter columns (Minus true ∷ Number ds ∷ ts) after o h = rw (goes_on {R = Unit {0}} (integer_of (45 ∷ ds)) int_operand ts o after (at_number int_operand (integer_of (45 ∷ ds)) ts ∙ h)).0 (omega arith)
operand_shorter columns (t ∷ ts) after o h = absurd (cc)

-- a comparison is a token
comparison_shorter : (before after : List Token) (op : CompareOp) → comparison_at before ≡ Some (front op after) → length after < length before
comparison_shorter [] after op h = absurd (cc)
comparison_shorter (Compare o ∷ ts) after op h = rw (← (some_pair_parts o op ts after h).1) (omega arith)
comparison_shorter (t ∷ ts) after op h = absurd (cc)

-- an operand of the same kind completes a comparison
pub right_completes : (columns : List ColumnDef) (before after : List Token) (left right : Operand) (op : CompareOp) → operand_at columns before ≡ Some (front right after) → comparable columns left right ≡ true → Completes columns (wants_right left op) before after (predicates.Compare left op right)
right_completes columns before after left right op h fits = record {
  leads = λ around. right_leads columns before after left right op around h fits;
  shorter = operand_shorter columns before after right h;
}

-- what completes a comparison or a test for NULL, completes an atom
pub left_completes : {E : Type 0} (r : Result Predicate E) (columns now : List ColumnDef) (before middle last after : List Token) (left : Operand) (op : CompareOp) → now ≡ columns → operand_at columns before ≡ Some (front left middle) → Some (front op last) ≡ comparison_at middle → IfOk r (Completes now (wants_right left op) last after) → IfOk r (Completes columns wants before after)
left_completes (Ok p) columns now before middle last after left op e l c h = record {
  leads = λ around. left_leads columns before middle left l around ∙ comparison_leads columns middle last left op around (sym c) ∙ subst (λ cs. predicate_outcome cs (wants_right left op around) last ≡ predicate_outcome cs (with_atom around p) after) e (h.leads around);
  shorter = omega (arith, operand_shorter columns before middle left l, comparison_shorter middle last op (sym c), h.shorter);
}
left_completes (Err x) columns now before middle last after left op e l c h = tt

-- a column and what completes a test for NULL, complete an atom
pub null_completes : {E : Type 0} (r : Result Predicate E) (columns now : List ColumnDef) (before middle last after : List Token) (place : ℕ) → now ≡ columns → operand_at columns before ≡ Some (front (operands.Column place) middle) → last ≡ middle → IfOk r (Completes now (after_left (operands.Column place)) last after) → IfOk r (Completes columns wants before after)
null_completes (Ok p) columns now before middle last after place e l m h = record {
  leads = λ around. left_leads columns before middle (operands.Column place) l around ∙ subst (λ cs. predicate_outcome cs (after_left (operands.Column place) around) middle ≡ predicate_outcome cs (with_atom around p) after) e (ap (predicate_outcome now (after_left (operands.Column place) around)) (sym m) ∙ h.leads around);
  shorter = omega (arith, operand_shorter columns before middle (operands.Column place) l, ap length m, h.shorter);
}
null_completes (Err x) columns now before middle last after place e l m h = tt

-- what doesn't complete a comparison or a test for NULL, completes no atom
pub left_never : (columns now : List ColumnDef) (before middle last : List Token) (left : Operand) (op : CompareOp) → now ≡ columns → operand_at columns before ≡ Some (front left middle) → Some (front op last) ≡ comparison_at middle → NeverCompletes now (wants_right left op) last → NeverCompletes columns wants before
left_never columns now before middle last left op e l c h = λ around.
    left_leads columns before middle left l around ∙ comparison_leads columns middle last left op around (sym c) ∙ subst (λ cs. predicate_outcome cs (wants_right left op around) last ≡ None) e (h around)

-- a column without a test for NULL after it completes no atom
pub null_never : (columns now : List ColumnDef) (before middle last : List Token) (place : ℕ) → now ≡ columns → operand_at columns before ≡ Some (front (operands.Column place) middle) → last ≡ middle → NeverCompletes now (after_left (operands.Column place)) last → NeverCompletes columns wants before
null_never columns now before middle last place e l m h = λ around.
    left_leads columns before middle (operands.Column place) l around ∙ subst (λ cs. predicate_outcome cs (after_left (operands.Column place) around) middle ≡ None) e (ap (predicate_outcome now (after_left (operands.Column place) around)) (sym m) ∙ h around)

-- a value without a comparison after it completes no atom
pub value_never : (columns : List ColumnDef) (before middle : List Token) (v : Value) → operand_at columns before ≡ Some (front (operands.Value v) middle) → comparison_at middle ≡ None → NeverCompletes columns wants before
value_never columns before middle v l c = λ around. left_leads columns before middle (operands.Value v) l around ∙ value_fails columns middle v around c

-- ---- parentheses

-- what completes an atom reads one
pub atom_read : {E : Type 0} (r : Result Predicate E) (columns now : List ColumnDef) (before middle after : List Token) → now ≡ columns → middle ≡ before → IfOk r (Completes now wants middle after) → IfOk r (IsPredicateRead columns atom before after)
atom_read (Ok p) columns now before middle after e m h = record {
  part = record {
    leads = subst (λ cs. (around : Around) → predicate_outcome cs (wants around) before ≡ predicate_outcome cs (with_atom around p) after) e (λ around. ap (predicate_outcome now (wants around)) (sym m) ∙ h.leads around);
    shorter = omega (arith, ap length m, h.shorter);
  };
  ends = tt;
}
atom_read (Err x) columns now before middle after e m h = tt

-- what completes no atom is none
pub atom_never : (columns now : List ColumnDef) (before middle : List Token) → now ≡ columns → (open_follows before ≡ false) × (middle ≡ before) → (open_follows middle ≡ false → NeverCompletes now wants middle) → FailsPredicate columns atom before
atom_never columns now before middle e o h = subst (λ cs. FailsPredicate cs atom before) e (λ around. ap (predicate_outcome now (wants around)) (sym o.1) ∙ h (ap open_follows o.1 ∙ o.0) around)

-- a predicate in parentheses is an atom
pub nested_read : (columns : List ColumnDef) (before ts middle after : List Token) (p : Predicate) → before ≡ Open ∷ ts → IsPredicateRead columns disjunction ts middle p → middle ≡ Close ∷ after → IsPredicateRead columns atom before after p
unfolding predicate_outcome
nested_read columns before ts middle after p b r m = record {
  part = record {
    leads = λ around. ap (predicate_outcome columns (wants around)) b ∙ r.part.leads ((around.either, around.both) ∷ around.outer) ∙ ap (predicate_outcome columns (has kept p ((around.either, around.both) ∷ around.outer))) m;
    shorter = rw b (omega (arith, r.part.shorter, ap length m));
  };
  ends = tt;
}

-- what isn't a predicate is none in parentheses
pub nested_fails : (columns : List ColumnDef) (before ts : List Token) → before ≡ Open ∷ ts → FailsPredicate columns disjunction ts → FailsPredicate columns atom before
unfolding predicate_outcome
nested_fails columns before ts b f = λ around. ap (predicate_outcome columns (wants around)) b ∙ f ((around.either, around.both) ∷ around.outer)

-- without the closing parenthesis there is no atom
pub unclosed_fails : (columns : List ColumnDef) (before ts middle : List Token) (p : Predicate) → before ≡ Open ∷ ts → IsPredicateRead columns disjunction ts middle p → close_follows middle ≡ false → FailsPredicate columns atom before
unfolding predicate_outcome
unclosed_fails columns before ts middle p b r c = λ around.
    ap (predicate_outcome columns (wants around)) b ∙ r.part.leads ((around.either, around.both) ∷ around.outer) ∙ unclosed columns p (around.either, around.both) around.outer middle r.ends c

-- ---- `and` and `or`

-- an atom more
pub and_read : (columns : List ColumnDef) (before middle ts after : List Token) (left right p : Predicate) → IsPredicateReadSoFar columns conjunction before middle left → TakesWord (codes "and") middle ts → IsPredicateRead columns atom ts after right → p ≡ predicates.And left right → IsPredicateReadSoFar columns conjunction before after p
and_read columns before middle ts after left right p l t r j = record {
  leads = λ either outer. l.leads either outer ∙ and_leads columns middle ts either left outer t ∙ r.part.leads (record { either = either; both = predicates.And left; outer = outer }) ∙ ap (λ q. predicate_outcome columns (has either q outer) after) (sym j);
  shorter = omega (arith, l.shorter, word_shorter (codes "and") middle ts t, r.part.shorter);
}

-- what follows an `and` is no atom
pub and_fails : (columns : List ColumnDef) (before middle ts : List Token) (left : Predicate) → IsPredicateReadSoFar columns conjunction before middle left → TakesWord (codes "and") middle ts → FailsPredicate columns atom ts → FailsPredicate columns conjunction before
and_fails columns before middle ts left l t f = λ either outer. l.leads either outer ∙ and_leads columns middle ts either left outer t ∙ f (record { either = either; both = predicates.And left; outer = outer })

-- a conjunction more
pub or_read : (columns : List ColumnDef) (before middle ts after : List Token) (left right p : Predicate) → IsPredicateReadSoFar columns disjunction before middle left → TakesWord (codes "or") middle ts → IsPredicateRead columns conjunction ts after right → p ≡ predicates.Or left right → IsPredicateReadSoFar columns disjunction before after p
or_read columns before middle ts after left right p l t r j = record {
  leads = λ outer. l.leads outer ∙ or_leads columns middle ts kept left outer t ∙ r.part.leads (predicates.Or left) outer ∙ settles columns (predicates.Or left) right outer after r.ends ∙ ap (λ q. predicate_outcome columns (has kept q outer) after) (sym j);
  shorter = omega (arith, l.shorter, word_shorter (codes "or") middle ts t, r.part.shorter);
}

-- what follows an `or` is no conjunction
pub or_fails : (columns : List ColumnDef) (before middle ts : List Token) (left : Predicate) → IsPredicateReadSoFar columns disjunction before middle left → TakesWord (codes "or") middle ts → FailsPredicate columns conjunction ts → FailsPredicate columns disjunction before
or_fails columns before middle ts left l t f = λ outer. l.leads outer ∙ or_leads columns middle ts kept left outer t ∙ f (predicates.Or left) outer

-- ---- columns

-- the columns are the same
pub predicate_fails_at : (joint : Joint) (before : List Token) (now columns : List ColumnDef) → now ≡ columns → FailsPredicate now joint before → FailsPredicate columns joint before
predicate_fails_at joint before now columns e h = subst (λ cs. FailsPredicate cs joint before) e h

-- what was read over the same columns
pub predicate_read_at : (joint : Joint) (before after : List Token) (p : Predicate) (now columns : List ColumnDef) → now ≡ columns → IsPredicateRead now joint before after p → IsPredicateRead columns joint before after p
predicate_read_at joint before after p now columns e h = subst (λ cs. IsPredicateRead cs joint before after p) e h
