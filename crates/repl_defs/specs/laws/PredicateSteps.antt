-- The steps of the machine that reads predicates.
use Rattle.std.proofs.Common.{◌≡◌, ℕ, ℤ, true, false, cond, List, [], ◌∷◌, ◌++◌, Some, None, refl, sym, ap, ◌∙◌, append_assoc, codes}
use Rattle.std.proofs.lemmas.Option.{some_pair_parts}
use Rattle.repl_model.specs.Words.{integer_of, ColumnDef, Value, CompareOp, Operand, Predicate}
use Rattle.repl_types.specs.declared.value.Value.TheVariants as values
use Rattle.repl_definitions.specs.declared.predicate.Operand.TheVariants as operands
use Rattle.repl_definitions.specs.declared.predicate.Predicate.TheVariants as predicates
use Rattle.repl_defs.specs.Grammar.{disjunction}
use Rattle.repl_defs.specs.Reading.{place_named, open_follows, close_follows, word_follows, TakesWord}
use Rattle.repl_defs.specs.ReadingPredicates.{operand_at, comparison_at, comparable, Turn, kept, Around, wants, after_left, wants_right, after_is, after_not, has, with_atom, predicate_outcome, around_conjunction, EndsPredicate, LeadsPredicate, inside}
use Rattle.repl_defs.specs.declared.token.Token.{Token}
use Rattle.repl_defs.specs.declared.token.Token.TheVariants.{Word, Number, Text, Minus, Open, Close, Compare}
use Rattle.repl_defs.specs.laws.Choices.{if_true, if_false}
use Rattle.repl_defs.specs.laws.Fronts.{front, goes_on, stops, at_number}
use Rattle.repl_defs.specs.laws.OneWord.{or_isn't_and, null_isn't_not}

-- an integer as an operand
abbrev pub int_operand : ℤ → Operand
int_operand n = operands.Value (values.Int n)

-- the machine reads the operand that an atom begins with
pub left_leads : (columns : List ColumnDef) (before after : List Token) (left : Operand) → operand_at columns before ≡ Some (front left after) → (around : Around) → predicate_outcome columns (wants around) before ≡ predicate_outcome columns (after_left left around) after
unfolding predicate_outcome
left_leads columns [] after left h around = absurd (cc)
left_leads columns (Word word ∷ ts) after left h around = (goes_on (place_named columns word) operands.Column ts left after h).1 (λ o us. predicate_outcome columns (after_left o around) us)
left_leads columns (Number ds ∷ ts) after left h around = (goes_on (integer_of ds) int_operand ts left after (at_number int_operand (integer_of ds) ts ∙ h)).1 (λ o us. predicate_outcome columns (after_left o around) us)
left_leads columns (Text t ∷ ts) after left h around =
    let p = some_pair_parts (operands.Value (values.Text t)) left ts after h in
    ap (λ o. predicate_outcome columns (after_left o around) ts) p.0 ∙ ap (predicate_outcome columns (after_left left around)) p.1
left_leads columns (Minus true ∷ Number ds ∷ ts) after left h around = (goes_on (integer_of (45 ∷ ds)) int_operand ts left after (at_number int_operand (integer_of (45 ∷ ds)) ts ∙ h)).1 (λ o us. predicate_outcome columns (after_left o around) us)
left_leads columns (t ∷ ts) after left h around = absurd (cc)

-- ---- comparisons

-- the machine comes from the tokens of an operand to those after it
right_goes : (columns : List ColumnDef) (before after : List Token) (left right : Operand) (op : CompareOp) (around : Around) → operand_at columns before ≡ Some (front right after) → predicate_outcome columns (wants_right left op around) before ≡ cond (comparable columns left right) (predicate_outcome columns (with_atom around (predicates.Compare left op right)) after) None
unfolding predicate_outcome
right_goes columns [] after left right op around h = absurd (cc)
right_goes columns (Word word ∷ ts) after left right op around h = (goes_on (place_named columns word) operands.Column ts right after h).1 (λ o us. cond (comparable columns left o) (predicate_outcome columns (with_atom around (predicates.Compare left op o)) us) None)
right_goes columns (Number ds ∷ ts) after left right op around h = (goes_on (integer_of ds) int_operand ts right after (at_number int_operand (integer_of ds) ts ∙ h)).1 (λ o us. cond (comparable columns left o) (predicate_outcome columns (with_atom around (predicates.Compare left op o)) us) None)
right_goes columns (Text t ∷ ts) after left right op around h =
    let p = some_pair_parts (operands.Value (values.Text t)) right ts after h in
    ap (λ o. cond (comparable columns left o) (predicate_outcome columns (with_atom around (predicates.Compare left op o)) ts) None) p.0
    ∙ ap (λ us. cond (comparable columns left right) (predicate_outcome columns (with_atom around (predicates.Compare left op right)) us) None) p.1
right_goes columns (Minus true ∷ Number ds ∷ ts) after left right op around h = (goes_on (integer_of (45 ∷ ds)) int_operand ts right after (at_number int_operand (integer_of (45 ∷ ds)) ts ∙ h)).1 (λ o us. cond (comparable columns left o) (predicate_outcome columns (with_atom around (predicates.Compare left op o)) us) None)
right_goes columns (t ∷ ts) after left right op around h = absurd (cc)

-- the right operand makes the comparison whole
pub right_leads : (columns : List ColumnDef) (before after : List Token) (left right : Operand) (op : CompareOp) (around : Around) → operand_at columns before ≡ Some (front right after) → comparable columns left right ≡ true → predicate_outcome columns (wants_right left op around) before ≡ predicate_outcome columns (with_atom around (predicates.Compare left op right)) after
right_leads columns before after left right op around h fits = right_goes columns before after left right op around h ∙ if_true _ _ fits

-- or it doesn't fit
pub right_unfit : (columns : List ColumnDef) (before after : List Token) (left right : Operand) (op : CompareOp) (around : Around) → operand_at columns before ≡ Some (front right after) → comparable columns left right ≡ false → predicate_outcome columns (wants_right left op around) before ≡ None
right_unfit columns before after left right op around h fits = right_goes columns before after left right op around h ∙ if_false _ _ fits

-- or there is none
pub right_fails : (columns : List ColumnDef) (before : List Token) (left : Operand) (op : CompareOp) (around : Around) → operand_at columns before ≡ None → predicate_outcome columns (wants_right left op around) before ≡ None
unfolding predicate_outcome
right_fails columns [] left op around h = refl
right_fails columns (Word word ∷ ts) left op around h = stops (place_named columns word) operands.Column ts h _
right_fails columns (Number ds ∷ ts) left op around h = stops (integer_of ds) int_operand ts (at_number int_operand (integer_of ds) ts ∙ h) _
right_fails columns (Text t ∷ ts) left op around h = absurd (cc)
right_fails columns (Minus true ∷ Number ds ∷ ts) left op around h = stops (integer_of (45 ∷ ds)) int_operand ts (at_number int_operand (integer_of (45 ∷ ds)) ts ∙ h) _
right_fails columns (t ∷ ts) left op around h = refl

-- without an operand and without a parenthesis there is no atom
pub left_fails : (columns : List ColumnDef) (before : List Token) (around : Around) → open_follows before ≡ false → operand_at columns before ≡ None → predicate_outcome columns (wants around) before ≡ None
unfolding predicate_outcome
left_fails columns [] around o h = refl
left_fails columns (Word word ∷ ts) around o h = stops (place_named columns word) operands.Column ts h _
left_fails columns (Number ds ∷ ts) around o h = stops (integer_of ds) int_operand ts (at_number int_operand (integer_of ds) ts ∙ h) _
left_fails columns (Text t ∷ ts) around o h = absurd (cc)
left_fails columns (Minus true ∷ Number ds ∷ ts) around o h = stops (integer_of (45 ∷ ds)) int_operand ts (at_number int_operand (integer_of (45 ∷ ds)) ts ∙ h) _
left_fails columns (Open ∷ ts) around o h = absurd (cc)
left_fails columns (t ∷ ts) around o h = refl

-- how two operands are compared
pub comparison_leads : (columns : List ColumnDef) (before after : List Token) (left : Operand) (op : CompareOp) (around : Around) → comparison_at before ≡ Some (front op after) → predicate_outcome columns (after_left left around) before ≡ predicate_outcome columns (wants_right left op around) after
unfolding predicate_outcome
comparison_leads columns [] after left op around h = absurd (cc)
comparison_leads columns (Compare o ∷ ts) after left op around h =
    let p = some_pair_parts o op ts after h in
    ap (λ o. predicate_outcome columns (wants_right left o around) ts) p.0 ∙ ap (predicate_outcome columns (wants_right left op around)) p.1
comparison_leads columns (t ∷ ts) after left op around h = absurd (cc)

-- ---- tests for NULL

-- a value is compared
pub value_fails : (columns : List ColumnDef) (before : List Token) (v : Value) (around : Around) → comparison_at before ≡ None → predicate_outcome columns (after_left (operands.Value v) around) before ≡ None
unfolding predicate_outcome
value_fails columns [] v around h = refl
value_fails columns (Compare op ∷ ts) v around h = absurd (cc)
value_fails columns (t ∷ ts) v around h = refl

-- a column is compared, or `is` follows
pub column_fails : (columns : List ColumnDef) (before : List Token) (place : ℕ) (around : Around) → comparison_at before ≡ None → word_follows (codes "is") before ≡ false → predicate_outcome columns (after_left (operands.Column place) around) before ≡ None
unfolding predicate_outcome
column_fails columns [] place around h w = refl
column_fails columns (Word word ∷ ts) place around h w = if_false _ _ w
column_fails columns (Compare op ∷ ts) place around h w = absurd (cc)
column_fails columns (t ∷ ts) place around h w = refl

-- `is` after a column
pub is_leads : (columns : List ColumnDef) (before after : List Token) (place : ℕ) (around : Around) → TakesWord (codes "is") before after → predicate_outcome columns (after_left (operands.Column place) around) before ≡ predicate_outcome columns (after_is place around) after
unfolding predicate_outcome
is_leads columns before after place around t = ap (predicate_outcome columns (after_left (operands.Column place) around)) t.is ∙ if_true _ _ t.says_so

-- `not` after `is`
pub not_leads : (columns : List ColumnDef) (before after : List Token) (place : ℕ) (around : Around) → TakesWord (codes "not") before after → predicate_outcome columns (after_is place around) before ≡ predicate_outcome columns (after_not place around) after
unfolding predicate_outcome
not_leads columns before after place around t = ap (predicate_outcome columns (after_is place around)) t.is ∙ if_true _ _ t.says_so

-- `null` after `is`
pub null_leads : (columns : List ColumnDef) (before after : List Token) (place : ℕ) (around : Around) → TakesWord (codes "null") before after → predicate_outcome columns (after_is place around) before ≡ predicate_outcome columns (with_atom around (predicates.IsNull place)) after
unfolding predicate_outcome
null_leads columns before after place around t = ap (predicate_outcome columns (after_is place around)) t.is ∙ if_false _ _ (null_isn't_not t.word t.says_so) ∙ if_true _ _ t.says_so

-- `null` after `is not`
pub not_null_leads : (columns : List ColumnDef) (before after : List Token) (place : ℕ) (around : Around) → TakesWord (codes "null") before after → predicate_outcome columns (after_not place around) before ≡ predicate_outcome columns (with_atom around (predicates.IsNotNull place)) after
unfolding predicate_outcome
not_null_leads columns before after place around t = ap (predicate_outcome columns (after_not place around)) t.is ∙ if_true _ _ t.says_so

-- neither `not` nor `null` after `is`
pub null_fails : (columns : List ColumnDef) (before : List Token) (place : ℕ) (around : Around) → word_follows (codes "not") before ≡ false → word_follows (codes "null") before ≡ false → predicate_outcome columns (after_is place around) before ≡ None
unfolding predicate_outcome
null_fails columns [] place around n w = refl
null_fails columns (Word word ∷ ts) place around n w = if_false _ _ n ∙ if_false _ _ w
null_fails columns (t ∷ ts) place around n w = refl

-- no `null` after `is not`
pub not_null_fails : (columns : List ColumnDef) (before : List Token) (place : ℕ) (around : Around) → word_follows (codes "null") before ≡ false → predicate_outcome columns (after_not place around) before ≡ None
unfolding predicate_outcome
not_null_fails columns [] place around w = refl
not_null_fails columns (Word word ∷ ts) place around w = if_false _ _ w
not_null_fails columns (t ∷ ts) place around w = refl

-- ---- `and` and `or`

-- `and` after a conjunction
pub and_leads : (columns : List ColumnDef) (before after : List Token) (either : Turn) (p : Predicate) (outer : List (Turn × Turn)) → TakesWord (codes "and") before after → predicate_outcome columns (has either p outer) before ≡ predicate_outcome columns (wants (record { either = either; both = predicates.And p; outer = outer })) after
unfolding predicate_outcome
and_leads columns before after either p outer t = ap (predicate_outcome columns (has either p outer)) t.is ∙ if_true _ _ t.says_so

-- `or` after a conjunction
pub or_leads : (columns : List ColumnDef) (before after : List Token) (either : Turn) (p : Predicate) (outer : List (Turn × Turn)) → TakesWord (codes "or") before after → predicate_outcome columns (has either p outer) before ≡ predicate_outcome columns (wants (around_conjunction (predicates.Or (either p)) outer)) after
unfolding predicate_outcome
or_leads columns before after either p outer t = ap (predicate_outcome columns (has either p outer)) t.is ∙ if_false _ _ (or_isn't_and t.word t.says_so) ∙ if_true _ _ t.says_so

-- without an `and` after it, a conjunction is added to those before it
pub settles : (columns : List ColumnDef) (either : Turn) (p : Predicate) (outer : List (Turn × Turn)) (rest : List Token) → word_follows (codes "and") rest ≡ false → predicate_outcome columns (has either p outer) rest ≡ predicate_outcome columns (has kept (either p) outer) rest
unfolding predicate_outcome
settles columns either p [] [] h = refl
settles columns either p (o ∷ outer) [] h = refl
settles columns either p outer (Word word ∷ ts) h = if_false _ _ h ∙ sym (if_false _ _ h)
settles columns either p [] (Close ∷ ts) h = refl
settles columns either p (o ∷ outer) (Close ∷ ts) h = refl
settles columns either p outer (t ∷ ts) h = refl

-- ---- parentheses

-- a predicate that is read whole ends at a closing parenthesis or not at all
pub unclosed : (columns : List ColumnDef) (p : Predicate) (o : Turn × Turn) (outer : List (Turn × Turn)) (middle : List Token) → EndsPredicate disjunction middle → close_follows middle ≡ false → predicate_outcome columns (has kept p (o ∷ outer)) middle ≡ None
unfolding predicate_outcome
unclosed columns p o outer [] h c = refl
unclosed columns p o outer (Word word ∷ ts) h c = if_false _ _ h.0 ∙ if_false _ _ h.1
unclosed columns p o outer (Close ∷ ts) h c = absurd (cc c)
unclosed columns p o outer (t ∷ ts) h c = refl

-- a predicate in parentheses is an atom
pub open_close : (columns : List ColumnDef) (ts : List Token) (p : Predicate) (rest : List Token) (around : Around) → LeadsPredicate columns disjunction (ts ++ Close ∷ rest) p (Close ∷ rest) → predicate_outcome columns (wants around) (Open ∷ (ts ++ Close ∷ []) ++ rest) ≡ predicate_outcome columns (with_atom around p) rest
unfolding predicate_outcome
open_close columns ts p rest around h =
    ap (predicate_outcome columns (wants (inside around))) (append_assoc ts (Close ∷ []) rest) ∙ h ((around.either, around.both) ∷ around.outer)
