-- The machine that reads predicates completes a predicate exactly if the grammar has it, and if the two sides
-- of each of its comparisons have one kind.
use Rattle.std.proofs.Common.{◌≡◌, ℕ, ℤ, true, false, cond, inl, inr, List, [], ◌∷◌, ◌++◌, Some, None, refl, sym, ap, ◌∙◌, append_assoc, append-nil, codes, IsTrue, option_map}
use Rattle.std.proofs.lemmas.Bool.{and_parts, and_from}
use Rattle.std.proofs.lemmas.Option.{option_and_then_some, same_Some}
use Rattle.repl_model.specs.Words.{integer_of, ColumnDef, CompareOp, Operand, Predicate, kinds_fit, fits_compare, fits_null, fits_not_null, fits_and, fits_or}
use Rattle.repl_types.specs.declared.value.Value.TheVariants as values
use Rattle.repl_definitions.specs.declared.predicate.Operand.TheVariants as operands
use Rattle.repl_definitions.specs.declared.predicate.Predicate.TheVariants as predicates
use Rattle.repl_defs.specs.Words.{says, Names}
use Rattle.repl_defs.specs.Grammar.{IsInteger, digits, negative, IsOperand, column, integer, text, Joint, atom, conjunction, disjunction, IsPredicate, compared, is_null, is_not_null, nested, one_atom, both, one_conjunction, either}
use Rattle.repl_defs.specs.Reading.{place_named, word_follows, TakesWord}
use Rattle.repl_defs.specs.ReadingPredicates.{operand_at, comparable, Turn, kept, Around, PredicateState, wants, after_left, wants_right, after_is, after_not, has, with_atom, inside, predicate_outcome, around_conjunction, around_whole, LeadsPredicate}
use Rattle.repl_defs.specs.declared.token.Token.{Token}
use Rattle.repl_defs.specs.declared.token.Token.TheVariants.{Word, Number, Text, Minus, Open, Close, Compare}
use Rattle.repl_defs.specs.laws.Choices.{chosen, either_chosen}
use Rattle.repl_defs.specs.laws.Fronts.{front}
use Rattle.repl_defs.specs.laws.Names.{named, names}
use Rattle.repl_defs.specs.laws.OneWord.{or_isn't_and}
use Rattle.repl_defs.specs.laws.PredicateSteps.{left_leads, right_leads, comparison_leads, is_leads, not_leads, null_leads, not_null_leads, and_leads, or_leads, settles, open_close}
use Rattle.repl_defs.specs.laws.ExpressionsRead.{one_more, closed}

-- ---- a predicate of the grammar is read

-- an integer of the grammar is found in front of any tokens
integer_found : (columns : List ColumnDef) (us : List Token) (n : ℤ) → IsInteger us n → (rest : List Token) → operand_at columns (us ++ rest) ≡ Some (front (operands.Value (values.Int n)) rest)
integer_found columns us n (digits ds n' h) rest = ap (λ o. option_map (λ (n : ℤ × List Token). front (operands.Value (values.Int n.0)) n.1) (option_map (λ n. front n rest) o)) h
integer_found columns us n (negative ds n' h) rest = ap (λ o. option_map (λ (n : ℤ × List Token). front (operands.Value (values.Int n.0)) n.1) (option_map (λ n. front n rest) o)) h

-- an operand of the grammar is found in front of any tokens
operand_found : (columns : List ColumnDef) (us : List Token) (o : Operand) → IsOperand columns us o → (rest : List Token) → operand_at columns (us ++ rest) ≡ Some (front o rest)
operand_found columns us o (column word place n) rest = ap (option_map (λ place. front (operands.Column place) rest)) (named n)
operand_found columns us o (integer ts n d) rest = integer_found columns ts n d rest
operand_found columns us o (text t) rest = refl

-- what may follow a part of a predicate: after the whole of it, no `and`
abbrev Follows : Joint → List Token → Type 0
Follows atom rest = Unit {0}
Follows conjunction rest = Unit {0}
Follows disjunction rest = word_follows (codes "and") rest ≡ false

-- a word is taken
takes : (spelled word : List ℕ) (rest : List Token) → IsTrue (says spelled word) → TakesWord spelled (Word word ∷ rest) rest
takes spelled word rest h = record { word = word; is = refl; says_so = h }

-- what the grammar has and fits is read, whatever follows it
pub leads : (columns : List ColumnDef) (joint : Joint) (us : List Token) (p : Predicate) → IsPredicate columns joint us p → IsTrue (kinds_fit columns p) → (rest : List Token) → Follows joint rest → LeadsPredicate columns joint (us ++ rest) p rest
leads columns joint us p (compared ts vs left right op l r) fits rest h = λ around.
    ap (predicate_outcome columns (wants around)) (append_assoc ts (Compare op ∷ vs) rest)
    ∙ left_leads columns (ts ++ (Compare op ∷ vs ++ rest)) (Compare op ∷ vs ++ rest) left (operand_found columns ts left l (Compare op ∷ vs ++ rest)) around
    ∙ comparison_leads columns (Compare op ∷ vs ++ rest) (vs ++ rest) left op around refl
    ∙ right_leads columns (vs ++ rest) rest left right op around (operand_found columns vs right r rest) (sym (fits_compare columns left op right) ∙ fits)
leads columns joint us p (is_null word is null place n i u) fits rest h = λ around.
    left_leads columns (Word word ∷ Word is ∷ Word null ∷ rest) (Word is ∷ Word null ∷ rest) (operands.Column place) (operand_found columns (Word word ∷ []) (operands.Column place) (column word place n) (Word is ∷ Word null ∷ rest)) around
    ∙ is_leads columns (Word is ∷ Word null ∷ rest) (Word null ∷ rest) place around (takes (codes "is") is (Word null ∷ rest) i)
    ∙ null_leads columns (Word null ∷ rest) rest place around (takes (codes "null") null rest u)
leads columns joint us p (is_not_null word is not null place n i t u) fits rest h = λ around.
    left_leads columns (Word word ∷ Word is ∷ Word not ∷ Word null ∷ rest) (Word is ∷ Word not ∷ Word null ∷ rest) (operands.Column place) (operand_found columns (Word word ∷ []) (operands.Column place) (column word place n) (Word is ∷ Word not ∷ Word null ∷ rest)) around
    ∙ is_leads columns (Word is ∷ Word not ∷ Word null ∷ rest) (Word not ∷ Word null ∷ rest) place around (takes (codes "is") is (Word not ∷ Word null ∷ rest) i)
    ∙ not_leads columns (Word not ∷ Word null ∷ rest) (Word null ∷ rest) place around (takes (codes "not") not (Word null ∷ rest) t)
    ∙ not_null_leads columns (Word null ∷ rest) rest place around (takes (codes "null") null rest u)
leads columns joint us p (nested ts q d) fits rest h = λ around. open_close columns ts q rest around (leads columns disjunction ts q d fits (Close ∷ rest) refl)
leads columns joint us p (one_atom ts q d) fits rest h = λ either outer. leads columns atom ts q d fits rest tt (around_conjunction either outer)
leads columns joint us p (both ts vs word q r d w k) fits rest h = λ either outer.
    let f = and_parts (kinds_fit columns q) (kinds_fit columns r) (sym (fits_and columns q r) ∙ fits) in
    ap (predicate_outcome columns (wants (around_conjunction either outer))) (append_assoc ts (Word word ∷ vs) rest)
    ∙ leads columns conjunction ts q d f.0 (Word word ∷ vs ++ rest) tt either outer
    ∙ and_leads columns (Word word ∷ vs ++ rest) (vs ++ rest) either q outer (takes (codes "and") word (vs ++ rest) w)
    ∙ leads columns atom vs r k f.1 rest tt (record { either = either; both = predicates.And q; outer = outer })
leads columns joint us p (one_conjunction ts q d) fits rest h = λ outer. leads columns conjunction ts q d fits rest tt kept outer
leads columns joint us p (either ts vs word q r d w k) fits rest h = λ outer.
    let f = and_parts (kinds_fit columns q) (kinds_fit columns r) (sym (fits_or columns q r) ∙ fits) in
    ap (predicate_outcome columns (wants (around_whole outer))) (append_assoc ts (Word word ∷ vs) rest)
    ∙ leads columns disjunction ts q d f.0 (Word word ∷ vs ++ rest) (or_isn't_and word w) outer
    ∙ or_leads columns (Word word ∷ vs ++ rest) (vs ++ rest) kept q outer (takes (codes "or") word (vs ++ rest) w)
    ∙ leads columns conjunction vs r k f.1 rest tt (predicates.Or q) outer
    ∙ settles columns (predicates.Or q) r outer rest h

-- ---- what is read is a predicate of the grammar that fits

-- the tokens are a part of a predicate, and the sides of its comparisons have one kind
abbrev Fit : List ColumnDef → Joint → List Token → Predicate → Type 0
Fit columns joint ts p = IsPredicate columns joint ts p × IsTrue (kinds_fit columns p)

-- a turn makes a conjunction of each atom that stands after the tokens
abbrev Boths : List ColumnDef → List Token → Turn → Type 0
Boths columns done turn = (ts : List Token) (p : Predicate) → Fit columns atom ts p → Fit columns conjunction (done ++ ts) (turn p)

-- a turn makes a whole predicate of each conjunction that stands after the tokens
abbrev Eithers : List ColumnDef → List Token → Turn → Type 0
Eithers columns done turn = (ts : List Token) (p : Predicate) → Fit columns conjunction ts p → Fit columns disjunction (done ++ ts) (turn p)

-- the tokens up to an open parenthesis, the innermost: those of the conjunctions and of the atoms before it,
-- and those before them
abbrev Encloses : List ColumnDef → List Token → List (Turn × Turn) → Type 0
Encloses columns done [] = done ≡ []
Encloses columns done (o ∷ outer) = (us vs ws : List Token) × (done ≡ us ++ (vs ++ (ws ++ Open ∷ []))) × Encloses columns us outer × Eithers columns vs o.0 × Boths columns ws o.1

-- the last of the tokens before the machine
abbrev IsLast : List ColumnDef → PredicateState → List Token → Type 0
IsLast columns (wants around) ws = Boths columns ws around.both
IsLast columns (after_left left around) ws = (vs us : List Token) × (ws ≡ vs ++ us) × Boths columns vs around.both × IsOperand columns us left
IsLast columns (wants_right left op around) ws = (vs us : List Token) × (ws ≡ vs ++ (us ++ Compare op ∷ [])) × Boths columns vs around.both × IsOperand columns us left
IsLast columns (after_is place around) ws = (vs : List Token) × (word is : List ℕ) × (ws ≡ vs ++ Word word ∷ Word is ∷ []) × Boths columns vs around.both × Names columns word place × IsTrue (says (codes "is") is)
IsLast columns (after_not place around) ws = (vs : List Token) × (word is not : List ℕ) × (ws ≡ vs ++ Word word ∷ Word is ∷ Word not ∷ []) × Boths columns vs around.both × Names columns word place × IsTrue (says (codes "is") is) × IsTrue (says (codes "not") not)
IsLast columns (has turn p outer) ws = Fit columns conjunction ws p

-- what becomes of a conjunction, where the machine stands
abbrev either_of : PredicateState → Turn
either_of (wants around) = around.either
either_of (after_left left around) = around.either
either_of (wants_right left op around) = around.either
either_of (after_is place around) = around.either
either_of (after_not place around) = around.either
either_of (has turn p outer) = turn

-- what stands around the parentheses that are open, where the machine stands
abbrev outer_of : PredicateState → List (Turn × Turn)
outer_of (wants around) = around.outer
outer_of (after_left left around) = around.outer
outer_of (wants_right left op around) = around.outer
outer_of (after_is place around) = around.outer
outer_of (after_not place around) = around.outer
outer_of (has turn p outer) = outer

-- the tokens before the machine, by where it stands
record Stands (columns : List ColumnDef) (done : List Token) (state : PredicateState) : Type 0 where
  us : List Token
  vs : List Token
  ws : List Token
  are : done ≡ us ++ (vs ++ ws)
  encloses : Encloses columns us (outer_of state)
  eithers : Eithers columns vs (either_of state)
  last : IsLast columns state ws

-- an atom alone is a conjunction
kept_both : (columns : List ColumnDef) → Boths columns [] kept
kept_both columns ts p d = (one_atom ts p d.0, d.1)

-- a conjunction alone is a whole predicate
kept_either : (columns : List ColumnDef) → Eithers columns [] kept
kept_either columns ts p d = (one_conjunction ts p d.0, d.1)

-- the tokens of one step more, with what they make the last ones
steps_on : (columns : List ColumnDef) (done more : List Token) (state next : PredicateState) (g : Stands columns done state) → outer_of next ≡ outer_of state → either_of next ≡ either_of state → IsLast columns next (g.ws ++ more) → Stands columns (done ++ more) next
steps_on columns done more state next g o e last = record {
  us = g.us;
  vs = g.vs;
  ws = g.ws ++ more;
  are = one_more done g.us g.vs g.ws more g.are;
  encloses = rw o g.encloses;
  eithers = rw e g.eithers;
  last = last;
}

-- the operand that an atom begins with is read
left_stands : (columns : List ColumnDef) (done us : List Token) (left : Operand) (around : Around) → Stands columns done (wants around) → IsOperand columns us left → Stands columns (done ++ us) (after_left left around)
left_stands columns done us left around g d = steps_on columns done us (wants around) (after_left left around) g refl refl (g.ws, us, refl, g.last, d)

-- how it is compared is read
comparison_stands : (columns : List ColumnDef) (done : List Token) (left : Operand) (op : CompareOp) (around : Around) → Stands columns done (after_left left around) → Stands columns (done ++ Compare op ∷ []) (wants_right left op around)
comparison_stands columns done left op around g =
    let (vs, us, are, boths, operand) = g.last in
    steps_on columns done (Compare op ∷ []) (after_left left around) (wants_right left op around) g refl refl (vs, us, ap (λ w. w ++ Compare op ∷ []) are ∙ append_assoc vs us (Compare op ∷ []), boths, operand)

-- the right operand is read, and the comparison is whole
right_stands : (columns : List ColumnDef) (done rs : List Token) (left right : Operand) (op : CompareOp) (around : Around) → Stands columns done (wants_right left op around) → IsOperand columns rs right → comparable columns left right ≡ true → Stands columns (done ++ rs) (with_atom around (predicates.Compare left op right))
right_stands columns done rs left right op around g d fits =
    let (vs, us, are, boths, operand) = g.last in
    let e : g.ws ++ rs ≡ vs ++ (us ++ Compare op ∷ rs) = rw are (simp append_assoc) in
    steps_on columns done rs (wants_right left op around) (with_atom around (predicates.Compare left op right)) g refl refl
    (rw e (boths (us ++ Compare op ∷ rs) (predicates.Compare left op right) (compared us rs left right op operand d, fits_compare columns left op right ∙ fits)))

-- a column that is an operand, is a word
abbrev ComesFrom : List ColumnDef → List Token → Operand → Type 0
ComesFrom columns us (operands.Column place) = (word : List ℕ) × (us ≡ Word word ∷ []) × Names columns word place
ComesFrom columns us (operands.Value v) = Unit {0}

-- where an operand comes from
comes_from : (columns : List ColumnDef) (us : List Token) (o : Operand) → IsOperand columns us o → ComesFrom columns us o
comes_from columns us o (column word place n) = (word, refl, n)
comes_from columns us o (integer ts n d) = tt
comes_from columns us o (text t) = tt

-- the tokens of a column and `is`
after_column : (ws vs us : List Token) (word is : List ℕ) → ws ≡ vs ++ us → us ≡ Word word ∷ [] → ws ++ Word is ∷ [] ≡ vs ++ Word word ∷ Word is ∷ []
after_column ws vs us word is are one = rw (are, one) (append_assoc vs (Word word ∷ []) (Word is ∷ []))

-- `is` is read after a column
is_stands : (columns : List ColumnDef) (done : List Token) (is : List ℕ) (place : ℕ) (around : Around) → Stands columns done (after_left (operands.Column place) around) → IsTrue (says (codes "is") is) → Stands columns (done ++ Word is ∷ []) (after_is place around)
is_stands columns done is place around g h =
    let (vs, us, are, boths, operand) = g.last in
    let (word, one, n) = comes_from columns us (operands.Column place) operand in
    steps_on columns done (Word is ∷ []) (after_left (operands.Column place) around) (after_is place around) g refl refl (vs, word, is, after_column g.ws vs us word is are one, boths, n, h)

-- `not` is read after `is`
not_stands : (columns : List ColumnDef) (done : List Token) (not : List ℕ) (place : ℕ) (around : Around) → Stands columns done (after_is place around) → IsTrue (says (codes "not") not) → Stands columns (done ++ Word not ∷ []) (after_not place around)
not_stands columns done not place around g h =
    let (vs, word, is, are, boths, n, i) = g.last in
    let e : g.ws ++ Word not ∷ [] ≡ vs ++ Word word ∷ Word is ∷ Word not ∷ [] = rw are (append_assoc vs (Word word ∷ Word is ∷ []) (Word not ∷ [])) in
    steps_on columns done (Word not ∷ []) (after_is place around) (after_not place around) g refl refl (vs, word, is, not, e, boths, n, i, h)

-- `null` is read after `is`
null_stands : (columns : List ColumnDef) (done : List Token) (null : List ℕ) (place : ℕ) (around : Around) → Stands columns done (after_is place around) → IsTrue (says (codes "null") null) → Stands columns (done ++ Word null ∷ []) (with_atom around (predicates.IsNull place))
null_stands columns done null place around g h =
    let (vs, word, is, are, boths, n, i) = g.last in
    let e : g.ws ++ Word null ∷ [] ≡ vs ++ Word word ∷ Word is ∷ Word null ∷ [] = rw are (append_assoc vs (Word word ∷ Word is ∷ []) (Word null ∷ [])) in
    steps_on columns done (Word null ∷ []) (after_is place around) (with_atom around (predicates.IsNull place)) g refl refl
    (rw e (boths (Word word ∷ Word is ∷ Word null ∷ []) (predicates.IsNull place) (is_null word is null place n i h, fits_null columns place)))

-- `null` is read after `is not`
not_null_stands : (columns : List ColumnDef) (done : List Token) (null : List ℕ) (place : ℕ) (around : Around) → Stands columns done (after_not place around) → IsTrue (says (codes "null") null) → Stands columns (done ++ Word null ∷ []) (with_atom around (predicates.IsNotNull place))
not_null_stands columns done null place around g h =
    let (vs, word, is, not, are, boths, n, i, t) = g.last in
    let e : g.ws ++ Word null ∷ [] ≡ vs ++ Word word ∷ Word is ∷ Word not ∷ Word null ∷ [] = rw are (append_assoc vs (Word word ∷ Word is ∷ Word not ∷ []) (Word null ∷ [])) in
    steps_on columns done (Word null ∷ []) (after_not place around) (with_atom around (predicates.IsNotNull place)) g refl refl
    (rw e (boths (Word word ∷ Word is ∷ Word not ∷ Word null ∷ []) (predicates.IsNotNull place) (is_not_null word is not null place n i t h, fits_not_null columns place)))

-- `and` is read
and_stands : (columns : List ColumnDef) (done : List Token) (word : List ℕ) (e : Turn) (p : Predicate) (outer : List (Turn × Turn)) → Stands columns done (has e p outer) → IsTrue (says (codes "and") word) → Stands columns (done ++ Word word ∷ []) (wants (record { either = e; both = predicates.And p; outer = outer }))
and_stands columns done word e p outer g h =
    steps_on columns done (Word word ∷ []) (has e p outer) (wants (record { either = e; both = predicates.And p; outer = outer })) g refl refl
    (λ ts q d. (rw (append_assoc g.ws (Word word ∷ []) ts) (both g.ws ts word p q g.last.0 h d.0), fits_and columns p q ∙ and_from (kinds_fit columns p) (kinds_fit columns q) g.last.1 d.1))

-- `or` is read
or_stands : (columns : List ColumnDef) (done : List Token) (word : List ℕ) (e : Turn) (p : Predicate) (outer : List (Turn × Turn)) → Stands columns done (has e p outer) → IsTrue (says (codes "or") word) → Stands columns (done ++ Word word ∷ []) (wants (around_conjunction (predicates.Or (e p)) outer))
or_stands columns done word e p outer g h = let whole = g.eithers g.ws p g.last in record {
  us = g.us;
  vs = (g.vs ++ g.ws) ++ Word word ∷ [];
  ws = [];
  are = ap (λ d. d ++ Word word ∷ []) g.are ∙ append_assoc g.us (g.vs ++ g.ws) (Word word ∷ []) ∙ ap (λ d. g.us ++ d) (sym (append-nil ((g.vs ++ g.ws) ++ Word word ∷ [])));
  encloses = g.encloses;
  eithers = λ ts q d. (rw (append_assoc (g.vs ++ g.ws) (Word word ∷ []) ts) (either (g.vs ++ g.ws) ts word (e p) q whole.0 h d.0), fits_or columns (e p) q ∙ and_from (kinds_fit columns (e p)) (kinds_fit columns q) whole.1 d.1);
  last = kept_both columns;
}

-- a parenthesis is opened
open_stands : (columns : List ColumnDef) (done : List Token) (around : Around) → Stands columns done (wants around) → Stands columns (done ++ Open ∷ []) (wants (inside around))
open_stands columns done around g = record {
  us = done ++ Open ∷ [];
  vs = [];
  ws = [];
  are = sym (append-nil (done ++ Open ∷ []));
  encloses = (g.us, g.vs, g.ws, one_more done g.us g.vs g.ws (Open ∷ []) g.are, g.encloses, g.eithers, g.last);
  eithers = kept_either columns;
  last = kept_both columns;
}

-- a parenthesis is closed
close_stands : (columns : List ColumnDef) (done : List Token) (e : Turn) (p : Predicate) (o : Turn × Turn) (outer : List (Turn × Turn)) → Stands columns done (has e p (o ∷ outer)) → Stands columns (done ++ Close ∷ []) (has o.0 (o.1 (e p)) outer)
close_stands columns done e p o outer g =
    let (us, vs, ws, are, encloses, eithers, boths) = g.encloses in
    let whole = g.eithers g.ws p g.last in record {
      us = us;
      vs = vs;
      ws = ws ++ (Open ∷ (g.vs ++ g.ws) ++ Close ∷ []);
      are = closed done g.us g.vs g.ws us vs ws g.are are;
      encloses = encloses;
      eithers = eithers;
      last = boths (Open ∷ (g.vs ++ g.ws) ++ Close ∷ []) (e p) (nested (g.vs ++ g.ws) (e p) whole.0, whole.1);
    }

-- the end is reached
end_stands : (columns : List ColumnDef) (done : List Token) (e : Turn) (p : Predicate) → Stands columns done (has e p []) → Fit columns disjunction (done ++ []) (e p)
end_stands columns done e p g =
    let are : done ++ [] ≡ g.vs ++ g.ws = append-nil done ∙ g.are ∙ ap (λ d. d ++ (g.vs ++ g.ws)) g.encloses in
    rw are (g.eithers g.ws p g.last)

-- the tokens of a step go over to those before the machine
regrouped : (columns : List ColumnDef) (done us ts : List Token) (x : Predicate) → Fit columns disjunction ((done ++ us) ++ ts) x → Fit columns disjunction (done ++ (us ++ ts)) x
regrouped columns done us ts x h = rw append_assoc at h

-- what is read is in the grammar, and fits
is_predicate : (columns : List ColumnDef) (state : PredicateState) (ts done : List Token) (x : Predicate) → Stands columns done state → predicate_outcome columns state ts ≡ Some x → Fit columns disjunction (done ++ ts) x
unfolding predicate_outcome
is_predicate columns (wants around) [] done x g h = absurd (cc)
is_predicate columns (wants around) (Word word ∷ ts) done x g h =
    option_and_then_some (λ place. predicate_outcome columns (after_left (operands.Column place) around) ts) (place_named columns word) x h (λ place is next.
    regrouped columns done (Word word ∷ []) ts x (is_predicate columns (after_left (operands.Column place) around) ts (done ++ Word word ∷ []) x
    (left_stands columns done (Word word ∷ []) (operands.Column place) around g (column word place (names columns word place is))) next))
is_predicate columns (wants around) (Number ds ∷ ts) done x g h =
    option_and_then_some (λ n. predicate_outcome columns (after_left (operands.Value (values.Int n)) around) ts) (integer_of ds) x h (λ n is next.
    regrouped columns done (Number ds ∷ []) ts x (is_predicate columns (after_left (operands.Value (values.Int n)) around) ts (done ++ Number ds ∷ []) x
    (left_stands columns done (Number ds ∷ []) (operands.Value (values.Int n)) around g (integer (Number ds ∷ []) n (digits ds n is))) next))
is_predicate columns (wants around) (Text t ∷ ts) done x g h =
    regrouped columns done (Text t ∷ []) ts x (is_predicate columns (after_left (operands.Value (values.Text t)) around) ts (done ++ Text t ∷ []) x
    (left_stands columns done (Text t ∷ []) (operands.Value (values.Text t)) around g (text t)) h)
is_predicate columns (wants around) (Minus false ∷ ts) done x g h = absurd (cc)
is_predicate columns (wants around) (Minus true ∷ Number ds ∷ ts) done x g h =
    option_and_then_some (λ n. predicate_outcome columns (after_left (operands.Value (values.Int n)) around) ts) (integer_of (45 ∷ ds)) x h (λ n is next.
    regrouped columns done (Minus true ∷ Number ds ∷ []) ts x (is_predicate columns (after_left (operands.Value (values.Int n)) around) ts (done ++ Minus true ∷ Number ds ∷ []) x
    (left_stands columns done (Minus true ∷ Number ds ∷ []) (operands.Value (values.Int n)) around g (integer (Minus true ∷ Number ds ∷ []) n (negative ds n is))) next))
is_predicate columns (wants around) (Open ∷ ts) done x g h =
    regrouped columns done (Open ∷ []) ts x (is_predicate columns (wants (inside around)) ts (done ++ Open ∷ []) x (open_stands columns done around g) h)
is_predicate columns (wants around) (t ∷ ts) done x g h = absurd (cc)
is_predicate columns (after_left left around) (Compare op ∷ ts) done x g h =
    regrouped columns done (Compare op ∷ []) ts x (is_predicate columns (wants_right left op around) ts (done ++ Compare op ∷ []) x (comparison_stands columns done left op around g) h)
is_predicate columns (after_left (operands.Column place) around) (Word word ∷ ts) done x g h =
    let p = chosen (says (codes "is") word) (predicate_outcome columns (after_is place around) ts) x h in
    regrouped columns done (Word word ∷ []) ts x (is_predicate columns (after_is place around) ts (done ++ Word word ∷ []) x (is_stands columns done word place around g p.0) p.1)
is_predicate columns (after_left left around) ts done x g h = absurd (cc)
is_predicate columns (wants_right left op around) (Word word ∷ ts) done x g h =
    option_and_then_some (λ place. cond (comparable columns left (operands.Column place)) (predicate_outcome columns (with_atom around (predicates.Compare left op (operands.Column place))) ts) None) (place_named columns word) x h (λ place is next.
    let p = chosen (comparable columns left (operands.Column place)) (predicate_outcome columns (with_atom around (predicates.Compare left op (operands.Column place))) ts) x next in
    regrouped columns done (Word word ∷ []) ts x (is_predicate columns (with_atom around (predicates.Compare left op (operands.Column place))) ts (done ++ Word word ∷ []) x
    (right_stands columns done (Word word ∷ []) left (operands.Column place) op around g (column word place (names columns word place is)) p.0) p.1))
is_predicate columns (wants_right left op around) (Number ds ∷ ts) done x g h =
    option_and_then_some (λ n. cond (comparable columns left (operands.Value (values.Int n))) (predicate_outcome columns (with_atom around (predicates.Compare left op (operands.Value (values.Int n)))) ts) None) (integer_of ds) x h (λ n is next.
    let p = chosen (comparable columns left (operands.Value (values.Int n))) (predicate_outcome columns (with_atom around (predicates.Compare left op (operands.Value (values.Int n)))) ts) x next in
    regrouped columns done (Number ds ∷ []) ts x (is_predicate columns (with_atom around (predicates.Compare left op (operands.Value (values.Int n)))) ts (done ++ Number ds ∷ []) x
    (right_stands columns done (Number ds ∷ []) left (operands.Value (values.Int n)) op around g (integer (Number ds ∷ []) n (digits ds n is)) p.0) p.1))
is_predicate columns (wants_right left op around) (Text t ∷ ts) done x g h =
    let p = chosen (comparable columns left (operands.Value (values.Text t))) (predicate_outcome columns (with_atom around (predicates.Compare left op (operands.Value (values.Text t)))) ts) x h in
    regrouped columns done (Text t ∷ []) ts x (is_predicate columns (with_atom around (predicates.Compare left op (operands.Value (values.Text t)))) ts (done ++ Text t ∷ []) x
    (right_stands columns done (Text t ∷ []) left (operands.Value (values.Text t)) op around g (text t) p.0) p.1)
is_predicate columns (wants_right left op around) (Minus false ∷ ts) done x g h = absurd (cc)
is_predicate columns (wants_right left op around) (Minus true ∷ Number ds ∷ ts) done x g h =
    option_and_then_some (λ n. cond (comparable columns left (operands.Value (values.Int n))) (predicate_outcome columns (with_atom around (predicates.Compare left op (operands.Value (values.Int n)))) ts) None) (integer_of (45 ∷ ds)) x h (λ n is next.
    let p = chosen (comparable columns left (operands.Value (values.Int n))) (predicate_outcome columns (with_atom around (predicates.Compare left op (operands.Value (values.Int n)))) ts) x next in
    regrouped columns done (Minus true ∷ Number ds ∷ []) ts x (is_predicate columns (with_atom around (predicates.Compare left op (operands.Value (values.Int n)))) ts (done ++ Minus true ∷ Number ds ∷ []) x
    (right_stands columns done (Minus true ∷ Number ds ∷ []) left (operands.Value (values.Int n)) op around g (integer (Minus true ∷ Number ds ∷ []) n (negative ds n is)) p.0) p.1))
is_predicate columns (wants_right left op around) ts done x g h = absurd (cc)
is_predicate columns (after_is place around) (Word word ∷ ts) done x g h =
    elim (either_chosen (says (codes "not") word) (predicate_outcome columns (after_not place around) ts) (cond (says (codes "null") word) (predicate_outcome columns (with_atom around (predicates.IsNull place)) ts) None) x h) [
      | inl p ↦ regrouped columns done (Word word ∷ []) ts x (is_predicate columns (after_not place around) ts (done ++ Word word ∷ []) x (not_stands columns done word place around g p.0) p.1)
      | inr r ↦ let p = chosen (says (codes "null") word) (predicate_outcome columns (with_atom around (predicates.IsNull place)) ts) x r in
          regrouped columns done (Word word ∷ []) ts x (is_predicate columns (with_atom around (predicates.IsNull place)) ts (done ++ Word word ∷ []) x (null_stands columns done word place around g p.0) p.1)
    ]
is_predicate columns (after_is place around) ts done x g h = absurd (cc)
is_predicate columns (after_not place around) (Word word ∷ ts) done x g h =
    let p = chosen (says (codes "null") word) (predicate_outcome columns (with_atom around (predicates.IsNotNull place)) ts) x h in
    regrouped columns done (Word word ∷ []) ts x (is_predicate columns (with_atom around (predicates.IsNotNull place)) ts (done ++ Word word ∷ []) x (not_null_stands columns done word place around g p.0) p.1)
is_predicate columns (after_not place around) ts done x g h = absurd (cc)
is_predicate columns (has e p []) [] done x g h = let r = end_stands columns done e p g in rw (← same_Some (e p) x h) r
is_predicate columns (has e p (o ∷ outer)) [] done x g h = absurd (cc)
is_predicate columns (has e p outer) (Word word ∷ ts) done x g h =
    elim (either_chosen (says (codes "and") word) (predicate_outcome columns (wants (record { either = e; both = predicates.And p; outer = outer })) ts) (cond (says (codes "or") word) (predicate_outcome columns (wants (around_conjunction (predicates.Or (e p)) outer)) ts) None) x h) [
      | inl q ↦ regrouped columns done (Word word ∷ []) ts x (is_predicate columns (wants (record { either = e; both = predicates.And p; outer = outer })) ts (done ++ Word word ∷ []) x (and_stands columns done word e p outer g q.0) q.1)
      | inr r ↦ let q = chosen (says (codes "or") word) (predicate_outcome columns (wants (around_conjunction (predicates.Or (e p)) outer)) ts) x r in
          regrouped columns done (Word word ∷ []) ts x (is_predicate columns (wants (around_conjunction (predicates.Or (e p)) outer)) ts (done ++ Word word ∷ []) x (or_stands columns done word e p outer g q.0) q.1)
    ]
is_predicate columns (has e p (o ∷ outer)) (Close ∷ ts) done x g h =
    regrouped columns done (Close ∷ []) ts x (is_predicate columns (has o.0 (o.1 (e p)) outer) ts (done ++ Close ∷ []) x (close_stands columns done e p o outer g) h)
is_predicate columns (has e p outer) (t ∷ ts) done x g h = absurd (cc)

-- ---- both together

-- what the machine completes is a predicate that fits
pub predicate_of_outcome : (columns : List ColumnDef) (ts : List Token) (p : Predicate) → predicate_outcome columns (wants (around_whole [])) ts ≡ Some p → IsPredicate columns disjunction ts p × IsTrue (kinds_fit columns p)
predicate_of_outcome columns ts p h = is_predicate columns (wants (around_whole [])) ts [] p (record {
  us = [];
  vs = [];
  ws = [];
  are = refl;
  encloses = refl;
  eithers = kept_either columns;
  last = kept_both columns;
}) h

-- a predicate that fits is completed by the machine
pub outcome_of_predicate : (columns : List ColumnDef) (ts : List Token) (p : Predicate) → IsPredicate columns disjunction ts p → IsTrue (kinds_fit columns p) → predicate_outcome columns (wants (around_whole [])) ts ≡ Some p
unfolding predicate_outcome
outcome_of_predicate columns ts p d fits = ap (predicate_outcome columns (wants (around_whole []))) (sym (append-nil ts)) ∙ leads columns disjunction ts p d fits [] refl []
