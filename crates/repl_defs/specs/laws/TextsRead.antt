-- All the tokens of a text: sources and predicates.
use Rattle.std.proofs.Common.{◌≡◌, ℕ, true, false, ◌⊎◌, inl, inr, List, [], ◌∷◌, length, Option, Some, None, refl, sym, ap, subst, ◌∙◌, eqb, arith, eqb-true, codes, IsTrue, is_some, option_and_then}
use Rattle.std.proofs.lemmas.Option.{option_and_then_some, same_Some}
use Rattle.repl_model.specs.Words.{ColumnDef, Expr, ColumnFrom, Predicate, kind_of, from_fits}
use Rattle.repl_definitions.specs.declared.member.ColumnFrom.TheVariants.{Plain, Count, CountOf, Sum, Min, Max}
use Rattle.repl_defs.specs.Words.{says, Names}
use Rattle.repl_defs.specs.Grammar.{whole, IsExpr, disjunction, IsSource, plain, rows, count, sum, least, greatest}
use Rattle.repl_defs.specs.Reading.{place_named}
use Rattle.repl_defs.specs.ReadingExpressions.{same, awaits, has, outcome, Ends, IsRead}
use Rattle.repl_defs.specs.ReadingPredicates as pending
use Rattle.repl_defs.specs.ReadingPredicates.{kept, wants, predicate_outcome, around_whole, EndsPredicate, IsPredicateRead}
use Rattle.repl_defs.specs.ReadingTexts.{function_named, summary_of, IsFittingSource, IsFittingPredicate}
use Rattle.repl_defs.specs.declared.reader.expression.KindedExpr.{KindedExpr}
use Rattle.repl_defs.specs.declared.token.Token.{Token}
use Rattle.repl_defs.specs.declared.token.Token.TheVariants.{Word, Minus, Plus, Times, Joined, Open, Close}
use Rattle.repl_defs.specs.laws.Choices.{if_true, if_false, chosen, either_chosen}
use Rattle.repl_defs.specs.laws.ExpressionsRead.{expression_of_outcome, outcome_of_expression, one_expression}
use Rattle.repl_defs.specs.laws.Names.{named, names}
use Rattle.repl_defs.specs.laws.OneWord.{sum_isn't_count, min_isn't_count, min_isn't_sum, max_isn't_count, max_isn't_sum, max_isn't_min}
use Rattle.repl_defs.specs.laws.PredicatesRead.{predicate_of_outcome, outcome_of_predicate}

-- ---- functions of rows

-- all the tokens are a source that fits
abbrev Fit : List ColumnDef → List Token → ColumnFrom → Type 0
Fit columns ts from = IsSource columns ts from × IsTrue (from_fits columns from)

-- a function of a column that is named, is a source
of_column : (columns : List ColumnDef) (word column : List ℕ) (place : ℕ) (from : ColumnFrom) → Names columns column place → function_named word place ≡ Some from → Fit columns (Word word ∷ Open ∷ Word column ∷ Close ∷ []) from
of_column columns word column place from n h =
    let Goal : ColumnFrom → Type 0 = λ f. Fit columns (Word word ∷ Open ∷ Word column ∷ Close ∷ []) f in
    elim (either_chosen (says (codes "count") word) (Some (CountOf place)) _ from h) [
      | inl p ↦ subst Goal (same_Some (CountOf place) from p.1) (count word column place p.0 n, refl)
      | inr h1 ↦ elim (either_chosen (says (codes "sum") word) (Some (Sum place)) _ from h1) [
        | inl p ↦ subst Goal (same_Some (Sum place) from p.1) (sum word column place p.0 n, refl)
        | inr h2 ↦ elim (either_chosen (says (codes "min") word) (Some (Min place)) _ from h2) [
          | inl p ↦ subst Goal (same_Some (Min place) from p.1) (least word column place p.0 n, refl)
          | inr h3 ↦ let p = chosen (says (codes "max") word) (Some (Max place)) from h3 in
              subst Goal (same_Some (Max place) from p.1) (greatest word column place p.0 n, refl)
        ]
      ]
    ]

-- a function of rows that is found, is a source
summary_fits : (columns : List ColumnDef) (ts : List Token) (from : ColumnFrom) → summary_of columns ts ≡ Some from → Fit columns ts from
summary_fits columns (Word word ∷ Open ∷ Times ∷ Close ∷ []) from h =
    let p = chosen (says (codes "count") word) (Some Count) from h in
    let Goal : ColumnFrom → Type 0 = λ f. Fit columns (Word word ∷ Open ∷ Times ∷ Close ∷ []) f in
    subst Goal (same_Some Count from p.1) (rows word p.0, refl)
summary_fits columns (Word word ∷ Open ∷ Word column ∷ Close ∷ []) from h =
    option_and_then_some (function_named word) (place_named columns column) from h (λ place is found. of_column columns word column place from (names columns column place is) found)
summary_fits columns ts from h = absurd (cc)

-- a function of rows that is found, is a source that fits
pub summary_read : (columns : List ColumnDef) (ts : List Token) (from : ColumnFrom) → Some from ≡ summary_of columns ts → IsFittingSource columns ts from
summary_read columns ts from h = let p = summary_fits columns ts from (sym h) in record { spelled = p.0; fits = p.1 }

-- a source is an expression, or the function of rows that is found
abbrev IsFound : List ColumnDef → List Token → ColumnFrom → Type 0
IsFound columns ts from = ((e : Expr) × (from ≡ Plain e) × IsExpr columns whole ts e) ⊎ (summary_of columns ts ≡ Some from)

-- the function of a column is found by its name
found : (columns : List ColumnDef) (word column : List ℕ) (place : ℕ) (from : ColumnFrom) → Names columns column place → function_named word place ≡ Some from → IsFound columns (Word word ∷ Open ∷ Word column ∷ Close ∷ []) from
found columns word column place from n h = inr (ap (option_and_then (function_named word)) (named n) ∙ h)

-- each source is found
pub is_found : (columns : List ColumnDef) (ts : List Token) (from : ColumnFrom) → IsSource columns ts from → IsFound columns ts from
is_found columns ts from (plain us e d) = inl (e, refl, d)
is_found columns ts from (rows word h) = inr (if_true _ _ h)
is_found columns ts from (count word column place h n) = found columns word column place (CountOf place) n (if_true _ _ h)
is_found columns ts from (sum word column place h n) = found columns word column place (Sum place) n (if_false _ _ (sum_isn't_count word h) ∙ if_true _ _ h)
is_found columns ts from (least word column place h n) = found columns word column place (Min place) n (if_false _ _ (min_isn't_count word h) ∙ if_false _ _ (min_isn't_sum word h) ∙ if_true _ _ h)
is_found columns ts from (greatest word column place h n) = found columns word column place (Max place) n (if_false _ _ (max_isn't_count word h) ∙ if_false _ _ (max_isn't_sum word h) ∙ if_false _ _ (max_isn't_min word h) ∙ if_true _ _ h)

-- after a word and an open parenthesis there is no expression
abbrev no_more : ℕ → Option Expr
no_more place = None

-- nothing goes on
nothing : (o : Option ℕ) (e : Expr) → option_and_then no_more o ≡ Some e → ⊥
nothing None e h = cc
nothing (Some place) e h = cc

-- an expression is no function of rows
pub no_summary : (columns : List ColumnDef) (ts : List Token) (e : Expr) → outcome columns (awaits same same []) ts ≡ Some e → summary_of columns ts ≡ None
unfolding outcome
no_summary columns (Word word ∷ Open ∷ Times ∷ Close ∷ []) e h = absurd (nothing (place_named columns word) e h)
no_summary columns (Word word ∷ Open ∷ Word column ∷ Close ∷ []) e h = absurd (nothing (place_named columns word) e h)
no_summary columns ts e h = refl

-- tokens are one source at most
pub one_source : (columns : List ColumnDef) (ts : List Token) (x y : ColumnFrom) → IsSource columns ts x → IsSource columns ts y → x ≡ y
one_source columns ts x y d k = elim (is_found columns ts x d) [
  | inl p ↦ elim (is_found columns ts y k) [
    | inl q ↦ p.1 ∙ ap (λ e. Plain e) (one_expression columns ts p.0 q.0 p.2 q.2) ∙ sym q.1
    | inr q ↦ let n = no_summary columns ts p.0 (outcome_of_expression columns ts p.0 p.2) in absurd (cc)
  ]
  | inr p ↦ elim (is_found columns ts y k) [
    | inl q ↦ let n = no_summary columns ts q.0 (outcome_of_expression columns ts q.0 q.2) in absurd (cc)
    | inr q ↦ same_Some x y (sym p ∙ q)
  ]
]

-- ---- all the tokens

-- no source fits, if no function of rows is found and no expression fits
pub no_source : (columns : List ColumnDef) (ts : List Token) → None ≡ summary_of columns ts → ((e : Expr) → outcome columns (awaits same same []) ts ≡ Some e → IsTrue (is_some (kind_of columns e)) → ⊥) → (from : ColumnFrom) → IsFittingSource columns ts from → ⊥
no_source columns ts n none from f = elim (is_found columns ts from f.spelled) [
  | inl p ↦ none p.0 (outcome_of_expression columns ts p.0 p.2) (subst (λ x. IsTrue (from_fits columns x)) p.1 f.fits)
  | inr p ↦ cc
]

-- an expression that is read whole and not up to the end is none
expression_goes_on : (columns : List ColumnDef) (e : Expr) (after : List Token) → Ends whole after → eqb (length after) 0 ≡ false → outcome columns (has same e []) after ≡ None
unfolding outcome
expression_goes_on columns e [] ends h = absurd (cc)
expression_goes_on columns e (Times ∷ ts) ends h = absurd (cc ends.0)
expression_goes_on columns e (Plus ∷ ts) ends h = absurd (cc ends.1)
expression_goes_on columns e (Minus b ∷ ts) ends h = absurd (cc ends.1)
expression_goes_on columns e (Joined ∷ ts) ends h = absurd (cc ends.1)
expression_goes_on columns e (t ∷ ts) ends h = refl

-- an expression that is read whole and not up to the end, is not all the tokens
pub expression_unfinished : (columns : List ColumnDef) (ts after : List Token) (read : KindedExpr) → IsRead columns whole ts after read → false ≡ eqb (length after) 0 → outcome columns (awaits same same []) ts ≡ None
expression_unfinished columns ts after read r h = r.part.leads [] ∙ expression_goes_on columns read.expr after r.ends (sym h)

-- no tokens are left
empty : (ts : List Token) → eqb (length ts) 0 ≡ true → ts ≡ []
empty [] h = refl
empty (t ∷ ts) h = let e = eqb-true (length (t ∷ ts)) 0 h in absurd (omega arith)

-- an expression that is read up to the end is completed
pub expression_finished : (columns : List ColumnDef) (ts after : List Token) (read : KindedExpr) → IsRead columns whole ts after read → true ≡ eqb (length after) 0 → outcome columns (awaits same same []) ts ≡ Some read.expr
unfolding outcome
expression_finished columns ts after read r h = r.part.leads [] ∙ ap (outcome columns (has same read.expr [])) (empty after (sym h))

-- an expression that is read up to the end and has a kind, is a source that fits
pub plain_read : (columns : List ColumnDef) (ts after : List Token) (read : KindedExpr) → IsRead columns whole ts after read → true ≡ eqb (length after) 0 → is_some read.kind ≡ true → IsFittingSource columns ts (Plain read.expr)
plain_read columns ts after read r h kind = record {
  spelled = plain ts read.expr (expression_of_outcome columns ts read.expr (expression_finished columns ts after read r h));
  fits = ap is_some (sym r.part.kind) ∙ kind;
}

-- an expression without a kind doesn't fit
pub kind_refused : (columns : List ColumnDef) (ts after : List Token) (read : KindedExpr) → IsRead columns whole ts after read → true ≡ eqb (length after) 0 → is_some read.kind ≡ false → (e : Expr) → outcome columns (awaits same same []) ts ≡ Some e → IsTrue (is_some (kind_of columns e)) → ⊥
kind_refused columns ts after read r h kind e is fits =
    let one = same_Some read.expr e (sym (expression_finished columns ts after read r h) ∙ is) in
    let some : is_some read.kind ≡ true = ap is_some r.part.kind ∙ ap (λ x. is_some (kind_of columns x)) one ∙ fits in
    cc

-- ---- predicates

-- a predicate that is read whole and not up to the end is none
predicate_goes_on : (columns : List ColumnDef) (p : Predicate) (after : List Token) → EndsPredicate disjunction after → eqb (length after) 0 ≡ false → predicate_outcome columns (pending.has kept p []) after ≡ None
unfolding predicate_outcome
predicate_goes_on columns p [] ends h = absurd (cc)
predicate_goes_on columns p (Word word ∷ ts) ends h = if_false _ _ ends.0 ∙ if_false _ _ ends.1
predicate_goes_on columns p (t ∷ ts) ends h = refl

-- a predicate that is read whole and not up to the end, is not all the tokens
pub predicate_unfinished : (columns : List ColumnDef) (ts after : List Token) (p : Predicate) → IsPredicateRead columns disjunction ts after p → false ≡ eqb (length after) 0 → predicate_outcome columns (wants (around_whole [])) ts ≡ None
predicate_unfinished columns ts after p r h = r.part.leads [] ∙ predicate_goes_on columns p after r.ends (sym h)

-- a predicate that is read up to the end, fits
pub predicate_read : (columns : List ColumnDef) (ts after : List Token) (p : Predicate) → IsPredicateRead columns disjunction ts after p → true ≡ eqb (length after) 0 → IsFittingPredicate columns ts p
unfolding predicate_outcome
predicate_read columns ts after p r h =
    let f = predicate_of_outcome columns ts p (r.part.leads [] ∙ ap (predicate_outcome columns (pending.has kept p [])) (empty after (sym h))) in
    record { spelled = f.0; fits = f.1 }

-- no predicate fits, if the machine completes none
pub no_predicate : (columns : List ColumnDef) (ts : List Token) → predicate_outcome columns (wants (around_whole [])) ts ≡ None → (p : Predicate) → IsFittingPredicate columns ts p → ⊥
no_predicate columns ts none p f = let is = outcome_of_predicate columns ts p f.spelled f.fits in cc

-- tokens are one predicate at most
pub one_predicate : (columns : List ColumnDef) (ts : List Token) (p q : Predicate) → IsFittingPredicate columns ts p → IsFittingPredicate columns ts q → p ≡ q
one_predicate columns ts p q f g = same_Some p q (sym (outcome_of_predicate columns ts p f.spelled f.fits) ∙ outcome_of_predicate columns ts q g.spelled g.fits)
