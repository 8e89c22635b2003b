-- What is found in a text is its tree.
use Rattle.std.proofs.Common.{◌≡◌, ◌≤◌, ℕ, true, inl, inr, List, [], length, Option, Some, None, refl, sym, ap, subst, ◌∙◌, leb-true, le-leb, IsTrue, is_some, nat_le}
use Rattle.std.proofs.lemmas.Option.{option_and_then_some, same_Some}
use Rattle.std.specs.Option.{option_and_then, option_or}
use Rattle.repl_model.specs.Words.{ColumnDef, ColumnFrom, Predicate, kind_of, from_fits, kinds_fit}
use Rattle.repl_definitions.specs.declared.member.ColumnFrom.TheVariants.{Plain}
use Rattle.repl_defs.specs.Tokens.{tokens_of}
use Rattle.repl_defs.specs.Grammar.{plain}
use Rattle.repl_defs.specs.Texts.{definition_text_limit, nesting_limit, nesting, IsSourceText, IsPredicateText}
use Rattle.repl_defs.specs.ReadingExpressions.{awaits, same, outcome}
use Rattle.repl_defs.specs.ReadingPredicates.{wants, around_whole, predicate_outcome}
use Rattle.repl_defs.specs.ReadingTexts.{summary_of, HasTokens, IsFittingSource}
use Rattle.repl_defs.specs.Trees.{tokens_within_limits, fitting_expression, source_of_tokens, source_tree, predicate_tree}
use Rattle.repl_defs.specs.declared.token.Token.{Token}
use Rattle.repl_defs.specs.laws.Choices.{if_true, chosen}
use Rattle.repl_defs.specs.laws.ExpressionsRead.{expression_of_outcome, outcome_of_expression}
use Rattle.repl_defs.specs.laws.PredicatesRead.{predicate_of_outcome, outcome_of_predicate}
use Rattle.repl_defs.specs.laws.TextsRead.{summary_read, is_found, no_summary}

-- the tokens that are found are those of the text
has_tokens : (text : List ℕ) (ts : List Token) → tokens_within_limits text ≡ Some ts → HasTokens text ts
unfolding tokens_within_limits
has_tokens text ts h =
    let p = chosen (nat_le (length text) definition_text_limit) _ ts h in
    option_and_then_some _ (tokens_of text) ts p.1 (λ us is found.
    let q = chosen (nat_le (nesting us) nesting_limit) (Some us) ts found in
    let one = same_Some us ts q.1 in
    record {
      short = leb-true _ _ p.0;
      are = is ∙ q.1;
      shallow = subst (λ x. nesting x ≤ nesting_limit) one (leb-true _ _ q.0);
    })

-- the tokens of the text are found
tokens_found : (text : List ℕ) (ts : List Token) → HasTokens text ts → tokens_within_limits text ≡ Some ts
unfolding tokens_within_limits
tokens_found text ts h = if_true _ _ (le-leb _ _ h.short) ∙ ap (option_and_then _) h.are ∙ if_true _ _ (le-leb _ _ h.shallow)

-- a source that is found in tokens is one that fits
source_fits : (columns : List ColumnDef) (ts : List Token) (from : ColumnFrom) → source_of_tokens columns ts ≡ Some from → IsFittingSource columns ts from
unfolding source_of_tokens
source_fits columns ts from h = by (summary_of columns ts) refl h
  where
    by : (o : Option ColumnFrom) → o ≡ summary_of columns ts → option_or o (option_and_then (fitting_expression columns) (outcome columns (awaits same same []) ts)) ≡ Some from → IsFittingSource columns ts from
    by (Some found) is found_is = summary_read columns ts from (sym found_is ∙ is)
    by None is found_is = option_and_then_some (fitting_expression columns) (outcome columns (awaits same same []) ts) from found_is (λ e out fits.
        let p = chosen (is_some (kind_of columns e)) (Some (Plain e)) from fits in
        subst (λ x. IsFittingSource columns ts x) (same_Some (Plain e) from p.1) (record { spelled = plain ts e (expression_of_outcome columns ts e out); fits = p.0 }))

-- a source that fits is found
source_found : (columns : List ColumnDef) (ts : List Token) (from : ColumnFrom) → IsFittingSource columns ts from → source_of_tokens columns ts ≡ Some from
unfolding source_of_tokens
source_found columns ts from f = elim (is_found columns ts from f.spelled) [
  | inl p ↦
      let out = outcome_of_expression columns ts p.0 p.2 in
      let none = no_summary columns ts p.0 out in
      let kind : is_some (kind_of columns p.0) ≡ true = subst (λ x. IsTrue (from_fits columns x)) p.1 f.fits in
      ap (λ o. option_or o (option_and_then (fitting_expression columns) (outcome columns (awaits same same []) ts))) none
      ∙ ap (option_and_then (fitting_expression columns)) out ∙ if_true _ _ kind ∙ ap Some (sym p.1)
  | inr p ↦ ap (λ o. option_or o (option_and_then (fitting_expression columns) (outcome columns (awaits same same []) ts))) p
]

-- what is found in a text as a source is one
pub is_source_text : (columns : List ColumnDef) (text : List ℕ) (from : ColumnFrom) → source_tree columns text ≡ Some from → IsSourceText columns text from
unfolding source_tree
is_source_text columns text from h = option_and_then_some (source_of_tokens columns) (tokens_within_limits text) from h (λ ts is found.
    let t = has_tokens text ts is in
    let f = source_fits columns ts from found in
    record { short = t.short; tokens = ts; are = t.are; shallow = t.shallow; spelled = f.spelled; fits = f.fits })

-- the source of a text is found in it
pub source_tree_is : (columns : List ColumnDef) (text : List ℕ) (from : ColumnFrom) → IsSourceText columns text from → source_tree columns text ≡ Some from
unfolding source_tree
source_tree_is columns text from h =
    ap (option_and_then (source_of_tokens columns)) (tokens_found text h.tokens (record { short = h.short; are = h.are; shallow = h.shallow }))
    ∙ source_found columns h.tokens from (record { spelled = h.spelled; fits = h.fits })

-- what is found in a text as a predicate is one
pub is_predicate_text : (columns : List ColumnDef) (text : List ℕ) (p : Predicate) → predicate_tree columns text ≡ Some p → IsPredicateText columns text p
unfolding predicate_tree
is_predicate_text columns text p h = option_and_then_some (predicate_outcome columns (wants (around_whole []))) (tokens_within_limits text) p h (λ ts is found.
    let t = has_tokens text ts is in
    let f = predicate_of_outcome columns ts p found in
    record { short = t.short; tokens = ts; are = t.are; shallow = t.shallow; spelled = f.0; fits = f.1 })

-- the predicate of a text is found in it
pub predicate_tree_is : (columns : List ColumnDef) (text : List ℕ) (p : Predicate) → IsPredicateText columns text p → predicate_tree columns text ≡ Some p
unfolding predicate_tree
predicate_tree_is columns text p h =
    ap (option_and_then (predicate_outcome columns (wants (around_whole [])))) (tokens_found text h.tokens (record { short = h.short; are = h.are; shallow = h.shallow }))
    ∙ outcome_of_predicate columns h.tokens p h.spelled h.fits

-- nothing is found, if each finding would be wrong
pub nothing_found : {A : Type 0} (o : Option A) → ((x : A) → o ≡ Some x → ⊥) → o ≡ None
nothing_found None h = refl
nothing_found (Some x) h = absurd (h x refl)

-- the source that is found in a text fits the columns
pub sources_fit : (columns : List ColumnDef) (text : List ℕ) (from : ColumnFrom) → source_tree columns text ≡ Some from → from_fits columns from ≡ true
sources_fit columns text from h = (is_source_text columns text from h).fits

-- and so does the predicate
pub predicates_fit : (columns : List ColumnDef) (text : List ℕ) (p : Predicate) → predicate_tree columns text ≡ Some p → kinds_fit columns p ≡ true
predicates_fit columns text p h = (is_predicate_text columns text p h).fits
