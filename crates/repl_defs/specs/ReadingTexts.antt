-- What a reader makes of all the tokens of a text, for its contracts alone.
use Rattle.std.specs.Prelude.{◌≡◌, ℕ, ◌≤◌, IsTrue, if◌then◌else◌, codes, List, [], ◌∷◌, length, Option, Some, None}
use Rattle.std.specs.Option.{option_and_then}
use Rattle.repl_types.specs.declared.table.ColumnDef.{ColumnDef}
use Rattle.repl_definitions.specs.declared.member.ColumnFrom.{ColumnFrom}
use Rattle.repl_definitions.specs.declared.member.ColumnFrom.TheVariants.{Count, CountOf, Sum, Min, Max}
use Rattle.repl_definitions.specs.declared.predicate.Predicate.{Predicate}
use Rattle.repl_model.specs.Rules.{from_fits, kinds_fit}
use Rattle.repl_defs.specs.Words.{says}
use Rattle.repl_defs.specs.Tokens.{tokens_of}
use Rattle.repl_defs.specs.Grammar.{IsPredicate, disjunction, IsSource}
use Rattle.repl_defs.specs.Texts.{definition_text_limit, nesting_limit, nesting}
use Rattle.repl_defs.specs.Reading.{place_named}
use Rattle.repl_defs.specs.declared.token.Token.{Token}
use Rattle.repl_defs.specs.declared.token.Token.TheVariants.{Word, Times, Open, Close}

-- the function of this name, of a column
abbrev pub function_named : List ℕ → ℕ → Option ColumnFrom
function_named word place =
    if says (codes "count") word then Some (CountOf place)
    else (if says (codes "sum") word then Some (Sum place)
    else (if says (codes "min") word then Some (Min place)
    else (if says (codes "max") word then Some (Max place) else None)))

-- the function of rows that all the tokens are, if they are one
abbrev pub summary_of : List ColumnDef → List Token → Option ColumnFrom
summary_of columns (Word word ∷ Open ∷ Times ∷ Close ∷ []) = if says (codes "count") word then Some Count else None
summary_of columns (Word word ∷ Open ∷ Word column ∷ Close ∷ []) = option_and_then (function_named word) (place_named columns column)
summary_of columns ts = None

-- All the tokens are this source, and its operations have operands of their kinds.
pub record IsFittingSource (columns : List ColumnDef) (ts : List Token) (from : ColumnFrom) : Type 0 where
  pub spelled : IsSource columns ts from
  pub fits : IsTrue (from_fits columns from)

-- All the tokens are this predicate, and the two sides of each of its comparisons have one kind.
pub record IsFittingPredicate (columns : List ColumnDef) (ts : List Token) (p : Predicate) : Type 0 where
  pub spelled : IsPredicate columns disjunction ts p
  pub fits : IsTrue (kinds_fit columns p)

-- The text is short, and these are its tokens, with few parentheses open at each place.
pub record HasTokens (text : List ℕ) (ts : List Token) : Type 0 where
  pub short : length text ≤ definition_text_limit
  pub are : tokens_of text ≡ Some ts
  pub shallow : nesting ts ≤ nesting_limit
