-- The tree of a text, if it has one: the one that the grammar says, as `the_tree_of_a_text` shows.
use Rattle.std.specs.Prelude.{ℕ, nat_le, if◌then◌else◌, is_some, List, [], length, Option, Some, None}
use Rattle.std.specs.Option.{option_or, option_and_then}
use Rattle.repl_types.specs.declared.table.ColumnDef.{ColumnDef}
use Rattle.repl_definitions.specs.declared.expr.Expr.{Expr}
use Rattle.repl_definitions.specs.declared.member.ColumnFrom.{ColumnFrom}
use Rattle.repl_definitions.specs.declared.member.ColumnFrom.TheVariants.{Plain}
use Rattle.repl_definitions.specs.declared.predicate.Predicate.{Predicate}
use Rattle.repl_model.specs.Rules.{kind_of}
use Rattle.repl_defs.specs.Tokens.{tokens_of}
use Rattle.repl_defs.specs.Texts.{definition_text_limit, nesting_limit, nesting}
use Rattle.repl_defs.specs.ReadingExpressions.{awaits, same, outcome}
use Rattle.repl_defs.specs.ReadingPredicates.{wants, around_whole, predicate_outcome}
use Rattle.repl_defs.specs.ReadingTexts.{summary_of}
use Rattle.repl_defs.specs.declared.token.Token.{Token}

-- the tokens of a text that is within the limits, if it has any form at all
unfoldable pub tokens_within_limits : List ℕ → Option (List Token)
tokens_within_limits text =
    if nat_le (length text) definition_text_limit
    then option_and_then (λ ts. if nat_le (nesting ts) nesting_limit then Some ts else None) (tokens_of text)
    else None

-- the expression as a source, if its operations have operands of their kinds
abbrev pub fitting_expression : List ColumnDef → Expr → Option ColumnFrom
fitting_expression columns e = if is_some (kind_of columns e) then Some (Plain e) else None

-- the source that all the tokens are, if they are one that fits
unfoldable pub source_of_tokens : List ColumnDef → List Token → Option ColumnFrom
source_of_tokens columns ts = option_or (summary_of columns ts) (option_and_then (fitting_expression columns) (outcome columns (awaits same same []) ts))

-- the tree of a text of a column, if it has one
unfoldable pub source_tree : List ColumnDef → List ℕ → Option ColumnFrom
source_tree columns text = option_and_then (source_of_tokens columns) (tokens_within_limits text)

-- the tree of a text of a predicate, if it has one
unfoldable pub predicate_tree : List ColumnDef → List ℕ → Option Predicate
predicate_tree columns text = option_and_then (predicate_outcome columns (wants (around_whole []))) (tokens_within_limits text)
