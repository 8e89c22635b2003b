-- Which texts are those of a column and of a predicate, and of which tree.
use Rattle.std.specs.Prelude.{◌≡◌, ℕ, ◌+◌, ◌-◌, ◌≤◌, max, IsTrue, List, length, fold, Some}
use Rattle.repl_types.specs.declared.table.ColumnDef.{ColumnDef}
use Rattle.repl_definitions.specs.declared.member.ColumnFrom.{ColumnFrom}
use Rattle.repl_definitions.specs.declared.predicate.Predicate.{Predicate}
use Rattle.repl_model.specs.Rules.{from_fits, kinds_fit}
use Rattle.repl_defs.specs.Tokens.{tokens_of}
use Rattle.repl_defs.specs.Grammar.{IsPredicate, disjunction, IsSource}
use Rattle.repl_defs.specs.declared.token.Token.{Token}
use Rattle.repl_defs.specs.declared.token.Token.TheVariants.{Word, Number, Text, Minus, Plus, Times, Joined, Open, Close, Compare}

-- the most bytes of a text
abbrev pub definition_text_limit : ℕ
definition_text_limit = 4096

-- the most parentheses that are open at a place
abbrev pub nesting_limit : ℕ
nesting_limit = 64

-- how many parentheses are open after a token, given how many were before it
abbrev pub open_after : ℕ → Token → ℕ
open_after n (Word word) = n
open_after n (Number ds) = n
open_after n (Text t) = n
open_after n (Minus b) = n
open_after n Plus = n
open_after n Times = n
open_after n Joined = n
open_after n Open = n + 1
open_after n Close = n - 1
open_after n (Compare op) = n

-- how many parentheses are open at most, and how many at the end
abbrev pub nesting_after : ℕ × ℕ → Token → ℕ × ℕ
nesting_after state t = (max state.0 (open_after state.1 t), open_after state.1 t)

-- how many parentheses are open at most
abbrev pub nesting : List Token → ℕ
nesting ts = (fold nesting_after (0, 0) ts).0

-- The text is what a column of a target comes from, this tree.
pub record IsSourceText (columns : List ColumnDef) (text : List ℕ) (from : ColumnFrom) : Type 0 where
  pub short : length text ≤ definition_text_limit
  pub tokens : List Token
  pub are : tokens_of text ≡ Some tokens
  pub shallow : nesting tokens ≤ nesting_limit
  pub spelled : IsSource columns tokens from
  pub fits : IsTrue (from_fits columns from)

-- The text is a predicate, this tree.
pub record IsPredicateText (columns : List ColumnDef) (text : List ℕ) (predicate : Predicate) : Type 0 where
  pub short : length text ≤ definition_text_limit
  pub tokens : List Token
  pub are : tokens_of text ≡ Some tokens
  pub shallow : nesting tokens ≤ nesting_limit
  pub spelled : IsPredicate columns disjunction tokens predicate
  pub fits : IsTrue (kinds_fit columns predicate)
