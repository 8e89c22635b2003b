-- Laws of lines of which bytes are made up: proofs, and nothing to believe.
use Rattle.std.proofs.Common.{◌≡◌, ◌≤◌, ◌-◌, ◌+◌, ◌++◌, ◌∷◌, [], ℕ, List, zero, suc, refl, sym, ap, ap₂, ◌∙◌, append_assoc, arith, Option, None, option_map, option_to_list}
use Rattle.std.specs.Str.Lines.{lines}
use Rattle.line_input.specs.laws.Lines.{lines-feed, lines-made}
use Rattle.line_input.specs.Lines.{ScriptLine, script_line, script_from}
use Rattle.line_input.specs.Script.{line_of, IsLineOf}
use Rattle.line_input.specs.declared.kind.LineKind.{LineKind}

-- These bytes, and whatever follows them, have this line with this number, if the first of their lines has the number after
-- `before`, and no other line that isn't skipped.
pub record MakesLine (before number : ℕ) (line : ScriptLine) : Type 0 where
  pub bytes : List ℕ
  pub made : (rest : List ℕ) → script_from (before + 1) (lines (bytes ++ rest)) ≡ (number, line) ∷ script_from (number + 1) (lines rest)

-- an empty line is skipped
empty_skipped : script_line [] ≡ None
unfolding script_line
empty_skipped = refl

-- the line itself
first_made : (kind : LineKind) (text : List ℕ) (before number : ℕ) → IsLineOf kind text → number ≡ before + 1 → MakesLine before number (line_of kind text)
first_made kind text before number is next = record {
  bytes = text ++ 13 ∷ 10 ∷ [];
  made = λ rest.
      ap (λ (bytes : List ℕ). script_from (before + 1) (lines bytes)) (append_assoc text (13 ∷ 10 ∷ []) rest)
      ∙ ap (script_from (before + 1)) (lines-made text rest is.0)
      ∙ ap₂ (λ (n : ℕ) (line : Option ScriptLine). option_to_list (option_map (λ l. (n, l)) line) ++ script_from (n + 1) (lines rest)) (sym next) is.1;
}

-- an empty line before it
later_made : (line : ScriptLine) (before number : ℕ) → MakesLine (before + 1) number line → MakesLine before number line
later_made line before number makes = record {
  bytes = 10 ∷ makes.bytes;
  made = λ rest.
      ap (script_from (before + 1)) (lines-feed [] (makes.bytes ++ rest) tt)
      ∙ ap (λ (first : Option ScriptLine). option_to_list (option_map (λ l. (before + 1, l)) first) ++ script_from (before + 1 + 1) (lines (makes.bytes ++ rest))) empty_skipped
      ∙ makes.made rest;
}

-- as many empty lines before it as its number asks for
lines_before : (gap : ℕ) (kind : LineKind) (text : List ℕ) (before number : ℕ) → IsLineOf kind text → number ≡ before + 1 + gap → MakesLine before number (line_of kind text)
lines_before zero kind text before number is next = first_made kind text before number is (omega arith)
lines_before (suc gap) kind text before number is next = later_made (line_of kind text) before number (lines_before gap kind text (before + 1) number is (omega arith))

-- what was read as a line with a number can be the next line of some bytes
pub makes_line : (kind : LineKind) (text : List ℕ) (before number : ℕ) → IsLineOf kind text → before + 1 ≤ number → MakesLine before number (line_of kind text)
makes_line kind text before number is later = lines_before (number - (before + 1)) kind text before number is (omega arith)
