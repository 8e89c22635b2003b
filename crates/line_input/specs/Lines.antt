-- The lines of a script: which are skipped, and what each other line is to a run.
use Rattle.std.specs.Prelude.{ℕ, ◌+◌, Bool, false, ◌||◌, ◌==◌, nat_lt, if◌then◌else◌, List, [], ◌∷◌, ◌++◌, length, drop, Option, Some, None}
use Rattle.std.specs.List.{list_all}
use Rattle.std.specs.Option.{option_map, option_to_list}
use Rattle.std.specs.Str.Lines.{lines}
use Rattle.line_input.specs.Limits.{line_limit}

-- What a line is to a run, if it isn't skipped: a line that asks for a command; a body line, by the text after
-- its mark; or either of these, if it has more bytes than a line may have.
pub data ScriptLine : Type 0 where
  command : List ℕ → ScriptLine
  body : List ℕ → ScriptLine
  long_command : ScriptLine
  long_body : ScriptLine

-- a blank
abbrev pub blank : ℕ
blank = 32

-- the mark of lines that are skipped
abbrev pub comment_mark : ℕ
comment_mark = 35

-- the mark of body lines
abbrev pub body_mark : ℕ
body_mark = 124

-- the first byte of a line is this one
abbrev pub begins_with : ℕ → List ℕ → Bool
begins_with mark [] = false
begins_with mark (b ∷ bs) = b == mark

-- the line consists of blanks, or is empty
abbrev pub is_blank : List ℕ → Bool
is_blank line = list_all (λ b. b == blank) line

-- what a line within the limit is: one with the mark of comments and a blank one are skipped
abbrev pub short_line : List ℕ → Option ScriptLine
short_line line = if begins_with comment_mark line || is_blank line then None
    else Some (if begins_with body_mark line then body (drop 1 line) else command line)

-- what a line over the limit is: only one with the mark of comments is skipped
abbrev pub long_line : List ℕ → Option ScriptLine
long_line line = if begins_with comment_mark line then None
    else Some (if begins_with body_mark line then long_body else long_command)

-- what a line of a script is, None if it is skipped
unfoldable pub script_line : List ℕ → Option ScriptLine
script_line line = if nat_lt line_limit (length line) then long_line line else short_line line

-- lines with their numbers, without those that are skipped; the first of these lines has this number
abbrev pub script_from : ℕ → List (List ℕ) → List (ℕ × ScriptLine)
script_from number [] = []
script_from number (line ∷ more) = option_to_list (option_map (λ l. (number, l)) (script_line line)) ++ script_from (number + 1) more

-- the lines of a script
abbrev pub script_of : List ℕ → List (ℕ × ScriptLine)
script_of input = script_from 1 (lines input)
