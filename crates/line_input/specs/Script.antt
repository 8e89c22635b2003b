-- What a script that is read has left, and what its reader keeps.
use Rattle.std.specs.Prelude.{◌≡◌, ℕ, ◌+◌, if◌then◌else◌, List, ◌++◌, drop, Option, Some, is_some}
use Rattle.std.specs.Option.{option_map, option_to_list}
use Rattle.std.specs.Str.Lines.{lines}
use Rattle.line_input.specs.Input.{left_of, total_of, budget, IsPlain, NothingAfterEnd}
use Rattle.line_input.specs.Lines.{ScriptLine, command, body, long_command, long_body, script_line, script_from}
use Rattle.line_input.specs.declared.kind.LineKind.{LineKind}
use Rattle.line_input.specs.declared.kind.LineKind.TheVariants as kinds
use Rattle.line_input.specs.declared.script.Script.{Script}

-- the line of this kind of which these bytes are kept
abbrev pub line_of : LineKind → List ℕ → ScriptLine
line_of kinds.Command bytes = command bytes
line_of kinds.Body bytes = body (drop 1 bytes)
line_of kinds.LongCommand bytes = long_command
line_of kinds.LongBody bytes = long_body

-- the kind of the line that was read and not taken, None if there is none
abbrev pub next_kind : Script → Option LineKind
next_kind s = s.kind

-- the number of the line that was read last
abbrev pub line_number : Script → ℕ
line_number s = s.number

-- the bytes that are kept of it
abbrev pub line_text : Script → List ℕ
line_text s = s.line.items

-- the line that was read and not taken, with its number, if there is one
abbrev pub next_line : Script → List (ℕ × ScriptLine)
next_line s = option_to_list (option_map (λ kind. (line_number s, line_of kind (line_text s))) (next_kind s))

-- the lines of the script that are left, if the source reveals the bytes that it has left
abbrev pub lines_left : Script → Option (List ℕ) → Option (List (ℕ × ScriptLine))
lines_left s later = option_map (λ bytes. next_line s ++ script_from (s.number + 1) (lines bytes)) (left_of s.input later)

-- how many bytes the script has in all, if the source reveals the bytes that it has left
abbrev pub total_left : Script → Option (List ℕ) → Option ℕ
total_left s later = total_of s.input later

-- how many lines were read and not taken
abbrev pub waiting : Script → ℕ
waiting s = if is_some s.kind then 1 else 0

-- how many lines may still be taken, at most
abbrev pub pending : Script → ℕ
pending s = budget s.input + waiting s

-- if a read has met the end, the source has no bytes left, if it reveals them
abbrev pub HasOneSource : Script → Option (List ℕ) → Type 0
HasOneSource s later = NothingAfterEnd s.input later

-- of a line of this kind these bytes are kept: they have no line feed, and by themselves they are such a line too
abbrev pub IsLineOf : LineKind → List ℕ → Type 0
IsLineOf kind text = IsPlain text × (script_line text ≡ Some (line_of kind text))
