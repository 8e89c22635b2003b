-- What lines are made of.
use Rattle.std.specs.Prelude.{ℕ, ◌/◌, ◌%◌, codes, List, [], ◌∷◌, ◌++◌, Option, Some, None, decimal}
use Rattle.std.specs.List.{flat_map}
use Rattle.repl_types.specs.Sequence.{hex_digit, sequence_text}
use Rattle.repl_types.specs.declared.record.SetId.{SetId}
use Rattle.log_text.specs.RecordText.{line_of, slash}

-- parts as a whole line: a blank between each two, and a line feed at the end
abbrev pub whole_line : List (List ℕ) → List ℕ
whole_line ps = line_of ps ++ codes "\n"

-- a position of a log: the 20 digits of its sequence with the sub-number 0
abbrev pub position_text : ℕ → List ℕ
position_text position = sequence_text (record { position = position; sub = 0 })

-- a position, or `none` if it is absent
abbrev pub point_text : Option ℕ → List ℕ
point_text None = codes "none"
point_text (Some position) = position_text position

-- the name of a table at a server, SERVER.TABLE
abbrev pub table_text : List ℕ → List ℕ → List ℕ
table_text server table = server ++ codes "." ++ table

-- the name of a set, QUAL/NAME
abbrev pub set_text : SetId → List ℕ
set_text set = set.qual ++ slash ∷ set.name

-- bytes, two hexadecimal digits each
abbrev pub bytes_text : List ℕ → List ℕ
bytes_text bytes = flat_map (λ b. hex_digit (b / 16) ∷ hex_digit (b % 16) ∷ []) bytes

-- the name of a rule, V and its number
abbrev pub rule_text : ℕ → List ℕ
rule_text rule = codes "V" ++ decimal rule
