-- Which command a line asks for, and whether a body may come after it.
use Rattle.std.specs.Prelude.{ℕ, ◌+◌, ◌-◌, ◌^◌, codes, Bool, false, ◌&&◌, ◌||◌, not, if◌then◌else◌, List, [], ◌∷◌, slice_index_or, Option, Some, None, option_map, option_and_then, find}
use Rattle.std.specs.List.{filter_map}
use Rattle.std.specs.Option.{option_map_or}
use Rattle.std.specs.Cmp.Lexicographic.{pointwise}
use Rattle.std.specs.Str.{bytes_eq, is_utf8}
use Rattle.repl_types.specs.Name.{name_of}
use Rattle.repl_types.specs.Numbers.{number_of}
use Rattle.repl_types.specs.declared.record.SetId.{SetId}
use Rattle.repl_commands.specs.declared.command.Command.{Command}
use Rattle.repl_commands.specs.declared.command.Command.TheVariants.{Load, Feed, Capture, CaptureCold, Prune, PruneNormal, Step, Apply, Refresh, Stop, Generate, Rounds, Audit, StatusServer, StatusSet, ShowSource, ShowCd, ShowUow, ShowLog, ShowTarget, ShowTrail, ShowRejected}
use Rattle.script_text.specs.Words.{line_words, first_word}
use Rattle.script_text.specs.Commands.{highest_number, command_words, names_a_command}

-- what is made of a part, if the part is there
infixl 70 ◌of◌
abbrev pub ◌of◌ : {A B : Type 0} → (A → B) → Option A → Option B
make of a = option_map make a

-- what is made of two parts, if both are there
infixl 70 ◌of◌and◌
abbrev pub ◌of◌and◌ : {A B C : Type 0} → (A → B → C) → Option A → Option B → Option C
make of a and b = option_and_then (λ x. make x of b) a

-- the same of three parts
infixl 70 ◌of◌and◌and◌
abbrev pub ◌of◌and◌and◌ : {A B C D : Type 0} → (A → B → C → D) → Option A → Option B → Option C → Option D
make of a and b and c = option_and_then (λ x. make x of b and c) a

-- the same of five parts
infixl 70 ◌of◌and◌and◌and◌and◌
abbrev pub ◌of◌and◌and◌and◌and◌ : {A B C D E F : Type 0} → (A → B → C → D → E → F) → Option A → Option B → Option C → Option D → Option E → Option F
make of a and b and c and d and e = option_and_then (λ x. option_and_then (λ y. make x y of c and d and e) b) a

-- a number that may be left out, and is
abbrev pub left_out : Option (Option ℕ)
left_out = Some None

-- a number that may be left out, and isn't
abbrev pub given : Option ℕ → Option (Option ℕ)
given number = Some of number

-- the set of this qualifier and this name
abbrev pub set_named : List ℕ → List ℕ → SetId
set_named qual name = record { qual = qual; name = name }

-- What stands at the places of these words, counted from 0 on. A name is there if the word at its place is one, and a
-- number if that word spells one of its range.
module _ (words : List (List ℕ)) where
  -- the word at a place; past the end the empty word, which is neither a name nor a number
  abbrev pub nth_word : ℕ → List ℕ
  nth_word place = slice_index_or words place []

  -- the name at a place
  abbrev pub nth_name : ℕ → Option (List ℕ)
  nth_name place = name_of (nth_word place)

  -- the set whose qualifier stands at a place, and whose name at the next
  abbrev pub nth_set : ℕ → Option SetId
  nth_set place = set_named of nth_name place and nth_name (place + 1)

  -- the count at a place: how many units to capture, or after how many to commit
  abbrev pub nth_count : ℕ → Option ℕ
  nth_count place = number_of 1 highest_number (nth_word place)

  -- the minutes at a place
  abbrev pub nth_minutes : ℕ → Option ℕ
  nth_minutes place = number_of 0 highest_number (nth_word place)

  -- the seed at a place
  abbrev pub nth_seed : ℕ → Option ℕ
  nth_seed place = number_of 0 (2 ^ 64 - 1) (nth_word place)

  -- the amount at a place: how many units to make, or how many changes in each
  abbrev pub nth_amount : ℕ → Option ℕ
  nth_amount place = number_of 0 highest_number (nth_word place)

  -- each command in each of its forms, with the names and numbers that stand at their places; None, if one of them
  -- isn't there. Whether the other words are those of the command isn't asked here
  unfoldable pub forms : List (Option Command)
  forms =
      Some Load
      ∷ (Feed of nth_name 1)
      ∷ (Capture of nth_name 1 and left_out and left_out)
      ∷ (Capture of nth_name 1 and given (nth_count 3) and left_out)
      ∷ (Capture of nth_name 1 and left_out and given (nth_count 3))
      ∷ (Capture of nth_name 1 and given (nth_count 3) and given (nth_count 5))
      ∷ (CaptureCold of nth_name 1)
      ∷ (Prune of nth_name 1 and left_out)
      ∷ (Prune of nth_name 1 and given (nth_minutes 2))
      ∷ (PruneNormal of nth_name 1)
      ∷ (Step of nth_set 1)
      ∷ (Apply of nth_set 1)
      ∷ (Refresh of nth_set 1)
      ∷ (Stop of nth_name 1 and nth_name 2)
      ∷ (Generate of nth_name 1 and nth_name 2 and nth_seed 3 and nth_amount 4 and nth_amount 5)
      ∷ (Rounds of nth_name 1)
      ∷ (Audit of nth_set 1)
      ∷ (StatusServer of nth_name 1)
      ∷ (StatusSet of nth_set 1)
      ∷ (ShowSource of nth_name 1 and nth_name 3)
      ∷ (ShowCd of nth_name 1 and nth_name 3)
      ∷ (ShowUow of nth_name 1)
      ∷ (ShowLog of nth_name 1)
      ∷ (ShowTarget of nth_name 1 and nth_name 3)
      ∷ (ShowTrail of nth_name 1 and nth_set 3)
      ∷ (ShowRejected of nth_name 1 and nth_set 3)
      ∷ []

  -- the words are those of a command
  abbrev pub are_words_of : Command → Bool
  are_words_of command = pointwise bytes_eq words (command_words command)

  -- the command of the words, if there is one
  abbrev pub command_of_words : Option Command
  command_of_words = find are_words_of (filter_map (λ form. form) forms)

-- the command of a line: its names are names, its numbers lie in their ranges, and its words are those of the line
unfoldable pub command_of : List ℕ → Option Command
command_of line = command_of_words (line_words line)

-- what a line asks for: a command; something unknown, if its first word is that of no command; or it is bad, since it
-- isn't UTF-8, or its words aren't those of the command that its first word begins
pub data Asked : Type 0 where
  asks : Command → Asked
  unknown : Asked
  bad : Asked

-- what a line asks for
abbrev pub asked_by : List ℕ → Asked
asked_by line = option_map_or asks (command_of line) (if is_utf8 line && not (names_a_command line) then unknown else bad)

-- a word begins the commands that take a body
abbrev pub is_body_verb : List ℕ → Bool
is_body_verb word = bytes_eq word (codes "load") || bytes_eq word (codes "feed")

-- a body may come after a line: the line is UTF-8, and its first word begins a command that takes a body
abbrev pub takes_body : List ℕ → Bool
takes_body line = is_utf8 line && option_map_or is_body_verb (first_word line) false
