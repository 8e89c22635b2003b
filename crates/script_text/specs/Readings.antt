-- Words for the contracts of the readers of verbs and of parts of commands. That of `read_line` needs none of them.
use Rattle.std.specs.Prelude.{◌≡◌, ◌⊎◌, ℕ, true, false, List, Option, IfSome, codes, decimal}
use Rattle.repl_commands.specs.declared.command.Command.{Command}
use Rattle.repl_commands.specs.declared.errors.LineError.{LineError}
use Rattle.repl_commands.specs.declared.errors.LineError.TheVariants.{Memory, UnknownCommand, BadLine}
use Rattle.script_text.specs.Commands.{IsCount, option_words, limit_words, AreCommandWords, begin_with_verb}

-- a command of a script has these words
abbrev pub AreOfACommand : List (List ℕ) → Type 0
AreOfACommand words = (command : Command) × AreCommandWords words command

-- why a reader that asks whether P holds answers an error: memory ran out, or P doesn't hold. It never calls a command
-- unknown
abbrev pub IsRefusal : Type 0 → LineError → Type 0
IsRefusal P Memory = Unit {0}
IsRefusal P BadLine = ¬ P
IsRefusal P UnknownCommand = ⊥

-- a word spells a number of a range
pub record IsNumberWord (IsInRange : ℕ → Type 0) (word : List ℕ) (n : ℕ) : Type 0 where
  pub fits : IsInRange n
  pub spelled : word ≡ decimal n

-- these are no words, or a word and a count
pub record IsOption (word : List ℕ) (words : List (List ℕ)) (n : Option ℕ) : Type 0 where
  pub fits : IfSome n IsCount
  pub spelled : words ≡ option_words word n

-- these are the words of the limits of a capture
pub record AreLimits (words : List (List ℕ)) (units every : Option ℕ) : Type 0 where
  pub fits : IfSome units IsCount × IfSome every IsCount
  pub spelled : words ≡ limit_words units every

-- a word that says what of a server is shown
abbrev pub ShowsServer : List ℕ → Type 0
ShowsServer word = (word ≡ codes "uow") ⊎ (word ≡ codes "log")

-- a word that says what of a table is shown
abbrev pub ShowsTable : List ℕ → Type 0
ShowsTable word = (word ≡ codes "source") ⊎ (word ≡ codes "cd") ⊎ (word ≡ codes "target")

-- a word that says what of a set is shown
abbrev pub ShowsSet : List ℕ → Type 0
ShowsSet word = (word ≡ codes "trail") ⊎ (word ≡ codes "rejected")

-- why words gave no command: memory ran out; or they don't begin with a verb; or they do, and no command has them
abbrev pub AreRefused : List (List ℕ) → LineError → Type 0
AreRefused words Memory = Unit {0}
AreRefused words UnknownCommand = begin_with_verb words ≡ false
AreRefused words BadLine = (begin_with_verb words ≡ true) × ¬ (AreOfACommand words)
