-- The commands of a script: the words of each.
use Rattle.std.specs.Prelude.{◌≡◌, ℕ, ◌≤◌, ◌<◌, ◌^◌, codes, Bool, false, List, [], ◌∷◌, ◌++◌, Option, Some, None, IsTrue, IfSome, decimal}
use Rattle.std.specs.List.{list_any}
use Rattle.std.specs.Str.{bytes_eq}
use Rattle.repl_types.specs.Name.{is_name}
use Rattle.repl_types.specs.declared.record.SetId.{SetId}
use Rattle.repl_commands.specs.declared.command.Command.{Command}
use Rattle.repl_commands.specs.declared.command.Command.TheVariants.{Load, Feed, Capture, CaptureCold, Prune, PruneNormal, Step, Apply, Refresh, Stop, Generate, Rounds, Audit, StatusServer, StatusSet, ShowSource, ShowCd, ShowUow, ShowLog, ShowTarget, ShowTrail, ShowRejected}
use Rattle.script_text.specs.Words.{line_words}

-- a number that may be left out
abbrev pub number_words : Option ℕ → List (List ℕ)
number_words None = []
number_words (Some n) = decimal n ∷ []

-- a word and the number after it, which may be left out together
abbrev pub option_words : List ℕ → Option ℕ → List (List ℕ)
option_words word None = []
option_words word (Some n) = word ∷ decimal n ∷ []

-- [units U] [every E]
abbrev pub limit_words : Option ℕ → Option ℕ → List (List ℕ)
limit_words units every = option_words (codes "units") units ++ option_words (codes "every") every

-- the words of a command; what is left out has none
abbrev pub command_words : Command → List (List ℕ)
command_words Load = codes "load" ∷ []
command_words (Feed server) = codes "feed" ∷ server ∷ []
command_words (Capture server units every) = codes "capture" ∷ server ∷ limit_words units every
command_words (CaptureCold server) = codes "capture" ∷ server ∷ codes "cold" ∷ []
command_words (Prune server minutes) = codes "prune" ∷ server ∷ number_words minutes
command_words (PruneNormal server) = codes "prune" ∷ server ∷ codes "normal" ∷ []
command_words (Step set) = codes "step" ∷ set.qual ∷ set.name ∷ []
command_words (Apply set) = codes "apply" ∷ set.qual ∷ set.name ∷ []
command_words (Refresh set) = codes "refresh" ∷ set.qual ∷ set.name ∷ []
command_words (Stop server table) = codes "stop" ∷ server ∷ table ∷ []
command_words (Generate server table seed units changes) = codes "generate" ∷ server ∷ table ∷ decimal seed ∷ decimal units ∷ decimal changes ∷ []
command_words (Rounds qual) = codes "rounds" ∷ qual ∷ []
command_words (Audit set) = codes "audit" ∷ set.qual ∷ set.name ∷ []
command_words (StatusServer server) = codes "status" ∷ server ∷ []
command_words (StatusSet set) = codes "status" ∷ set.qual ∷ set.name ∷ []
command_words (ShowSource server table) = codes "show" ∷ server ∷ codes "source" ∷ table ∷ []
command_words (ShowCd server table) = codes "show" ∷ server ∷ codes "cd" ∷ table ∷ []
command_words (ShowUow server) = codes "show" ∷ server ∷ codes "uow" ∷ []
command_words (ShowLog server) = codes "show" ∷ server ∷ codes "log" ∷ []
command_words (ShowTarget server table) = codes "show" ∷ server ∷ codes "target" ∷ table ∷ []
command_words (ShowTrail server set) = codes "show" ∷ server ∷ codes "trail" ∷ set.qual ∷ set.name ∷ []
command_words (ShowRejected server set) = codes "show" ∷ server ∷ codes "rejected" ∷ set.qual ∷ set.name ∷ []

-- the highest number of 32 bits
abbrev pub highest_number : ℕ
highest_number = 4294967295

-- how many units to capture, and after how many to commit: 1 to 4294967295
abbrev pub IsCount : ℕ → Type 0
IsCount n = (1 ≤ n) × (n ≤ highest_number)

-- how many minutes what was captured is kept: 0 to 4294967295
abbrev pub IsMinutes : ℕ → Type 0
IsMinutes n = n ≤ highest_number

-- what changes are made from: 0 to 2 ^ 64 - 1
abbrev pub IsSeed : ℕ → Type 0
IsSeed n = n < 2 ^ 64

-- how many units to make, and how many changes in each: 0 to 4294967295
abbrev pub IsAmount : ℕ → Type 0
IsAmount n = n ≤ highest_number

-- both parts of a set's name are names
abbrev pub IsSetName : SetId → Type 0
IsSetName set = IsTrue (is_name set.qual) × IsTrue (is_name set.name)

-- a command of a script: its names are names, and its numbers lie in their ranges
abbrev pub IsCommand : Command → Type 0
IsCommand Load = Unit {0}
IsCommand (Feed server) = IsTrue (is_name server)
IsCommand (Capture server units every) = IsTrue (is_name server) × IfSome units IsCount × IfSome every IsCount
IsCommand (CaptureCold server) = IsTrue (is_name server)
IsCommand (Prune server minutes) = IsTrue (is_name server) × IfSome minutes IsMinutes
IsCommand (PruneNormal server) = IsTrue (is_name server)
IsCommand (Step set) = IsSetName set
IsCommand (Apply set) = IsSetName set
IsCommand (Refresh set) = IsSetName set
IsCommand (Stop server table) = IsTrue (is_name server) × IsTrue (is_name table)
IsCommand (Generate server table seed units changes) = IsTrue (is_name server) × IsTrue (is_name table) × IsSeed seed × IsAmount units × IsAmount changes
IsCommand (Rounds qual) = IsTrue (is_name qual)
IsCommand (Audit set) = IsSetName set
IsCommand (StatusServer server) = IsTrue (is_name server)
IsCommand (StatusSet set) = IsSetName set
IsCommand (ShowSource server table) = IsTrue (is_name server) × IsTrue (is_name table)
IsCommand (ShowCd server table) = IsTrue (is_name server) × IsTrue (is_name table)
IsCommand (ShowUow server) = IsTrue (is_name server)
IsCommand (ShowLog server) = IsTrue (is_name server)
IsCommand (ShowTarget server table) = IsTrue (is_name server) × IsTrue (is_name table)
IsCommand (ShowTrail server set) = IsTrue (is_name server) × IsSetName set
IsCommand (ShowRejected server set) = IsTrue (is_name server) × IsSetName set

-- these words are the command's, and it is a command of a script
pub record AreCommandWords (words : List (List ℕ)) (command : Command) : Type 0 where
  pub fits : IsCommand command
  pub spelled : words ≡ command_words command

-- the first words of commands
abbrev pub verbs : List (List ℕ)
verbs = codes "load" ∷ codes "feed" ∷ codes "capture" ∷ codes "prune" ∷ codes "step" ∷ codes "apply" ∷ codes "refresh" ∷ codes "stop" ∷ codes "generate" ∷ codes "rounds" ∷ codes "audit" ∷ codes "status" ∷ codes "show" ∷ []

-- whether a word is the first of a command
abbrev pub is_verb : List ℕ → Bool
is_verb word = list_any (bytes_eq word) verbs

-- whether the first of these words is one of them
abbrev pub begin_with_verb : List (List ℕ) → Bool
begin_with_verb [] = false
begin_with_verb (word ∷ words) = is_verb word

-- whether the first word of a line is one of them
abbrev pub names_a_command : List ℕ → Bool
names_a_command line = begin_with_verb (line_words line)

-- a line is of a command: its words are the command's
abbrev pub IsLineOf : List ℕ → Command → Type 0
IsLineOf line command = AreCommandWords (line_words line) command
