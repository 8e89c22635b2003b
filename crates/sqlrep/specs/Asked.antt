-- Which words ask for a text.
use Rattle.std.specs.Prelude.{ℕ, codes, List, Bool, true, false, not, ◌&&◌, ◌||◌, ◌==◌, length}
use Rattle.std.specs.List.{list_all, list_any}
use Rattle.clap.specs.Faults.{fault_of}
use Rattle.clap.specs.Kinds.{Kinds}
use Rattle.clap.specs.Simple.{App, new_app, on_top, with_rule, with_subcommand}
use Rattle.clap.specs.Walk.{Rule, is_empty}
use Rattle.clap.specs.declared.error.kind.ErrorKind.{ErrorKind}
use Rattle.clap.specs.declared.error.kind.ErrorKind.TheVariants.{DisplayHelp, DisplayVersion}
use Rattle.run_words.specs.Command.{cells_rule, servers_rule}

-- an argument whose value has a name in the help
abbrev pub with_value_name : Rule → Rule
with_value_name rule = record rule { value_names = 1 }

-- what a parse reads of a command that has a version, and no subcommand `help`
abbrev pub program_app : App
program_app = on_top (λ s. record s { has_version = true; subcommand_negates_reqs = true; disable_help_subcommand = true }) (new_app (codes "sqlrep"))

-- what a parse reads of the words that the program takes: those of a script, or `copy`
abbrev pub sqlrep_app : App
sqlrep_app = with_subcommand (with_rule (with_rule program_app (with_value_name cells_rule)) (with_value_name servers_rule)) (new_app (codes "copy")).top

-- the answer is a text that was asked for, and no mistake in the words
abbrev pub is_shown : ErrorKind → Bool
is_shown DisplayHelp = true
is_shown DisplayVersion = true
is_shown _ = false

-- whatever a parse may answer is such a text
abbrev pub all_shown : Kinds → Bool
all_shown kinds = not (is_empty kinds) && list_all is_shown kinds

-- what a parse answers to the words is a text that was asked for
abbrev pub shows_text : List (List ℕ) → Bool
shows_text words = all_shown (fault_of sqlrep_app words)

-- it is none
abbrev pub shows_nothing : List (List ℕ) → Bool
shows_nothing words = not (list_any is_shown (fault_of sqlrep_app words))

-- there is one word beside the program's name, which is the first
abbrev pub is_alone : List (List ℕ) → Bool
is_alone words = length words == 2

-- the words ask for help or for the version, by one word alone
abbrev pub asks_text : List (List ℕ) → Bool
asks_text words = is_alone words && shows_text words

-- they ask for neither, or beside other words
abbrev pub asks_nothing : List (List ℕ) → Bool
asks_nothing words = not (is_alone words) || shows_nothing words
