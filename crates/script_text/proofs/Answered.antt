-- What a line asks for, by what its reader finds.
use Rattle.std.proofs.Common.{◌≡◌, ℕ, true, false, Bool, cond, ◌&&◌, not, List, Option, Some, None, Result, Ok, Err, refl, sym, ap, ◌∙◌}
use Rattle.std.specs.Result.{IfOk}
use Rattle.std.specs.Option.{option_map_or}
use Rattle.std.specs.Str.{IsUtf8, is_utf8}
use Rattle.std.proofs.lemmas.Bool.{false≢true, false_from_ne_true}
use Rattle.std.proofs.lemmas.Str.{IsUtf8-from_is_utf8, is_utf8-from_IsUtf8}
use Rattle.repl_commands.specs.declared.command.Command.{Command}
use Rattle.repl_commands.specs.declared.command.Command.TheVariants.{Load}
use Rattle.repl_commands.specs.declared.errors.LineError.{LineError}
use Rattle.script_text.specs.Words.{first_word}
use Rattle.script_text.specs.Commands.{command_words, begin_with_verb, names_a_command, IsLineOf}
use Rattle.script_text.specs.Asked.{asks, unknown, bad, command_of, asked_by, is_body_verb, takes_body}
use Rattle.script_text.proofs.Forms.{found_has, has_found}

-- a line of a command asks for it
pub asks_for : (line : List ℕ) (c : Command) → IsLineOf line c → asked_by line ≡ asks c
asks_for line c is = rw (has_found line c is) refl

-- a line of no command has none
none_found : (line : List ℕ) → ((c : Command) → ¬ (IsLineOf line c)) → command_of line ≡ None
none_found line none = at (command_of line) refl
  where
    at : (o : Option Command) → command_of line ≡ o → command_of line ≡ None
    at None e = e
    at (Some c) e = absurd (none c (found_has line c e))

-- the words of a command begin with a verb
begins : (c : Command) → begin_with_verb (command_words c) ≡ true
begins Load = refl
begins _ = refl

-- a line that begins with no verb is of no command
verbless : (line : List ℕ) → names_a_command line ≡ false → (c : Command) → ¬ (IsLineOf line c)
verbless line other c is = false≢true (sym other ∙ ap begin_with_verb is.spelled ∙ begins c)

-- a line of UTF-8 that begins with no verb asks for something unknown
pub is_unknown : (line : List ℕ) → IsUtf8 line → names_a_command line ≡ false → asked_by line ≡ unknown
is_unknown line text other = rw (none_found line (verbless line other), is_utf8-from_IsUtf8 line text, other) refl

-- a line of no command is bad, if it begins with a verb or isn't UTF-8
pub is_bad : (line : List ℕ) → (IsUtf8 line → names_a_command line ≡ true) → ((c : Command) → ¬ (IsLineOf line c)) → asked_by line ≡ bad
is_bad line verb none = rw (none_found line none) (at (is_utf8 line) refl)
  where
    at : (b : Bool) → is_utf8 line ≡ b → cond (b && not (names_a_command line)) unknown bad ≡ bad
    at true is = rw (verb (IsUtf8-from_is_utf8 line is)) refl
    at false is = refl

-- what is read asks for itself
pub all_asked : (line : List ℕ) (r : Result Command LineError) → IfOk r (IsLineOf line) → IfOk r (λ c. asked_by line ≡ asks c)
all_asked line (Ok c) is = asks_for line c is
all_asked line (Err e) is = tt

-- what the answers of the reader of lines say
pub ruleset answers = (all_asked, is_unknown, is_bad)

-- whether a body may come after a line of UTF-8 is a matter of its first word
pub by_first_word : (line : List ℕ) (r : Bool) → IsUtf8 line → r ≡ option_map_or is_body_verb (first_word line) false → r ≡ takes_body line
by_first_word line r text is = is ∙ rw (is_utf8-from_IsUtf8 line text) refl

-- none comes after another line
pub no_body : (line : List ℕ) → ¬ (IsUtf8 line) → takes_body line ≡ false
no_body line other = rw (false_from_ne_true (is_utf8 line) (λ is. other (IsUtf8-from_is_utf8 line is))) refl
