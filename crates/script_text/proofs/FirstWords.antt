-- A command has few words, so the first words of a line say whether it is of one.
use Rattle.std.proofs.Common.{◌≡◌, ℕ, ◌<◌, List, [], ◌∷◌, length, take, Some, None, refl, sym, subst, ◌∙◌, arith, length-take, lit<, Result, Ok, Err}
use Rattle.std.proofs.lemmas.List.{take_all}
use Rattle.repl_commands.specs.declared.command.Command.{Command}
use Rattle.repl_commands.specs.declared.command.Command.TheVariants.{Capture, Prune}
use Rattle.std.specs.Result.{IfOk, IfErr}
use Rattle.repl_commands.specs.declared.errors.LineError.{LineError}
use Rattle.repl_commands.specs.declared.errors.LineError.TheVariants.{Memory, UnknownCommand, BadLine}
use Rattle.script_text.specs.declared.words.TheConstants.{WORDS_READ}
use Rattle.script_text.specs.Readings.{AreRefused}
use Rattle.script_text.specs.Commands.{command_words, AreCommandWords, begin_with_verb}

-- a command has fewer words than are read
few : (c : Command) → length (command_words c) < WORDS_READ
few (Capture server (Some units) (Some every)) = lit< tt
few (Capture server (Some units) None) = lit< tt
few (Capture server None (Some every)) = lit< tt
few (Capture server None None) = lit< tt
few (Prune server (Some minutes)) = lit< tt
few (Prune server None) = lit< tt
few _ = lit< tt

-- if a command has the words that are read, there are no more
pub all_there : (ws : List (List ℕ)) (c : Command) → take WORDS_READ ws ≡ command_words c → ws ≡ command_words c
all_there ws c e =
    let short : length (take WORDS_READ ws) < WORDS_READ = subst (λ (words : List (List ℕ)). length words < WORDS_READ) (sym e) (few c) in
    sym (take_all WORDS_READ ws (omega (arith, length-take WORDS_READ ws))) ∙ e

-- the words of a command are among those that are read
pub all_first : (ws : List (List ℕ)) (c : Command) → ws ≡ command_words c → take WORDS_READ ws ≡ command_words c
all_first ws c e =
    let short : length ws < WORDS_READ = subst (λ (words : List (List ℕ)). length words < WORDS_READ) (sym e) (few c) in
    take_all WORDS_READ ws (omega arith) ∙ e

-- a command of the words that are read is one of all words
pub of_all : (ws : List (List ℕ)) (r : Result Command LineError) → IfOk r (AreCommandWords (take WORDS_READ ws)) → IfOk r (AreCommandWords ws)
of_all ws (Ok c) is = record { fits = is.fits; spelled = all_there ws c is.spelled }
of_all ws (Err e) is = tt

-- the words that are read begin with a verb if all do
first_verb : (ws : List (List ℕ)) → begin_with_verb (take WORDS_READ ws) ≡ begin_with_verb ws
first_verb [] = refl
first_verb (w ∷ ws) = refl

-- why the words that are read gave no command is why all words give none
refused_all : (ws : List (List ℕ)) (e : LineError) → AreRefused (take WORDS_READ ws) e → AreRefused ws e
refused_all ws Memory is = tt
refused_all ws UnknownCommand is = sym (first_verb ws) ∙ is
refused_all ws BadLine is =
    (sym (first_verb ws) ∙ is.0, λ (c, of). is.1 (c, record { fits = of.fits; spelled = all_first ws c of.spelled }))

-- the same of an answer
pub refused_by_all : (ws : List (List ℕ)) (r : Result Command LineError) → IfErr r (AreRefused (take WORDS_READ ws)) → IfErr r (AreRefused ws)
refused_by_all ws (Ok c) is = tt
refused_by_all ws (Err e) is = refused_all ws e is
