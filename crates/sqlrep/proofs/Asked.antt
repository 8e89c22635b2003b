-- What the kinds of a parse say of the words.
use Rattle.std.proofs.Common.{◌≡◌, ◌≢◌, ◌∙◌, refl, sym, ap, subst, inl, inr, ℕ, List, [], ◌∷◌, true, false, ◌⊎◌, codes, arith, not}
use Rattle.std.specs.List.{list_all, list_any}
use Rattle.std.proofs.lemmas.Grind.{common_steps}
use Rattle.clap.specs.Faults.{fault_of, is_simple_and_free}
use Rattle.clap.specs.Kinds.{IsAmong, Kinds}
use Rattle.clap.specs.Simple.{App}
use Rattle.clap.specs.declared.error.kind.ErrorKind.{ErrorKind}
use Rattle.clap.specs.declared.error.kind.ErrorKind.TheVariants.{DisplayHelp, DisplayVersion, OutOfMemory}
use Rattle.clap.proofs.OnLiterals.{clap_on_literals}
use Rattle.sqlrep.specs.Asked.{sqlrep_app, is_shown, all_shown, asks_text, asks_nothing}

-- the program's words are of the simple kind, of which clap says what a parse answers
pub sqlrep_is_free : is_simple_and_free sqlrep_app ≡ true
unfolding clap_on_literals
sqlrep_is_free = refl

-- what a parse says of a command that reads as the program's, it says of the program's words
pub of_sqlrep : (P : Kinds → Type 0) (app : App) (words : List (List ℕ)) → app ≡ sqlrep_app → (is_simple_and_free app ≡ true → P (fault_of app words)) → P (fault_of sqlrep_app words)
of_sqlrep P app words same h = subst (λ (a : App). P (fault_of a words)) same (h (ap is_simple_and_free same ∙ sqlrep_is_free))

-- if every kind is shown, one of them is
pub shown_of_all : (k : ErrorKind) (kinds : Kinds) → IsAmong k kinds → list_all is_shown kinds ≡ true → is_shown k ≡ true
shown_of_all k [] h all = absurd h
shown_of_all k (x ∷ xs) (inl e) all = ap is_shown e ∙ grind (arith, common_steps)
shown_of_all k (x ∷ xs) (inr h) all = shown_of_all k xs h (grind (arith, common_steps))

-- if no kind is shown, one of them isn't
pub not_shown_of_any : (k : ErrorKind) (kinds : Kinds) → IsAmong k kinds → list_any is_shown kinds ≡ false → is_shown k ≡ false
not_shown_of_any k [] h none = absurd h
not_shown_of_any k (x ∷ xs) (inl e) none = ap is_shown e ∙ grind (arith, common_steps)
not_shown_of_any k (x ∷ xs) (inr h) none = not_shown_of_any k xs h (grind (arith, common_steps))

-- a kind that is neither isn't shown
pub not_shown : (k : ErrorKind) → k ≢ DisplayHelp → k ≢ DisplayVersion → is_shown k ≡ false
not_shown DisplayHelp help version = absurd (help refl)
not_shown DisplayVersion help version = absurd (version refl)
not_shown _ help version = refl

-- a kind that isn't neither is shown
pub shown : (k : ErrorKind) → ¬ ((k ≢ DisplayHelp) × (k ≢ DisplayVersion)) → is_shown k ≡ true
shown DisplayHelp either = refl
shown DisplayVersion either = refl
shown _ either = absurd (either ((λ e. cc), (λ e. cc)))

-- a parse that succeeds answers nothing, so nothing was asked
pub nothing_asked : (kinds : Kinds) → kinds ≡ [] → all_shown kinds ≡ true → false ≡ true
nothing_asked kinds e asked = sym (ap all_shown e) ∙ asked

-- a mistake in the words is no text that was asked for
pub no_mistake : (k : ErrorKind) (kinds : Kinds) → (k ≡ OutOfMemory) ⊎ IsAmong k kinds → k ≢ OutOfMemory → (k ≢ DisplayHelp) × (k ≢ DisplayVersion) → all_shown kinds ≡ true → false ≡ true
no_mistake k kinds (inl e) memory neither asked = absurd (memory e)
no_mistake k kinds (inr h) memory neither asked = sym (not_shown k neither.0 neither.1) ∙ shown_of_all k kinds h (grind (arith, common_steps))

-- a text that was asked for is no mistake in the words
pub no_text : (k : ErrorKind) (kinds : Kinds) → (k ≡ OutOfMemory) ⊎ IsAmong k kinds → ¬ ((k ≢ DisplayHelp) × (k ≢ DisplayVersion)) → not (list_any is_shown kinds) ≡ true → true ≡ false
no_text k kinds (inl e) either nothing = sym (shown k either) ∙ ap is_shown e
no_text k kinds (inr h) either nothing = sym (shown k either) ∙ not_shown_of_any k kinds h (grind (arith, common_steps))

-- `--help` alone asks for a text
pub help_asks : (name : List ℕ) → asks_text (name ∷ codes "--help" ∷ []) ≡ true
unfolding clap_on_literals
help_asks name = refl

-- `--version` alone asks for a text
pub version_asks : (name : List ℕ) → asks_text (name ∷ codes "--version" ∷ []) ≡ true
unfolding clap_on_literals
version_asks name = refl

-- no word at all asks for nothing
pub no_word_asks : (name : List ℕ) → asks_nothing (name ∷ []) ≡ true
unfolding clap_on_literals
no_word_asks name = refl

-- a word that isn't the program's asks for nothing
pub stray_word_asks : (name : List ℕ) → asks_nothing (name ∷ codes "Copy" ∷ []) ≡ true
unfolding clap_on_literals
stray_word_asks name = refl
