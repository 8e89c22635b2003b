-- What slices of words hold, by their length.
use Rattle.std.proofs.Common.{◌≡◌, ℕ, List, [], ◌∷◌, length, get_or, refl, arith, Bor}
use Rattle.script_text.specs.Words.{texts}

-- the word that stands for one that isn't there
abbrev pub no_word : Bor (List ℕ)
no_word = record { ref_ptr = (0, 0); now = [] }

-- there are as many texts as words
pub counted : (words : List (Bor (List ℕ))) → length (texts words) ≡ length words
counted [] = refl
counted (word ∷ words) = grind (arith, counted words)

-- four words
pub four_words : (words : List (Bor (List ℕ))) → length words ≡ 4 → texts words ≡ (get_or words 0 no_word).now ∷ (get_or words 1 no_word).now ∷ (get_or words 2 no_word).now ∷ (get_or words 3 no_word).now ∷ []
four_words (a ∷ b ∷ c ∷ d ∷ []) e = refl
four_words [] e = absurd (omega arith)
four_words (a ∷ []) e = absurd (omega arith)
four_words (a ∷ b ∷ []) e = absurd (omega arith)
four_words (a ∷ b ∷ c ∷ []) e = absurd (omega arith)
four_words (a ∷ b ∷ c ∷ d ∷ f ∷ words) e = absurd (omega arith)

-- five words
pub five_words : (words : List (Bor (List ℕ))) → length words ≡ 5 → texts words ≡ (get_or words 0 no_word).now ∷ (get_or words 1 no_word).now ∷ (get_or words 2 no_word).now ∷ (get_or words 3 no_word).now ∷ (get_or words 4 no_word).now ∷ []
five_words (a ∷ b ∷ c ∷ d ∷ f ∷ []) e = refl
five_words [] e = absurd (omega arith)
five_words (a ∷ []) e = absurd (omega arith)
five_words (a ∷ b ∷ []) e = absurd (omega arith)
five_words (a ∷ b ∷ c ∷ []) e = absurd (omega arith)
five_words (a ∷ b ∷ c ∷ d ∷ []) e = absurd (omega arith)
five_words (a ∷ b ∷ c ∷ d ∷ f ∷ g ∷ words) e = absurd (omega arith)
