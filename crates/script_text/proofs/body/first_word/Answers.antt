use Rattle.std.proofs.Common.{◌≡◌, ℕ, Bool, true, false, cond, List, [], ◌∷◌, Some, refl, rules, tests, not, eqb, length, ◌∙◌}
use Rattle.std.specs.Prelude.{find, filter, slice_get}
use Rattle.std.specs.List.{slice_split}
use Rattle.std.proofs.lemmas.Iterator.Search.{find_from_yields_List}
use Rattle.std.proofs.lemmas.Iterator.Splits.{YieldsList-from_slice_split}
use Rattle.script_text.specs.Words.{blank, line_words}
use Rattle.script_text.proofs.body.first_word.Goals as goal

-- the first that a filter keeps is the first that passes
first_kept : {X : Type 0} (p : X → Bool) (xs : List X) → find p xs ≡ slice_get (filter p xs) 0
first_kept p [] = refl
first_kept {X} p (x ∷ xs) = at (p x) (first_kept p xs)
  where
    at : (b : Bool) → find p xs ≡ slice_get (filter p xs) 0 → cond b (Some x) (find p xs) ≡ slice_get (cond b (x ∷ filter p xs) (filter p xs)) 0
    at true later = refl
    at false later = later

pub returns : goal.returns
unfolding line_words
returns c =
    find_from_yields_List filled _ _ _ c.find.ensures.ran (YieldsList-from_slice_split _ between c.args.line.now (cc) (cc) (cc) (λ x r q k. search (rules, tests))) (λ x b q k. search (rules, tests))
    ∙ first_kept filled (slice_split between c.args.line.now)
  where
    filled : List ℕ → Bool
    filled part = not (eqb (length part) 0)

    between : ℕ → Bool
    between b = eqb b blank
