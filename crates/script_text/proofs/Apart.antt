-- Words that are seen to differ.
use Rattle.std.proofs.Common.{◌≡◌, ℕ, true, false, Bool, ◌&&◌, eqb, eq-eqb, List, [], length, get_or, refl, sym, ap, ◌∙◌}
use Rattle.std.specs.Str.{bytes_eq}
use Rattle.std.proofs.lemmas.Bool.{and_from, false≢true}
use Rattle.std.proofs.lemmas.Slice.Eq.{bytes_eq-Decides}

-- whether words agree in the first of them, in their number, and in the third
abbrev alike : List (List ℕ) → List (List ℕ) → Bool
alike ws vs = bytes_eq (get_or ws 0 []) (get_or vs 0 []) && eqb (length ws) (length vs) && bytes_eq (get_or ws 2 []) (get_or vs 2 [])

-- words agree with themselves
alike_itself : (ws : List (List ℕ)) → alike ws ws ≡ true
alike_itself ws =
    and_from _ _ (and_from _ _ ((bytes_eq-Decides (get_or ws 0 []) (get_or ws 0 [])).1 refl) (eq-eqb (length ws) (length ws) refl)) ((bytes_eq-Decides (get_or ws 2 []) (get_or ws 2 [])).1 refl)

-- words that don't agree are others
pub apart : (ws vs : List (List ℕ)) → alike ws vs ≡ false → ws ≡ vs → ⊥
apart ws vs e same = false≢true (sym e ∙ ap (alike ws) (sym same) ∙ alike_itself ws)
