-- A word in capital letters, letter after letter.
use Rattle.std.proofs.Common.{◌≡◌, ℕ, ◌==◌, Bool, ◌&&◌, List, [], ◌∷◌, length, map, refl, ap, arith, bytes_eq}
use Rattle.std.specs.List.{list_all, zip}
use Rattle.repl_defs.specs.Words.{capital}

-- words of one length agree if each letter does
pub capitals-zip : (word spelled : List ℕ) → length word ≡ length spelled → list_all (λ pair. pair.0 == capital pair.1) (zip word spelled) ≡ bytes_eq word (map capital spelled)
capitals-zip [] [] same = refl
capitals-zip [] (s ∷ ss) same = absurd (omega arith)
capitals-zip (w ∷ ws) [] same = absurd (omega arith)
capitals-zip (w ∷ ws) (s ∷ ss) same = ap (λ (rest : Bool). (w == capital s) && rest) (capitals-zip ws ss (omega arith))
