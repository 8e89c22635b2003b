-- A word says one word of the language at most.
use Rattle.std.proofs.Common.{◌≡◌, ℕ, true, false, inl, inr, List, map, ap, ◌∙◌, refl, codes, bytes_eq}
use Rattle.std.proofs.lemmas.Bool.{or_cases}
use Rattle.std.proofs.lemmas.Slice.Eq.{bytes_eq-Decides}
use Rattle.repl_defs.specs.Words.{capital, says}

-- a word that says one word, doesn't say another
other : (spelled wanted word : List ℕ) → says wanted spelled ≡ false → says wanted (map capital spelled) ≡ false → says spelled word ≡ true → says wanted word ≡ false
other spelled wanted word small large h = elim (or_cases (bytes_eq word spelled) (bytes_eq word (map capital spelled)) h) [
  | inl e ↦ ap (says wanted) ((bytes_eq-Decides word spelled).0 e) ∙ small
  | inr e ↦ ap (says wanted) ((bytes_eq-Decides word (map capital spelled)).0 e) ∙ large
]

-- no word is two words of the language: those pairs of which one is tested first
pub or_isn't_and : (word : List ℕ) → says (codes "or") word ≡ true → says (codes "and") word ≡ false
or_isn't_and word h = other (codes "or") (codes "and") word refl refl h

pub null_isn't_not : (word : List ℕ) → says (codes "null") word ≡ true → says (codes "not") word ≡ false
null_isn't_not word h = other (codes "null") (codes "not") word refl refl h

pub sum_isn't_count : (word : List ℕ) → says (codes "sum") word ≡ true → says (codes "count") word ≡ false
sum_isn't_count word h = other (codes "sum") (codes "count") word refl refl h

pub min_isn't_count : (word : List ℕ) → says (codes "min") word ≡ true → says (codes "count") word ≡ false
min_isn't_count word h = other (codes "min") (codes "count") word refl refl h

pub min_isn't_sum : (word : List ℕ) → says (codes "min") word ≡ true → says (codes "sum") word ≡ false
min_isn't_sum word h = other (codes "min") (codes "sum") word refl refl h

pub max_isn't_count : (word : List ℕ) → says (codes "max") word ≡ true → says (codes "count") word ≡ false
max_isn't_count word h = other (codes "max") (codes "count") word refl refl h

pub max_isn't_sum : (word : List ℕ) → says (codes "max") word ≡ true → says (codes "sum") word ≡ false
max_isn't_sum word h = other (codes "max") (codes "sum") word refl refl h

pub max_isn't_min : (word : List ℕ) → says (codes "max") word ≡ true → says (codes "min") word ≡ false
max_isn't_min word h = other (codes "max") (codes "min") word refl refl h
