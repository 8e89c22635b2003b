-- What a sink took of a text, piece by piece.
use Rattle.std.proofs.Common.{◌≡◌, ℕ, List, [], ◌∷◌, ◌++◌, Option, append_assoc, append-nil, refl, sym, ap, ◌∙◌, flat_map}
use Rattle.site_store.specs.Words.{Takes, TakesPrefix, takes_nothing, takes_both}

-- what was taken is a prefix of what was to be taken
pub prefix_taken : (before now : Option (List ℕ)) (text first rest : List ℕ) → text ≡ first ++ rest → Takes before now first → TakesPrefix before now text
prefix_taken before now text first rest parts took = record { prefix = first; rest = rest; parts = parts; taken = took }

-- nothing was taken
pub none_taken : (taken : Option (List ℕ)) (text : List ℕ) → TakesPrefix taken taken text
none_taken taken text = prefix_taken taken taken text [] text refl (takes_nothing taken)

-- a piece was taken, and a prefix of the next one
pub prefix_more : (before between now : Option (List ℕ)) (text first piece rest : List ℕ) → text ≡ first ++ (piece ++ rest) → Takes before between first → TakesPrefix between now piece → TakesPrefix before now text
prefix_more before between now text first piece rest parts took more = record {
  prefix = first ++ more.prefix;
  rest = more.rest ++ rest;
  parts = parts ∙ ap (λ (l : List ℕ). first ++ (l ++ rest)) more.parts ∙ ap (λ (l : List ℕ). first ++ l) (append_assoc more.prefix more.rest rest) ∙ sym (append_assoc first more.prefix (more.rest ++ rest));
  taken = takes_both before between now first more.prefix took more.taken;
}

-- what two lists give is what each gives
pub given_by_both : {X : Type 0} (f : X → List ℕ) (xs ys : List X) → flat_map f (xs ++ ys) ≡ flat_map f xs ++ flat_map f ys
given_by_both f [] ys = refl
given_by_both f (x ∷ xs) ys = ap (λ (l : List ℕ). f x ++ l) (given_by_both f xs ys) ∙ sym (append_assoc (f x) (flat_map f xs) (flat_map f ys))

-- what one gives
pub given_by_one : {X : Type 0} (f : X → List ℕ) (x : X) → flat_map f (x ∷ []) ≡ f x
given_by_one f x = append-nil (f x)
