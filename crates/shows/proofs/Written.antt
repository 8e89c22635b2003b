-- Lines of a text that are written one after another.
use Rattle.std.proofs.Common.{◌≡◌, ◌∙◌, ◌-◌, ◌++◌, ℕ, List, length, take, drop, sym, ap, append_assoc, arith, length-drop, Option, take-append-drop, take_all}
use Rattle.site_store.specs.Words.{Takes, TakesPrefix, takes_both}

-- what is left of a text from a place on
rest_is : (text : List ℕ) (at : ℕ) → take (length text - at) (drop at text) ≡ drop at text
rest_is text at = take_all (length text - at) (drop at text) (omega (arith, length-drop at text))

-- after its first bytes a sink took a prefix of the next ones: it took a prefix of the text
pub prefix_on : (before between now : Option (List ℕ)) (text : List ℕ) (at count : ℕ) → Takes before between (take at text) → TakesPrefix between now (take count (take (length text - at) (drop at text))) → TakesPrefix before now text
prefix_on before between now text at count so_far p =
    let rest = take (length text - at) (drop at text) in
    record {
      prefix = take at text ++ p.prefix;
      rest = p.rest ++ drop count rest;
      parts = sym (take-append-drop at text) ∙ ap (λ (l : List ℕ). take at text ++ l) (sym (rest_is text at) ∙ sym (take-append-drop count rest) ∙ ap (λ (l : List ℕ). l ++ drop count rest) p.parts ∙ append_assoc p.prefix p.rest (drop count rest)) ∙ sym (append_assoc (take at text) p.prefix (p.rest ++ drop count rest));
      taken = takes_both before between now (take at text) p.prefix so_far p.taken;
    }
