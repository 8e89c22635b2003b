-- The next key of a table in two parts.
use Rattle.std.proofs.Common.{◌≡◌, ℕ, Bool, true, false, List, refl, sym, ap, subst, ◌∙◌}
use Rattle.std.specs.Prelude.{Option, None, not, ◌||◌}
use Rattle.std.specs.Option.{option_or}
use Rattle.std.specs.Ordering.{is_lt, ordering_reverse}
use Rattle.std.specs.Cmp.Lexicographic.{nat_list_cmp_total}
use Rattle.std.proofs.lemmas.Map.Lookups.{exact_bytes}
use Rattle.std.specs.declared.cmp.Ordering.{Ordering}
use Rattle.std.specs.declared.cmp.Ordering.TheVariants.{Less, Equal, Greater}
use Rattle.repl_types.specs.Bytes.{bytes_cmp}
use Rattle.repl_types.specs.declared.area.Area.{Area}
use Rattle.keep_core.specs.Contents.{Table, Contents, IsNextKey, IsLastKey}
use Rattle.keep_core.specs.Kept.{NextIs}
use Rattle.keep_map.specs.Next.{parts, IsNext}

-- neither part has a value: nor has the table
neither_has : (first second : Option (List ℕ)) → first ≡ None → second ≡ None → option_or first second ≡ None
neither_has first second one two = ap (λ (v : Option (List ℕ)). option_or v second) one ∙ two

module _ (first second : Table) (after : List ℕ) where
  -- the first part has no key above: the next key is that of the second
  pub first_ends : (key out : List ℕ) → IsLastKey first after → IsNextKey second after key out → IsNextKey (parts first second) after key out
  first_ends key out last next = record {
    above = next.above;
    has = ap (λ (v : Option (List ℕ)). option_or v (second key)) (last key next.above) ∙ next.has;
    least = λ q low below. neither_has (first q) (second q) (last q low) (next.least q low below);
  }

  -- the next key of the second part is less than that of the first
  pub second_less : (k v key out : List ℕ) → IsNextKey first after k v → IsNextKey second after key out → bytes_cmp key k ≡ Less → IsNextKey (parts first second) after key out
  second_less k v key out one two less = record {
    above = two.above;
    has = ap (λ (w : Option (List ℕ)). option_or w (second key)) (one.least key two.above less) ∙ two.has;
    least = λ q low below. neither_has (first q) (second q) (one.least q low (nat_list_cmp_total.trans q key k below less)) (two.least q low below);
  }

  -- it is not less
  pub first_less : (key out k v : List ℕ) → IsNextKey first after key out → IsNextKey second after k v → is_lt (bytes_cmp k key) ≡ false → IsNextKey (parts first second) after key out
  first_less key out k v one two not_less = record {
    above = one.above;
    has = ap (λ (w : Option (List ℕ)). option_or w (second key)) one.has;
    least = λ q low below. neither_has (first q) (second q) (one.least q low below) (two.least q low (below_k q below (bytes_cmp k key) refl not_less));
  }
    where
      below_k : (q : List ℕ) → bytes_cmp q key ≡ Less → (o : Ordering) → bytes_cmp k key ≡ o → is_lt o ≡ false → bytes_cmp q k ≡ Less
      below_k q below Less is e = absurd cc
      below_k q below Equal is e = subst (λ (x : List ℕ). bytes_cmp q x ≡ Less) (sym (exact_bytes k key is)) below
      below_k q below Greater is e = nat_list_cmp_total.trans q key k below (nat_list_cmp_total.antisymm key k ∙ ap ordering_reverse is)

  -- the second part has a next key that counts
  pub second_next : (found : Bool) (k v key out : List ℕ) → IsNext first after found k v → IsNextKey second after key out → (not found || is_lt (bytes_cmp key k)) ≡ true → IsNextKey (parts first second) after key out
  second_next false k v key out one two counts = first_ends key out one two
  second_next true k v key out one two counts = second_less k v key out one two (less (bytes_cmp key k) counts)
    where
      less : (o : Ordering) → is_lt o ≡ true → o ≡ Less
      less Less e = refl
      less Equal e = absurd cc
      less Greater e = absurd cc

  -- it has one that doesn't
  pub first_next : (found : Bool) (key out k v : List ℕ) → IsNext first after found key out → IsNextKey second after k v → (not found || is_lt (bytes_cmp k key)) ≡ false → IsNext (parts first second) after found key out
  first_next false key out k v one two counts = absurd (let e : true ≡ false = counts in cc)
  first_next true key out k v one two counts = first_less key out k v one two counts

-- the same in the words of a keeper
pub in_contents : (t : Table) (c : Contents) (a : Area) (n : ℕ) (after : List ℕ) (found : Bool) (key out : List ℕ) → t ≡ c a n → IsNext t after found key out → NextIs a n after found key out c
in_contents t c a n after true key out is next = subst (λ (u : Table). IsNextKey u after key out) is next
in_contents t c a n after false key out is next = subst (λ (u : Table). IsLastKey u after) is next
