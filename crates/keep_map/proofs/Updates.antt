-- What a map has at each place after a change, if its keys are in the order of the places that they name.
use Rattle.std.proofs.Common.{◌≡◌, Bool, true, false, cond, refl, sym, ap, ◌∙◌}
use Rattle.std.specs.Prelude.{Option}
use Rattle.std.specs.BTreeMap.{BTreeMap, UpdatesBy, get_by, is_at}
use Rattle.std.specs.Map.{lookup, IsKeyTest, AreApart, KeepsOthers}
use Rattle.std.specs.Ordering.{is_eq, eq_by_cmp}
use Rattle.std.specs.Cmp.{IsTotalOrder, eq_by_cmp_equiv}
use Rattle.std.specs.declared.cmp.Ordering.{Ordering}

-- the order of keys is that of their places
abbrev pub by_place : {K P : Type 0} → (P → P → Ordering) → (K → P) → K → K → Ordering
by_place cmp of j k = cmp (of j) (of k)

-- what a map has at a place
abbrev pub at : {K X P : Type 0} → (P → P → Ordering) → (K → P) → BTreeMap K X → P → Option X
at cmp of m p = get_by (λ k. cmp p (of k)) m

module _ {K X P : Type 0} (cmp : P → P → Ordering) (total : IsTotalOrder cmp) (exact : (x y : P) → is_eq (cmp x y) ≡ true → x ≡ y) (of : K → P) where
  -- a change of the map leaves what it has at other places
  other_places : (test : K → Bool) (m n : BTreeMap K X) → KeepsOthers (eq_by_cmp (by_place cmp of)) test m.entries n.entries → (other : K → Bool) → IsKeyTest (eq_by_cmp (by_place cmp of)) other → AreApart test other → lookup other n.entries ≡ lookup other m.entries
  unfolding KeepsOthers
  other_places test m n h = h

  module _ (m n : BTreeMap K X) (s : K) (w : Option X) (h : UpdatesBy (by_place cmp of) (by_place cmp of s) m n w) where
    -- what it has at another place stays
    at_other : (p : P) → is_eq (cmp (of s) p) ≡ false → at cmp of n p ≡ at cmp of m p
    at_other p apart =
        let eq = eq_by_cmp_equiv total in
        other_places (is_at (by_place cmp of s)) m n h.3 (λ k. is_eq (cmp p (of k))) (λ k q. eq.congr p (of k) (of q)) (λ k yes. eq.symm p (of k) ∙ sym (eq.congr (of s) (of k) p yes) ∙ apart)

    -- a change of the map at a key sets what it has at its place
    pub is_set : (p : P) → at cmp of n p ≡ cond (is_eq (cmp (of s) p)) w (at cmp of m p)
    is_set p = by_cases (is_eq (cmp (of s) p)) refl
      where
        by_cases : (b : Bool) → is_eq (cmp (of s) p) ≡ b → at cmp of n p ≡ cond b w (at cmp of m p)
        by_cases false e = at_other p e
        by_cases true e = ap (λ (q : P). at cmp of n q) (sym (exact (of s) p e)) ∙ h.1
