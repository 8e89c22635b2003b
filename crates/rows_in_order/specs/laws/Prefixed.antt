-- Keys and rows that begin with the same bytes.
use Rattle.std.proofs.Common.{◌≡◌, ℕ, ◌<◌, Bool, true, false, List, [], ◌∷◌, ◌++◌, length, drop, refl, sym, ap, subst, ◌∙◌, arith, filter, Ordering, Less, Equal, Greater, append-nil}
use Rattle.std.specs.Ordering.{nat_cmp, ordering_then}
use Rattle.std.specs.Cmp.{ranked}
use Rattle.std.proofs.lemmas.Bool.Decides.{Decides-eqb}
use Rattle.std.proofs.lemmas.Slice.Eq.{starts_is}
use Rattle.repl_types.specs.Bytes.{bytes_cmp}
use Rattle.rows_in_order.specs.Rows.{IsUpTo, NoneAfter, NextRow, begins_with, with_prefix}
use Rattle.rows_in_order.specs.laws.Before.{not_both}
use Rattle.repl_types.specs.laws.Lists.{all_weaker, all_filter, filter_none}
use Rattle.rows_in_order.specs.laws.Rising.{at_seam}
use Rattle.std.proofs.lemmas.Bool.{false_from_ne_true}

-- ---- keys

-- what goes on from these bytes begins with them
pub begins_longer : (bytes rest : List ℕ) → begins_with bytes (bytes ++ rest) ≡ true
begins_longer bytes rest = (starts_is Decides-eqb (bytes ++ rest) bytes (begins_with bytes (bytes ++ rest)) refl).1 rest refl

-- what begins with these bytes goes on from them
pub begins_parts : (bytes k : List ℕ) → begins_with bytes k ≡ true → k ≡ bytes ++ drop (length bytes) k
begins_parts bytes k e = (starts_is Decides-eqb k bytes (begins_with bytes k) refl).0 e

-- between bytes that go on alike all go on alike
together : (bytes x l y : List ℕ) → bytes_cmp (bytes ++ x) l ≡ Less → bytes_cmp l (bytes ++ y) ≡ Less → (rest : List ℕ) × (l ≡ bytes ++ rest)
together [] x l y lt less = (l, refl)
together (b ∷ bs) x [] y lt less = absurd (clash lt)
  where
    clash : Greater ≡ Less → ⊥
    clash e = cc
together (b ∷ bs) x (c ∷ cs) y lt less = pick (nat_cmp b c) refl (nat_cmp c b) refl (together bs x cs y)
  where
    clash : (o : Ordering) → ordering_then Greater o ≡ Less → ⊥
    clash o e = cc

    pick : (o : Ordering) → nat_cmp b c ≡ o → (p : Ordering) → nat_cmp c b ≡ p → (bytes_cmp (bs ++ x) cs ≡ Less → bytes_cmp cs (bs ++ y) ≡ Less → (rest : List ℕ) × (cs ≡ bs ++ rest)) → (rest : List ℕ) × (c ∷ cs ≡ (b ∷ bs) ++ rest)
    pick Greater e p f more = absurd (clash (bytes_cmp (bs ++ x) cs) (ap (λ (o : Ordering). ordering_then o (bytes_cmp (bs ++ x) cs)) (sym e) ∙ lt))
    pick Less e Less f more = let one : b < c = ranked b c Less (sym e) in let two : c < b = ranked c b Less (sym f) in absurd (omega arith)
    pick Less e Equal f more = let one : b < c = ranked b c Less (sym e) in let two : c ≡ b = ranked c b Equal (sym f) in absurd (omega arith)
    pick o e Greater f more = absurd (clash (bytes_cmp cs (bs ++ y)) (ap (λ (o : Ordering). ordering_then o (bytes_cmp cs (bs ++ y))) (sym f) ∙ less))
    pick Equal e Less f more = let one : b ≡ c = ranked b c Equal (sym e) in let two : c < b = ranked c b Less (sym f) in absurd (omega arith)
    pick Equal e Equal f more =
        let here : b ≡ c = ranked b c Equal (sym e) in
        let rest = more (ap (λ (o : Ordering). ordering_then o (bytes_cmp (bs ++ x) cs)) (sym e) ∙ lt) (ap (λ (o : Ordering). ordering_then o (bytes_cmp cs (bs ++ y))) (sym f) ∙ less) in
        (rest.0, ap (λ (n : ℕ). n ∷ cs) (sym here) ∙ ap (λ (l : List ℕ). b ∷ l) rest.1)

-- keys that begin with the same bytes lie together
pub begins_together : (bytes k l m : List ℕ) → begins_with bytes k ≡ true → begins_with bytes m ≡ true → bytes_cmp k l ≡ Less → bytes_cmp l m ≡ Less → begins_with bytes l ≡ true
begins_together bytes k l m first last lt less =
    let x = drop (length bytes) k in
    let y = drop (length bytes) m in
    let rest = together bytes x l y (subst (λ (q : List ℕ). bytes_cmp q l ≡ Less) (begins_parts bytes k first) lt) (subst (λ (q : List ℕ). bytes_cmp l q ≡ Less) (begins_parts bytes m last) less) in
    subst (λ (q : List ℕ). begins_with bytes q ≡ true) (sym rest.1) (begins_longer bytes rest.0)

-- ---- rows

module _ {A X : Type 0} (key : A → List ℕ) (bytes : List ℕ) where
  -- the next row is the next of those that begin so, if it does
  pub prefix_next : (rows : List (A × X)) (after : List ℕ) (row : A × X) → NextRow key rows after row → begins_with bytes (key row.0) ≡ true → NextRow key (with_prefix key bytes rows) after row
  prefix_next rows after row next e =
      let p : A × X → Bool = λ r. begins_with bytes (key r.0) in
      record {
        front = filter p next.front;
        back = filter p next.back;
        split = ap (filter p) next.split ∙ at_seam key p next.front next.back row true e;
        passed = all_filter (λ r. IsUpTo (key r.0) after) p next.front next.passed;
        above = next.above;
        later = all_filter (λ r. bytes_cmp (key row.0) (key r.0) ≡ Less) p next.back next.later;
      }

  -- with no row after a key there is none of them
  pub prefix_last : (rows : List (A × X)) (after : List ℕ) → NoneAfter key after rows → NoneAfter key after (with_prefix key bytes rows)
  prefix_last rows after none = all_filter (λ r. IsUpTo (key r.0) after) (λ r. begins_with bytes (key r.0)) rows none

  -- and if the next row doesn't begin so, none is left
  pub prefix_past : (rows : List (A × X)) (after : List ℕ) (row : A × X) → NextRow key rows after row → begins_with bytes after ≡ true → begins_with bytes (key row.0) ≡ false → NoneAfter key after (with_prefix key bytes rows)
  prefix_past rows after row next here past =
      let p : A × X → Bool = λ r. begins_with bytes (key r.0) in
      let apart : (r : A × X) → bytes_cmp (key row.0) (key r.0) ≡ Less → p r ≡ false = λ r lt. false_from_ne_true (p r) (λ e. not_both (p row) (begins_together bytes after (key row.0) (key r.0) here e next.above lt) past) in
      let none : filter p next.back ≡ [] = filter_none p next.back (all_weaker (λ r. bytes_cmp (key row.0) (key r.0) ≡ Less) (λ r. p r ≡ false) next.back apart next.later) in
      let split : with_prefix key bytes rows ≡ filter p next.front = ap (filter p) next.split ∙ at_seam key p next.front next.back row false past ∙ ap (λ (l : List (A × X)). filter p next.front ++ l) none ∙ append-nil (filter p next.front) in
      subst (NoneAfter key after) (sym split) (prefix_last next.front after next.passed)
