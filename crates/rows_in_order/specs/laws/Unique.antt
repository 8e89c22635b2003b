-- At most one of the rows whose keys rise has a key.
use Rattle.std.proofs.Common.{◌≡◌, ◌⊎◌, ℕ, List, [], ◌∷◌, ◌++◌, sym, ap, subst, ◌∙◌, inl, inr, Less, Equal}
use Rattle.std.proofs.lemmas.Cmp.{tied_itself}
use Rattle.repl_types.specs.Bytes.{bytes_cmp}
use Rattle.rows_in_order.specs.Rows.{AllAfter, IsRising, HasRow}
use Rattle.rows_in_order.specs.laws.Before.{order}

-- no key is before itself
not_before_itself : (k : List ℕ) → bytes_cmp k k ≡ Less → ⊥
not_before_itself k e = clash (sym e ∙ tied_itself order k)
  where
    clash : Less ≡ Equal → ⊥
    clash e = cc

module _ {A X : Type 0} (key : A → List ℕ) where
  -- one of the rows is the first or one of the others
  head_or_later : (r : A × X) (rs : List (A × X)) (e : A × X) → HasRow (r ∷ rs) e → (r ≡ e) ⊎ HasRow rs e
  head_or_later r rs e has = at has.front has.split
    where
      heads : (a b : A × X) (xs ys : List (A × X)) → ◌≡◌ {A = List (A × X)} (a ∷ xs) (b ∷ ys) → a ≡ b
      heads a b xs ys e = cc

      tails : (a b : A × X) (xs ys : List (A × X)) → ◌≡◌ {A = List (A × X)} (a ∷ xs) (b ∷ ys) → xs ≡ ys
      tails a b xs ys e = cc

      at : (front : List (A × X)) → r ∷ rs ≡ front ++ e ∷ has.back → (r ≡ e) ⊎ HasRow rs e
      at [] split = inl (heads r e rs has.back split)
      at (q ∷ qs) split = inr (record { front = qs; back = has.back; split = tails r q rs (qs ++ e ∷ has.back) split })

  -- one of the rows after a key is after it
  has_after : (k : List ℕ) (rows : List (A × X)) (e : A × X) → AllAfter key k rows → HasRow rows e → bytes_cmp k (key e.0) ≡ Less
  has_after k rows e after has = at has.front (subst (AllAfter key k) has.split after)
    where
      at : (front : List (A × X)) → AllAfter key k (front ++ e ∷ has.back) → bytes_cmp k (key e.0) ≡ Less
      at [] after = after.0
      at (q ∷ qs) after = at qs after.1

  -- at most one row has a key
  pub one_row_at : (rows : List (A × X)) (row other : A × X) → IsRising key rows → HasRow rows row → HasRow rows other → key row.0 ≡ key other.0 → row ≡ other
  one_row_at [] row other rise has too same = absurd (empty has.front has.split)
    where
      empty : (front : List (A × X)) → [] ≡ front ++ row ∷ has.back → ⊥
      empty [] split = cc
      empty (q ∷ qs) split = cc
  one_row_at (r ∷ rs) row other rise has too same = elim (head_or_later r rs row has) [
    | inl first ↦ elim (head_or_later r rs other too) [
      | inl also ↦ sym first ∙ also
      | inr later ↦ absurd (not_before_itself (key r.0) (subst (λ (k : List ℕ). bytes_cmp (key r.0) k ≡ Less) (sym same ∙ ap (λ (e : A × X). key e.0) (sym first)) (has_after (key r.0) rs other rise.0 later)))
    ]
    | inr later ↦ elim (head_or_later r rs other too) [
      | inl first ↦ absurd (not_before_itself (key r.0) (subst (λ (k : List ℕ). bytes_cmp (key r.0) k ≡ Less) (same ∙ ap (λ (e : A × X). key e.0) (sym first)) (has_after (key r.0) rs row rise.0 later)))
      | inr also ↦ one_row_at rs row other rise.1 later also same
    ]
  ]
