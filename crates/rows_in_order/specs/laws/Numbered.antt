-- Rows that are numbered in turn.
use Rattle.std.proofs.Common.{◌≡◌, ℕ, suc, ◌+◌, ◌-◌, ◌<◌, ◌≤◌, Bool, true, false, cond, List, [], ◌∷◌, ◌++◌, length, get_or, sym, ap, ◌∙◌, arith, inl, inr, Some, None}
use Rattle.std.specs.List.{enumerate_from}
use Rattle.std.proofs.lemmas.Bool.{cases_eq, cases_lt, eq-eqb}
use Rattle.keep_core.specs.Contents.{IsNextKey, IsLastKey, same_key, set_key}
use Rattle.rows_in_order.specs.Rows.{table_from_rows}
use Rattle.rows_in_order.specs.Numbers.{SpellsInOrder, AllBelow}
use Rattle.rows_in_order.specs.laws.Rising.{some_none, table_push}
use Rattle.rows_in_order.specs.laws.Written.{differ_numbers}
use Rattle.rows_in_order.specs.laws.ByNumber.{key_same, key_less, key_before, all_before}

module _ {X : Type 0} where
  -- the numbers are below any limit that leaves room for all rows
  pub numbered_below : (b m : ℕ) (xs : List X) → b + length xs ≤ m → AllBelow m (enumerate_from b xs)
  numbered_below b m [] le = tt
  numbered_below b m (x ∷ xs) le = (omega arith, numbered_below (b + 1) m xs (omega arith))

  -- rows of two lists in turn are numbered in turn
  pub numbered_parts : (b : ℕ) (xs ys : List X) → enumerate_from b (xs ++ ys) ≡ enumerate_from b xs ++ enumerate_from (b + length xs) ys
  numbered_parts b [] ys = ap (λ (n : ℕ). enumerate_from n ys) (omega arith)
  numbered_parts b (x ∷ xs) ys = ap (λ (l : List (ℕ × X)). (b, x) ∷ l) (numbered_parts (b + 1) xs ys ∙ ap (λ (n : ℕ). enumerate_from (b + 1) xs ++ enumerate_from n ys) (omega arith))

module _ {X : Type 0} (key : ℕ → List ℕ) (limit : ℕ) (in_order : SpellsInOrder key limit) (value : X → List ℕ) where
  -- what stands at the first number, and at another
  head_at : (b : ℕ) (x : X) (xs : List X) (t : Bool) (q : ℕ) → same_key (key b) (key q) ≡ t → table_from_rows key value (enumerate_from b (x ∷ xs)) (key q) ≡ cond t (Some (value x)) (table_from_rows key value (enumerate_from (b + 1) xs) (key q))
  head_at b x xs t q e = ap (λ (s : Bool). cond s (Some (value x)) (table_from_rows key value (enumerate_from (b + 1) xs) (key q))) e

  -- what stands at a number of one of them
  placed_at : (b q : ℕ) (xs : List X) (d : X) → b + length xs ≤ limit → b ≤ q → q < b + length xs → table_from_rows key value (enumerate_from b xs) (key q) ≡ Some (value (get_or xs (q - b) d))
  placed_at b q [] d few low high = absurd (omega arith)
  placed_at b q (x ∷ xs) d few low high = elim (cases_eq b q) [
    | inl e ↦ head_at b x xs true q (key_same key limit in_order b q (omega arith) (omega arith) ∙ eq-eqb b q e) ∙ ap (λ (n : ℕ). Some (value (get_or (x ∷ xs) n d))) (first (omega arith))
    | inr ne ↦ head_at b x xs false q (key_same key limit in_order b q (omega arith) (omega arith) ∙ differ_numbers b q ne) ∙ placed_at (b + 1) q xs d (omega arith) (omega arith) (omega arith) ∙ ap (λ (n : ℕ). Some (value (get_or (x ∷ xs) n d))) (later (omega arith))
  ]
    where
      first : q ≡ b → 0 ≡ q - b
      first e = omega arith

      later : b < q → suc (q - (b + 1)) ≡ q - b
      later lt = omega arith

  -- at each number stands the value of its row
  pub numbered_at : (b i : ℕ) (xs : List X) (d : X) → b + length xs ≤ limit → i < length xs → table_from_rows key value (enumerate_from b xs) (key (b + i)) ≡ Some (value (get_or xs i d))
  numbered_at b i xs d few lt = placed_at b (b + i) xs d few (omega arith) (omega arith) ∙ ap (λ (n : ℕ). Some (value (get_or xs n d))) (back (omega arith))
    where
      back : b ≤ b + i → b + i - b ≡ i
      back le = omega arith

  -- if something stands at a number, it is the number of one of them
  pub numbered_found : (b q : ℕ) (xs : List X) (v : List ℕ) → b + length xs ≤ limit → q < limit → table_from_rows key value (enumerate_from b xs) (key q) ≡ Some v → (b ≤ q) × (q < b + length xs)
  numbered_found b q [] v few small has = absurd (some_none key value (sym has))
  numbered_found b q (x ∷ xs) v few small has = elim (cases_eq b q) [
    | inl e ↦ (omega arith, omega arith)
    | inr ne ↦
        let rest = numbered_found (b + 1) q xs v (omega arith) small (sym (head_at b x xs false q (key_same key limit in_order b q (omega arith) small ∙ differ_numbers b q ne)) ∙ has) in
        (omega arith, omega arith)
  ]

  -- a number that has something standing at it
  there : (b q : ℕ) (xs : List X) → b + length xs ≤ limit → b ≤ q → q < b + length xs → table_from_rows key value (enumerate_from b xs) (key q) ≡ None → ⊥
  there b q [] few low high none = omega arith
  there b q (x ∷ xs) few low high none = some_none key value (sym (placed_at b q (x ∷ xs) x few low high) ∙ none)

  -- the next number is one more
  pub numbered_next : (b after q : ℕ) (xs : List X) (v : List ℕ) → b + length xs ≤ limit → after < limit → q < limit → b ≤ after + 1 → IsNextKey (table_from_rows key value (enumerate_from b xs)) (key after) (key q) v → (q ≡ after + 1) × (q < b + length xs)
  numbered_next b after q xs v few la lq le next =
      let above = key_less key limit in_order after q la lq next.above in
      let found = numbered_found b q xs v few lq next.has in
      let below : q < b + length xs = found.1 in
      elim (cases_lt (after + 1) q) [
        | inl lt ↦ absurd (there b (after + 1) xs few le (omega arith) (next.least (key (after + 1)) (key_before key limit in_order after (after + 1) la (omega arith) (omega arith)) (key_before key limit in_order (after + 1) q (omega arith) lq lt)))
        | inr ge ↦ (omega arith, below)
      ]

  -- with no number above, there are no more
  pub numbered_last : (b after : ℕ) (xs : List X) → b + length xs ≤ limit → b ≤ after + 1 → IsLastKey (table_from_rows key value (enumerate_from b xs)) (key after) → b + length xs ≤ after + 1
  numbered_last b after xs few le last = elim (cases_lt (after + 1) (b + length xs)) [
    | inl lt ↦ absurd (there b (after + 1) xs few le lt (last (key (after + 1)) (key_before key limit in_order after (after + 1) (omega arith) (omega arith) (omega arith))))
    | inr ge ↦ omega arith
  ]

  -- ---- writes

  -- a row that is put at the next number goes to the end
  pub numbered_push : (b : ℕ) (xs : List X) (x : X) → b + length xs < limit → table_from_rows key value (enumerate_from b (xs ++ x ∷ [])) ≡ set_key (table_from_rows key value (enumerate_from b xs)) (key (b + length xs)) (Some (value x))
  numbered_push b xs x few =
      let n = b + length xs in
      ap (table_from_rows key value) (numbered_parts b xs (x ∷ []))
      ∙ table_push key value (enumerate_from b xs) (n, x) (all_before key limit in_order n (enumerate_from b xs) few (numbered_below b n xs (omega arith)))
