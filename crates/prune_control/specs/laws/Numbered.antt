-- Rows under the numbers of the things that they are made of.
use Rattle.std.proofs.Common.{◌≡◌, ℕ, zero, suc, ◌+◌, ◌<◌, ◌≤◌, ◌^◌, Bool, cond, List, [], ◌∷◌, length, get_or, map, ap, subst, ◌∙◌, arith, Option, Some, None, IfSome, slice_get, option_map}
use Rattle.std.specs.List.{cons_option, enumerate_from, filter_map}
use Rattle.std.proofs.lemmas.List.{length-map}
use Rattle.std.proofs.lemmas.Option.{none-some, same_Some, slice_get_within, slice_get-map, get_or_from_slice_get}
use Rattle.world_store.specs.Words.{b32, table_from_rows, key_same, numbered_at, same_itself, differ_numbers}
use Rattle.site_store.specs.Words.{same_key}
use Rattle.stored_commits.specs.actions.laws.Numbered.{small_in_order, numbered_images}

-- ---- each thing makes a row

-- under a thing's number stands its row
pub row_at : {X R : Type 0} (row : X → R) (value : R → List ℕ) (n : ℕ) (x : X) (xs : List X) → length xs ≤ 2 ^ 32 → slice_get xs n ≡ Some x → table_from_rows b32 value (map (λ s. (s.0, row s.1)) (enumerate_from 0 xs)) (b32 n) ≡ Some (value (row x))
row_at {X} {R} row value n x xs few at =
    let image : slice_get (map row xs) n ≡ Some (row x) = slice_get-map row xs n ∙ ap (option_map row) at in
    let within : n < length (map row xs) = slice_get_within (map row xs) n (row x) image in
    ap (λ (rows : List (ℕ × R)). table_from_rows b32 value rows (b32 n)) (numbered_images row 0 xs)
    ∙ subst (λ (m : ℕ). table_from_rows b32 value (enumerate_from 0 (map row xs)) (b32 m) ≡ Some (value (get_or (map row xs) n (row x)))) from_zero (numbered_at b32 (2 ^ 32) small_in_order value 0 n (map row xs) (row x) (omega (arith, few, length-map xs row)) within)
    ∙ ap (λ (r : R). Some (value r)) (get_or_from_slice_get (map row xs) n (row x) (row x) image)
  where
    from_zero : 0 + n ≡ n
    from_zero = omega arith

-- ---- some things make a row

module _ {X R : Type 0} (entry : ℕ × X → Option (ℕ × R)) (has : (n : ℕ) (x : X) → IfSome (entry (n, x)) (λ e. e.0 ≡ n)) (value : R → List ℕ) where
  -- under a thing's number stands its row, if it makes one
  pub entry_at : (b n q : ℕ) (x : X) (e : ℕ × R) (xs : List X) → q ≡ b + n → b + length xs ≤ 2 ^ 32 → slice_get xs n ≡ Some x → entry (q, x) ≡ Some e → table_from_rows b32 value (filter_map entry (enumerate_from b xs)) (b32 q) ≡ Some (value e.1)
  entry_at b n q x e [] is few at made = absurd (none-some x at)
  entry_at b zero q x e (y ∷ ys) is few at made =
      let first : b ≡ q = omega (arith, is) in
      let here : entry (b, y) ≡ Some e = ap entry (λ i. (first i, same_Some y x at i)) ∙ made in
      let own : e.0 ≡ b = subst (λ (o : Option (ℕ × R)). IfSome o (λ d. d.0 ≡ b)) here (has b y) in
      ap (λ (o : Option (ℕ × R)). table_from_rows b32 value (cons_option o (filter_map entry (enumerate_from (b + 1) ys))) (b32 q)) here
      ∙ ap (λ (t : Bool). cond t (Some (value e.1)) (table_from_rows b32 value (filter_map entry (enumerate_from (b + 1) ys)) (b32 q))) (ap (λ (m : ℕ). same_key (b32 m) (b32 q)) (own ∙ first) ∙ same_itself (b32 q))
  entry_at b (suc n) q x e (y ∷ ys) is few at made = pick (entry (b, y)) (has b y) (entry_at (b + 1) n q x e ys (omega arith) (omega arith) at made)
    where
      within : n < length ys
      within = slice_get_within ys n x at

      pick : (o : Option (ℕ × R)) → IfSome o (λ d. d.0 ≡ b) → table_from_rows b32 value (filter_map entry (enumerate_from (b + 1) ys)) (b32 q) ≡ Some (value e.1) → table_from_rows b32 value (cons_option o (filter_map entry (enumerate_from (b + 1) ys))) (b32 q) ≡ Some (value e.1)
      pick None own rest = rest
      pick (Some d) own rest = ap (λ (t : Bool). cond t (Some (value d.1)) (table_from_rows b32 value (filter_map entry (enumerate_from (b + 1) ys)) (b32 q))) (key_same b32 (2 ^ 32) small_in_order d.0 q (omega (arith, own, within)) (omega (arith, within)) ∙ differ_numbers d.0 q (λ same. absurd (omega (arith, own, same)))) ∙ rest
