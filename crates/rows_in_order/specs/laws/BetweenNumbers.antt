-- The rows between two numbers: as those between two keys, under a spelling that suits every number.
use Rattle.std.proofs.Common.{◌≡◌, ℕ, ◌+◌, ◌<◌, ◌≤◌, List, [], ◌∷◌, ◌++◌, refl, sym, ap, subst, ◌∙◌, arith, Ordering, Less, Equal, Greater}
use Rattle.std.specs.Ordering.{nat_cmp, ordering_then}
use Rattle.rows_in_order.specs.Rows.{between}
use Rattle.rows_in_order.specs.Numbers.{SpellsInOrder, AllBelow, NoneAbove, NumbersRise, numbers_between, NextNumber}
use Rattle.rows_in_order.specs.laws.ByNumber.{key_before, key_upto, none_after, rises, between_is, key_next}
use Rattle.rows_in_order.specs.laws.Rising.{between_nothing, between_first, between_yet, between_none, between_parts}

-- a number as the only item of a list
pub lone : ℕ → List ℕ
lone n = n ∷ []

-- such lists are in the order of the numbers
pub lone_order : (limit : ℕ) → SpellsInOrder lone limit
unfolding lone
lone_order limit a b la lb = then_equal (nat_cmp a b)
  where
    then_equal : (o : Ordering) → ordering_then o Equal ≡ o
    then_equal Less = refl
    then_equal Equal = refl
    then_equal Greater = refl

module _ {X : Type 0} where
  -- a number above all rows' numbers
  pub limit_of : List (ℕ × X) → ℕ
  limit_of [] = 0
  limit_of (r ∷ rs) = r.0 + 1 + limit_of rs

  -- all rows' numbers are below that number, and below higher ones
  pub below : (rows : List (ℕ × X)) (n : ℕ) → AllBelow (limit_of rows + n) rows
  unfolding limit_of
  below [] n = tt
  below (r ∷ rs) n = (omega arith, subst (λ (m : ℕ). AllBelow m rs) (sum (limit_of rs)) (below rs (r.0 + 1 + n)))
    where
      sum : (m : ℕ) → m + (r.0 + 1 + n) ≡ r.0 + 1 + m + n
      sum m = omega arith

  -- no row is above a number and up to it
  pub numbers_nothing : (rows : List (ℕ × X)) (low : ℕ) → numbers_between low low rows ≡ []
  numbers_nothing rows low =
      let m = limit_of rows + (low + 1) in
      sym (between_is lone m (lone_order m) low low rows (omega arith) (omega arith) (below rows (low + 1))) ∙ between_nothing lone rows (lone low)

  -- the first of the rows above a number is the next row
  pub numbers_first : (rows : List (ℕ × X)) (after high : ℕ) (row : ℕ × X) → NextNumber rows after row → row.0 ≤ high → numbers_between after high rows ≡ row ∷ numbers_between row.0 high rows
  numbers_first rows after high row next le =
      let n = high + after + row.0 + 1 in
      let m = limit_of rows + n in
      let is = λ (low : ℕ) (ll : low < m). between_is lone m (lone_order m) low high rows ll (omega arith) (below rows n) in
      sym (is after (omega arith))
      ∙ between_first lone rows (lone after) (lone high) row (key_next lone m (lone_order m) after rows row (omega arith) (below rows n) next) (key_upto lone m (lone_order m) row.0 high (omega arith) (omega arith) le)
      ∙ ap (λ (l : List (ℕ × X)). row ∷ l) (is row.0 (omega arith))

  -- up to a number that the next row is above, there are no more rows
  pub numbers_yet : (rows : List (ℕ × X)) (low after high : ℕ) (row : ℕ × X) → NextNumber rows after row → after ≤ high → high < row.0 → numbers_between low high rows ≡ numbers_between low after rows
  numbers_yet rows low after high row next le lt =
      let n = low + high + after + row.0 + 1 in
      let m = limit_of rows + n in
      let is = λ (top : ℕ) (lt : top < m). between_is lone m (lone_order m) low top rows (omega arith) lt (below rows n) in
      sym (is high (omega arith))
      ∙ between_yet lone rows (lone low) (lone after) (lone high) row (key_next lone m (lone_order m) after rows row (omega arith) (below rows n) next) (key_upto lone m (lone_order m) after high (omega arith) (omega arith) le) (key_before lone m (lone_order m) high row.0 (omega arith) (omega arith) lt)
      ∙ is after (omega arith)

  -- if no row is above a number, there are no more rows up to a later one
  pub numbers_none : (rows : List (ℕ × X)) (low after high : ℕ) → NoneAbove after rows → after ≤ high → numbers_between low high rows ≡ numbers_between low after rows
  numbers_none rows low after high none le =
      let n = low + high + after + 1 in
      let m = limit_of rows + n in
      let is = λ (top : ℕ) (lt : top < m). between_is lone m (lone_order m) low top rows (omega arith) lt (below rows n) in
      sym (is high (omega arith))
      ∙ between_none lone rows (lone low) (lone after) (lone high) (none_after lone m (lone_order m) after rows (omega arith) (below rows n) none) (key_upto lone m (lone_order m) after high (omega arith) (omega arith) le)
      ∙ is after (omega arith)

  -- the rows between two numbers are those up to a number between them, and those above it
  pub numbers_parts : (rows : List (ℕ × X)) (low mid high : ℕ) → NumbersRise rows → low ≤ mid → mid ≤ high → numbers_between low high rows ≡ numbers_between low mid rows ++ numbers_between mid high rows
  numbers_parts rows low mid high rise le more =
      let n = low + mid + high + 1 in
      let m = limit_of rows + n in
      let is = λ (bottom top : ℕ) (lb : bottom < m) (lt : top < m). between_is lone m (lone_order m) bottom top rows lb lt (below rows n) in
      sym (is low high (omega arith) (omega arith))
      ∙ between_parts lone rows (lone low) (lone mid) (lone high) (rises lone m (lone_order m) rows (below rows n) rise) (key_upto lone m (lone_order m) low mid (omega arith) (omega arith) le) (key_upto lone m (lone_order m) mid high (omega arith) (omega arith) more)
      ∙ ap (λ (l : List (ℕ × X)). l ++ between lone (lone mid) (lone high) rows) (is low mid (omega arith) (omega arith))
      ∙ ap (λ (l : List (ℕ × X)). numbers_between low mid rows ++ l) (is mid high (omega arith) (omega arith))
