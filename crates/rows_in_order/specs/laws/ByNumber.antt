-- Rows whose keys are numbers, by the numbers.
use Rattle.std.proofs.Common.{◌≡◌, ℕ, ◌<◌, ◌≤◌, Bool, List, [], ◌∷◌, ◌++◌, refl, sym, ap, subst, ◌∙◌, arith, ltb, leb, not, ◌&&◌, ◌==◌, nat_cmp, is_lt, is_eq, Less, eq-eqb, eqb-true, le-ltb, ltb-false}
use Rattle.std.specs.List.{AllByRecursion}
use Rattle.std.specs.Cmp.{ranked}
use Rattle.std.proofs.lemmas.Bool.Decides.{nat_tests}
use Rattle.repl_types.specs.Bytes.{bytes_cmp}
use Rattle.keep_core.specs.Contents.{IsNextKey, IsLastKey, same_key}
use Rattle.rows_in_order.specs.Rows.{is_before, IsUpTo, table_from_rows, AllBefore, AllAfter, NoneAfter, IsRising, IsToldApart, between, NextRow}
use Rattle.rows_in_order.specs.Numbers.{SpellsInOrder, AllBelow, AllAbove, NoneAbove, NumbersRise, numbers_between, NextNumber}
use Rattle.repl_types.specs.laws.Lists.{filter_alike}
use Rattle.rows_in_order.specs.laws.Rising.{part, next_row, no_row}

-- ---- tests

-- the tests of an order are those of numbers
is_ltb : (a b : ℕ) → is_lt (nat_cmp a b) ≡ ltb a b
is_ltb a b = grind (arith, nat_tests)

-- so is the test of sameness
is_eqb : (a b : ℕ) → is_eq (nat_cmp a b) ≡ (a == b)
is_eqb a b = grind (arith, nat_tests)

-- a lower number is before a higher one
lt_less : (a b : ℕ) → a < b → nat_cmp a b ≡ Less
lt_less a b lt = grind (arith, nat_tests)

-- the opposite of being lower
not_ltb : (a b : ℕ) → not (ltb a b) ≡ leb b a
not_ltb a b = grind (arith, nat_tests)

module _ (key : ℕ → List ℕ) (limit : ℕ) (in_order : SpellsInOrder key limit) where
  -- ---- spelled numbers

  -- two spelled numbers are the same key if and only if the numbers are equal
  pub key_same : (a b : ℕ) → a < limit → b < limit → same_key (key a) (key b) ≡ (a == b)
  key_same a b la lb = ap is_eq (in_order a b la lb) ∙ is_eqb a b

  -- one spelled number is before another if and only if the number is lower
  pub key_is_before : (a b : ℕ) → a < limit → b < limit → is_before (key a) (key b) ≡ ltb a b
  key_is_before a b la lb = ap is_lt (in_order a b la lb) ∙ is_ltb a b

  -- a number whose key is before another's is lower
  pub key_less : (a b : ℕ) → a < limit → b < limit → bytes_cmp (key a) (key b) ≡ Less → a < b
  key_less a b la lb e = ranked a b Less (sym e ∙ in_order a b la lb)

  -- the key of a lower number is before that of a higher one
  pub key_before : (a b : ℕ) → a < limit → b < limit → a < b → bytes_cmp (key a) (key b) ≡ Less
  key_before a b la lb lt = in_order a b la lb ∙ lt_less a b lt

  -- if a number isn't higher than another, its key isn't after the other's
  pub key_upto : (a b : ℕ) → a < limit → b < limit → a ≤ b → IsUpTo (key a) (key b)
  key_upto a b la lb le = key_is_before b a lb la ∙ le-ltb b a le

  -- and the other way round
  pub key_most : (a b : ℕ) → a < limit → b < limit → IsUpTo (key a) (key b) → a ≤ b
  key_most a b la lb e = ltb-false b a (sym (key_is_before b a lb la) ∙ e)

  -- numbers of one key are equal
  pub key_one : (a b : ℕ) → a < limit → b < limit → key a ≡ key b → a ≡ b
  key_one a b la lb e = eqb-true a b (sym (key_same a b la lb) ∙ ap (λ (k : List ℕ). same_key k (key b)) e ∙ key_same b b lb lb ∙ eq-eqb b b refl)

  module _ {X : Type 0} where
    -- ---- rows

    -- rows of numbers below one are before its key
    pub all_before : (n : ℕ) (rows : List (ℕ × X)) → n < limit → AllBelow n rows → AllBefore key (key n) rows
    all_before n [] ln all = tt
    all_before n (r ∷ rs) ln all = let lt : r.0 < n = all.0 in (key_before r.0 n (omega arith) ln lt, all_before n rs ln all.1)

    -- rows of numbers above one are after its key
    pub all_after : (n : ℕ) (rows : List (ℕ × X)) → n < limit → AllBelow limit rows → AllAbove n rows → AllAfter key (key n) rows
    all_after n [] ln small all = tt
    all_after n (r ∷ rs) ln small all = (key_before n r.0 ln small.0 all.0, all_after n rs ln small.1 all.1)

    -- rows whose numbers rise have keys that rise
    pub rises : (rows : List (ℕ × X)) → AllBelow limit rows → NumbersRise rows → IsRising key rows
    rises [] small rise = tt
    rises (r ∷ rs) small rise = (all_after r.0 rs small.0 small.1 rise.0, rises rs small.1 rise.1)

    -- if no row's number is above one, no row is after its key
    pub none_after : (n : ℕ) (rows : List (ℕ × X)) → n < limit → AllBelow limit rows → NoneAbove n rows → NoneAfter key (key n) rows
    none_after n [] ln small none = tt
    none_after n (r ∷ rs) ln small none = (key_upto r.0 n small.0 ln none.0, none_after n rs ln small.1 none.1)

    -- and the other way round
    none_above : (n : ℕ) (rows : List (ℕ × X)) → n < limit → AllBelow limit rows → NoneAfter key (key n) rows → NoneAbove n rows
    none_above n [] ln small none = tt
    none_above n (r ∷ rs) ln small none = (key_most r.0 n small.0 ln none.0, none_above n rs ln small.1 none.1)

    -- rows after a number's key have numbers above it
    all_above : (n : ℕ) (rows : List (ℕ × X)) → n < limit → AllBelow limit rows → AllAfter key (key n) rows → AllAbove n rows
    all_above n [] ln small all = tt
    all_above n (r ∷ rs) ln small all = (key_less n r.0 ln small.0 all.0, all_above n rs ln small.1 all.1)

    -- the rows between the keys of two numbers are those between the numbers
    pub between_is : (low high : ℕ) (rows : List (ℕ × X)) → low < limit → high < limit → AllBelow limit rows → between key (key low) (key high) rows ≡ numbers_between low high rows
    between_is low high rows ll lh small = filter_alike (λ r. part (key low) (key high) (key r.0)) (λ r. ltb low r.0 && leb r.0 high) rows (alike rows small)
      where
        alike : (rows : List (ℕ × X)) → AllBelow limit rows → AllByRecursion (λ r. part (key low) (key high) (key r.0) ≡ (ltb low r.0 && leb r.0 high)) rows
        alike [] small = tt
        alike (r ∷ rs) small = (
          ap (λ (b : Bool). b && not (is_before (key high) (key r.0))) (key_is_before low r.0 ll small.0) ∙ ap (λ (b : Bool). ltb low r.0 && not b) (key_is_before high r.0 lh small.0) ∙ ap (λ (b : Bool). ltb low r.0 && b) (not_ltb high r.0),
          alike rs small.1,
        )

    -- rows whose keys rise have numbers that rise
    pub number_rises : (rows : List (ℕ × X)) → AllBelow limit rows → IsRising key rows → NumbersRise rows
    number_rises [] small rise = tt
    number_rises (r ∷ rs) small rise = (all_above r.0 rs small.0 small.1 rise.0, number_rises rs small.1 rise.1)

    -- the parts of rows below a limit
    below_parts : (front : List (ℕ × X)) (row : ℕ × X) (back : List (ℕ × X)) → AllBelow limit (front ++ row ∷ back) → AllBelow limit front × (row.0 < limit) × AllBelow limit back
    below_parts [] row back small = (tt, small.0, small.1)
    below_parts (r ∷ rs) row back small = let rest = below_parts rs row back small.1 in ((small.0, rest.0), rest.1, rest.2)

    -- the next row by keys is the next by numbers
    number_next : (after : ℕ) (rows : List (ℕ × X)) (row : ℕ × X) → after < limit → AllBelow limit rows → NextRow key rows (key after) row → NextNumber rows after row
    number_next after rows row la small next =
        let parts = below_parts next.front row next.back (subst (AllBelow limit) next.split small) in
        record {
          front = next.front;
          back = next.back;
          split = next.split;
          passed = none_above after next.front la parts.0 next.passed;
          above = key_less after row.0 la parts.1 next.above;
          later = all_above row.0 next.back parts.1 parts.2 next.later;
        }

    -- and the other way round
    pub key_next : (after : ℕ) (rows : List (ℕ × X)) (row : ℕ × X) → after < limit → AllBelow limit rows → NextNumber rows after row → NextRow key rows (key after) row
    key_next after rows row la small next =
        let parts = below_parts next.front row next.back (subst (AllBelow limit) next.split small) in
        record {
          front = next.front;
          back = next.back;
          split = next.split;
          passed = none_after after next.front la parts.0 next.passed;
          above = key_before after row.0 la parts.1 next.above;
          later = all_after row.0 next.back parts.1 parts.2 next.later;
        }

    -- a read of the next key gives the next number
    pub read_next : (value : X → List ℕ) (after : ℕ) (rows : List (ℕ × X)) (row : ℕ × X) → after < limit → row.0 < limit → AllBelow limit rows → NumbersRise rows → AllByRecursion (λ r. r.0 ≡ row.0 → value r.1 ≡ value row.1 → r ≡ row) rows → IsNextKey (table_from_rows key value rows) (key after) (key row.0) (value row.1) → NextNumber rows after row
    read_next value after rows row la lr small rise apart next = number_next after rows row la small (next_row key value rows (key after) row (rises rows small rise) (told rows small apart) next)
      where
        told : (rows : List (ℕ × X)) → AllBelow limit rows → AllByRecursion (λ r. r.0 ≡ row.0 → value r.1 ≡ value row.1 → r ≡ row) rows → IsToldApart key value rows row
        told [] small apart = tt
        told (r ∷ rs) small apart = (λ e. apart.0 (key_one r.0 row.0 small.0 lr e), told rs small.1 apart.1)

    -- a read that gives none shows that none is above
    pub read_last : (value : X → List ℕ) (after : ℕ) (rows : List (ℕ × X)) → after < limit → AllBelow limit rows → IsLastKey (table_from_rows key value rows) (key after) → NoneAbove after rows
    read_last value after rows la small last = none_above after rows la small (no_row key value rows (key after) last)
