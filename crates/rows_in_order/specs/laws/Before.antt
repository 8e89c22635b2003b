-- The order of keys.
use Rattle.std.proofs.Common.{◌≡◌, ℕ, ◌<◌, Bool, true, false, List, [], ◌∷◌, length, arith, refl, sym, ap, ◌∙◌, Ordering, Less, Equal, Greater}
use Rattle.std.specs.Ordering.{is_lt, is_eq, ordering_reverse, ordering_then}
use Rattle.std.specs.Cmp.{IsTotalOrder}
use Rattle.std.proofs.lemmas.Cmp.{nat_list_cmp_total, tied_itself, alike_right}
use Rattle.repl_types.specs.Bytes.{bytes_cmp}
use Rattle.rows_in_order.specs.Rows.{is_before, IsUpTo}
use Rattle.keep_core.specs.Contents.{same_key}

-- keys are in a total order
pub order : IsTotalOrder bytes_cmp
order = nat_list_cmp_total

-- a test of the order that passes
pub is_less : (o : Ordering) → is_lt o ≡ true → o ≡ Less
is_less Less e = refl
is_less Equal e = absurd cc
is_less Greater e = absurd cc

-- a test of sameness that passes
pub is_equal : (o : Ordering) → is_eq o ≡ true → o ≡ Equal
is_equal Equal e = refl
is_equal Less e = absurd cc
is_equal Greater e = absurd cc

-- a test is not both
pub not_both : (t : Bool) → t ≡ true → t ≡ false → ⊥
not_both t e f = cc

-- no key is before one that is before it
pub not_back : (a b : List ℕ) → bytes_cmp a b ≡ Less → IsUpTo a b
not_back a b lt = ap is_lt (order.antisymm b a ∙ ap ordering_reverse lt)

-- a key is up to itself
pub upto_itself : (a : List ℕ) → IsUpTo a a
upto_itself a = ap is_lt (tied_itself order a)

-- what is up to a key isn't after it
pub not_after : (a b : List ℕ) → IsUpTo a b → bytes_cmp a b ≡ Greater → ⊥
not_after a b le e = not_both (is_before b a) (ap is_lt (order.antisymm b a ∙ ap ordering_reverse e)) le

-- what is up to a key is before what that is before
pub upto_before : (a b c : List ℕ) → IsUpTo a b → bytes_cmp b c ≡ Less → bytes_cmp a c ≡ Less
upto_before a b c le lt = pick (bytes_cmp a b) refl
  where
    pick : (o : Ordering) → bytes_cmp a b ≡ o → bytes_cmp a c ≡ Less
    pick Less e = order.trans a b c e lt
    pick Equal e = order.congr a b c e ∙ lt
    pick Greater e = absurd (not_after a b le e)

-- what is before a key is before what that is up to
pub before_upto : (a b c : List ℕ) → bytes_cmp a b ≡ Less → IsUpTo b c → bytes_cmp a c ≡ Less
before_upto a b c lt le = pick (bytes_cmp b c) refl
  where
    pick : (o : Ordering) → bytes_cmp b c ≡ o → bytes_cmp a c ≡ Less
    pick Less e = order.trans a b c lt e
    pick Equal e = sym (alike_right order b c a e) ∙ lt
    pick Greater e = absurd (not_after b c le e)

-- being up to a key goes on
pub upto_trans : (a b c : List ℕ) → IsUpTo a b → IsUpTo b c → IsUpTo a c
upto_trans a b c le more = pick (is_before c a) refl
  where
    pick : (t : Bool) → is_before c a ≡ t → is_before c a ≡ false
    pick false e = e
    pick true e = absurd (not_both (is_before c b) (ap is_lt (before_upto c a b (is_less (bytes_cmp c a) e) le)) more)

-- no key is before the empty one
pub empty_first : (a : List ℕ) → IsUpTo [] a
empty_first [] = refl
empty_first (b ∷ bs) = refl

-- the empty one is before each key
pub empty_before : (a : List ℕ) → 0 < length a → bytes_cmp [] a ≡ Less
empty_before [] lt = absurd (omega arith)
empty_before (b ∷ bs) lt = refl

-- keys that are the same aren't apart
pub tied_not_greater : (k q : List ℕ) → k ≡ q → bytes_cmp k q ≡ Greater → ⊥
tied_not_greater k q same e = clash (sym (tied_itself order k) ∙ ap (bytes_cmp k) same ∙ e)
  where
    clash : Equal ≡ Greater → ⊥
    clash e = cc

-- what is up to a key and isn't that one is before it
pub before_key : (k q : List ℕ) → is_before k q ≡ false → same_key k q ≡ false → bytes_cmp q k ≡ Less
before_key k q upto apart = pick (bytes_cmp k q) refl
  where
    pick : (o : Ordering) → bytes_cmp k q ≡ o → bytes_cmp q k ≡ Less
    pick Less e = absurd (not_both (is_before k q) (ap is_lt e) upto)
    pick Equal e = absurd (not_both (same_key k q) (ap is_eq e) apart)
    pick Greater e = order.antisymm q k ∙ ap ordering_reverse e

-- both of two comparisons tie
pub both_tie : (a b : Ordering) → ordering_then a b ≡ Equal → (a ≡ Equal) × (b ≡ Equal)
both_tie Less b e = absurd cc
both_tie Equal b e = (refl, e)
both_tie Greater b e = absurd cc
