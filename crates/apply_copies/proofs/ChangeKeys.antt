-- Where the change rows after a point start: proofs.
use Rattle.std.proofs.Common.{◌≡◌, ℕ, ◌-◌, ◌^◌, ◌<◌, ◌≤◌, false, refl, sym, ap, ◌∙◌, arith, nat_lt, Ordering, Less, Equal, Greater, lt-ltb, le-ltb}
use Rattle.std.specs.Ordering.{nat_cmp, ordering_then, is_lt}
use Rattle.std.specs.Cmp.{ranked}
use Rattle.world_store.specs.Words.{IsChangeKey, change_key_spelling, CdKey, is_before}
use Rattle.repl_model.specs.Words.{sequence_cmp, Sequence}
use Rattle.apply_copies.specs.Changing.{start_of}
use Rattle.stored_commits.specs.laws.CapturedPuts.{keys_in_order}

-- nothing is before a number that is at most this one
none_before : (most n : ℕ) → n ≤ most → nat_cmp most n ≡ Less → ⊥
none_before most n le less = let lt = ranked most n Less (sym less) in omega (arith, le, lt)

-- no sequence is after the last one
none_after : (s : Sequence) → s.position < 2 ^ 64 → s.sub < 2 ^ 16 → is_lt (sequence_cmp (start_of 0).intentseq s) ≡ false
none_after s few small = pick (nat_cmp (2 ^ 64 - 1) s.position) refl (nat_cmp (2 ^ 16 - 1) s.sub) refl
  where
    pick : (o : Ordering) → nat_cmp (2 ^ 64 - 1) s.position ≡ o → (q : Ordering) → nat_cmp (2 ^ 16 - 1) s.sub ≡ q → is_lt (ordering_then o q) ≡ false
    pick Less e q f = absurd (none_before (2 ^ 64 - 1) s.position (omega (arith, few)) e)
    pick Equal e Less f = absurd (none_before (2 ^ 16 - 1) s.sub (omega (arith, small)) f)
    pick Equal e Equal f = refl
    pick Equal e Greater f = refl
    pick Greater e q f = refl

-- a change row stands after the start of a point if its unit is after the point
pub starts_at : (point : ℕ) (k : CdKey) → IsChangeKey (start_of point) → IsChangeKey k → is_before (change_key_spelling (start_of point)) (change_key_spelling k) ≡ nat_lt point k.commitseq
starts_at point k fits fit = ap is_lt (keys_in_order (start_of point) k fits fit) ∙ pick (nat_cmp point k.commitseq) refl
  where
    pick : (o : Ordering) → nat_cmp point k.commitseq ≡ o → is_lt (ordering_then o (sequence_cmp (start_of point).intentseq k.intentseq)) ≡ nat_lt point k.commitseq
    pick Less e = sym (lt-ltb point k.commitseq (ranked point k.commitseq Less (sym e)))
    pick Equal e = let same = ranked point k.commitseq Equal (sym e) in none_after k.intentseq fit.1.0 fit.1.1 ∙ sym (le-ltb point k.commitseq (omega (arith, same)))
    pick Greater e = let more = ranked point k.commitseq Greater (sym e) in sym (le-ltb point k.commitseq (omega (arith, more)))
