-- The keys of change rows: their order, and their numbers, which rise and are bounded.
use Rattle.std.proofs.Common.{◌≡◌, ℕ, ◌+◌, ◌*◌, ◌^◌, ◌<◌, ◌≤◌, List, refl, sym, ap, ◌∙◌, arith, mul-le-mul_left, Option, Some, None, IfSome, Ordering, Less, Equal, Greater}
use Rattle.std.specs.List.{AllByRecursion}
use Rattle.std.specs.Ordering.{nat_cmp, ordering_then}
use Rattle.std.specs.Cmp.{ranked}
use Rattle.world_store.specs.Words.{one_whole, IsChangeRow, change_row_spelling, one_change_row, IsChangeKey, change_key_spelling, change_key_cmp, one_change_key, ChangeRow, CdKey, AllAfter, SpellsApart, RowFits}
use Rattle.site_store.specs.Words.{after_key}
use Rattle.repl_model.specs.Words.{bytes_cmp, sequence_cmp}
use Rattle.stored_commits.specs.laws.CapturedPuts.{keys_in_order}
use Rattle.cd_tables.specs.laws.InOrder.{all_both}

-- ---- order

-- change rows that are spelled alike are one
pub changes_apart : SpellsApart (RowFits IsChangeKey IsChangeRow) change_key_spelling change_row_spelling
changes_apart r s fr fs keys values = λ i. (one_whole IsChangeKey change_key_spelling one_change_key r.0 s.0 fr.0 fs.0 keys i, one_whole IsChangeRow change_row_spelling one_change_row r.1 s.1 fr.1 fs.1 values i)

-- a later row isn't of an earlier unit
pub units_rise : (k l : CdKey) → IsChangeKey k → IsChangeKey l → bytes_cmp (change_key_spelling k) (change_key_spelling l) ≡ Less → k.commitseq ≤ l.commitseq
units_rise k l fk fl less = pick (nat_cmp k.commitseq l.commitseq) refl (sym (keys_in_order k l fk fl) ∙ less)
  where
    pick : (o : Ordering) → nat_cmp k.commitseq l.commitseq ≡ o → ordering_then o (sequence_cmp k.intentseq l.intentseq) ≡ Less → k.commitseq ≤ l.commitseq
    pick Less e h = omega (arith, ranked k.commitseq l.commitseq Less (sym e))
    pick Equal e h = omega (arith, ranked k.commitseq l.commitseq Equal (sym e))
    pick Greater e h = absurd cc

-- rows after one of a unit above a point are of units above it
pub units_above : (point : ℕ) (key : CdKey) → IsChangeKey key → point < key.commitseq → (rows : List (CdKey × ChangeRow)) → AllByRecursion (RowFits IsChangeKey IsChangeRow) rows → AllAfter change_key_spelling (change_key_spelling key) rows → AllByRecursion (λ r. point < r.0.commitseq) rows
units_above point key fits lt rows = all_both (RowFits IsChangeKey IsChangeRow) (λ r. bytes_cmp (change_key_spelling key) (change_key_spelling r.0) ≡ Less) (λ r. point < r.0.commitseq) rows (λ r fit less. omega (arith, lt, units_rise key r.0 fits fit.0 less))

-- ---- numbers

-- the number that a key's bytes are
abbrev key_rank : CdKey → ℕ
key_rank k = k.commitseq * 2 ^ 80 + (k.intentseq.position * 2 ^ 16 + k.intentseq.sub)

-- how many keys there are up to this one
abbrev pub rank_of : Option CdKey → ℕ
rank_of None = 0
rank_of (Some k) = key_rank k + 1

-- of two pairs of numbers the first has the lower number
ranks_pair : (m a b c d : ℕ) (o : Ordering) → c < m → ordering_then (nat_cmp a b) o ≡ Less → (o ≡ Less → c < d) → a * m + c < b * m + d
ranks_pair m a b c d o lt less rest = pick (nat_cmp a b) refl less
  where
    pick : (x : Ordering) → nat_cmp a b ≡ x → ordering_then x o ≡ Less → a * m + c < b * m + d
    pick Less e h =
        let le : a + 1 ≤ b = omega (arith, ranked a b Less (sym e)) in
        omega (arith, mul-le-mul_left m le)
    pick Equal e h =
        let same : a * m ≡ b * m = ap (λ (n : ℕ). n * m) (ranked a b Equal (sym e)) in
        let more : c < d = rest h in
        omega arith
    pick Greater e h = absurd cc

-- a later key has a higher number
key_rises : (k l : CdKey) → IsChangeKey k → IsChangeKey l → bytes_cmp (change_key_spelling k) (change_key_spelling l) ≡ Less → key_rank k < key_rank l
key_rises k l fk fl less =
    let s = k.intentseq in
    let t = l.intentseq in
    let small : s.position * 2 ^ 16 + s.sub < 2 ^ 80 = omega (arith, fk.1.0, fk.1.1) in
    let order : change_key_cmp k l ≡ Less = sym (keys_in_order k l fk fl) ∙ less in
    ranks_pair (2 ^ 80) k.commitseq l.commitseq (s.position * 2 ^ 16 + s.sub) (t.position * 2 ^ 16 + t.sub) (sequence_cmp s t) small order (λ h. ranks_pair (2 ^ 16) s.position t.position s.sub t.sub (nat_cmp s.sub t.sub) fk.1.1 h (λ e. ranked s.sub t.sub Less (sym e)))

-- so has the next key after one, or after none
pub rank_rises : (last : Option CdKey) (key : CdKey) → IfSome last IsChangeKey → IsChangeKey key → bytes_cmp (after_key change_key_spelling last) (change_key_spelling key) ≡ Less → rank_of last < rank_of (Some key)
rank_rises None key fit fits less = omega arith
rank_rises (Some k) key fit fits less = omega (arith, key_rises k key fit fits less)

-- the rank of a key is at most the number of keys
pub rank_small : (last : Option CdKey) → IfSome last IsChangeKey → rank_of last ≤ 2 ^ 144
rank_small None fit = omega arith
rank_small (Some k) fit = omega (arith, fit.0, fit.1.0, fit.1.1)
