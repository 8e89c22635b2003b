-- The units of a log have no more changes together than the log has records: each change is of one unit at most.
use Rattle.std.proofs.Common.{◌≡◌, ℕ, ◌+◌, ◌<◌, ◌≤◌, Bool, true, false, ◌&&◌, cond, List, [], ◌∷◌, length, filter, fold, refl, sym, ap, subst, ◌∙◌, arith, inl, inr, ◌==◌, nat_lt, if◌then◌else◌, Some, None}
use Rattle.std.specs.List.{AllByRecursion, enumerate_from, filter_map, cons_option}
use Rattle.std.proofs.lemmas.Bool.{and_parts, and_from, eqb-true, eq-eqb, lt-ltb, ltb-true}
use Rattle.std.proofs.lemmas.List.FromFn.{length-enumerate_from}
use Rattle.repl_model.specs.Words.{LogRecord, Placed, At, positions, ends, last_end, change_of, unit_at, units, In, at_one}
use Rattle.repl_types.specs.declared.record.LogRecord.TheVariants as records
use Rattle.repl_types.specs.declared.unit.Unit.{Unit as LogUnit}
use Rattle.rows_in_order.specs.Numbers.{AllAbove, NumbersRise}

-- how many changes units have together
abbrev pub total_changes : List LogUnit → ℕ
total_changes [] = 0
total_changes (u ∷ us) = length u.changes + total_changes us

-- ---- counting pairs

-- how many elements pass a test
abbrev count : {X : Type 0} → (X → Bool) → List X → ℕ
count p [] = 0
count p (x ∷ xs) = cond (p x) 1 0 + count p xs

-- how many pairs of elements of two lists pass one
abbrev pairs : {X Y : Type 0} → (X → Y → Bool) → List X → List Y → ℕ
pairs p [] ys = 0
pairs p (x ∷ xs) ys = count (p x) ys + pairs p xs ys

-- with nothing there are no pairs
pairs_none : {X Y : Type 0} (p : X → Y → Bool) (xs : List X) → pairs p xs [] ≡ 0
pairs_none p [] = refl
pairs_none p (x ∷ xs) = let rest = pairs_none p xs in omega (arith, rest)

-- one more element on the right
pairs_more : {X Y : Type 0} (p : X → Y → Bool) (xs : List X) (y : Y) (ys : List Y) → pairs p xs (y ∷ ys) ≡ count (λ x. p x y) xs + pairs p xs ys
pairs_more p [] y ys = refl
pairs_more p (x ∷ xs) y ys = let rest = pairs_more p xs y ys in omega (arith, rest)

-- if each on the right is in one pair at most, there are no more pairs than elements on the right
pairs_few : {X Y : Type 0} (p : X → Y → Bool) (xs : List X) (ys : List Y) → AllByRecursion (λ y. count (λ x. p x y) xs ≤ 1) ys → pairs p xs ys ≤ length ys
pairs_few p xs [] all = omega (arith, pairs_none p xs)
pairs_few p xs (y ∷ ys) all = omega (arith, pairs_more p xs y ys, all.0, pairs_few p xs ys all.1)

-- none passes a test that each fails
count_none : {X : Type 0} (p : ℕ × X → Bool) (xs : List (ℕ × X)) → ((x : ℕ × X) → In x xs → p x ≡ true → ⊥) → count p xs ≡ 0
count_none p [] fails = refl
count_none {X} p (x ∷ xs) fails = pick (p x) refl (count_none p xs (λ y i. fails y (inr i)))
  where
    pick : (b : Bool) → p x ≡ b → count p xs ≡ 0 → cond b 1 0 + count p xs ≡ 0
    pick true e rest = absurd (fails x (inl refl) e)
    pick false e rest = omega (arith, rest)

-- of things whose numbers rise one passes a test at most, if no two do
count_one : {X : Type 0} (p : ℕ × X → Bool) (xs : List (ℕ × X)) → NumbersRise xs → ((x y : ℕ × X) → In x xs → In y xs → x.0 < y.0 → p x ≡ true → p y ≡ true → ⊥) → count p xs ≤ 1
count_one p [] rise apart = omega arith
count_one {X} p (x ∷ xs) rise apart = pick (p x) refl (count_one p xs rise.1 (λ y z i j. apart y z (inr i) (inr j)))
  where
    pick : (b : Bool) → p x ≡ b → count p xs ≤ 1 → cond b 1 0 + count p xs ≤ 1
    pick true e rest = omega (arith, count_none p xs (λ y i f. apart x y (inl refl) (inr i) (at_one (λ (z : ℕ × X). x.0 < z.0) xs y rise.0 i) e f))
    pick false e rest = omega (arith, rest)

-- ---- positions

-- positions from one on are above a lower one
pub positions_above : (n b : ℕ) (log : List LogRecord) → n < b → AllAbove n (enumerate_from b log)
positions_above n b [] lt = tt
positions_above n b (r ∷ log) lt = (lt, positions_above n (b + 1) log (omega (arith, lt)))

-- positions rise
pub positions_rise : (b : ℕ) (log : List LogRecord) → NumbersRise (enumerate_from b log)
positions_rise b [] = tt
positions_rise b (r ∷ log) = (positions_above b (b + 1) log (omega arith), positions_rise (b + 1) log)

module _ (tx before : ℕ) where
  -- a record ends the transaction before the position
  abbrev ends_before : At → Bool
  ends_before r = ends tx r.1 && nat_lt r.0 before

  -- the position of the last of some records that do
  abbrev last_of : ℕ → List At → ℕ
  last_of last rs = fold (λ last r. if ends tx r.1 && nat_lt r.0 before then r.0 else last) last rs

  -- it is no lower than the one before
  last_keeps : (last : ℕ) (rs : List At) → AllAbove last rs → NumbersRise rs → last ≤ last_of last rs
  last_keeps last [] above rise = omega arith
  last_keeps last (r ∷ rs) above rise = pick (ends_before r) (last_keeps r.0 rs rise.0 rise.1) (last_keeps last rs above.1 rise.1)
    where
      pick : (b : Bool) → r.0 ≤ last_of r.0 rs → last ≤ last_of last rs → last ≤ last_of (cond b r.0 last) rs
      pick true here rest = omega (arith, above.0, here)
      pick false here rest = rest

  -- nor than that of any of them
  last_reaches : (last : ℕ) (rs : List At) (c : At) → NumbersRise rs → In c rs → ends_before c ≡ true → c.0 ≤ last_of last rs
  last_reaches last [] c rise i e = absurd i
  last_reaches last (r ∷ rs) c rise (inl is) e = ap_le (ends_before r) (ap ends_before (sym is) ∙ e)
    where
      ap_le : (b : Bool) → b ≡ true → c.0 ≤ last_of (cond b r.0 last) rs
      ap_le true f = subst (λ (q : At). q.0 ≤ last_of r.0 rs) (sym is) (last_keeps r.0 rs rise.0 rise.1)
      ap_le false f = absurd cc
  last_reaches last (r ∷ rs) c rise (inr i) e = last_reaches (cond (ends_before r) r.0 last) rs c rise.1 i e

-- ---- which unit has a change

module _ (log : List LogRecord) where
  -- the record is a change of a transaction
  abbrev is_change : ℕ → LogRecord → Bool
  is_change tx (records.Change t change) = t == tx
  is_change tx (records.Commit t time authid origin) = false
  is_change tx (records.Abort t) = false

  -- a record stands between the last end of a transaction before a position and that position
  abbrev stands_between : ℕ → ℕ → At → Bool
  stands_between tx pos q = nat_lt (last_end tx pos log) q.0 && nat_lt q.0 pos

  -- the unit that a record ends has the change that a record is
  abbrev has_change : At → At → Bool
  has_change (pos, records.Change tx change) q = false
  has_change (pos, records.Commit tx time authid origin) q = stands_between tx pos q && is_change tx q.1
  has_change (pos, records.Abort tx) q = false

  -- the changes of a transaction are counted by the records that are
  changes_counted : (tx : ℕ) (within : At → Bool) (rs : List At) → length (filter_map (change_of tx) (filter within rs)) ≤ count (λ q. within q && is_change tx q.1) rs
  changes_counted tx within [] = omega arith
  changes_counted tx within (r ∷ rs) = pick (within r) r.1 refl (changes_counted tx within rs)
    where
      made : (b : Bool) (n : ℕ) (change : Placed) → length (filter_map (change_of tx) (filter within rs)) ≤ n → length (cons_option (cond b (Some change) None) (filter_map (change_of tx) (filter within rs))) ≤ cond b 1 0 + n
      made true n change le = omega (arith, le)
      made false n change le = omega (arith, le)

      pick : (b : Bool) (record_is : LogRecord) → r.1 ≡ record_is → length (filter_map (change_of tx) (filter within rs)) ≤ count (λ q. within q && is_change tx q.1) rs → length (filter_map (change_of tx) (cond b ((r.0, record_is) ∷ filter within rs) (filter within rs))) ≤ cond (b && is_change tx record_is) 1 0 + count (λ q. within q && is_change tx q.1) rs
      pick true (records.Change t change) is le = made (t == tx) (count (λ q. within q && is_change tx q.1) rs) (record { pos = r.0; change = change }) le
      pick true (records.Commit t time authid origin) is le = omega (arith, le)
      pick true (records.Abort t) is le = omega (arith, le)
      pick false record_is is le = omega (arith, le)

  -- so are those of all units
  units_counted : (cs : List At) → total_changes (filter_map (unit_at log) cs) ≤ pairs has_change cs (positions log)
  units_counted [] = omega arith
  units_counted (c ∷ cs) = pick c.1 refl (units_counted cs)
    where
      pick : (record_is : LogRecord) → c.1 ≡ record_is → total_changes (filter_map (unit_at log) cs) ≤ pairs has_change cs (positions log) → total_changes (cons_option (unit_at log (c.0, record_is)) (filter_map (unit_at log) cs)) ≤ count (has_change (c.0, record_is)) (positions log) + pairs has_change cs (positions log)
      pick (records.Change tx change) is le = omega (arith, le)
      pick (records.Commit tx time authid origin) is le = omega (arith, le, changes_counted tx (stands_between tx c.0) (positions log))
      pick (records.Abort tx) is le = omega (arith, le)

  -- a change isn't of two units
  one_unit : (c d q : At) → In c (positions log) → c.0 < d.0 → has_change c q ≡ true → has_change d q ≡ true → ⊥
  one_unit (m, records.Change tx change) d q i lt e f = absurd cc
  one_unit (m, records.Abort tx) d q i lt e f = absurd cc
  one_unit (m, records.Commit tx time authid origin) (n, records.Change t change) q i lt e f = absurd cc
  one_unit (m, records.Commit tx time authid origin) (n, records.Abort t) q i lt e f = absurd cc
  one_unit (m, records.Commit tx time authid origin) (n, records.Commit t late other from) q i lt e f =
      let x = and_parts (stands_between tx m q) (is_change tx q.1) e in
      let y = and_parts (stands_between t n q) (is_change t q.1) f in
      let before = and_parts (nat_lt (last_end tx m log) q.0) (nat_lt q.0 m) x.0 in
      let after = and_parts (nat_lt (last_end t n log) q.0) (nat_lt q.0 n) y.0 in
      let same = one_transaction q.1 x.1 y.1 in
      let reached = last_reaches t n 0 (positions log) (m, records.Commit tx time authid origin) (positions_rise 1 log) i (and_from (tx == t) (nat_lt m n) (eq-eqb tx t same) (lt-ltb m n lt)) in
      omega (arith, reached, ltb-true q.0 m before.1, ltb-true (last_end t n log) q.0 after.0)
    where
      one_transaction : (r : LogRecord) → is_change tx r ≡ true → is_change t r ≡ true → tx ≡ t
      one_transaction (records.Change own change) a b = sym (eqb-true own tx a) ∙ eqb-true own t b
      one_transaction (records.Commit own at by of) a b = absurd cc
      one_transaction (records.Abort own) a b = absurd cc

  -- so all units have no more changes than the log has records
  pub changes_few : total_changes (units log) ≤ length log
  unfolding units
  changes_few = omega (arith, units_counted (positions log), pairs_few has_change (positions log) (positions log) (each (positions log)), length-enumerate_from 1 log)
    where
      each : (qs : List At) → AllByRecursion (λ q. count (λ c. has_change c q) (positions log) ≤ 1) qs
      each [] = tt
      each (q ∷ qs) = (count_one (λ c. has_change c q) (positions log) (positions_rise 1 log) (λ c d i j lt. one_unit c d q i lt), each qs)
