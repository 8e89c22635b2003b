-- Rows whose keys rise: the next one, and those between two keys.
use Rattle.std.proofs.Common.{◌≡◌, ◌≢◌, ℕ, Bool, true, false, cond, List, [], ◌∷◌, ◌++◌, refl, sym, ap, subst, ◌∙◌, Option, Some, None, not, ◌&&◌, filter, is_lt, is_eq, Less}
use Rattle.std.specs.List.{AllByRecursion}
use Rattle.std.proofs.lemmas.Cmp.{tied_itself}
use Rattle.std.proofs.lemmas.List.Elements.{filter-append}
use Rattle.std.proofs.lemmas.Map.Lookups.{exact_bytes}
use Rattle.repl_types.specs.Bytes.{bytes_cmp}
use Rattle.keep_core.specs.Contents.{Table, IsNextKey, IsLastKey, same_key, set_key}
use Rattle.rows_in_order.specs.Rows.{is_before, IsUpTo, table_from_rows, AllBefore, AllAfter, NoneAfter, IsRising, between, HasRow, NextRow}
use Rattle.rows_in_order.specs.laws.Before.{order, is_less, is_equal, not_both, not_back, upto_itself, upto_before, upto_trans}
use Rattle.repl_types.specs.laws.Lists.{all_weaker, all_filter, filter_none, filter_alike}

-- ---- tests of keys

-- a key is itself
pub same_itself : (k : List ℕ) → same_key k k ≡ true
same_itself k = ap is_eq (tied_itself order k)

-- keys that are one are equal
pub same_is : (k q : List ℕ) → same_key k q ≡ true → k ≡ q
same_is k q e = exact_bytes k q (is_equal (bytes_cmp k q) e)

-- a key before another isn't that one
pub differ : (k l : List ℕ) → bytes_cmp k l ≡ Less → same_key k l ≡ false
differ k l lt = ap is_eq lt

-- whether a key is after the one and up to the other
abbrev pub part : List ℕ → List ℕ → List ℕ → Bool
part low high k = is_before low k && not (is_before high k)

-- a key past the end is outside
part_past : (low high k : List ℕ) → bytes_cmp high k ≡ Less → part low high k ≡ false
part_past low high k lt = ap (λ (t : Bool). is_before low k && not t) (ap is_lt lt) ∙ off (is_before low k)
  where
    off : (t : Bool) → (t && false) ≡ false
    off true = refl
    off false = refl

-- a key up to the start is outside
part_low : (low high k : List ℕ) → IsUpTo k low → part low high k ≡ false
part_low low high k le = ap (λ (t : Bool). t && not (is_before high k)) le

-- a key after the start and up to the end is inside
part_in : (low high k : List ℕ) → bytes_cmp low k ≡ Less → IsUpTo k high → part low high k ≡ true
part_in low high k lt le = ap (λ (t : Bool). t && not (is_before high k)) (ap is_lt lt) ∙ ap not le

-- where the end lies doesn't matter to a key up to both ends
part_same : (low high mid k : List ℕ) → IsUpTo k high → IsUpTo k mid → part low high k ≡ part low mid k
part_same low high mid k le more = ap (λ (t : Bool). is_before low k && not t) (le ∙ sym more)

-- where the start lies doesn't matter to a key after both
part_from : (low mid high k : List ℕ) → bytes_cmp low k ≡ Less → bytes_cmp mid k ≡ Less → part low high k ≡ part mid high k
part_from low mid high k lt more = ap (λ (t : Bool). t && not (is_before high k)) (ap is_lt lt ∙ sym (ap is_lt more))

module _ {A X : Type 0} (key : A → List ℕ) where
  -- the rows at a filter's seam
  pub at_seam : (p : A × X → Bool) (front back : List (A × X)) (r : A × X) (t : Bool) → p r ≡ t → filter p (front ++ r ∷ back) ≡ filter p front ++ cond t (r ∷ filter p back) (filter p back)
  at_seam p front back r t e = filter-append p front (r ∷ back) ∙ ap (λ (u : Bool). filter p front ++ cond u (r ∷ filter p back) (filter p back)) e

  -- ---- between two keys

  -- the first of the rows after a key is the next row
  pub between_first : (rows : List (A × X)) (after high : List ℕ) (r : A × X) → NextRow key rows after r → IsUpTo (key r.0) high → between key after high rows ≡ r ∷ between key (key r.0) high rows
  between_first rows after high r next le =
      let k = key r.0 in
      let old = λ (q : A × X). part after high (key q.0) in
      let new = λ (q : A × X). part k high (key q.0) in
      let none = λ (low : List ℕ) (past : IsUpTo after low). filter_none (λ (q : A × X). part low high (key q.0)) next.front (all_weaker (λ q. IsUpTo (key q.0) after) (λ q. part low high (key q.0) ≡ false) next.front (λ q more. part_low low high (key q.0) (upto_trans (key q.0) after low more past)) next.passed) in
      let alike = filter_alike old new next.back (all_weaker (λ q. bytes_cmp k (key q.0) ≡ Less) (λ q. old q ≡ new q) next.back (λ q lt. part_from after k high (key q.0) (order.trans after k (key q.0) next.above lt) lt) next.later) in
      ap (filter old) next.split
      ∙ at_seam old next.front next.back r true (part_in after high k next.above le)
      ∙ ap (λ (l : List (A × X)). l ++ r ∷ filter old next.back) (none after (upto_itself after))
      ∙ ap (λ (l : List (A × X)). r ∷ l) (alike ∙ sym (ap (filter new) next.split ∙ at_seam new next.front next.back r false (part_low k high k (upto_itself k)) ∙ ap (λ (l : List (A × X)). l ++ filter new next.back) (none k (not_back after k next.above))))

  -- with no row after a key there is none more
  pub between_none : (rows : List (A × X)) (low after high : List ℕ) → NoneAfter key after rows → IsUpTo after high → between key low high rows ≡ between key low after rows
  between_none rows low after high none le = filter_alike (λ r. part low high (key r.0)) (λ r. part low after (key r.0)) rows (all_weaker (λ r. IsUpTo (key r.0) after) (λ r. part low high (key r.0) ≡ part low after (key r.0)) rows (λ r more. part_same low high after (key r.0) (upto_trans (key r.0) after high more le) more) none)

  -- up to a key that the next row is after there is none more
  pub between_yet : (rows : List (A × X)) (low after high : List ℕ) (r : A × X) → NextRow key rows after r → IsUpTo after high → bytes_cmp high (key r.0) ≡ Less → between key low high rows ≡ between key low after rows
  between_yet rows low after high r next le lt =
      let k = key r.0 in
      let none = λ (h : List ℕ) (past : bytes_cmp h k ≡ Less). filter_none (λ (q : A × X). part low h (key q.0)) next.back (all_weaker (λ q. bytes_cmp k (key q.0) ≡ Less) (λ q. part low h (key q.0) ≡ false) next.back (λ q more. part_past low h (key q.0) (order.trans h k (key q.0) past more)) next.later) in
      let only = λ (h : List ℕ) (past : bytes_cmp h k ≡ Less). ap (filter (λ (q : A × X). part low h (key q.0))) next.split ∙ at_seam (λ (q : A × X). part low h (key q.0)) next.front next.back r false (part_past low h k past) ∙ ap (λ (l : List (A × X)). filter (λ (q : A × X). part low h (key q.0)) next.front ++ l) (none h past) in
      only high lt
      ∙ ap (λ (l : List (A × X)). l ++ []) (between_none next.front low after high next.passed le)
      ∙ sym (only after next.above)

  -- none is between a key and itself
  pub between_nothing : (rows : List (A × X)) (low : List ℕ) → between key low low rows ≡ []
  between_nothing [] low = refl
  between_nothing (r ∷ rs) low = ap (λ (t : Bool). cond t (r ∷ between key low low rs) (between key low low rs)) (never (is_before low (key r.0))) ∙ between_nothing rs low
    where
      never : (t : Bool) → (t && not t) ≡ false
      never true = refl
      never false = refl

  -- the rows between two keys are those up to one between, and those after it
  pub between_parts : (rows : List (A × X)) (low mid high : List ℕ) → IsRising key rows → IsUpTo low mid → IsUpTo mid high → between key low high rows ≡ between key low mid rows ++ between key mid high rows
  between_parts [] low mid high rise le more = refl
  between_parts (r ∷ rs) low mid high rise le more = pick (is_before mid (key r.0)) refl (between_parts rs low mid high rise.1 le more)
    where
      push : (t : Bool) → cond t (r ∷ (between key low mid rs ++ between key mid high rs)) (between key low mid rs ++ between key mid high rs) ≡ cond t (r ∷ between key low mid rs) (between key low mid rs) ++ between key mid high rs
      push true = refl
      push false = refl

      -- rows after the middle
      from : (rows : List (A × X)) → AllAfter key mid rows → (between key low high rows ≡ between key mid high rows) × (between key low mid rows ≡ [])
      from rows after = (
        filter_alike (λ q. part low high (key q.0)) (λ q. part mid high (key q.0)) rows (all_weaker (λ q. bytes_cmp mid (key q.0) ≡ Less) (λ q. part low high (key q.0) ≡ part mid high (key q.0)) rows (λ q lt. part_from low mid high (key q.0) (upto_before low mid (key q.0) le lt) lt) after),
        filter_none (λ q. part low mid (key q.0)) rows (all_weaker (λ q. bytes_cmp mid (key q.0) ≡ Less) (λ q. part low mid (key q.0) ≡ false) rows (λ q lt. part_past low mid (key q.0) lt) after),
      )

      pick : (t : Bool) → is_before mid (key r.0) ≡ t → between key low high rs ≡ between key low mid rs ++ between key mid high rs → between key low high (r ∷ rs) ≡ between key low mid (r ∷ rs) ++ between key mid high (r ∷ rs)
      pick true e rest =
          let lt = is_less (bytes_cmp mid (key r.0)) e in
          let all = from (r ∷ rs) (lt, all_weaker (λ q. bytes_cmp (key r.0) (key q.0) ≡ Less) (λ q. bytes_cmp mid (key q.0) ≡ Less) rs (λ q later. order.trans mid (key r.0) (key q.0) lt later) rise.0) in
          all.0 ∙ ap (λ (l : List (A × X)). l ++ between key mid high (r ∷ rs)) (sym all.1)
      pick false e rest =
          ap (λ (t : Bool). cond t (r ∷ between key low high rs) (between key low high rs)) (part_same low high mid (key r.0) (upto_trans (key r.0) mid high e more) e)
          ∙ ap (λ (l : List (A × X)). cond (part low mid (key r.0)) (r ∷ l) l) rest
          ∙ push (part low mid (key r.0))
          ∙ ap (λ (l : List (A × X)). between key low mid (r ∷ rs) ++ l) (sym (ap (λ (t : Bool). cond t (r ∷ between key mid high rs) (between key mid high rs)) (part_low mid high (key r.0) e)))

  -- ---- rows that rise

  -- a part of rising rows rises
  pub filter_rises : (p : A × X → Bool) (rows : List (A × X)) → IsRising key rows → IsRising key (filter p rows)
  filter_rises p [] rise = tt
  filter_rises p (r ∷ rs) rise = pick (p r) (filter_rises p rs rise.1)
    where
      pick : (t : Bool) → IsRising key (filter p rs) → IsRising key (cond t (r ∷ filter p rs) (filter p rs))
      pick true rest = (all_filter (λ q. bytes_cmp (key r.0) (key q.0) ≡ Less) p rs rise.0, rest)
      pick false rest = rest

  -- so do rising rows with one after them all
  pub rises_push : (rows : List (A × X)) (r : A × X) → IsRising key rows → AllBefore key (key r.0) rows → IsRising key (rows ++ r ∷ [])
  rises_push [] r rise before = (tt, tt)
  rises_push (q ∷ qs) r rise before = (more qs rise.0 before.0, rises_push qs r rise.1 before.1)
    where
      more : (rows : List (A × X)) → AllAfter key (key q.0) rows → bytes_cmp (key q.0) (key r.0) ≡ Less → AllAfter key (key q.0) (rows ++ r ∷ [])
      more [] after lt = (lt, tt)
      more (x ∷ xs) after lt = (after.0, more xs after.1 lt)

module _ {A X : Type 0} (key : A → List ℕ) (value : X → List ℕ) where
  -- ---- tables

  -- a row after all others is one key more
  pub table_push : (rows : List (A × X)) (r : A × X) → AllBefore key (key r.0) rows → table_from_rows key value (rows ++ r ∷ []) ≡ set_key (table_from_rows key value rows) (key r.0) (Some (value r.1))
  table_push [] r before = refl
  table_push (q ∷ qs) r before = λ i k. pick k (same_key (key q.0) k) (same_key (key r.0) k) (clash k) (ap (λ (t : Table). t k) (table_push qs r before.1)) i
    where
      clash : (k : List ℕ) → same_key (key q.0) k ≡ true → same_key (key r.0) k ≡ true → ⊥
      clash k a b =
          let one : key q.0 ≡ k = same_is (key q.0) k a in
          let two : key r.0 ≡ k = same_is (key r.0) k b in
          not_both (same_key (key q.0) (key r.0)) (subst (λ (l : List ℕ). same_key (key q.0) l ≡ true) (one ∙ sym two) (same_itself (key q.0))) (differ (key q.0) (key r.0) before.0)

      pick : (k : List ℕ) (a b : Bool) → (a ≡ true → b ≡ true → ⊥) → table_from_rows key value (qs ++ r ∷ []) k ≡ cond b (Some (value r.1)) (table_from_rows key value qs k) → cond a (Some (value q.1)) (table_from_rows key value (qs ++ r ∷ []) k) ≡ cond b (Some (value r.1)) (cond a (Some (value q.1)) (table_from_rows key value qs k))
      pick k true true no_both e = absurd (no_both refl refl)
      pick k true false no_both e = refl
      pick k false b no_both e = e

  -- what stands at the first row's key, and at each other
  pub at_head : (r : A × X) (rs : List (A × X)) → table_from_rows key value (r ∷ rs) (key r.0) ≡ Some (value r.1)
  at_head r rs = ap (λ (t : Bool). cond t (Some (value r.1)) (table_from_rows key value rs (key r.0))) (same_itself (key r.0))

  -- what stands at another key stands in the rest
  pub past_head : (r : A × X) (rs : List (A × X)) (k : List ℕ) → same_key (key r.0) k ≡ false → table_from_rows key value (r ∷ rs) k ≡ table_from_rows key value rs k
  past_head r rs k e = ap (λ (t : Bool). cond t (Some (value r.1)) (table_from_rows key value rs k)) e

  -- a value isn't none
  pub some_none : {v : List ℕ} → ◌≡◌ {A = Option (List ℕ)} (Some v) None → ⊥
  some_none e = cc

  -- if no key is after this one, no row is
  pub no_row : (rows : List (A × X)) (after : List ℕ) → IsLastKey (table_from_rows key value rows) after → NoneAfter key after rows
  no_row [] after last = tt
  no_row (r ∷ rs) after last = (
    first (is_before after (key r.0)) refl,
    no_row rs after (λ k lt. rest k (same_key (key r.0) k) refl (last k lt)),
  )
    where
      first : (t : Bool) → is_before after (key r.0) ≡ t → is_before after (key r.0) ≡ false
      first false e = e
      first true e = absurd (some_none (sym (at_head r rs) ∙ last (key r.0) (is_less (bytes_cmp after (key r.0)) e)))

      rest : (k : List ℕ) (t : Bool) → same_key (key r.0) k ≡ t → table_from_rows key value (r ∷ rs) k ≡ None → table_from_rows key value rs k ≡ None
      rest k false e none = sym (past_head r rs k e) ∙ none
      rest k true e none = absurd (some_none (sym (ap (λ (t : Bool). cond t (Some (value r.1)) (table_from_rows key value rs k)) e) ∙ none))

  -- one value is one
  pub some_is : {v w : List ℕ} → ◌≡◌ {A = Option (List ℕ)} (Some v) (Some w) → v ≡ w
  some_is e = cc

  -- what is found among rows after a key is after it
  pub found_after : (k l : List ℕ) (rows : List (A × X)) → AllAfter key k rows → (v : List ℕ) → table_from_rows key value rows l ≡ Some v → bytes_cmp k l ≡ Less
  found_after k l [] after v has = absurd (some_none (sym has))
  found_after k l (r ∷ rs) after v has = pick (same_key (key r.0) l) refl (found_after k l rs after.1 v)
    where
      pick : (t : Bool) → same_key (key r.0) l ≡ t → (table_from_rows key value rs l ≡ Some v → bytes_cmp k l ≡ Less) → bytes_cmp k l ≡ Less
      pick true same rest = subst (λ (m : List ℕ). bytes_cmp k m ≡ Less) (same_is (key r.0) l same) after.0
      pick false same rest = rest (sym (past_head r rs l same) ∙ has)

  -- without the first row's key the others are left
  pub table_pop : (r : A × X) (rs : List (A × X)) → AllAfter key (key r.0) rs → set_key (table_from_rows key value (r ∷ rs)) (key r.0) None ≡ table_from_rows key value rs
  table_pop r rs after = λ i k. pick k (same_key (key r.0) k) refl i
    where
      nothing : (o : Option (List ℕ)) → ((v : List ℕ) → o ≡ Some v → ⊥) → None ≡ o
      nothing None no_value = refl
      nothing (Some v) no_value = absurd (no_value v refl)

      pick : (k : List ℕ) (t : Bool) → same_key (key r.0) k ≡ t → set_key (table_from_rows key value (r ∷ rs)) (key r.0) None k ≡ table_from_rows key value rs k
      pick k true e = ap (λ (b : Bool). cond b None (table_from_rows key value (r ∷ rs) k)) e ∙ nothing (table_from_rows key value rs k) (λ v has. not_both (same_key (key r.0) k) e (differ (key r.0) k (found_after (key r.0) k rs after v has)))
      pick k false e = ap (λ (b : Bool). cond b None (table_from_rows key value (r ∷ rs) k)) e ∙ past_head r rs k e

  -- if nothing is found at a key, no row has it
  pub no_row_at : (rows : List (A × X)) (k : List ℕ) → table_from_rows key value rows k ≡ None → AllByRecursion (λ r. key r.0 ≢ k) rows
  no_row_at [] k none = tt
  no_row_at (r ∷ rs) k none = (
    λ e. some_none (sym (at_head r rs) ∙ ap (table_from_rows key value (r ∷ rs)) e ∙ none),
    no_row_at rs k (rest (same_key (key r.0) k) refl),
  )
    where
      rest : (t : Bool) → same_key (key r.0) k ≡ t → table_from_rows key value rs k ≡ None
      rest false e = sym (past_head r rs k e) ∙ none
      rest true e = absurd (some_none (sym (ap (λ (t : Bool). cond t (Some (value r.1)) (table_from_rows key value rs k)) e) ∙ none))

  -- at a row's key stands its value
  pub found_row : (rows : List (A × X)) (e : A × X) → IsRising key rows → HasRow rows e → table_from_rows key value rows (key e.0) ≡ Some (value e.1)
  found_row rows e rise has = ap (λ (l : List (A × X)). table_from_rows key value l (key e.0)) has.split ∙ within has.front (subst (IsRising key) has.split rise)
    where
      later : (r : A × X) (front : List (A × X)) → AllAfter key (key r.0) (front ++ e ∷ has.back) → bytes_cmp (key r.0) (key e.0) ≡ Less
      later r [] after = after.0
      later r (q ∷ qs) after = later r qs after.1

      within : (front : List (A × X)) → IsRising key (front ++ e ∷ has.back) → table_from_rows key value (front ++ e ∷ has.back) (key e.0) ≡ Some (value e.1)
      within [] rise = at_head e has.back
      within (r ∷ rs) rise = past_head r (rs ++ e ∷ has.back) (key e.0) (differ (key r.0) (key e.0) (later r rs rise.0)) ∙ within rs rise.1

  -- the next key is the next row's
  pub next_row : (rows : List (A × X)) (after : List ℕ) (e : A × X) → IsRising key rows → AllByRecursion (λ r. key r.0 ≡ key e.0 → value r.1 ≡ value e.1 → r ≡ e) rows → IsNextKey (table_from_rows key value rows) after (key e.0) (value e.1) → NextRow key rows after e
  next_row [] after e rise one next = absurd (some_none (sym next.has))
  next_row (r ∷ rs) after e rise one next = pick (is_before after (key r.0)) refl (next_row rs after e rise.1 one.1)
    where
      pick : (t : Bool) → is_before after (key r.0) ≡ t → (IsNextKey (table_from_rows key value rs) after (key e.0) (value e.1) → NextRow key rs after e) → NextRow key (r ∷ rs) after e
      pick true above rest = this (same_key (key r.0) (key e.0)) refl
        where
          this : (t : Bool) → same_key (key r.0) (key e.0) ≡ t → NextRow key (r ∷ rs) after e
          this true same =
              let keys : key r.0 ≡ key e.0 = same_is (key r.0) (key e.0) same in
              let values : value r.1 ≡ value e.1 = some_is (sym (ap (λ (t : Bool). cond t (Some (value r.1)) (table_from_rows key value rs (key e.0))) same) ∙ next.has) in
              record {
                front = [];
                back = rs;
                split = ap (λ (q : A × X). q ∷ rs) (one.0 keys values);
                passed = tt;
                above = next.above;
                later = subst (λ (k : List ℕ). AllAfter key k rs) keys rise.0;
              }
          this false same = absurd (some_none (sym (at_head r rs) ∙ next.least (key r.0) (is_less (bytes_cmp after (key r.0)) above) (found_after (key r.0) (key e.0) rs rise.0 (value e.1) (sym (past_head r rs (key e.0) same) ∙ next.has))))
      pick false passed rest =
          let past = λ (k : List ℕ) (lt : bytes_cmp after k ≡ Less). past_head r rs k (differ (key r.0) k (upto_before (key r.0) after k passed lt)) in
          let n = rest (record {
            above = next.above;
            has = sym (past (key e.0) next.above) ∙ next.has;
            least = λ q low high. sym (past q low) ∙ next.least q low high;
          }) in
          record {
            front = r ∷ n.front;
            back = n.back;
            split = ap (λ (l : List (A × X)). r ∷ l) n.split;
            passed = (passed, n.passed);
            above = n.above;
            later = n.later;
          }
