-- The rows after a key.
use Rattle.std.proofs.Common.{◌≡◌, ℕ, true, false, cond, Bool, List, ◌∷◌, ◌++◌, sym, ap, ◌∙◌, None, filter, is_lt, Less}
use Rattle.std.proofs.lemmas.List.Elements.{filter-append}
use Rattle.repl_types.specs.Bytes.{bytes_cmp}
use Rattle.keep_core.specs.Contents.{IsNextKey, IsLastKey}
use Rattle.rows_in_order.specs.Rows.{is_before, IsUpTo, table_from_rows, AllAfter, NoneAfter, rows_after, NextRow}
use Rattle.rows_in_order.specs.laws.Before.{order, not_back, upto_itself, upto_trans}
use Rattle.rows_in_order.specs.laws.Changed.{filter_at}
use Rattle.repl_types.specs.laws.Lists.{all_weaker, filter_none, filter_all}
use Rattle.rows_in_order.specs.laws.Rising.{at_seam}

module _ {A X : Type 0} (key : A → List ℕ) where
  -- if all rows are after a key, they are the rows after it
  pub after_all : (k : List ℕ) (rows : List (A × X)) → AllAfter key k rows → rows_after key k rows ≡ rows
  after_all k rows after = filter_all (λ r. is_before k (key r.0)) rows (all_weaker (λ r. bytes_cmp k (key r.0) ≡ Less) (λ r. is_before k (key r.0) ≡ true) rows (λ r lt. ap is_lt lt) after)

  -- the rows after a key are the next row and those behind it
  pub after_first : (rows : List (A × X)) (after : List ℕ) (row : A × X) (next : NextRow key rows after row) → rows_after key after rows ≡ row ∷ next.back
  after_first rows after row next =
      let p : A × X → Bool = λ r. is_before after (key r.0) in
      ap (filter p) next.split
      ∙ filter-append p next.front (row ∷ next.back)
      ∙ ap (λ (l : List (A × X)). l ++ filter p (row ∷ next.back)) (filter_none p next.front next.passed)
      ∙ after_all after (row ∷ next.back) (next.above, all_weaker (λ r. bytes_cmp (key row.0) (key r.0) ≡ Less) (λ r. bytes_cmp after (key r.0) ≡ Less) next.back (λ r lt. order.trans after (key row.0) (key r.0) next.above lt) next.later)

  -- up to a key that the next row is after, the rows after it are the same
  pub after_yet : (rows : List (A × X)) (after high : List ℕ) (row : A × X) → NextRow key rows after row → IsUpTo after high → bytes_cmp high (key row.0) ≡ Less → rows_after key high rows ≡ rows_after key after rows
  after_yet rows after high row next le lt =
      let passed = all_weaker (λ r. IsUpTo (key r.0) after) (λ r. IsUpTo (key r.0) high) next.front (λ r more. upto_trans (key r.0) after high more le) next.passed in
      after_first rows high row (record { front = next.front; back = next.back; split = next.split; passed = passed; above = lt; later = next.later }) ∙ sym (after_first rows after row next)

  -- if no row is after a key, none is after a later one
  pub after_none : (rows : List (A × X)) (after high : List ℕ) → NoneAfter key after rows → IsUpTo after high → rows_after key high rows ≡ rows_after key after rows
  after_none rows after high none le = filter_none (λ r. is_before high (key r.0)) rows (all_weaker (λ r. IsUpTo (key r.0) after) (λ r. IsUpTo (key r.0) high) rows (λ r more. upto_trans (key r.0) after high more le) none) ∙ sym (filter_none (λ r. is_before after (key r.0)) rows none)

  -- the rows after the next row are those behind it
  pub after_next : (rows : List (A × X)) (after : List ℕ) (row : A × X) (next : NextRow key rows after row) → rows_after key (key row.0) rows ≡ next.back
  after_next rows after row next =
      let k = key row.0 in
      let p : A × X → Bool = λ r. is_before k (key r.0) in
      let none = all_weaker (λ r. IsUpTo (key r.0) after) (λ r. IsUpTo (key r.0) k) next.front (λ r le. upto_trans (key r.0) after k le (not_back after k next.above)) next.passed in
      ap (filter p) next.split
      ∙ at_seam key p next.front next.back row false (upto_itself k)
      ∙ ap (λ (l : List (A × X)). l ++ filter p next.back) (filter_none p next.front none)
      ∙ after_all k next.back next.later

  module _ (value : X → List ℕ) where
    -- what stands at a key after another stands among the rows after that
    at_after : (rows : List (A × X)) (after q : List ℕ) → bytes_cmp after q ≡ Less → table_from_rows key value (rows_after key after rows) q ≡ table_from_rows key value rows q
    at_after rows after q lt =
        filter_at key value (λ r. is_before after (key r.0)) q (is_before after q) (λ r e. ap (is_before after) e) rows
        ∙ ap (λ (t : Bool). cond t (table_from_rows key value rows q) None) (ap is_lt lt)

    -- the next key among the rows after a key is the next of all rows
    pub next_after : (rows : List (A × X)) (after k v : List ℕ) → IsNextKey (table_from_rows key value (rows_after key after rows)) after k v → IsNextKey (table_from_rows key value rows) after k v
    next_after rows after k v next = record {
      above = next.above;
      has = sym (at_after rows after k next.above) ∙ next.has;
      least = λ q low high. sym (at_after rows after q low) ∙ next.least q low high;
    }

    -- and if those have none, all rows have none
    pub last_after : (rows : List (A × X)) (after : List ℕ) → IsLastKey (table_from_rows key value (rows_after key after rows)) after → IsLastKey (table_from_rows key value rows) after
    last_after rows after last = λ q lt. sym (at_after rows after q lt) ∙ last q lt
