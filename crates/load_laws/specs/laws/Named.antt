-- Rows of numbered things under their names, in the order of the names.
use Rattle.std.proofs.Common.{◌≡◌, ℕ, ◌+◌, Bool, true, List, ◌∷◌, ◌++◌, length, map, Option, Some, None, refl, sym, ap, subst, ◌∙◌, arith, find, option_map, bytes_eq, Ordering}
use Rattle.std.specs.List.{AllByRecursion, enumerate_from}
use Rattle.std.proofs.lemmas.List.{length-map}
use Rattle.std.proofs.lemmas.List.FromFn.{length-enumerate_from}
use Rattle.world_store.specs.Words.{name_cmp, set_cmp, Any, IsName, IsSet, short_text, set_spelling, whole_order, order_name, order_set, table_from_rows, same_is, RowFits, set_alike, no_rows}
use Rattle.repl_model.specs.Words.{bytes_cmp, all_differ, by_key, same_set, all_numbered, In, in_map, find_image, each_image, same_name, name_itself, same_id, id_itself}
use Rattle.keep_core.specs.Contents.{same_key}
use Rattle.load_laws.specs.planned.Planned.{with_rows}
use Rattle.load_laws.specs.laws.ByKey.{HasSame, by_key_table, by_key_same}
use Rattle.load_laws.specs.laws.Tables.{with_more}
use Rattle.load_laws.specs.laws.PlannedLists.{find_same, rows_differ, numbered_rows, numbered_differ, alike_is_one}

-- an image of an image
pub map_twice : {X Y Z : Type 0} (f : Y → Z) (g : X → Y) (o : Option X) → option_map f (option_map g o) ≡ option_map (λ x. f (g x)) o
map_twice f g None = refl
map_twice f g (Some x) = refl

-- Keys that have names as their spellings, in their order, and told apart by them.
pub record IsNaming {K : Type 0} (key : K → List ℕ) (fits : K → Type 0) (cmp : K → K → Ordering) (same : K → K → Bool) : Type 0 where
  pub in_order : (x y : K) → fits x → fits y → bytes_cmp (key x) (key y) ≡ cmp x y
  pub alike : (x y : K) → same_key (key x) (key y) ≡ true → same x y ≡ true
  pub exact : (x y : K) → same x y ≡ true → x ≡ y
  pub itself : (x : K) → same x x ≡ true

-- names of tables are such keys
pub names : IsNaming short_text IsName name_cmp bytes_eq
names = record {
  in_order = whole_order IsName short_text name_cmp order_name;
  alike = λ x y e. subst (λ (z : List ℕ). bytes_eq x z ≡ true) (text_is (length x) (length y) x y (same_is (short_text x) (short_text y) e)) (name_itself x);
  exact = same_name;
  itself = name_itself;
}
  where
    text_is : (m n : ℕ) (x y : List ℕ) → ◌≡◌ {A = List ℕ} (m ∷ x) (n ∷ y) → x ≡ y
    text_is m n x y e = cc

-- so are names of sets
pub set_names : IsNaming set_spelling IsSet set_cmp same_set
set_names = record {
  in_order = whole_order IsSet set_spelling set_cmp order_set;
  alike = λ x y e. sym (set_alike x y) ∙ e;
  exact = same_id;
  itself = id_itself;
}

module _ {K X Y : Type 0} (key : K → List ℕ) (fits : K → Type 0) (cmp : K → K → Ordering) (same : K → K → Bool) (naming : IsNaming key fits cmp same) (name : X → K) (make : ℕ × X → Y) where
  -- a numbered thing under its name
  abbrev entry : ℕ × X → K × Y
  entry t = (name t.1, make t)

  -- the names of things fit
  abbrev NamesFit : List X → Type 0
  NamesFit xs = AllByRecursion (λ x. fits (name x)) xs

  -- no two things have one name
  abbrev names_differ : List X → Bool
  names_differ xs = all_differ (λ a b. same (name a) (name b)) xs

  -- entries of names that fit have keys that fit
  entries_fit : (xs : List X) → NamesFit xs → AllByRecursion (RowFits fits Any) (map entry (enumerate_from 0 xs))
  entries_fit xs all = each_image (RowFits fits Any) entry (enumerate_from 0 xs) (all_numbered (λ x. fits (name x)) (λ t. RowFits fits Any (entry t)) (0 + length xs) 0 xs (omega arith) all (λ n x lt fit. (fit, tt)))

  -- they are the table in which they are put
  pub named_table : (value : Y → List ℕ) (xs : List X) → NamesFit xs → table_from_rows key value (by_key cmp (map entry (enumerate_from 0 xs))) ≡ with_rows key value (map entry (enumerate_from 0 xs)) no_rows
  named_table value xs all = by_key_table key fits cmp naming.in_order value (map entry (enumerate_from 0 xs)) (entries_fit xs all)

  -- they are the same in the order of their names, if these differ
  pub named_same : (xs : List X) → NamesFit xs → names_differ xs ≡ true → HasSame (by_key cmp (map entry (enumerate_from 0 xs))) (map entry (enumerate_from 0 xs))
  named_same xs all differ = by_key_same key fits cmp naming.in_order (map entry (enumerate_from 0 xs)) (entries_fit xs all)
      (rows_differ entry (λ a b. same_key (key a.0) (key b.0)) (λ a b. same (name a) (name b)) (λ n m x y e. naming.alike (name x) (name y) e) 0 xs differ)

  -- there are as many records as things
  pub named_count : (xs : List X) → NamesFit xs → names_differ xs ≡ true → length (map (λ r. r.1) (by_key cmp (map entry (enumerate_from 0 xs)))) ≡ length xs
  named_count xs all differ = length-map (by_key cmp (map entry (enumerate_from 0 xs))) (λ (r : K × Y). r.1) ∙ (named_same xs all differ).count ∙ length-map (enumerate_from 0 xs) entry ∙ length-enumerate_from 0 xs

  -- the record of a name is that of the thing of this name
  pub named_found : (named : Y → K) → ((t : ℕ × X) → named (make t) ≡ name t.1) → (xs : List X) → NamesFit xs → names_differ xs ≡ true → (k : K) → find (λ y. same k (named y)) (map (λ r. r.1) (by_key cmp (map entry (enumerate_from 0 xs)))) ≡ option_map make (find (λ t. same k (name t.1)) (enumerate_from 0 xs))
  named_found named is_named xs all differ k =
      find_image (λ (r : K × Y). r.1) (λ y. same k (named y)) (by_key cmp entries)
      ∙ ap (option_map (λ (r : K × Y). r.1)) (find_same (λ (r : K × Y). same k (named r.1)) (by_key cmp entries) entries same_rows.there same_rows.back alone ∙ find_image entry (λ (r : K × Y). same k (named r.1)) (enumerate_from 0 xs))
      ∙ map_twice (λ (r : K × Y). r.1) entry (find (λ (t : ℕ × X). same k (named (make t))) (enumerate_from 0 xs))
      ∙ (λ i. option_map make (find (λ (t : ℕ × X). same k (is_named t i)) (enumerate_from 0 xs)))
    where
      entries : List (K × Y)
      entries = map entry (enumerate_from 0 xs)

      same_rows : HasSame (by_key cmp entries) entries
      same_rows = named_same xs all differ

      alone : (r s : K × Y) → In r entries → In s entries → same k (named r.1) ≡ true → same k (named s.1) ≡ true → r ≡ s
      alone r s i j e f =
          let a = in_map entry (enumerate_from 0 xs) r i in
          let b = in_map entry (enumerate_from 0 xs) s j in
          let one : name a.0.1 ≡ k = sym (ap (λ (z : K × Y). named z.1) a.2 ∙ is_named a.0) ∙ sym (naming.exact k (named r.1) e) in
          let two : name b.0.1 ≡ k = sym (ap (λ (z : K × Y). named z.1) b.2 ∙ is_named b.0) ∙ sym (naming.exact k (named s.1) f) in
          a.2 ∙ ap entry (alike_is_one (λ (t : ℕ × X). name t.1) same naming.exact naming.itself (enumerate_from 0 xs) (numbered_differ (λ x z. same (name x) (name z)) 0 xs differ) a.0 b.0 a.1 b.1 (one ∙ sym two)) ∙ sym b.2

  -- rows of further things that are put make the table of both
  pub named_put : (value : Y → List ℕ) (xs ys loaded : List X) → NamesFit xs → NamesFit loaded → map entry (enumerate_from 0 loaded) ≡ map entry (enumerate_from 0 (xs ++ ys))
      → with_rows key value (map entry (enumerate_from (length xs) ys)) (table_from_rows key value (by_key cmp (map entry (enumerate_from 0 xs)))) ≡ table_from_rows key value (by_key cmp (map entry (enumerate_from 0 loaded)))
  named_put value xs ys loaded fit fits_loaded same_entries =
      ap (with_rows key value (map entry (enumerate_from (length xs) ys))) (named_table value xs fit)
      ∙ sym (with_more key value (map entry (enumerate_from 0 xs)) (map entry (enumerate_from (length xs) ys)) no_rows)
      ∙ ap (λ (rows : List (K × Y)). with_rows key value rows no_rows) (sym (numbered_rows entry xs ys) ∙ sym same_entries)
      ∙ sym (named_table value loaded fits_loaded)
