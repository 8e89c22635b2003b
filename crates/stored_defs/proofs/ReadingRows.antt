-- The records of a table are read one after another.
use Rattle.std.proofs.Common.{◌≡◌, ℕ, ◌<◌, List, [], ◌∷◌, ◌++◌, length, refl, sym, ap, subst, ◌∙◌, append_assoc, append-nil, length-append, arith, map, Option, Some, None}
use Rattle.std.proofs.lemmas.List.{nil_from_length, length-map}
use Rattle.world_store.specs.Words.{One, one_whole, table_from_rows, is_before, rows_after, SpellsApart, after_all, after_first, after_next, fits_next, all_some, no_row, definition_limit, RowFits, AreRows}
use Rattle.site_store.specs.Words.{Contents, Table, IsNextKey, IsLastKey, Kept, sees, after_key, Misread, MisspeltNext, reads_of_one, AtServer, Stays, Fails, Damages, at_most_itself, fails_after, next_fails, reads_more}
use Rattle.site_store.specs.declared.sites.Sites.{Sites}
use Rattle.repl_model.specs.Words.{Area, all_append, filter_none, Fault}
use Rattle.stored_defs.specs.Reading.{HasRecords, AllStand, table_rules}

module _ {A X : Type 0} (key_fits : A → Type 0) (key : A → List ℕ) (fits : X → Type 0) (spelling : X → List ℕ) (a : Area) (t : ℕ) where
  -- the records that were read, followed by those of the rows after the last key, are the records of all rows
  abbrev pub HasReadTo : Option A → List X → Contents → Type 0
  HasReadTo last records c = (rows : List (A × X)) → AreRows key_fits key fits rows → c a t ≡ table_from_rows key spelling rows → map (λ row. row.1) rows ≡ records ++ map (λ row. row.1) (rows_after key (after_key key last) rows)

  -- nothing was read yet
  pub reads_start : (c : Contents) → HasReadTo None [] c
  reads_start c rows are is = ap (map (λ (row : A × X). row.1)) (sym (after_all key [] rows (all_some key rows are.some)))

  -- rows are told apart by their spellings
  rows_apart : ((x y : A) → key_fits x → key_fits y → key x ≡ key y → x ≡ y) → One fits spelling → SpellsApart (RowFits key_fits fits) key spelling
  rows_apart one_key one r s fit fit_too keys values = λ i. (one_key r.0 s.0 fit.0 fit_too.0 keys i, one_whole fits spelling one r.1 s.1 fit.1 fit_too.1 values i)

  -- one more record was read
  pub reads_on : ((x y : A) → key_fits x → key_fits y → key x ≡ key y → x ≡ y) → One fits spelling → (c : Contents) (last : Option A) (records : List X) (k : A) (x : X) → key_fits k → fits x → IsNextKey (c a t) (after_key key last) (key k) (spelling x) → HasReadTo last records c → HasReadTo (Some k) (records ++ x ∷ []) c
  reads_on one_key one c last records k x fit_key fit next read rows are is =
      let after = after_key key last in
      let here = subst (λ (u : Table). IsNextKey u after (key k) (spelling x)) is next in
      let n = fits_next (RowFits key_fits fits) key spelling rows after (k, x) (rows_apart one_key one) are.fit (fit_key, fit) are.rise here in
      read rows are is
      ∙ ap (λ (l : List (A × X)). records ++ map (λ row. row.1) l) (after_first key rows after (k, x) n ∙ ap (λ (l : List (A × X)). (k, x) ∷ l) (sym (after_next key rows after (k, x) n)))
      ∙ sym (append_assoc records (x ∷ []) (map (λ row. row.1) (rows_after key (key k) rows)))

  -- there is no record more
  pub reads_last : (c : Contents) (last : Option A) (records : List X) → IsLastKey (c a t) (after_key key last) → HasReadTo last records c → HasRecords key_fits key fits spelling a t records c
  reads_last c last records none read rows are is =
      let after = after_key key last in
      let over = subst (λ (u : Table). IsLastKey u after) is none in
      sym (read rows are is ∙ ap (λ (l : List (A × X)). records ++ map (λ row. row.1) l) (filter_none (λ (r : A × X). is_before after (key r.0)) rows (no_row key spelling rows after over)) ∙ append-nil records)

  -- there can't be one more
  pub reads_full : (c : Contents) (last : Option A) (records : List X) → length records ≡ definition_limit → HasReadTo last records c → HasRecords key_fits key fits spelling a t records c
  reads_full c last records full read rows are is =
      let rest : List X = map (λ row. row.1) (rows_after key (after_key key last) rows) in
      let all : map (λ row. row.1) rows ≡ records ++ rest = read rows are is in
      let none : length rest ≡ 0 = omega (arith, full, are.few, length-map rows (λ (row : A × X). row.1), ap length all, length-append records rest) in
      sym (all ∙ ap (λ (l : List X). records ++ l) (nil_from_length rest none) ∙ append-nil records)

  -- the next record can't be read
  pub reads_fail : {K : Type 0} (kept : K → Kept) (s0 s1 s2 : Sites K) (server n : ℕ) (after : List ℕ) (e : Fault) → n < definition_limit → Stays kept s0 s1 (reads_of_one n server a) → Fails kept s1 s2 (reads_of_one 1 server a) (AtServer server (Misread a (MisspeltNext key_fits key fits spelling a t after (sees kept s1 server)))) e → Fails kept s0 s2 (reads_of_one definition_limit server a) (Damages (λ s. s ≡ server) (table_rules key_fits key fits spelling a t) kept s0) e
  reads_fail kept s0 s1 s2 server n after e lt stays f =
      let rules = table_rules key_fits key fits spelling a t in
      fails_after kept (λ s. s ≡ server) rules s0 s1 s2 (reads_of_one n server a) (reads_of_one 1 server a) (reads_of_one definition_limit server a) e (reads_more n 1 definition_limit server a (omega arith)) stays
      (next_fails kept key_fits key fits spelling (λ s. s ≡ server) rules s1 s2 server a t after (reads_of_one 1 server a) e refl (λ bytes h. h refl refl) (λ bytes h. h refl refl) (at_most_itself (reads_of_one 1 server a)) f)

-- one more record that stands in the table was read
pub stands_on_key : {X : Type 0} (spelling : X → List ℕ) (a : Area) (t : ℕ) (c : Contents) (records : List X) (after k : List ℕ) (x : X) → IsNextKey (c a t) after k (spelling x) → AllStand spelling a t records c → AllStand spelling a t (records ++ x ∷ []) c
stands_on_key spelling a t c records after k x next stand = all_append (λ y. (q : List ℕ) × (c a t q ≡ Some (spelling y))) records (x ∷ []) stand ((k, next.has), tt)
