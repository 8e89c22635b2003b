-- The table of a name among the stored definitions of a server.
use Rattle.std.proofs.Common.{◌≡◌, ℕ, ◌+◌, Bool, true, false, cond, List, [], ◌∷◌, length, map, refl, sym, ap, subst, ◌∙◌, arith, inl, ◌||◌, find, Option, Some, None, is_some, slice_get, bytes_eq}
use Rattle.std.specs.List.{AllByRecursion, enumerate_from, list_all, list_any}
use Rattle.std.specs.Ordering.{is_eq, eq_by_cmp}
use Rattle.std.proofs.lemmas.Bool.{false≢true, and_parts}
use Rattle.world_store.specs.Words.{name_cmp, Any, IsName, short_text, one_whole, whole_order, order_name, name_cmp_exact, table_from_rows, row_of, fits_each, same_itself, same_is, numbered_tables, table_rows, RowFits, spelled_cmp, by_key_has, table_rows_are}
use Rattle.repl_model.specs.Words.{bytes_cmp, is_name, ColumnDef, DefinedTable, defined_table_spelling, IsDefinedTable, one_defined_table, all_differ, KeepsTable, ServerKeepsRules, table_limit, ServerTable, Server, World, server_table, row_is_entry, numbered_place, at_place_in, In, in_map, in_second, found_in, only_one, each_image, same_name, name_itself, alike, all_numbered}

-- the entry of a table
abbrev entry : ℕ × ServerTable → List ℕ × DefinedTable
entry t = (t.1.def.name, record { number = t.0; def = t.1.def })

-- spellings of names are alike if the names are
names_alike : (a b : List ℕ) → is_eq (bytes_cmp (short_text a) (short_text b)) ≡ bytes_eq a b
names_alike a b = alike (is_eq (bytes_cmp (short_text a) (short_text b))) (bytes_eq a b) there back
  where
    tail_is : (m n : ℕ) (x y : List ℕ) → ◌≡◌ {A = List ℕ} (m ∷ x) (n ∷ y) → x ≡ y
    tail_is m n x y e = cc

    there : is_eq (bytes_cmp (short_text a) (short_text b)) ≡ true → bytes_eq a b ≡ true
    there e = subst (λ (l : List ℕ). bytes_eq a l ≡ true) (tail_is (length a) (length b) a b (same_is (short_text a) (short_text b) e)) (name_itself a)

    back : bytes_eq a b ≡ true → is_eq (bytes_cmp (short_text a) (short_text b)) ≡ true
    back e = subst (λ (l : List ℕ). is_eq (bytes_cmp (short_text a) (short_text l)) ≡ true) (same_name a b e) (same_itself (short_text a))

-- an entry has a name if a table has it
any_table : (name : List ℕ) (n : ℕ) (tables : List ServerTable) → list_any (λ e. eq_by_cmp (spelled_cmp short_text) name e.0) (map entry (enumerate_from n tables)) ≡ is_some (find (λ t. bytes_eq name t.def.name) tables)
any_table name n [] = refl
any_table name n (t ∷ ts) =
    ap (λ (b : Bool). b || list_any (λ (e : List ℕ × DefinedTable). eq_by_cmp (spelled_cmp short_text) name e.0) (map entry (enumerate_from (n + 1) ts))) (names_alike name t.def.name)
    ∙ ap (λ (b : Bool). bytes_eq name t.def.name || b) (any_table name (n + 1) ts)
    ∙ push (bytes_eq name t.def.name)
  where
    push : (b : Bool) → (b || is_some (find (λ t. bytes_eq name t.def.name) ts)) ≡ is_some (cond b (Some t) (find (λ t. bytes_eq name t.def.name) ts))
    push true = refl
    push false = refl

-- a table of the name is found if it is in the list and no two have one name
table_alone : (name : List ℕ) (tables : List ServerTable) (t : ServerTable) → all_differ (λ a b. bytes_eq a.def.name b.def.name) tables ≡ true → In t tables → t.def.name ≡ name → is_some (find (λ a. bytes_eq name a.def.name) tables) ≡ true → find (λ a. bytes_eq name a.def.name) tables ≡ Some t
table_alone name tables t differ i named some = by_found (find (λ (a : ServerTable). bytes_eq name a.def.name) tables) refl some
  where
    one : (a b : ServerTable) → a.def.name ≡ b.def.name → bytes_eq a.def.name b.def.name ≡ true
    one a b same = subst (λ (l : List ℕ). bytes_eq a.def.name l ≡ true) same (name_itself a.def.name)

    by_found : (o : Option ServerTable) → find (λ (a : ServerTable). bytes_eq name a.def.name) tables ≡ o → is_some o ≡ true → o ≡ Some t
    by_found None found e = absurd (false≢true e)
    by_found (Some a) found e =
        let r = found_in (λ (a : ServerTable). bytes_eq name a.def.name) tables a found in
        let same : a.def.name ≡ t.def.name = sym (same_name name a.def.name r.1) ∙ sym named in
        ap Some (only_one (λ (a b : ServerTable). bytes_eq a.def.name b.def.name) tables a t differ r.0 i (one a t same) (one t a (sym same)))

module _ (world : World) (server : Server) (keeps : ServerKeepsRules world server) where
  -- the names of the tables are names
  entries_named : AllByRecursion (RowFits IsName Any) (map entry (numbered_tables server))
  entries_named = each_image (RowFits IsName Any) entry (numbered_tables server) (all_numbered KeepsTable (λ t. RowFits IsName Any (entry t)) table_limit 0 server.tables (omega (arith, keeps.count)) keeps.tables (λ m t lt k. ((and_parts (is_name t.def.name) (list_all (λ (column : ColumnDef). is_name column.name) t.def.columns) k.0.names).0, tt)))

  -- a definition stands under a name if and only if a table has the name
  pub table_stands : (name : List ℕ) → is_some (table_from_rows short_text defined_table_spelling (table_rows server) (short_text name)) ≡ is_some (server_table name server)
  table_stands name = by_key_has short_text IsName Any name_cmp (whole_order IsName short_text name_cmp order_name) defined_table_spelling name (map entry (numbered_tables server)) entries_named ∙ any_table name 0 server.tables

  -- the table of the name is the one with the number of the definition that stands under the name
  pub table_numbered : (name : List ℕ) (d : DefinedTable) → IsDefinedTable d → table_from_rows short_text defined_table_spelling (table_rows server) (short_text name) ≡ Some (defined_table_spelling d) → (t : ServerTable) × (slice_get server.tables d.number ≡ Some t) × (server_table name server ≡ Some t) × (t.def ≡ d.def)
  table_numbered name d fit has =
      let r = row_of short_text defined_table_spelling (table_rows server) (short_text name) (defined_table_spelling d) has in
      let row : List ℕ × DefinedTable = r.0 in
      let i : In row (table_rows server) = subst (In row) (sym r.1.split) (in_second r.1.front (row ∷ r.1.back) row (inl refl)) in
      let t = in_map entry (numbered_tables server) row (row_is_entry name_cmp name_cmp_exact (map entry (numbered_tables server)) row i) in
      let at : slice_get server.tables t.0.0 ≡ Some t.0.1 = numbered_place server.tables t.0 t.1 in
      let same : row.1 ≡ d = one_whole IsDefinedTable defined_table_spelling one_defined_table row.1 d (fits_each (RowFits IsName IsDefinedTable) (table_rows server) row (table_rows_are world server keeps).fit r.1).1 fit r.3 in
      let number : t.0.0 ≡ d.number = ap (λ (q : List ℕ × DefinedTable). q.1.number) (sym t.2) ∙ ap (λ (q : DefinedTable). q.number) same in
      let named : t.0.1.def.name ≡ name = ap (λ (q : List ℕ × DefinedTable). q.0) (sym t.2) ∙ tail_is (length row.0) (length name) row.0 name r.2 in
      let some : is_some (server_table name server) ≡ true = sym (table_stands name) ∙ ap (λ (o : Option (List ℕ)). is_some o) has in
      (t.0.1, ap (slice_get server.tables) (sym number) ∙ at, table_alone name server.tables t.0.1 keeps.differ (at_place_in server.tables t.0.0 t.0.1 at) named some, ap (λ (q : List ℕ × DefinedTable). q.1.def) (sym t.2) ∙ ap (λ (q : DefinedTable). q.def) same)
    where
      tail_is : (m n : ℕ) (x y : List ℕ) → ◌≡◌ {A = List ℕ} (m ∷ x) (n ∷ y) → x ≡ y
      tail_is m n x y e = cc
