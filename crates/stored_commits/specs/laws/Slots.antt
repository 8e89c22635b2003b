-- The registration of a change's table: where it stands at a server.
use Rattle.std.proofs.Common.{◌≡◌, ℕ, suc, ◌+◌, ◌<◌, ◌≤◌, Bool, true, false, not, inl, inr, List, [], ◌∷◌, ◌++◌, length, Option, Some, None, refl, sym, ap, subst, ◌∙◌, arith, length-append, IfSome, option_map, bytes_eq}
use Rattle.std.specs.List.{AllByRecursion, enumerate_from, filter_map, list_any}
use Rattle.std.proofs.lemmas.Bool.{both_ways, and_parts, false_from_ne_true}
use Rattle.std.proofs.lemmas.Option.{none-some, same_Some}
use Rattle.world_store.specs.Words.{name_cmp, IsName, short_text, one_whole, name_cmp_exact, row_of, no_row_at, numbered_tables, defined_registration, registration_rows, definition_table, RowFits, registration_rows_are, name_one}
use Rattle.repl_model.specs.Words.{defined_registration_spelling, IsDefinedRegistration, DefinedRegistration, one_defined_registration, RegistrationKeepsRules, all_differ, KeepsTable, ServerKeepsRules, Registered, ServerTable, Server, World, In, at_one, at_each, first_alone, in_first, in_second, in_filter_map, given_in, entry_has_row, row_is_entry, name_itself, same_name, in_numbered, numbered_in}

-- the table isn't registered, or its registration is of a table of another name
abbrev pub IsOther : List ℕ → ServerTable → Type 0
IsOther name t = IfSome t.registered (λ r. bytes_eq name r.reg.table ≡ false)

-- Where the registration of a name stands at a server: the tables before it and behind it are others.
pub record StandsAt (server : Server) (name : List ℕ) (reg : DefinedRegistration) : Type 0 where
  pub front : List ServerTable
  pub table : ServerTable
  pub back : List ServerTable
  pub registered : Registered
  pub split : server.tables ≡ front ++ table ∷ back
  pub has : table.registered ≡ Some registered
  pub is : reg ≡ record { number = length front; registration = registered.reg }
  pub own : bytes_eq name registered.reg.table ≡ true
  pub few : length front < 256
  pub before : AllByRecursion (IsOther name) front
  pub behind : AllByRecursion (IsOther name) back

-- ---- lists

-- what stands with a number in a list stands behind as many others
numbered_split : {X : Type 0} (b : ℕ) (xs : List X) (p : ℕ × X) → In p (enumerate_from b xs) → (front : List X) × (back : List X) × (xs ≡ front ++ p.1 ∷ back) × (p.0 ≡ b + length front)
numbered_split b [] p i = absurd i
numbered_split {X} b (x ∷ xs) p (inl is) =
    let number : p.0 ≡ b = ap (λ (q : ℕ × X). q.0) is in
    ([], xs, ap (λ (q : ℕ × X). q.1 ∷ xs) (sym is), omega (arith, number))
numbered_split {X} b (x ∷ xs) p (inr i) =
    let rest = numbered_split (b + 1) xs p i in
    let number : p.0 ≡ b + 1 + length rest.0 = rest.3 in
    (x ∷ rest.0, rest.1, ap (λ (l : List X). x ∷ l) rest.2, omega (arith, number))

-- no other element is like one, if no two of the list are alike
others_differ : {X : Type 0} (same : X → X → Bool) (front : List X) (x : X) (back : List X) → all_differ same (front ++ x ∷ back) ≡ true → AllByRecursion (λ y. same y x ≡ false) front × AllByRecursion (λ y. same x y ≡ false) back
others_differ same [] x back differ = (tt, at_each (λ y. same x y ≡ false) back (λ y i. false_from_ne_true (same x y) (first_alone same x back differ y i)))
others_differ same (y ∷ ys) x back differ =
    let rest = others_differ same ys x back (and_parts (not (list_any (same y) (ys ++ x ∷ back))) (all_differ same (ys ++ x ∷ back)) differ).1 in
    ((false_from_ne_true (same y x) (first_alone same y (ys ++ x ∷ back) differ x (in_second ys (x ∷ back) x (inl refl))), rest.0), rest.1)

module _ (world : World) (server : Server) (keeps : ServerKeepsRules world server) (name : List ℕ) where
  -- a table is another if it isn't registered under the name
  is_other : (t : ServerTable) → In t server.tables → ((r : Registered) → t.registered ≡ Some r → name ≡ t.def.name → ⊥) → IsOther name t
  is_other t i apart = pick t.registered refl (at_one KeepsTable server.tables t keeps.tables i).2
    where
      pick : (o : Option Registered) → t.registered ≡ o → IfSome o (λ r. RegistrationKeepsRules t.def r.reg) → IfSome o (λ r. bytes_eq name r.reg.table ≡ false)
      pick None has rule = tt
      pick (Some r) has rule = false_from_ne_true (bytes_eq name r.reg.table) (λ e. apart r has (same_name name r.reg.table e ∙ rule.table))

  -- all tables are, if no registration is stored under the name
  pub unregistered : definition_table server 1 (short_text name) ≡ None → AllByRecursion (IsOther name) server.tables
  unregistered none = at_each (IsOther name) server.tables (λ t i. is_other t i (λ r has same. no_row t r has same (in_numbered 0 server.tables t i)))
    where
      no_row : (t : ServerTable) (r : Registered) → t.registered ≡ Some r → name ≡ t.def.name → (m : ℕ) × In (m, t) (numbered_tables server) → ⊥
      no_row t r has same at =
          let m : ℕ = at.0 in
          let e : List ℕ × DefinedRegistration = (t.def.name, record { number = m; registration = r.reg }) in
          let i = given_in defined_registration (numbered_tables server) (m, t) e at.1 (ap (option_map (λ (q : Registered). (t.def.name, record { number = m; registration = q.reg }))) has) in
          let row = entry_has_row name_cmp name_cmp_exact t.def.name (λ (d : DefinedRegistration). Unit {0}) (filter_map defined_registration (numbered_tables server)) (λ q j key. tt) e i refl in
          at_one (λ (q : List ℕ × DefinedRegistration). short_text q.0 ≡ short_text name → ⊥) (registration_rows server) row.0 (no_row_at short_text defined_registration_spelling (registration_rows server) (short_text name) none) row.1 (ap short_text (row.2 ∙ sym same))

  -- a stored registration stands at the server
  pub registered_at : (reg : DefinedRegistration) → IsDefinedRegistration reg → definition_table server 1 (short_text name) ≡ Some (defined_registration_spelling reg) → StandsAt server name reg
  registered_at reg fits has =
      let rows = registration_rows server in
      let found = row_of short_text defined_registration_spelling rows (short_text name) (defined_registration_spelling reg) has in
      let row : List ℕ × DefinedRegistration = found.0 in
      let there : In row rows = subst (In row) (sym found.1.split) (in_second found.1.front (row ∷ found.1.back) row (inl refl)) in
      let fit = at_one (RowFits IsName IsDefinedRegistration) rows row (registration_rows_are world server keeps).fit there in
      let same : row.1 ≡ reg = one_whole IsDefinedRegistration defined_registration_spelling one_defined_registration row.1 reg fit.1 fits found.3 in
      let given = in_filter_map defined_registration (numbered_tables server) row (row_is_entry name_cmp name_cmp_exact (filter_map defined_registration (numbered_tables server)) row there) in
      of_table given.0 given.1 row same (name_one row.0 name found.2) given.0.1.registered refl given.2
    where
      of_registered : (q : ℕ × ServerTable) → In q (numbered_tables server) → (r : Registered) → q.1.registered ≡ Some r → q.1.def.name ≡ name → record { number = q.0; registration = r.reg } ≡ reg → StandsAt server name reg
      of_registered q i r has_it called same =
          let at = numbered_split 0 server.tables q i in
          let t : ServerTable = q.1 in
          let number : q.0 ≡ length at.0 = omega (arith, at.3) in
          let others = others_differ (λ (a b : ServerTable). bytes_eq a.def.name b.def.name) at.0 t at.1 (subst (λ (l : List ServerTable). all_differ (λ a b. bytes_eq a.def.name b.def.name) l ≡ true) at.2 keeps.differ) in
          let rule = at_one KeepsTable server.tables t keeps.tables (numbered_in 0 server.tables q i) in
          let own : RegistrationKeepsRules t.def r.reg = subst (λ (o : Option Registered). IfSome o (λ x. RegistrationKeepsRules t.def x.reg)) has_it rule.2 in
          let long : length at.0 + suc (length at.1) ≤ 256 = subst (λ (n : ℕ). n ≤ 256) (ap (λ (l : List ServerTable). length l) at.2 ∙ length-append at.0 (t ∷ at.1)) keeps.count in
          record {
            front = at.0;
            table = t;
            back = at.1;
            registered = r;
            split = at.2;
            has = has_it;
            is = sym same ∙ ap (λ (n : ℕ). record { number = n; registration = r.reg }) number;
            own = ap (bytes_eq name) (own.table ∙ called) ∙ name_itself name;
            few = omega (arith, long);
            before = at_each (IsOther name) at.0 (λ y j. is_other y (subst (In y) (sym at.2) (in_first at.0 (t ∷ at.1) y j)) (λ x _ e. both_ways (bytes_eq y.def.name t.def.name) (at_one (λ (z : ServerTable). bytes_eq z.def.name t.def.name ≡ false) at.0 y others.0 j) (ap (λ (l : List ℕ). bytes_eq l t.def.name) (sym e ∙ sym called) ∙ name_itself t.def.name)));
            behind = at_each (IsOther name) at.1 (λ y j. is_other y (subst (In y) (sym at.2) (in_second at.0 (t ∷ at.1) y (inr j))) (λ x _ e. both_ways (bytes_eq t.def.name y.def.name) (at_one (λ (z : ServerTable). bytes_eq t.def.name z.def.name ≡ false) at.1 y others.1 j) (ap (bytes_eq t.def.name) (sym e ∙ sym called) ∙ name_itself t.def.name)));
          }

      of_table : (q : ℕ × ServerTable) → In q (numbered_tables server) → (row : List ℕ × DefinedRegistration) → row.1 ≡ reg → row.0 ≡ name → (o : Option Registered) → q.1.registered ≡ o → option_map (λ (r : Registered). (q.1.def.name, record { number = q.0; registration = r.reg })) o ≡ Some row → StandsAt server name reg
      of_table q i row same called None has_it e = absurd (none-some row e)
      of_table q i row same called (Some r) has_it e =
          let entry : List ℕ × DefinedRegistration = (q.1.def.name, record { number = q.0; registration = r.reg }) in
          let is : entry ≡ row = same_Some entry row e in
          of_registered q i r has_it (ap (λ (x : List ℕ × DefinedRegistration). x.0) is ∙ called) (ap (λ (x : List ℕ × DefinedRegistration). x.1) is ∙ same)
