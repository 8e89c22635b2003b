-- The rows of registrations that are planned for a server, and their states, make the tables of the loaded server.
use Rattle.std.proofs.Common.{◌≡◌, ◌⊎◌, inl, inr, ℕ, ◌+◌, ◌<◌, ◌≤◌, true, false, ◌&&◌, List, ◌++◌, length, map, Option, Some, None, refl, sym, ap, subst, ◌∙◌, arith, find, bytes_eq}
use Rattle.std.specs.List.{enumerate_from, filter_map}
use Rattle.std.specs.Option.{option_map, option_or}
use Rattle.std.proofs.lemmas.Option.{none-some, same_Some}
use Rattle.world_store.specs.Words.{name_cmp, IsName, b32, short_text, registration_state_spelling, RegState, same_itself, registration_state_rows, numbered_tables, defined_registration, no_rows, definition_table, capture_table}
use Rattle.repl_model.specs.Words.{TableDef, Registration, defined_registration_spelling, DefinedRegistration, table_limit, ServerKeepsRules, Registered, ServerTable, Server, World, In, given_in, in_filter_map, in_map, image_in, in_first, in_second, in_either}
use Rattle.repl_commands.specs.declared.written.RawDefs.{RawDefs}
use Rattle.keep_core.specs.Contents.{same_key}
use Rattle.spelled_defs.specs.declared.defs.Defs.{Defs}
use Rattle.spelled_defs.specs.declared.defs.RegistrationAt.{RegistrationAt}
use Rattle.load_laws.specs.worlds.Loads.{new_tables, fresh_registration, registration_in, register, load_server}
use Rattle.load_laws.specs.rules.Accepted.{Accepted}
use Rattle.load_plan.specs.Additions.{registrations_added, additions_at}
use Rattle.load_laws.specs.planned.Planned.{stored_server, with_rows, registration_additions, state_additions}
use Rattle.load_laws.specs.laws.ByKey.{by_key_table}
use Rattle.load_laws.specs.laws.PlannedLists.{image_of_numbered, numbered_image, numbered_in, numbered_within, numbered_alone, numbered_either, numbered_first}
use Rattle.load_laws.specs.laws.Named.{names}
use Rattle.load_laws.specs.laws.Registrations.{names_apart, apart_by_name, new_unregistered, IsPlannedFor, planned_table, is_planned, planned_for}
use Rattle.load_laws.specs.laws.RowsOfSets.{numbers_apart}
use Rattle.load_laws.specs.laws.RowsOfTables.{loaded_names_fit}
use Rattle.load_laws.specs.laws.StoredPlans.{registrations_fit, table_names_fit}
use Rattle.load_laws.specs.laws.Tables.{KeysTell, with_more, same_rows, rows_put}

-- ---- rows of registrations

module _ {A X : Type 0} (key : A → List ℕ) (row : ℕ → TableDef → Registered → A × X) where
  -- the row of a table's registration, if it has one
  abbrev given : ℕ × ServerTable → Option (A × X)
  given t = option_map (row t.0 t.1.def) t.1.registered

  -- tables whose rows have one key are one
  abbrev TablesTell : List (ℕ × ServerTable) → Type 0
  TablesTell ts = (t u : ℕ × ServerTable) → In t ts → In u ts → (a b : Registered) → key (row t.0 t.1.def a).0 ≡ key (row u.0 u.1.def b).0 → t ≡ u

  -- a row is of a registration
  of_registration : (t : ℕ × ServerTable) (r : A × X) → given t ≡ Some r → (x : Registered) × (row t.0 t.1.def x ≡ r)
  of_registration t r = by_registered t.1.registered
    where
      by_registered : (o : Option Registered) → option_map (row t.0 t.1.def) o ≡ Some r → (x : Registered) × (row t.0 t.1.def x ≡ r)
      by_registered None e = absurd (none-some r e)
      by_registered (Some x) e = (x, same_Some (row t.0 t.1.def x) r e)

  -- if tables whose rows have one key are one, rows of one key are one
  rows_tell : (ts : List (ℕ × ServerTable)) → TablesTell ts → KeysTell key (filter_map given ts)
  rows_tell ts tell r s i j e =
      let a = in_filter_map given ts r i in
      let b = in_filter_map given ts s j in
      let x = of_registration a.0 r a.2 in
      let y = of_registration b.0 s b.2 in
      same_Some r s (sym a.2 ∙ ap given (tell a.0 b.0 a.1 b.1 x.0 y.0 (ap (λ (z : A × X). key z.0) x.1 ∙ e ∙ ap (λ (z : A × X). key z.0) (sym y.1))) ∙ b.2)

module _ (raw : RawDefs) (world : World) (defs : Defs) (server : Server) (keeps : ServerKeepsRules world server) (accepted : Accepted raw world defs) (differ : names_apart (load_server defs server).tables ≡ true) where
  -- the tables that it has or gets
  abbrev both : List ServerTable
  both = server.tables ++ new_tables defs server

  module _ {A X : Type 0} (key : A → List ℕ) (value : X → List ℕ) (row : ℕ → TableDef → Registered → A × X) (addition : DefinedRegistration → A × X) (agree : (n : ℕ) (def : TableDef) (reg : Registration) → reg.table ≡ def.name → addition (record { number = n; registration = reg }) ≡ row n def (fresh_registration reg)) (tell : TablesTell key row (numbered_tables (load_server defs server))) where
    -- the rows of the loaded server
    abbrev loaded_rows : List (A × X)
    loaded_rows = filter_map (given key row) (enumerate_from 0 (map (register defs server) both))

    -- those that it has
    abbrev old_rows : List (A × X)
    old_rows = filter_map (given key row) (numbered_tables server)

    -- those that are planned
    abbrev added_rows : List (A × X)
    added_rows = map addition (registrations_added defs (stored_server server))

    -- a row of the loaded server is one that it has or one that is planned
    there : (r : A × X) → In r loaded_rows → In r (old_rows ++ added_rows)
    there r i =
        let a = in_filter_map (given key row) (enumerate_from 0 (map (register defs server) both)) r i in
        let b = image_of_numbered (register defs server) 0 both a.0 a.1 in
        by_registered b.0 b.1 b.0.1.registered refl (sym (ap (given key row) b.2) ∙ a.2)
      where
        old : (u : ℕ × ServerTable) (x : Registered) → u.1.registered ≡ Some x → In u (enumerate_from 0 server.tables) ⊎ In u (enumerate_from (0 + length server.tables) (new_tables defs server)) → In u (enumerate_from 0 server.tables)
        old u x e (inl j) = j
        old u x e (inr j) = absurd (none-some x (sym (new_unregistered raw world defs server keeps accepted differ u.1 (numbered_in (0 + length server.tables) (new_tables defs server) u j)) ∙ e))

        by_text : (u : ℕ × ServerTable) → In u (enumerate_from 0 both) → u.1.registered ≡ None → (o : Option RegistrationAt) → find (λ r. bytes_eq r.server server.name && bytes_eq r.def.table u.1.def.name) defs.registrations ≡ o → option_map (row u.0 u.1.def) (option_map (λ r. fresh_registration r.def) o) ≡ Some r → In r (old_rows ++ added_rows)
        by_text u j none None found e = absurd (none-some r e)
        by_text u j none (Some reg) found e =
            let is : IsPlannedFor raw world defs server keeps accepted differ u reg = record { table = j; none = none; found = found } in
            in_second old_rows added_rows r (subst (λ (x : A × X). In x added_rows) (agree u.0 u.1.def reg.def (planned_table raw world defs server keeps accepted differ u reg is) ∙ same_Some (row u.0 u.1.def (fresh_registration reg.def)) r e)
            (image_in addition (registrations_added defs (stored_server server)) (record { number = u.0; registration = reg.def }) (is_planned raw world defs server keeps accepted differ u reg is)))

        by_registered : (u : ℕ × ServerTable) → In u (enumerate_from 0 both) → (o : Option Registered) → u.1.registered ≡ o → option_map (row u.0 u.1.def) (option_or u.1.registered (registration_in defs server u.1)) ≡ Some r → In r (old_rows ++ added_rows)
        by_registered u j None none e = by_text u j none (find (λ r. bytes_eq r.server server.name && bytes_eq r.def.table u.1.def.name) defs.registrations) refl (sym (ap (λ (o : Option Registered). option_map (row u.0 u.1.def) (option_or o (registration_in defs server u.1))) none) ∙ e)
        by_registered u j (Some x) some e = in_first old_rows added_rows r (given_in (given key row) (enumerate_from 0 server.tables) u r (old u x some (numbered_either server.tables (new_tables defs server) u j))
            (ap (option_map (row u.0 u.1.def)) some ∙ sym (ap (λ (o : Option Registered). option_map (row u.0 u.1.def) (option_or o (registration_in defs server u.1))) some) ∙ e))

    -- a row that it has, or that is planned, is one of the loaded server
    back : (r : A × X) → In r (old_rows ++ added_rows) → In r loaded_rows
    back r i = by_list (in_either old_rows added_rows r i)
      where
        kept : (t : ℕ × ServerTable) (o : Option Registered) → option_map (row t.0 t.1.def) o ≡ Some r → option_map (row t.0 t.1.def) (option_or o (registration_in defs server t.1)) ≡ Some r
        kept t None e = absurd (none-some r e)
        kept t (Some x) e = e

        by_list : In r old_rows ⊎ In r added_rows → In r loaded_rows
        by_list (inl j) =
            let a = in_filter_map (given key row) (numbered_tables server) r j in
            given_in (given key row) (enumerate_from 0 (map (register defs server) both)) (a.0.0, register defs server a.0.1) r (numbered_image (register defs server) 0 both a.0 (numbered_first server.tables (new_tables defs server) a.0 a.1)) (kept a.0 a.0.1.registered a.2)
        by_list (inr j) =
            let b = in_map addition (registrations_added defs (stored_server server)) r j in
            let p = planned_for raw world defs server keeps accepted differ b.0 b.1 in
            let u = p.0 in
            let reg = p.1 in
            given_in (given key row) (enumerate_from 0 (map (register defs server) both)) (u.0, register defs server u.1) r (numbered_image (register defs server) 0 both u p.2.table)
            (ap (λ (o : Option Registered). option_map (row u.0 u.1.def) (option_or o (registration_in defs server u.1))) p.2.none
            ∙ ap (λ (o : Option RegistrationAt). option_map (row u.0 u.1.def) (option_map (λ r. fresh_registration r.def) o)) p.2.found
            ∙ ap Some (sym (agree u.0 u.1.def reg.def (planned_table raw world defs server keeps accepted differ u reg p.2)) ∙ ap addition (sym p.3) ∙ sym b.2))

    -- the rows that are planned make, with those that it has, those of the loaded server
    rows_of_loaded : with_rows key value added_rows (with_rows key value old_rows no_rows) ≡ with_rows key value loaded_rows no_rows
    rows_of_loaded = sym (with_more key value old_rows added_rows no_rows) ∙ sym (same_rows key value loaded_rows (old_rows ++ added_rows) no_rows there back (rows_tell key row (enumerate_from 0 (map (register defs server) both)) tell))

  -- ---- both tables

  -- the rows of registrations make the table of the loaded server
  pub registrations_put : with_rows short_text defined_registration_spelling (registration_additions (additions_at defs (stored_server server))) (definition_table server 1) ≡ definition_table (load_server defs server) 1
  registrations_put =
      ap (with_rows short_text defined_registration_spelling (registration_additions (additions_at defs (stored_server server)))) (by_key_table short_text IsName name_cmp names.in_order defined_registration_spelling (filter_map defined_registration (numbered_tables server)) (registrations_fit server.tables (table_names_fit world server keeps)))
      ∙ rows_of_loaded short_text defined_registration_spelling (λ n def r. (def.name, record { number = n; registration = r.reg })) (λ d. (d.registration.table, d)) (λ n def reg table. ap (λ (name : List ℕ). (name, record { number = n; registration = reg })) table)
      (λ t u i j a b e. apart_by_name (load_server defs server).tables differ t u i j (name_is t.1.def.name u.1.def.name e))
      ∙ sym (by_key_table short_text IsName name_cmp names.in_order defined_registration_spelling (filter_map defined_registration (numbered_tables (load_server defs server))) (registrations_fit (load_server defs server).tables (loaded_names_fit world server keeps defs accepted.typed)))
    where
      name_is : (x y : List ℕ) → short_text x ≡ short_text y → x ≡ y
      name_is x y e = names.exact x y (names.alike x y (ap (same_key (short_text x)) (sym e) ∙ same_itself (short_text x)))

  -- tables of numbers below the limit are told apart by their numbers
  tables_tell : (tables : List ServerTable) → length tables ≤ table_limit → (t u : ℕ × ServerTable) → In t (enumerate_from 0 tables) → In u (enumerate_from 0 tables) → b32 t.0 ≡ b32 u.0 → t ≡ u
  tables_tell tables few t u i j e =
      let below_t : t.0 < 0 + length tables = (numbered_within 0 tables t i).1 in
      let below_u : u.0 < 0 + length tables = (numbered_within 0 tables u j).1 in
      numbered_alone 0 tables t u i j (numbers_apart t.0 u.0 (omega arith) (omega arith) e)

  -- the state of a registration, under its table's number
  abbrev state_row : ℕ → TableDef → Registered → ℕ × RegState
  state_row n def r = (n, record { active = r.active; start = r.start; floor = r.floor })

  -- the states of registrations make the table of the loaded server
  pub states_put : length (load_server defs server).tables ≤ table_limit → with_rows b32 registration_state_spelling (state_additions (additions_at defs (stored_server server))) (capture_table server 1) ≡ capture_table (load_server defs server) 1
  states_put few =
      let tell = λ (t u : ℕ × ServerTable) (i : In t (numbered_tables (load_server defs server))) (j : In u (numbered_tables (load_server defs server))) (a b : Registered) (e : b32 t.0 ≡ b32 u.0). tables_tell (load_server defs server).tables few t u i j e in
      ap (with_rows b32 registration_state_spelling (state_additions (additions_at defs (stored_server server)))) (rows_put b32 registration_state_spelling (registration_state_rows server) (rows_tell b32 state_row (numbered_tables server) (λ t u i j a b e. tables_tell server.tables keeps.count t u i j e)))
      ∙ rows_of_loaded b32 registration_state_spelling state_row (λ d. (d.number, record { active = false; start = 0; floor = 0 })) (λ n def reg table. refl) tell
      ∙ sym (rows_put b32 registration_state_spelling (registration_state_rows (load_server defs server)) (rows_tell b32 state_row (numbered_tables (load_server defs server)) tell))
