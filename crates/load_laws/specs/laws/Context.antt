-- The tables and the registrations of the context of a text, and those of the servers that load it.
use Rattle.std.proofs.Common.{◌≡◌, ℕ, Bool, true, false, ◌&&◌, ◌⊎◌, inl, inr, List, ◌++◌, map, Option, Some, None, refl, sym, ap, ap₂, subst, ◌∙◌, find, filter, is_none, is_some, bytes_eq}
use Rattle.std.specs.List.{filter_map, list_any}
use Rattle.std.specs.Option.{IfSome, option_map, option_and_then, option_or}
use Rattle.std.proofs.lemmas.Bool.{and_parts, and_from, false≢true, not_from_false}
use Rattle.std.proofs.lemmas.Bool.Decides.{same_from_decides}
use Rattle.std.proofs.lemmas.List.Folds.{find-append}
use Rattle.std.proofs.lemmas.Option.{none-some, same_Some}
use Rattle.std.proofs.lemmas.Slice.Eq.{bytes_eq-Decides}
use Rattle.world_store.specs.Words.{name_cmp, numbered_tables, table_rows, defined_registration, registration_rows, name_cmp_exact}
use Rattle.repl_model.specs.Words.{TableDef, DefinedTable, DefinedRegistration, Registration, RegistrationKeepsRules, all_differ, SourceTable, KeepsTable, IsSound, Registered, ServerTable, Server, World, as_source, server_named, server_table, source_named, In, at_one, some_passes, only_one, in_either, in_first, in_second, in_filter, kept_by, in_filter_map, given_in, listed_in, in_flat_map, in_map, image_in, found_in, same_name, name_itself, row_is_entry, entry_has_row, in_numbered, numbered_in}
use Rattle.repl_commands.specs.declared.written.RawDefs.{RawDefs}
use Rattle.repl_commands.specs.declared.written.RawTable.{RawTable}
use Rattle.spelled_defs.specs.Context.{context_of, all_tables, all_registrations, is_other_table, is_other_registration}
use Rattle.spelled_defs.specs.Spelled.{is_table, is_registration, spelled_table, spelled_registration}
use Rattle.spelled_defs.specs.declared.context.Context.{Context}
use Rattle.spelled_defs.specs.declared.defs.Defs.{Defs}
use Rattle.spelled_defs.specs.declared.defs.RegistrationAt.{RegistrationAt}
use Rattle.spelled_defs.specs.declared.defs.TableAt.{TableAt}
use Rattle.checked_defs.specs.Rules.{as_source_table, registered_source}
use Rattle.load_laws.specs.known.Known.{tables_at, registrations_at, known_defs}
use Rattle.load_laws.specs.worlds.Loads.{new_tables, fresh_registration, registration_in, register, load_server, load_all}
use Rattle.load_laws.specs.rules.Accepted.{AgreesWith, Accepted, context_in}
use Rattle.load_laws.specs.rules.laws.Lists.{found_some, found_alone}
use Rattle.load_laws.specs.rules.laws.Items.{from_step, from_image, table_spelled}
use Rattle.load_laws.specs.laws.Items.{table_given}
use Rattle.load_laws.specs.laws.Servers.{server_rules}
use Rattle.load_laws.specs.laws.Differ.{table_names_differ}

-- ---- servers and tables of a name

-- it doesn't matter which of two names comes first
name_either_way : (a b : List ℕ) → bytes_eq a b ≡ bytes_eq b a
name_either_way a b = same_from_decides {P = a ≡ b} (bytes_eq a b) (bytes_eq b a) (bytes_eq-Decides a b) (λ e. sym (same_name b a e), λ same. ap (bytes_eq b) same ∙ name_itself b)

-- a server of a world is found by its name
pub server_of_name : (w : World) (s : Server) → IsSound w → In s w → server_named s.name w ≡ Some s
server_of_name w s sound i = found_alone (λ (a : Server). bytes_eq s.name a.name) (λ a b. bytes_eq a.name b.name) w s sound.definitions.names
    (λ a b p q. ap₂ bytes_eq (sym (same_name s.name a.name p)) (sym (same_name s.name b.name q)) ∙ name_itself s.name) i (name_itself s.name)

-- two servers of a world with one name are one
pub same_server : (w : World) (s t : Server) → IsSound w → In s w → In t w → s.name ≡ t.name → s ≡ t
same_server w s t sound i j same = only_one (λ (a b : Server). bytes_eq a.name b.name) w s t sound.definitions.names i j (ap (bytes_eq s.name) (sym same) ∙ name_itself s.name) (ap (bytes_eq t.name) same ∙ name_itself t.name)

-- in a list of tables whose names differ each is found by its name
table_alone : (tables : List ServerTable) (name : List ℕ) (t : ServerTable) → all_differ (λ a b. bytes_eq a.def.name b.def.name) tables ≡ true → In t tables → t.def.name ≡ name → find (λ a. bytes_eq name a.def.name) tables ≡ Some t
table_alone tables name t differ i same = found_alone (λ (a : ServerTable). bytes_eq name a.def.name) (λ a b. bytes_eq a.def.name b.def.name) tables t differ
    (λ a b p q. ap₂ bytes_eq (sym (same_name name a.def.name p)) (sym (same_name name b.def.name q)) ∙ name_itself name) i (ap (bytes_eq name) same ∙ name_itself name)

-- a table of a server that is loaded is found by its name
pub table_of_name : (raw : RawDefs) (w : World) (defs : Defs) → IsSound w → Accepted raw w defs → (s : Server) → In s w → (name : List ℕ) (t : ServerTable) → In t (load_server defs s).tables → t.def.name ≡ name → server_table name (load_server defs s) ≡ Some t
table_of_name raw w defs sound accepted s i name t =
    table_alone (load_server defs s).tables name t (at_one (λ (a : Server). all_differ (λ x y. bytes_eq x.def.name y.def.name) a.tables ≡ true) (load_all defs w) (load_server defs s) (table_names_differ raw w defs sound accepted) (image_in (load_server defs) w s i))

-- ---- what is known in a world

-- a table that is known stands at the server that it names
known_table : (w : World) (x : TableAt) → In x (known_defs w).tables → (s : Server) × In s w × (x.server ≡ s.name) × ((t : ServerTable) × In t s.tables × (t.def ≡ x.def))
known_table w x i =
    let at = in_flat_map tables_at w x i in
    let row = in_map (λ (r : List ℕ × DefinedTable). record { server = at.0.name; def = r.1.def }) (table_rows at.0) x at.2 in
    let entry = in_map (λ (t : ℕ × ServerTable). (t.1.def.name, record { number = t.0; def = t.1.def })) (numbered_tables at.0) row.0
    (row_is_entry name_cmp name_cmp_exact (map (λ (t : ℕ × ServerTable). (t.1.def.name, record { number = t.0; def = t.1.def })) (numbered_tables at.0)) row.0 row.1) in
    (at.0, at.1, ap (λ (a : TableAt). a.server) row.2, (entry.0.1, numbered_in 0 at.0.tables entry.0 entry.1, sym (ap (λ (r : List ℕ × DefinedTable). r.1.def) entry.2) ∙ sym (ap (λ (a : TableAt). a.def) row.2)))

-- a table of a server is known
table_known : (w : World) (s : Server) (t : ServerTable) → IsSound w → In s w → In t s.tables → In (record { server = s.name; def = t.def }) (known_defs w).tables
table_known w s t sound i j =
    let n = in_numbered 0 s.tables t j in
    let row = entry_has_row name_cmp name_cmp_exact t.def.name (λ (d : DefinedTable). d.def ≡ t.def) (map entry (numbered_tables s)) alone (entry (n.0, t)) (image_in entry (numbered_tables s) (n.0, t) n.1) refl in
    listed_in tables_at w s (record { server = s.name; def = t.def }) i
    (subst (λ (def : TableDef). In (record { server = s.name; def = def }) (tables_at s)) row.3 (image_in (λ (r : List ℕ × DefinedTable). record { server = s.name; def = r.1.def }) (table_rows s) row.0 row.1))
  where
    entry : ℕ × ServerTable → List ℕ × DefinedTable
    entry p = (p.1.def.name, record { number = p.0; def = p.1.def })

    alone : (e : List ℕ × DefinedTable) → In e (map entry (numbered_tables s)) → e.0 ≡ t.def.name → e.1.def ≡ t.def
    alone e k same =
        let r = in_map entry (numbered_tables s) e k in
        let name : r.0.1.def.name ≡ t.def.name = sym (ap (λ (q : List ℕ × DefinedTable). q.0) r.2) ∙ same in
        ap (λ (q : List ℕ × DefinedTable). q.1.def) r.2
        ∙ ap (λ (a : ServerTable). a.def) (only_one (λ (a b : ServerTable). bytes_eq a.def.name b.def.name) s.tables r.0.1 t (server_rules w s sound i).differ (numbered_in 0 s.tables r.0 r.1) j
        (ap (bytes_eq r.0.1.def.name) (sym name) ∙ name_itself r.0.1.def.name) (ap (bytes_eq t.def.name) name ∙ name_itself t.def.name))

-- a registration that is known is that of a table of the server that it names
known_registration : (w : World) (x : RegistrationAt) → In x (known_defs w).registrations → (s : Server) × In s w × (x.server ≡ s.name) × ((t : ServerTable) × (r : Registered) × In t s.tables × (t.registered ≡ Some r) × (r.reg ≡ x.def))
known_registration w x i =
    let at = in_flat_map registrations_at w x i in
    let row = in_map (λ (r : List ℕ × DefinedRegistration). record { server = at.0.name; def = r.1.registration }) (registration_rows at.0) x at.2 in
    let entry = in_filter_map defined_registration (numbered_tables at.0) row.0 (row_is_entry name_cmp name_cmp_exact (filter_map defined_registration (numbered_tables at.0)) row.0 row.1) in
    let of = from_image (λ (r : Registered). (entry.0.1.def.name, record { number = entry.0.0; registration = r.reg })) entry.0.1.registered row.0 entry.2 in (
      at.0,
      at.1,
      ap (λ (a : RegistrationAt). a.server) row.2,
      (entry.0.1, of.0, numbered_in 0 at.0.tables entry.0 entry.1, of.1, ap (λ (r : List ℕ × DefinedRegistration). r.1.registration) of.2 ∙ sym (ap (λ (a : RegistrationAt). a.def) row.2)),
    )

-- ---- the tables of the context

-- the tables of the context are those of the text and the others that are known
pub context_tables : (raw : RawDefs) (w : World) → (context_in w raw).tables ≡ all_tables raw (known_defs w)
unfolding context_of
context_tables raw w = refl

-- the registrations of the context, likewise
pub context_registrations : (raw : RawDefs) (w : World) → (context_in w raw).registrations ≡ all_registrations raw (known_defs w) (context_in w raw).tables
unfolding context_of
context_registrations raw w = refl

-- a table of the context stands at the server that it names once that is loaded
loaded_table : (raw : RawDefs) (w : World) (defs : Defs) → IsSound w → Accepted raw w defs → (s : Server) → In s w → (x : TableAt) → In x (context_in w raw).tables → x.server ≡ s.name → (t : ServerTable) × In t (load_server defs s).tables × (t.def ≡ x.def)
loaded_table raw w defs sound accepted s i x j named = by_part (in_either (filter_map spelled_table raw.tables) (filter (is_other_table raw.tables) (known_defs w).tables) x (subst (In x) (context_tables raw w) j))
  where
    is_new : TableAt → Bool
    is_new t = bytes_eq t.server s.name && is_none (server_table t.def.name s)

    here : bytes_eq x.server s.name ≡ true
    here = ap (λ (name : List ℕ). bytes_eq name s.name) named ∙ name_itself s.name

    stands : (t : ServerTable) → In t s.tables → t.def ≡ x.def → (u : ServerTable) × In u (load_server defs s).tables × (u.def ≡ x.def)
    stands t k same = (register defs s t, image_in (register defs s) (s.tables ++ new_tables defs s) t (in_first s.tables (new_tables defs s) t k), same)

    by_standing : In x defs.tables → (o : Option ServerTable) → server_table x.def.name s ≡ o → (t : ServerTable) × In t (load_server defs s).tables × (t.def ≡ x.def)
    by_standing k (Some t) e =
        let agrees = at_one (AgreesWith defs) w s accepted.same i in
        stands t (found_in (λ (a : ServerTable). bytes_eq x.def.name a.def.name) s.tables t e).0 (at_one (λ (a : TableAt). bytes_eq a.server s.name ≡ true → (standing : ServerTable) → server_table a.def.name s ≡ Some standing → standing.def ≡ a.def) defs.tables x agrees.tables k here t e)
    by_standing k None e =
        let new : ServerTable = record { def = x.def; registered = None } in (
          register defs s new,
          image_in (register defs s) (s.tables ++ new_tables defs s) new (in_second s.tables (new_tables defs s) new
              (image_in (λ (t : TableAt). record { def = t.def; registered = None }) (filter is_new defs.tables) x (kept_by is_new defs.tables x k (and_from (bytes_eq x.server s.name) (is_none (server_table x.def.name s)) here (ap (λ (o : Option ServerTable). is_none o) e))))),
          refl,
        )

    by_part : In x (filter_map spelled_table raw.tables) ⊎ In x (filter (is_other_table raw.tables) (known_defs w).tables) → (t : ServerTable) × In t (load_server defs s).tables × (t.def ≡ x.def)
    by_part (inl k) = by_standing (subst (λ (d : Defs). In x d.tables) (sym accepted.spelled) k) (server_table x.def.name s) refl
    by_part (inr k) =
        let of = known_table w x (in_filter (is_other_table raw.tables) (known_defs w).tables x k).0 in
        stands of.3.0 (subst (λ (a : Server). In of.3.0 a.tables) (same_server w of.0 s sound of.1 i (sym of.2 ∙ named)) of.3.1) of.3.2

-- a table of the context is one of its server once that is loaded
pub context_table : (raw : RawDefs) (w : World) (defs : Defs) → IsSound w → Accepted raw w defs → (server name : List ℕ) (table : TableAt) (s : Server) → find (is_table server name) (context_in w raw).tables ≡ Some table → server_named server w ≡ Some s → (t : ServerTable) × (server_table name (load_server defs s) ≡ Some t) × (t.def ≡ table.def)
context_table raw w defs sound accepted server name table s found named =
    let at = found_in (is_table server name) (context_in w raw).tables table found in
    let same = and_parts (bytes_eq server table.server) (bytes_eq name table.def.name) at.1 in
    let here = found_in (λ (a : Server). bytes_eq server a.name) w s named in
    let t = loaded_table raw w defs sound accepted s here.0 table at.0 (sym (same_name server table.server same.0) ∙ same_name server s.name here.1) in
    (t.0, table_of_name raw w defs sound accepted s here.0 name t.0 t.1 (ap (λ (def : TableDef). def.name) t.2 ∙ sym (same_name name table.def.name same.1)), t.2)

-- under the name of a table of a server that is loaded stands one of the context
stands_in_context : (raw : RawDefs) (w : World) (defs : Defs) → IsSound w → Accepted raw w defs → (s : Server) → In s w → (t : ServerTable) → In t (load_server defs s).tables → (x : TableAt) × In x (context_in w raw).tables × (x.server ≡ s.name) × (x.def.name ≡ t.def.name)
stands_in_context raw w defs sound accepted s i t j =
    let r = in_map (register defs s) (s.tables ++ new_tables defs s) t j in
    subst (λ (a : ServerTable). (x : TableAt) × In x (context_in w raw).tables × (x.server ≡ s.name) × (x.def.name ≡ a.def.name)) (sym r.2)
    (subst (λ (l : List TableAt). (x : TableAt) × In x l × (x.server ≡ s.name) × (x.def.name ≡ r.0.def.name)) (sym (context_tables raw w)) (by_part r.0 (in_either s.tables (new_tables defs s) r.0 r.1)))
  where
    texts : List TableAt
    texts = filter_map spelled_table raw.tables

    others : List TableAt
    others = filter (is_other_table raw.tables) (known_defs w).tables

    by_name : (t : ServerTable) → In t s.tables → (b : Bool) → list_any (λ (item : RawTable). is_table item.server item.name (record { server = s.name; def = t.def })) raw.tables ≡ b → (x : TableAt) × In x (texts ++ others) × (x.server ≡ s.name) × (x.def.name ≡ t.def.name)
    by_name t k false e =
        let x : TableAt = record { server = s.name; def = t.def } in
        (x, in_second texts others x (kept_by (is_other_table raw.tables) (known_defs w).tables x (table_known w s t sound i k) (not_from_false _ e)), refl, refl)
    by_name t k true e =
        let item = some_passes (λ (item : RawTable). is_table item.server item.name (record { server = s.name; def = t.def })) raw.tables e in
        let same = and_parts (bytes_eq item.0.server s.name) (bytes_eq item.0.name t.def.name) item.2 in
        let x = table_given raw w defs item.0 accepted item.1 in (
          x.0,
          in_first texts others x.0 (given_in spelled_table raw.tables item.0 x.0 item.1 x.1),
          ap (λ (a : TableAt). a.server) (table_spelled item.0 x.0 x.1) ∙ same_name item.0.server s.name same.0,
          ap (λ (a : TableAt). a.def.name) (table_spelled item.0 x.0 x.1) ∙ same_name item.0.name t.def.name same.1,
        )

    by_part : (t : ServerTable) → In t s.tables ⊎ In t (new_tables defs s) → (x : TableAt) × In x (texts ++ others) × (x.server ≡ s.name) × (x.def.name ≡ t.def.name)
    by_part t (inl k) = by_name t k (list_any (λ (item : RawTable). is_table item.server item.name (record { server = s.name; def = t.def })) raw.tables) refl
    by_part t (inr k) =
        let r = in_map (λ (a : TableAt). record { def = a.def; registered = None }) (filter (λ a. bytes_eq a.server s.name && is_none (server_table a.def.name s)) defs.tables) t k in
        let kept = in_filter (λ (a : TableAt). bytes_eq a.server s.name && is_none (server_table a.def.name s)) defs.tables r.0 r.1 in (
          r.0,
          in_first texts others r.0 (subst (λ (d : Defs). In r.0 d.tables) accepted.spelled kept.0),
          same_name r.0.server s.name (and_parts (bytes_eq r.0.server s.name) (is_none (server_table r.0.def.name s)) kept.1).0,
          sym (ap (λ (a : ServerTable). a.def.name) r.2),
        )

-- a table of a server that is loaded is one of the context
pub table_in_context : (raw : RawDefs) (w : World) (defs : Defs) → IsSound w → Accepted raw w defs → (s : Server) → In s w → (t : ServerTable) → In t (load_server defs s).tables → (table : TableAt) × (find (is_table s.name t.def.name) (context_in w raw).tables ≡ Some table) × (table.def ≡ t.def)
table_in_context raw w defs sound accepted s i t j = by_found (find (is_table s.name t.def.name) (context_in w raw).tables) refl
  where
    by_found : (o : Option TableAt) → find (is_table s.name t.def.name) (context_in w raw).tables ≡ o → (table : TableAt) × (find (is_table s.name t.def.name) (context_in w raw).tables ≡ Some table) × (table.def ≡ t.def)
    by_found None e =
        let x = stands_in_context raw w defs sound accepted s i t j in
        absurd (false≢true (sym (ap (λ (o : Option TableAt). is_some o) e) ∙ found_some (is_table s.name t.def.name) (context_in w raw).tables x.0 x.1
        (and_from (bytes_eq s.name x.0.server) (bytes_eq t.def.name x.0.def.name) (ap (bytes_eq s.name) x.2 ∙ name_itself s.name) (ap (bytes_eq t.def.name) x.3 ∙ name_itself t.def.name))))
    by_found (Some table) e =
        let r = context_table raw w defs sound accepted s.name t.def.name table s e (server_of_name w s sound i) in
        (table, e, sym r.2 ∙ ap (λ (a : ServerTable). a.def) (same_Some r.0 t (sym r.1 ∙ table_of_name raw w defs sound accepted s i t.def.name t j refl)))

-- ---- the registered tables of the context

-- A registered table of a context: a table with a registration.
pub record IsRegistered (context : Context) (server name : List ℕ) (source : SourceTable) : Type 0 where
  pub table : TableAt
  pub registration : RegistrationAt
  pub table_found : find (is_table server name) context.tables ≡ Some table
  pub registration_found : find (is_registration server name) context.registrations ≡ Some registration
  pub def : source.def ≡ table.def
  pub reg : source.reg ≡ registration.def

-- a registered table is one
pub registered_is : (context : Context) (server name : List ℕ) (source : SourceTable) → registered_source context server name ≡ Some source → IsRegistered context server name source
registered_is context server name source e =
    let table = from_step (λ (t : TableAt). option_map (λ (r : RegistrationAt). as_source_table t.def r.def) (find (is_registration server name) context.registrations)) (find (is_table server name) context.tables) source e in
    let registration = from_image (λ (r : RegistrationAt). as_source_table table.0.def r.def) (find (is_registration server name) context.registrations) source table.2 in
    record {
      table = table.0;
      registration = registration.0;
      table_found = table.1;
      registration_found = registration.1;
      def = sym (ap (λ (a : SourceTable). a.def) registration.2);
      reg = sym (ap (λ (a : SourceTable). a.reg) registration.2);
    }

-- the registration that the context has of a table is that of the table once it is loaded
loaded_registration : (raw : RawDefs) (w : World) (defs : Defs) → IsSound w → Accepted raw w defs → (s : Server) → In s w → (name : List ℕ) (t : ServerTable) → server_table name (load_server defs s) ≡ Some t → (x : RegistrationAt) → find (is_registration s.name name) (context_in w raw).registrations ≡ Some x → (r : Registered) × (t.registered ≡ Some r) × (r.reg ≡ x.def)
loaded_registration raw w defs sound accepted s i name t stands x found =
    by_part (find is_it texts) refl (sym (find-append is_it texts others) ∙ ap (find is_it) (sym (context_registrations raw w)) ∙ found)
  where
    is_it : RegistrationAt → Bool
    is_it = is_registration s.name name

    texts : List RegistrationAt
    texts = filter_map (spelled_registration (context_in w raw).tables) raw.registrations

    others : List RegistrationAt
    others = filter (is_other_registration raw.registrations) (known_defs w).registrations

    at : In t (load_server defs s).tables × (bytes_eq name t.def.name ≡ true)
    at = found_in (λ (a : ServerTable). bytes_eq name a.def.name) (load_server defs s).tables t stands

    -- the table as it stood, or stands at first
    before : (u : ServerTable) × In u (s.tables ++ new_tables defs s) × (t ≡ register defs s u)
    before = in_map (register defs s) (s.tables ++ new_tables defs s) t at.0

    named : before.0.def.name ≡ name
    named = sym (ap (λ (a : ServerTable). a.def.name) before.2) ∙ sym (same_name name t.def.name at.1)

    same_test : (λ (r : RegistrationAt). bytes_eq r.server s.name && bytes_eq r.def.table before.0.def.name) ≡ is_it
    same_test = λ k r. name_either_way r.server s.name k && (ap (bytes_eq r.def.table) named ∙ name_either_way r.def.table name) k

    -- the text's registration of the table
    given : find is_it defs.registrations ≡ Some x → registration_in defs s before.0 ≡ Some (fresh_registration x.def)
    given e = ap (option_map (λ (r : RegistrationAt). fresh_registration r.def)) (ap (λ (p : RegistrationAt → Bool). find p defs.registrations) same_test ∙ e)

    by_registered : In x defs.registrations → is_it x ≡ true → find is_it defs.registrations ≡ Some x → In before.0 s.tables ⊎ In before.0 (new_tables defs s) → (o : Option Registered) → before.0.registered ≡ o → (r : Registered) × (t.registered ≡ Some r) × (r.reg ≡ x.def)
    by_registered k is e part None none = (fresh_registration x.def, ap (λ (a : ServerTable). a.registered) before.2 ∙ ap₂ (λ (a b : Option Registered). option_or a b) none (given e), refl)
    by_registered k is e (inr new) (Some r) some =
        let of = in_map (λ (a : TableAt). record { def = a.def; registered = None }) (filter (λ a. bytes_eq a.server s.name && is_none (server_table a.def.name s)) defs.tables) before.0 new in
        absurd (none-some r (sym (ap (λ (a : ServerTable). a.registered) of.2) ∙ some))
    by_registered k is e (inl old) (Some r) some =
        let agrees = at_one (AgreesWith defs) w s accepted.same i in
        let same = and_parts (bytes_eq s.name x.server) (bytes_eq name x.def.table) is in (
          r,
          ap (λ (a : ServerTable). a.registered) before.2 ∙ ap (λ (o : Option Registered). option_or o (registration_in defs s before.0)) some,
          at_one (λ (a : RegistrationAt). bytes_eq a.server s.name ≡ true → (standing : ServerTable) (registered : Registered) → server_table a.def.table s ≡ Some standing → standing.registered ≡ Some registered → registered.reg ≡ a.def) defs.registrations x agrees.registrations k
              (name_either_way x.server s.name ∙ same.0) before.0 r
              (table_alone s.tables x.def.table before.0 (server_rules w s sound i).differ old (named ∙ same_name name x.def.table same.1)) some,
        )

    known : In x (known_defs w).registrations → is_it x ≡ true → (r : Registered) × (t.registered ≡ Some r) × (r.reg ≡ x.def)
    known k is =
        let same = and_parts (bytes_eq s.name x.server) (bytes_eq name x.def.table) is in
        let of = known_registration w x k in
        at_server of.0 of.1 (same_server w of.0 s sound of.1 i (sym of.2 ∙ sym (same_name s.name x.server same.0))) of.3.0 of.3.1 of.3.2 of.3.3 of.3.4 (same_name name x.def.table same.1)
      where
        at_server : (a : Server) → In a w → a ≡ s → (u : ServerTable) (r : Registered) → In u a.tables → u.registered ≡ Some r → r.reg ≡ x.def → name ≡ x.def.table → (q : Registered) × (t.registered ≡ Some q) × (q.reg ≡ x.def)
        at_server a j is u r l registered reg same =
            let there : In u s.tables = subst (λ (b : Server). In u b.tables) is l in
            let keeps = at_one KeepsTable s.tables u (server_rules w s sound i).tables there in
            let rules : RegistrationKeepsRules u.def r.reg = subst (λ (o : Option Registered). IfSome o (λ q. RegistrationKeepsRules u.def q.reg)) registered keeps.2 in
            let one = same_Some t (register defs s u) (sym stands ∙ table_of_name raw w defs sound accepted s i name (register defs s u) (image_in (register defs s) (s.tables ++ new_tables defs s) u (in_first s.tables (new_tables defs s) u there)) (sym rules.table ∙ ap (λ (d : Registration). d.table) reg ∙ sym same)) in
            (r, ap (λ (b : ServerTable). b.registered) one ∙ ap (λ (o : Option Registered). option_or o (registration_in defs s u)) registered, reg)

    by_part : (o : Option RegistrationAt) → find is_it texts ≡ o → option_or o (find is_it others) ≡ Some x → (r : Registered) × (t.registered ≡ Some r) × (r.reg ≡ x.def)
    by_part None none e =
        let of = found_in is_it others x e in
        known (in_filter (is_other_registration raw.registrations) (known_defs w).registrations x of.0).0 of.1
    by_part (Some y) some e =
        let here : find is_it texts ≡ Some x = some ∙ e in
        let of = found_in is_it texts x here in
        by_registered (subst (λ (d : Defs). In x d.registrations) (sym accepted.spelled) of.0) of.1 (subst (λ (d : Defs). find is_it d.registrations ≡ Some x) (sym accepted.spelled) here)
        (in_either s.tables (new_tables defs s) before.0 before.1) before.0.registered refl

-- a registered table of the context is one of its server once that is loaded
pub context_source : (raw : RawDefs) (w : World) (defs : Defs) → IsSound w → Accepted raw w defs → (server name : List ℕ) (source : SourceTable) (s : Server) → registered_source (context_in w raw) server name ≡ Some source → server_named server w ≡ Some s → (u : SourceTable) × (source_named name (load_server defs s) ≡ Some u) × (u.def ≡ source.def) × (u.reg ≡ source.reg)
context_source raw w defs sound accepted server name source s registered named =
    let is = registered_is (context_in w raw) server name source registered in
    let here = found_in (λ (a : Server). bytes_eq server a.name) w s named in
    let t = context_table raw w defs sound accepted server name is.table s is.table_found named in
    let r = loaded_registration raw w defs sound accepted s here.0 name t.0 t.1 is.registration
    (subst (λ (a : List ℕ). find (is_registration a name) (context_in w raw).registrations ≡ Some is.registration) (same_name server s.name here.1) is.registration_found) in (
      record { def = t.0.def; reg = r.0.reg; log = s.log },
      ap (option_and_then (as_source (load_server defs s))) t.1 ∙ ap (option_map (λ (q : Registered). record { def = t.0.def; reg = q.reg; log = s.log })) r.1,
      t.2 ∙ sym is.def,
      r.2 ∙ sym is.reg,
    )
