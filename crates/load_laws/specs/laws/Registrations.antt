-- Which registrations are planned for a server: those that a text has of tables that aren't registered there.
use Rattle.std.proofs.Common.{◌≡◌, ◌⊎◌, inl, inr, ℕ, Bool, true, ◌&&◌, List, ◌++◌, map, Option, Some, None, refl, sym, ap, ap₂, ◌∙◌, find, filter, is_none, option_map, option_and_then, bytes_eq}
use Rattle.std.specs.List.{enumerate_from}
use Rattle.std.proofs.lemmas.Bool.{and_parts, and_from}
use Rattle.std.proofs.lemmas.Option.{none-some, same_Some}
use Rattle.repl_model.specs.Words.{DefinedRegistration, all_differ, ServerKeepsRules, Registered, ServerTable, Server, World, server_table, In, given_in, in_filter_map, in_filter, kept_by, in_map, in_first, in_either, found_in, beside_images, embeds_zip, embeds_differ, same_name, name_itself, find_alone}
use Rattle.repl_commands.specs.declared.written.RawDefs.{RawDefs}
use Rattle.spelled_defs.specs.declared.defs.Defs.{Defs}
use Rattle.spelled_defs.specs.declared.defs.TableAt.{TableAt}
use Rattle.spelled_defs.specs.declared.defs.RegistrationAt.{RegistrationAt}
use Rattle.load_laws.specs.worlds.Loads.{new_tables, register, load_server}
use Rattle.load_laws.specs.rules.Accepted.{Accepted}
use Rattle.load_plan.specs.Additions.{tables_added, gets_registration, numbered_registration, registrations_added}
use Rattle.load_plan.specs.declared.stored.StoredServer.{StoredServer}
use Rattle.load_laws.specs.planned.Planned.{stored_server}
use Rattle.load_laws.specs.laws.Added.{is_new_table, registration_is_new, registration_numbered}
use Rattle.load_laws.specs.laws.PlannedLists.{numbered_in, numbered_differ, alike_is_one}
use Rattle.load_laws.specs.laws.Named.{names}
use Rattle.load_laws.specs.laws.Once.{registrations_once}
use Rattle.load_laws.specs.laws.StoredPlans.{registration_of}
use Rattle.load_laws.specs.laws.Loaded.{none_there}

-- ---- names of tables

-- tables of one name are one, with their numbers
abbrev pub ApartByName : List (ℕ × ServerTable) → Type 0
ApartByName ts = (t u : ℕ × ServerTable) → In t ts → In u ts → t.1.def.name ≡ u.1.def.name → t ≡ u

-- no two tables have one name
abbrev pub names_apart : List ServerTable → Bool
names_apart ts = all_differ (λ a b. bytes_eq a.def.name b.def.name) ts

-- if no two tables have one name, so it is
pub apart_by_name : (ts : List ServerTable) → names_apart ts ≡ true → ApartByName (enumerate_from 0 ts)
apart_by_name ts differ = alike_is_one (λ (t : ℕ × ServerTable). t.1.def.name) bytes_eq names.exact names.itself (enumerate_from 0 ts) (numbered_differ (λ (t u : ServerTable). bytes_eq t.def.name u.def.name) 0 ts differ)

module _ (raw : RawDefs) (world : World) (defs : Defs) (server : Server) (keeps : ServerKeepsRules world server) (accepted : Accepted raw world defs) (differ : names_apart (load_server defs server).tables ≡ true) where
  -- what it keeps
  abbrev stored : StoredServer
  stored = stored_server server

  -- the tables that it has or gets
  abbrev pub all : List ServerTable
  all = server.tables ++ new_tables defs server

  -- no two of them have one name
  all_apart : names_apart all ≡ true
  all_apart = embeds_differ (λ t u. u ≡ register defs server t) (λ a b. bytes_eq a.def.name b.def.name) (λ a b. bytes_eq a.def.name b.def.name) (λ t u v w e f same. ap₂ (λ (a b : ServerTable). bytes_eq a.def.name b.def.name) e f ∙ same) all (map (register defs server) all)
      (embeds_zip (λ t u. u ≡ register defs server t) all (map (register defs server) all) (beside_images (λ t u. u ≡ register defs server t) (register defs server) (λ t. refl) all)) differ

  -- a new table isn't registered
  pub new_unregistered : (t : ServerTable) → In t (new_tables defs server) → t.registered ≡ None
  new_unregistered t i = ap (λ (u : ServerTable). u.registered) (in_map (λ (t : TableAt). record { def = t.def; registered = None }) (filter (is_new_table server) defs.tables) t i).2

  -- the registration of a name doesn't stand there if the table of the name has none
  none_stands : (t : ServerTable) (name : List ℕ) → In t all → name ≡ t.def.name → t.registered ≡ None → option_and_then registration_of (server_table name server) ≡ None
  none_stands t name i named none = by_found (server_table name server) refl
    where
      by_found : (o : Option ServerTable) → server_table name server ≡ o → option_and_then registration_of o ≡ None
      by_found None e = refl
      by_found (Some u) e =
          let r = found_in (λ (u : ServerTable). bytes_eq name u.def.name) server.tables u e in
          let same : t ≡ u = alike_is_one (λ (t : ServerTable). t.def.name) bytes_eq names.exact names.itself all all_apart t u i (in_first server.tables (new_tables defs server) u r.0) (sym named ∙ same_name name u.def.name r.1) in
          ap registration_of (sym same) ∙ ap (option_map (λ (x : Registered). x.reg)) none

  -- and the other way round
  not_registered : (t : ServerTable) (name : List ℕ) → In t all → name ≡ t.def.name → is_none (option_and_then registration_of (server_table name server)) ≡ true → t.registered ≡ None
  not_registered t name i named none = by_list (in_either server.tables (new_tables defs server) t i)
    where
      by_registered : (o : Option Registered) → option_map (λ x. x.reg) o ≡ None → o ≡ None
      by_registered None e = refl
      by_registered (Some x) e = absurd (none-some x.reg (sym e))

      by_list : In t server.tables ⊎ In t (new_tables defs server) → t.registered ≡ None
      by_list (inl j) =
          let found : server_table name server ≡ Some t = find_alone (λ (u : ServerTable). bytes_eq name u.def.name) server.tables t j (ap (bytes_eq name) (sym named) ∙ name_itself name) (λ u k passes. alike_is_one (λ (t : ServerTable). t.def.name) bytes_eq names.exact names.itself server.tables keeps.differ u t k j (sym (same_name name u.def.name passes) ∙ named)) in
          by_registered t.registered (sym (ap (option_and_then registration_of) found) ∙ none_there (option_and_then registration_of (server_table name server)) none)
      by_list (inr j) = new_unregistered t j

  -- a registration of the text is for a table of the server
  abbrev pub of_text : ServerTable → RegistrationAt → Bool
  of_text t r = bytes_eq r.server server.name && bytes_eq r.def.table t.def.name

  -- a registration with its table's number
  abbrev numbered : RegistrationAt → Option DefinedRegistration
  numbered r = numbered_registration (stored.tables ++ tables_added defs stored) r

  -- a registration of a text with its table, which is one that the server has or gets, and isn't registered
  pub record IsPlannedFor (u : ℕ × ServerTable) (r : RegistrationAt) : Type 0 where
    pub table : In u (enumerate_from 0 all)
    pub none : u.1.registered ≡ None
    pub found : find (of_text u.1) defs.registrations ≡ Some r

  -- it names its table
  pub planned_table : (u : ℕ × ServerTable) (r : RegistrationAt) → IsPlannedFor u r → r.def.table ≡ u.1.def.name
  planned_table u r is =
      let k = found_in (of_text u.1) defs.registrations r is.found in
      same_name r.def.table u.1.def.name (and_parts (bytes_eq r.server server.name) (bytes_eq r.def.table u.1.def.name) k.1).1

  -- it is planned, with its table's number
  pub is_planned : (u : ℕ × ServerTable) (r : RegistrationAt) → IsPlannedFor u r → In (record { number = u.0; registration = r.def }) (registrations_added defs stored)
  is_planned u r is =
      let k = found_in (of_text u.1) defs.registrations r is.found in
      let table = planned_table u r is in
      let gets : gets_registration stored r ≡ true = registration_is_new world server keeps r ∙ and_from (bytes_eq r.server server.name) (is_none (option_and_then registration_of (server_table r.def.table server))) (and_parts (bytes_eq r.server server.name) (bytes_eq r.def.table u.1.def.name) k.1).0 (ap is_none (none_stands u.1 r.def.table (numbered_in 0 all u is.table) table is.none)) in
      let is_numbered : numbered r ≡ Some (record { number = u.0; registration = r.def }) =
      registration_numbered world server keeps defs r
      ∙ ap (option_map (λ (t : ℕ × ServerTable). record { number = t.0; registration = r.def })) (find_alone (λ (t : ℕ × ServerTable). bytes_eq r.def.table t.1.def.name) (enumerate_from 0 all) u is.table (ap (bytes_eq r.def.table) (sym table) ∙ name_itself r.def.table) (λ t j passes. apart_by_name all all_apart t u j is.table (sym (same_name r.def.table t.1.def.name passes) ∙ table))) in
      given_in numbered (filter (gets_registration stored) defs.registrations) r (record { number = u.0; registration = r.def }) (kept_by (gets_registration stored) defs.registrations r k.0 gets) is_numbered

  -- what is planned is such a registration
  pub planned_for : (d : DefinedRegistration) → In d (registrations_added defs stored) → (u : ℕ × ServerTable) × (r : RegistrationAt) × IsPlannedFor u r × (d ≡ record { number = u.0; registration = r.def })
  planned_for d i =
      let c = in_filter_map numbered (filter (gets_registration stored) defs.registrations) d i in
      let k = in_filter (gets_registration stored) defs.registrations c.0 c.1 in
      let both = and_parts (bytes_eq c.0.server server.name) (is_none (option_and_then registration_of (server_table c.0.def.table server))) (sym (registration_is_new world server keeps c.0) ∙ k.1) in
      by_table c.0 k.0 (same_name c.0.server server.name both.0) both.1 (find (λ (t : ℕ × ServerTable). bytes_eq c.0.def.table t.1.def.name) (enumerate_from 0 all)) refl (sym (registration_numbered world server keeps defs c.0) ∙ c.2)
    where
      by_table : (r : RegistrationAt) → In r defs.registrations → r.server ≡ server.name → is_none (option_and_then registration_of (server_table r.def.table server)) ≡ true → (o : Option (ℕ × ServerTable)) → find (λ t. bytes_eq r.def.table t.1.def.name) (enumerate_from 0 all) ≡ o → option_map (λ t. record { number = t.0; registration = r.def }) o ≡ Some d
          → (u : ℕ × ServerTable) × (r : RegistrationAt) × IsPlannedFor u r × (d ≡ record { number = u.0; registration = r.def })
      by_table r j at none None found e = absurd (none-some d e)
      by_table r j at none (Some u) found e =
          let k = found_in (λ (t : ℕ × ServerTable). bytes_eq r.def.table t.1.def.name) (enumerate_from 0 all) u found in
          let table : r.def.table ≡ u.1.def.name = same_name r.def.table u.1.def.name k.1 in
          let text : find (of_text u.1) defs.registrations ≡ Some r = find_alone (of_text u.1) defs.registrations r j
          (and_from (bytes_eq r.server server.name) (bytes_eq r.def.table u.1.def.name) (ap (λ (name : List ℕ). bytes_eq name server.name) at ∙ name_itself server.name) k.1)
          (λ other l passes. let both = and_parts (bytes_eq other.server server.name) (bytes_eq other.def.table u.1.def.name) passes in registrations_once raw world defs accepted other r l j (same_name other.server server.name both.0 ∙ sym at) (same_name other.def.table u.1.def.name both.1 ∙ sym table)) in
          (u, r, record { table = k.0; none = not_registered u.1 r.def.table (numbered_in 0 all u k.0) table none; found = text }, sym (same_Some (record { number = u.0; registration = r.def }) d e))
