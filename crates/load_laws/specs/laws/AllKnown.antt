-- A text of which all is known gives no server something new.
use Rattle.std.proofs.Common.{◌≡◌, ℕ, Bool, true, false, ◌&&◌, ◌||◌, nat_lt, List, [], ◌∷◌, length, map, Option, Some, None, refl, sym, ap, subst, ◌∙◌, inl, filter, find, is_none, is_some, bytes_eq}
use Rattle.std.specs.List.{enumerate_from, list_any}
use Rattle.std.specs.Option.{option_map, option_map_or}
use Rattle.std.proofs.lemmas.Bool.{false≢true, both_ways, false_from_ne_true, and_parts}
use Rattle.std.proofs.lemmas.Option.{none-some}
use Rattle.repl_model.specs.Words.{SetId, SetDef, TargetSet, DefinedTable, DefinedRegistration, IsSound, ServerKeepsRules, SetKeepsLimits, UnknownTarget, Registered, ServerTable, TargetSide, Server, World, same_set, server_named, server_table, source_side, target_side, In, at_one, any_from, some_passes, in_filter, in_filter_map, in_flat_map, in_map, found_in, same_name, name_itself, same_id, id_itself, find_alone}
use Rattle.world_store.specs.Words.{name_cmp, set_cmp, IsName, IsSet, short_text, set_spelling, numbered_tables, table_rows, defined_registration, registration_rows, target_set_rows}
use Rattle.repl_commands.specs.declared.written.RawDefs.{RawDefs}
use Rattle.spelled_defs.specs.Spelled.{is_table, is_registration}
use Rattle.spelled_defs.specs.declared.defs.Defs.{Defs}
use Rattle.spelled_defs.specs.declared.defs.RegistrationAt.{RegistrationAt}
use Rattle.spelled_defs.specs.declared.defs.TableAt.{TableAt}
use Rattle.load_laws.specs.known.Known.{tables_at, registrations_at, stands_at_source, sets_at, known_defs}
use Rattle.load_laws.specs.worlds.Loads.{new_tables, fresh_registration, fresh_source, fresh_target, new_sources, new_targets, registration_in}
use Rattle.load_laws.specs.rules.Accepted.{AgreesWith, Accepted}
use Rattle.load_laws.specs.planned.Path.{gains_registration, gains}
use Rattle.load_laws.specs.planned.PlannedLoads.{AreKnown, KnownTextsAddNothing}
use Rattle.load_laws.specs.laws.ByKey.{HasSame}
use Rattle.load_laws.specs.laws.PlannedLists.{some_found, numbered_in, alike_is_one}
use Rattle.load_laws.specs.laws.Named.{names, set_names, named_same}
use Rattle.load_laws.specs.laws.StoredPlans.{defined_table, defined_target, table_names_fit, target_names_fit, registrations_same, names_its_table}
use Rattle.load_laws.specs.laws.Loaded.{none_there}

-- ---- lists

-- if each element fails a test, a filter keeps none
keeps_none : {X : Type 0} (p : X → Bool) (xs : List X) → ((x : X) → In x xs → p x ≡ false) → filter p xs ≡ []
keeps_none {X} p xs fails = by_list (filter p xs) refl
  where
    by_list : (l : List X) → filter p xs ≡ l → filter p xs ≡ []
    by_list [] e = e
    by_list (x ∷ l) e = let r = in_filter p xs x (subst (In x) (sym e) (inl refl)) in absurd (both_ways (p x) (fails x r.0) r.1)

-- and none passes it
passes_none : {X : Type 0} (p : X → Bool) (xs : List X) → ((x : X) → In x xs → p x ≡ false) → list_any p xs ≡ false
passes_none p xs fails = false_from_ne_true (list_any p xs) (λ e. let r = some_passes p xs e in both_ways (p r.0) (fails r.0 r.1) r.2)

-- what is there isn't missing
some_none : {X : Type 0} (o : Option X) → is_some o ≡ true → is_none o ≡ true → ⊥
some_none None some none = false≢true some
some_none (Some x) some none = false≢true none

-- a table that gives a registration has one
given_some : (t : ℕ × ServerTable) (row : List ℕ × DefinedRegistration) → defined_registration t ≡ Some row → is_none t.1.registered ≡ true → ⊥
given_some t row = by_registered t.1.registered
  where
    by_registered : (o : Option Registered) → option_map (λ r. (t.1.def.name, record { number = t.0; registration = r.reg })) o ≡ Some row → is_none o ≡ true → ⊥
    by_registered None e none = none-some row e
    by_registered (Some r) e none = false≢true none

module _ (world : World) (sound : IsSound world) where
  -- ---- what is known

  -- each server keeps the rules
  keeps : (server : Server) → In server world → ServerKeepsRules world server
  keeps server i = at_one (ServerKeepsRules world) world server sound.definitions.servers i

  -- servers of one name are one
  same_server : (s u : Server) → In s world → In u world → s.name ≡ u.name → s ≡ u
  same_server s u i j e = alike_is_one (λ (server : Server). server.name) bytes_eq same_name name_itself world sound.definitions.names s u i j e

  -- a known table is one of a server
  table_there : (t : TableAt) → In t (known_defs world).tables → (s : Server) × In s world × (u : ServerTable) × In u s.tables × (t.server ≡ s.name) × (t.def.name ≡ u.def.name)
  table_there t i =
      let s = in_flat_map tables_at world t i in
      let k = keeps s.0 s.1 in
      let r = in_map (λ (r : List ℕ × DefinedTable). record { server = s.0.name; def = r.1.def }) (table_rows s.0) t s.2 in
      let rows : HasSame (table_rows s.0) (map (λ (u : ℕ × ServerTable). (u.1.def.name, defined_table u)) (numbered_tables s.0)) = named_same short_text IsName name_cmp bytes_eq names (λ (u : ServerTable). u.def.name) defined_table s.0.tables (table_names_fit world s.0 k) k.differ in
      let e = in_map (λ (u : ℕ × ServerTable). (u.1.def.name, defined_table u)) (numbered_tables s.0) r.0 (rows.there r.0 r.1) in
      (s.0, s.1, e.0.1, numbered_in 0 s.0.tables e.0 e.1, ap (λ (x : TableAt). x.server) r.2, ap (λ (x : TableAt). x.def.name) r.2 ∙ ap (λ (x : List ℕ × DefinedTable). x.1.def.name) e.2)

  -- a known registration is one of a table of a server
  registration_there : (r : RegistrationAt) → In r (known_defs world).registrations → (s : Server) × In s world × (u : ServerTable) × In u s.tables × (r.server ≡ s.name) × (r.def.table ≡ u.def.name) × (is_none u.registered ≡ true → ⊥)
  registration_there r i =
      let s = in_flat_map registrations_at world r i in
      let k = keeps s.0 s.1 in
      let row = in_map (λ (x : List ℕ × DefinedRegistration). record { server = s.0.name; def = x.1.registration }) (registration_rows s.0) r s.2 in
      let e = in_filter_map defined_registration (numbered_tables s.0) row.0 ((registrations_same world s.0 k).there row.0 row.1) in
      (s.0, s.1, e.0.1, numbered_in 0 s.0.tables e.0 e.1, ap (λ (x : RegistrationAt). x.server) row.2, ap (λ (x : RegistrationAt). x.def.table) row.2 ∙ names_its_table world s.0 k e.0 row.0 e.1 e.2, given_some e.0 row.0 e.2)

  -- a known set stands at a server as its target, and at its source
  set_there : (def : SetDef) → In def (known_defs world).sets → (s : Server) × In s world × (side : TargetSide) × In side s.target_sets × (def ≡ side.def) × (stands_at_source world def ≡ true)
  set_there def i =
      let s = in_flat_map (sets_at world) world def i in
      let k = keeps s.0 s.1 in
      let f = in_filter (stands_at_source world) (map (λ (r : SetId × TargetSet). r.1.def) (target_set_rows s.0)) def s.2 in
      let r = in_map (λ (r : SetId × TargetSet). r.1.def) (target_set_rows s.0) def f.0 in
      let rows : HasSame (target_set_rows s.0) (map (λ (u : ℕ × TargetSide). (u.1.def.id, defined_target u)) (enumerate_from 0 s.0.target_sets)) = named_same set_spelling IsSet set_cmp same_set set_names (λ (side : TargetSide). side.def.id) defined_target s.0.target_sets (target_names_fit world s.0 k) k.target_names in
      let e = in_map (λ (u : ℕ × TargetSide). (u.1.def.id, defined_target u)) (enumerate_from 0 s.0.target_sets) r.0 (rows.there r.0 r.1) in
      (s.0, s.1, e.0.1, numbered_in 0 s.0.target_sets e.0 e.1, r.2 ∙ ap (λ (x : SetId × TargetSet). x.1.def) e.2, f.1)

  module _ (raw : RawDefs) (defs : Defs) (accepted : Accepted raw world defs) (known : AreKnown world defs) (server : Server) (i : In server world) where
    -- ---- what a server gets

    -- it gets no table
    no_table : new_tables defs server ≡ []
    no_table = ap (map (λ (t : TableAt). record { def = t.def; registered = None })) (keeps_none (λ t. bytes_eq t.server server.name && is_none (server_table t.def.name server)) defs.tables (λ t j. false_from_ne_true (bytes_eq t.server server.name && is_none (server_table t.def.name server)) (λ e. stands t j (and_parts (bytes_eq t.server server.name) (is_none (server_table t.def.name server)) e))))
      where
        stands : (t : TableAt) → In t defs.tables → (bytes_eq t.server server.name ≡ true) × (is_none (server_table t.def.name server) ≡ true) → ⊥
        stands t j both =
            let k = some_passes (is_table t.server t.def.name) (known_defs world).tables (at_one (λ (t : TableAt). list_any (is_table t.server t.def.name) (known_defs world).tables ≡ true) defs.tables t known.tables j) in
            let test = and_parts (bytes_eq t.server k.0.server) (bytes_eq t.def.name k.0.def.name) k.2 in
            let u = table_there k.0 k.1 in
            let same : u.0 ≡ server = same_server u.0 server u.1 i (sym u.4 ∙ sym (same_name t.server k.0.server test.0) ∙ same_name t.server server.name both.0) in
            let named : bytes_eq t.def.name u.2.def.name ≡ true = ap (bytes_eq t.def.name) (sym u.5) ∙ test.1 in
            some_none (server_table t.def.name server) (some_found (λ (x : ServerTable). bytes_eq t.def.name x.def.name) server.tables (any_from (λ (x : ServerTable). bytes_eq t.def.name x.def.name) server.tables u.2 (subst (λ (s : Server). In u.2 s.tables) same u.3) named)) both.1

    -- none of its tables gets a registration
    no_registration : list_any (gains_registration defs server) server.tables ≡ false
    no_registration = passes_none (gains_registration defs server) server.tables (λ t j. false_from_ne_true (gains_registration defs server t) (λ e.
        let both = and_parts (is_none t.registered) (is_some (registration_in defs server t)) e in
        by_found t j both.0 (find (λ r. bytes_eq r.server server.name && bytes_eq r.def.table t.def.name) defs.registrations) refl both.1))
      where
        stands : (t : ServerTable) → In t server.tables → is_none t.registered ≡ true → (r : RegistrationAt) → In r defs.registrations → (bytes_eq r.server server.name ≡ true) × (bytes_eq r.def.table t.def.name ≡ true) → ⊥
        stands t j none r l both =
            let k = some_passes (is_registration r.server r.def.table) (known_defs world).registrations (at_one (λ (r : RegistrationAt). list_any (is_registration r.server r.def.table) (known_defs world).registrations ≡ true) defs.registrations r known.registrations l) in
            let test = and_parts (bytes_eq r.server k.0.server) (bytes_eq r.def.table k.0.def.table) k.2 in
            let u = registration_there k.0 k.1 in
            let same : u.0 ≡ server = same_server u.0 server u.1 i (sym u.4 ∙ sym (same_name r.server k.0.server test.0) ∙ same_name r.server server.name both.0) in
            let one : u.2 ≡ t = alike_is_one (λ (x : ServerTable). x.def.name) bytes_eq same_name name_itself server.tables (keeps server i).differ u.2 t (subst (λ (s : Server). In u.2 s.tables) same u.3) j (sym u.5 ∙ sym (same_name r.def.table k.0.def.table test.1) ∙ same_name r.def.table t.def.name both.1) in
            u.6 (ap (λ (x : ServerTable). is_none x.registered) one ∙ none)

        by_found : (t : ServerTable) → In t server.tables → is_none t.registered ≡ true → (o : Option RegistrationAt) → find (λ r. bytes_eq r.server server.name && bytes_eq r.def.table t.def.name) defs.registrations ≡ o → is_some (option_map (λ r. fresh_registration r.def) o) ≡ true → ⊥
        by_found t j none None e some = false≢true some
        by_found t j none (Some r) e some =
            let f = found_in (λ (r : RegistrationAt). bytes_eq r.server server.name && bytes_eq r.def.table t.def.name) defs.registrations r e in
            stands t j none r f.0 (and_parts (bytes_eq r.server server.name) (bytes_eq r.def.table t.def.name) f.1)

    -- a set of the text stands at its target, and at its source
    set_is : (def : SetDef) → In def defs.sets → (s : Server) × In s world × (side : TargetSide) × In side s.target_sets × (target_side def.id s ≡ Some side) × (side.def ≡ def) × (stands_at_source world def ≡ true)
    set_is def j =
        let k = some_passes (λ (other : SetDef). same_set def.id other.id) (known_defs world).sets (at_one (λ (d : SetDef). list_any (λ (other : SetDef). same_set d.id other.id) (known_defs world).sets ≡ true) defs.sets def known.sets j) in
        let t = set_there k.0 k.1 in
        let named : same_set def.id t.2.def.id ≡ true = ap (λ (d : SetDef). same_set def.id d.id) (sym t.4) ∙ k.2 in
        let found : target_side def.id t.0 ≡ Some t.2 = find_alone (λ (side : TargetSide). same_set def.id side.def.id) t.0.target_sets t.2 t.3 named (λ other l same. alike_is_one (λ (side : TargetSide). side.def.id) same_set same_id id_itself t.0.target_sets (keeps t.0 t.1).target_names other t.2 l t.3 (sym (same_id def.id other.def.id same) ∙ same_id def.id t.2.def.id named)) in
        let agrees = at_one (AgreesWith defs) world t.0 accepted.same t.1 in
        let is : t.2.def ≡ def = at_one (λ (d : SetDef). (side : TargetSide) → target_side d.id t.0 ≡ Some side → side.def ≡ d) defs.sets def agrees.targets j t.2 found in
        (t.0, t.1, t.2, t.3, found, is, subst (λ (d : SetDef). stands_at_source world d ≡ true) (t.4 ∙ is) t.5)

    -- it gets no set as the source
    no_source : new_sources defs server ≡ []
    no_source = ap (map fresh_source) (keeps_none (λ def. bytes_eq def.source server.name && is_none (source_side def.id server)) defs.sets (λ def j. false_from_ne_true (bytes_eq def.source server.name && is_none (source_side def.id server)) (λ e.
        by_server def (and_parts (bytes_eq def.source server.name) (is_none (source_side def.id server)) e) (server_named def.source world) refl (set_is def j).6)))
      where
        by_server : (def : SetDef) → (bytes_eq def.source server.name ≡ true) × (is_none (source_side def.id server) ≡ true) → (o : Option Server) → server_named def.source world ≡ o → option_map_or (λ source. is_some (source_side def.id source)) o false ≡ true → ⊥
        by_server def both None e stands = false≢true stands
        by_server def both (Some s) e stands =
            let f = found_in (λ (x : Server). bytes_eq def.source x.name) world s e in
            let same : s ≡ server = same_server s server f.0 i (sym (same_name def.source s.name f.1) ∙ same_name def.source server.name both.0) in
            some_none (source_side def.id server) (subst (λ (x : Server). is_some (source_side def.id x) ≡ true) same stands) both.1

    -- nor as the target
    no_target : new_targets defs server ≡ []
    no_target = ap (map fresh_target) (keeps_none (λ def. bytes_eq def.target server.name && is_none (target_side def.id server)) defs.sets (λ def j. false_from_ne_true (bytes_eq def.target server.name && is_none (target_side def.id server)) (λ e.
        stands def j (and_parts (bytes_eq def.target server.name) (is_none (target_side def.id server)) e))))
      where
        stands : (def : SetDef) → In def defs.sets → (bytes_eq def.target server.name ≡ true) × (is_none (target_side def.id server) ≡ true) → ⊥
        stands def j both =
            let t = set_is def j in
            let at : t.2.def.target ≡ t.0.name = (at_one (λ (side : TargetSide). (side.def.target ≡ t.0.name) × SetKeepsLimits world side.def × UnknownTarget world t.0 side) t.0.target_sets t.2 (keeps t.0 t.1).targets t.3).0 in
            let same : t.0 ≡ server = same_server t.0 server t.1 i (sym at ∙ ap (λ (d : SetDef). d.target) t.5 ∙ same_name def.target server.name both.0) in
            none-some t.2 (sym (none_there (target_side def.id server) both.1) ∙ ap (target_side def.id) (sym same) ∙ t.4)

    -- so it gets nothing
    no_gains : gains defs server ≡ false
    no_gains = λ k. nat_lt 0 (length (no_table k)) || no_registration k || nat_lt 0 (length (no_source k)) || nat_lt 0 (length (no_target k))

pub known_texts_add_nothing : KnownTextsAddNothing
known_texts_add_nothing raw world defs server sound accepted known i = no_gains world sound raw defs accepted known server i
