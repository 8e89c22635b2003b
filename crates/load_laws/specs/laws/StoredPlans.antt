-- What a server of a sound world keeps of definitions is what stands there.
use Rattle.std.proofs.Common.{◌≡◌, ℕ, ◌+◌, Bool, true, List, length, Option, Some, None, refl, sym, ap, ◌∙◌, arith, find, IfSome, option_map, option_and_then, bytes_eq}
use Rattle.std.specs.List.{AllByRecursion, enumerate_from, filter_map}
use Rattle.std.proofs.lemmas.Bool.{and_parts}
use Rattle.std.proofs.lemmas.Option.{none-some, same_Some}
use Rattle.world_store.specs.Words.{IsTable, IsRegistration, name_cmp, set_cmp, Any, IsName, IsSet, short_text, set_spelling, RowFits, table_rows_are, registration_rows_are, numbered_tables, table_rows, defined_registration, registration_rows}
use Rattle.repl_model.specs.Words.{is_name, Registration, SetId, all_weaker, IsDefinedTable, IsDefinedRegistration, DefinedTable, DefinedRegistration, SourceSet, TargetSet, RegistrationKeepsRules, KeepsTable, ServerKeepsRules, SetKeepsLimits, UnknownSource, UnknownTarget, Registered, ServerTable, SourceSide, TargetSide, Server, World, same_set, server_table, source_side, target_side, all_numbered, In, at_one, given_in, in_filter_map, image_in, find_image, each_given, same_name}
use Rattle.keep_core.specs.Contents.{same_key}
use Rattle.load_plan.specs.Stored.{table_at, registration_at, source_at, target_at}
use Rattle.load_laws.specs.planned.Planned.{stored_server}
use Rattle.load_laws.specs.laws.ByKey.{HasSame, by_key_same}
use Rattle.load_laws.specs.laws.PlannedLists.{find_same, find_given, find_numbered, numbered_in, in_numbered, numbered_differ, given_differ, alike_is_one}
use Rattle.load_laws.specs.laws.Named.{map_twice, names, set_names, named_same, named_found, named_count}

-- ---- records

-- a table with its number
abbrev pub defined_table : ℕ × ServerTable → DefinedTable
defined_table t = record { number = t.0; def = t.1.def }

-- a set with its number at its source
abbrev pub defined_source : ℕ × SourceSide → SourceSet
defined_source s = record { number = s.0; def = s.1.def }

-- and at its target
abbrev pub defined_target : ℕ × TargetSide → TargetSet
defined_target s = record { number = s.0; def = s.1.def }

-- the registration of a table, if it has one
abbrev pub registration_of : ServerTable → Option Registration
registration_of t = option_map (λ r. r.reg) t.registered

-- the registration of a numbered table is under its name
given_name : (t : ℕ × ServerTable) (row : List ℕ × DefinedRegistration) → defined_registration t ≡ Some row → row.0 ≡ t.1.def.name
given_name t row = by_registered t.1.registered
  where
    by_registered : (o : Option Registered) → option_map (λ r. (t.1.def.name, record { number = t.0; registration = r.reg })) o ≡ Some row → row.0 ≡ t.1.def.name
    by_registered None e = absurd (none-some row e)
    by_registered (Some r) e = ap (λ (x : List ℕ × DefinedRegistration). x.0) (sym (same_Some (t.1.def.name, record { number = t.0; registration = r.reg }) row e))

-- registrations are under names, if those of their tables are
pub registrations_fit : (tables : List ServerTable) → AllByRecursion (λ t. IsName t.def.name) tables → AllByRecursion (RowFits IsName Any) (filter_map defined_registration (enumerate_from 0 tables))
registrations_fit tables all = each_given (RowFits IsName Any) defined_registration (enumerate_from 0 tables) (all_numbered (λ (t : ServerTable). IsName t.def.name) (λ t. IfSome (defined_registration t) (RowFits IsName Any)) (0 + length tables) 0 tables (omega arith) all (λ n t lt fit. by_registered n t fit t.registered))
  where
    by_registered : (n : ℕ) (t : ServerTable) → IsName t.def.name → (o : Option Registered) → IfSome (option_map (λ r. (t.def.name, record { number = n; registration = r.reg })) o) (RowFits {X = DefinedRegistration} IsName Any)
    by_registered n t fit None = tt
    by_registered n t fit (Some r) = (fit, tt)

-- a table that is found with its number is found
at_numbered : {X Y Z : Type 0} (f : X → Z) (make : ℕ × X → Y) (part : Y → Z) → ((t : ℕ × X) → part (make t) ≡ f t.1) → (p : X → Bool) (xs : List X) → option_map part (option_map make (find (λ t. p t.1) (enumerate_from 0 xs))) ≡ option_map f (find p xs)
at_numbered {X} {Y} {Z} f make part is p xs =
    map_twice part make (find (λ t. p t.1) (enumerate_from 0 xs))
    ∙ (λ i. option_map (λ (t : ℕ × X). is t i) (find (λ (t : ℕ × X). p t.1) (enumerate_from 0 xs)))
    ∙ sym (map_twice f (λ (t : ℕ × X). t.1) (find (λ (t : ℕ × X). p t.1) (enumerate_from 0 xs)))
    ∙ ap (option_map f) (find_numbered p 0 xs)

module _ (world : World) (server : Server) (keeps : ServerKeepsRules world server) where
  -- ---- names

  -- the names of its tables are names
  pub table_names_fit : AllByRecursion (λ t. IsName t.def.name) server.tables
  table_names_fit = all_weaker KeepsTable (λ t. IsName t.def.name) server.tables (λ t k. (and_parts (is_name t.def.name) _ k.0.names).0) keeps.tables

  -- so are those of its sets at their sources
  pub source_names_fit : AllByRecursion (λ side. IsSet side.def.id) server.source_sets
  source_names_fit = all_weaker (λ side. (side.def.source ≡ server.name) × SetKeepsLimits world side.def × UnknownSource world server side) (λ side. IsSet side.def.id) server.source_sets (λ side k. k.1.spelled.0) keeps.sources

  -- and at their targets
  pub target_names_fit : AllByRecursion (λ side. IsSet side.def.id) server.target_sets
  target_names_fit = all_weaker (λ side. (side.def.target ≡ server.name) × SetKeepsLimits world side.def × UnknownTarget world server side) (λ side. IsSet side.def.id) server.target_sets (λ side k. k.1.spelled.0) keeps.targets

  -- ---- tables

  -- what it keeps of a table of a name
  pub tables_found : (name : List ℕ) → find (λ row. bytes_eq name row.def.name) (stored_server server).tables ≡ option_map defined_table (find (λ t. bytes_eq name t.1.def.name) (numbered_tables server))
  tables_found name = named_found short_text IsName name_cmp bytes_eq names (λ (t : ServerTable). t.def.name) defined_table (λ (row : DefinedTable). row.def.name) (λ t. refl) server.tables table_names_fit keeps.differ name

  -- it keeps the definition of the table
  pub table_stored : (name : List ℕ) → table_at name (stored_server server) ≡ option_map (λ t. t.def) (server_table name server)
  table_stored name = ap (option_map (λ (row : DefinedTable). row.def)) (tables_found name) ∙ at_numbered (λ (t : ServerTable). t.def) defined_table (λ (row : DefinedTable). row.def) (λ t. refl) (λ (t : ServerTable). bytes_eq name t.def.name) server.tables

  -- it keeps as many tables as it has
  pub tables_counted : length (stored_server server).tables ≡ length server.tables
  tables_counted = named_count short_text IsName name_cmp bytes_eq names (λ (t : ServerTable). t.def.name) defined_table server.tables table_names_fit keeps.differ

  -- its tables have spellings
  pub tables_fit : (t : ServerTable) → In t server.tables → IsTable t.def
  tables_fit t i =
      let n = in_numbered 0 server.tables t i in
      let entry : ℕ × ServerTable → List ℕ × DefinedTable = λ t. (t.1.def.name, defined_table t) in
      let same = named_same short_text IsName name_cmp bytes_eq names (λ (t : ServerTable). t.def.name) defined_table server.tables table_names_fit keeps.differ in
      (at_one (RowFits IsName IsDefinedTable) (table_rows server) (entry (n.0, t)) (table_rows_are world server keeps).fit (same.back (entry (n.0, t)) (image_in entry (numbered_tables server) (n.0, t) n.1))).1.1

  -- ---- sets

  -- it keeps the definition of a set whose source it is
  pub source_stored : (id : SetId) → source_at id (stored_server server) ≡ option_map (λ side. side.def) (source_side id server)
  source_stored id =
      ap (option_map (λ (row : SourceSet). row.def)) (named_found set_spelling IsSet set_cmp same_set set_names (λ (side : SourceSide). side.def.id) defined_source (λ (row : SourceSet). row.def.id) (λ s. refl) server.source_sets source_names_fit keeps.source_names id)
      ∙ at_numbered (λ (side : SourceSide). side.def) defined_source (λ (row : SourceSet). row.def) (λ s. refl) (λ (side : SourceSide). same_set id side.def.id) server.source_sets

  -- it keeps as many sets as it is the source of
  pub sources_counted : length (stored_server server).sources ≡ length server.source_sets
  sources_counted = named_count set_spelling IsSet set_cmp same_set set_names (λ (side : SourceSide). side.def.id) defined_source server.source_sets source_names_fit keeps.source_names

  -- it keeps the definition of a set whose target it is
  pub target_stored : (id : SetId) → target_at id (stored_server server) ≡ option_map (λ side. side.def) (target_side id server)
  target_stored id =
      ap (option_map (λ (row : TargetSet). row.def)) (named_found set_spelling IsSet set_cmp same_set set_names (λ (side : TargetSide). side.def.id) defined_target (λ (row : TargetSet). row.def.id) (λ s. refl) server.target_sets target_names_fit keeps.target_names id)
      ∙ at_numbered (λ (side : TargetSide). side.def) defined_target (λ (row : TargetSet). row.def) (λ s. refl) (λ (side : TargetSide). same_set id side.def.id) server.target_sets

  -- it keeps as many sets as it is the target of
  pub targets_counted : length (stored_server server).targets ≡ length server.target_sets
  targets_counted = named_count set_spelling IsSet set_cmp same_set set_names (λ (side : TargetSide). side.def.id) defined_target server.target_sets target_names_fit keeps.target_names

  -- ---- registrations

  -- its registrations, under the names of their tables
  abbrev entries : List (List ℕ × DefinedRegistration)
  entries = filter_map defined_registration (numbered_tables server)

  -- no two numbered tables have one name
  numbered_apart : (t u : ℕ × ServerTable) → In t (numbered_tables server) → In u (numbered_tables server) → t.1.def.name ≡ u.1.def.name → t ≡ u
  numbered_apart = alike_is_one (λ (t : ℕ × ServerTable). t.1.def.name) bytes_eq names.exact names.itself (numbered_tables server) (numbered_differ (λ (t u : ServerTable). bytes_eq t.def.name u.def.name) 0 server.tables keeps.differ)

  -- they are the same in the order of these names
  pub registrations_same : HasSame (registration_rows server) entries
  registrations_same = by_key_same short_text IsName name_cmp names.in_order entries (registrations_fit server.tables table_names_fit)
      (given_differ defined_registration (λ a b. same_key (short_text a.0) (short_text b.0)) (λ (t u : ℕ × ServerTable). bytes_eq t.1.def.name u.1.def.name) follows (numbered_tables server) (numbered_differ (λ (t u : ServerTable). bytes_eq t.def.name u.def.name) 0 server.tables keeps.differ))
    where
      follows : (t u : ℕ × ServerTable) (a b : List ℕ × DefinedRegistration) → defined_registration t ≡ Some a → defined_registration u ≡ Some b → same_key (short_text a.0) (short_text b.0) ≡ true → bytes_eq t.1.def.name u.1.def.name ≡ true
      follows t u a b e f same = names.alike t.1.def.name u.1.def.name ((λ i. same_key (short_text (sym (given_name t a e) i)) (short_text (sym (given_name u b f) i))) ∙ same)

  -- a registration names its table
  pub names_its_table : (t : ℕ × ServerTable) (row : List ℕ × DefinedRegistration) → In t (numbered_tables server) → defined_registration t ≡ Some row → row.1.registration.table ≡ t.1.def.name
  names_its_table t row i = by_registered t.1.registered (at_one KeepsTable server.tables t.1 keeps.tables (numbered_in 0 server.tables t i)).2
    where
      by_registered : (o : Option Registered) → IfSome o (λ r. RegistrationKeepsRules t.1.def r.reg) → option_map (λ r. (t.1.def.name, record { number = t.0; registration = r.reg })) o ≡ Some row → row.1.registration.table ≡ t.1.def.name
      by_registered None rules e = absurd (none-some row e)
      by_registered (Some r) rules e = ap (λ (x : List ℕ × DefinedRegistration). x.1.registration.table) (sym (same_Some (t.1.def.name, record { number = t.0; registration = r.reg }) row e)) ∙ rules.table

  -- what it keeps of a registration of a table of this name
  registrations_found : (name : List ℕ) → find (λ row. bytes_eq name row.registration.table) (stored_server server).registrations ≡ option_map (λ row. row.1) (option_and_then defined_registration (find (λ t. bytes_eq name t.1.def.name) (numbered_tables server)))
  registrations_found name =
      find_image (λ (row : List ℕ × DefinedRegistration). row.1) (λ (row : DefinedRegistration). bytes_eq name row.registration.table) (registration_rows server)
      ∙ ap (option_map (λ (row : List ℕ × DefinedRegistration). row.1)) (
      find_same of_table (registration_rows server) entries registrations_same.there registrations_same.back alone
      ∙ find_given defined_registration of_table (λ (t : ℕ × ServerTable). bytes_eq name t.1.def.name) (numbered_tables server) (λ t row i e. ap (bytes_eq name) (names_its_table t row i e)) (λ t u i j e f. numbered_apart t u i j (sym (same_name name t.1.def.name e) ∙ same_name name u.1.def.name f))
      )
    where
      of_table : List ℕ × DefinedRegistration → Bool
      of_table row = bytes_eq name row.1.registration.table

      alone : (r s : List ℕ × DefinedRegistration) → In r entries → In s entries → of_table r ≡ true → of_table s ≡ true → r ≡ s
      alone r s i j e f =
          let t = in_filter_map defined_registration (numbered_tables server) r i in
          let u = in_filter_map defined_registration (numbered_tables server) s j in
          let one : t.0.1.def.name ≡ name = sym (names_its_table t.0 r t.1 t.2) ∙ sym (same_name name r.1.registration.table e) in
          let two : u.0.1.def.name ≡ name = sym (names_its_table u.0 s u.1 u.2) ∙ sym (same_name name s.1.registration.table f) in
          same_Some r s (sym t.2 ∙ ap defined_registration (numbered_apart t.0 u.0 t.1 u.1 (one ∙ sym two)) ∙ u.2)

  -- it keeps the registration of the table
  pub registration_stored : (name : List ℕ) → registration_at name (stored_server server) ≡ option_and_then registration_of (server_table name server)
  registration_stored name =
      ap (option_map (λ (row : DefinedRegistration). row.registration)) (registrations_found name)
      ∙ by_table (find (λ (t : ℕ × ServerTable). bytes_eq name t.1.def.name) (numbered_tables server))
      ∙ ap (option_and_then registration_of) (find_numbered (λ (t : ServerTable). bytes_eq name t.def.name) 0 server.tables)
    where
      by_registered : (t : ℕ × ServerTable) (o : Option Registered) → option_map (λ (row : DefinedRegistration). row.registration) (option_map (λ (row : List ℕ × DefinedRegistration). row.1) (option_map (λ (r : Registered). (t.1.def.name, record { number = t.0; registration = r.reg })) o)) ≡ option_map (λ r. r.reg) o
      by_registered t None = refl
      by_registered t (Some r) = refl

      by_table : (o : Option (ℕ × ServerTable)) → option_map (λ (row : DefinedRegistration). row.registration) (option_map (λ (row : List ℕ × DefinedRegistration). row.1) (option_and_then defined_registration o)) ≡ option_and_then registration_of (option_map (λ t. t.1) o)
      by_table None = refl
      by_table (Some t) = by_registered t t.1.registered

  -- its registrations have spellings
  pub registered_fits : (t : ServerTable) (r : Registered) → In t server.tables → t.registered ≡ Some r → IsRegistration r.reg
  registered_fits t r i e =
      let n = in_numbered 0 server.tables t i in
      let row : List ℕ × DefinedRegistration = (t.def.name, record { number = n.0; registration = r.reg }) in
      let given = given_in defined_registration (numbered_tables server) (n.0, t) row n.1 (ap (option_map (λ (r : Registered). (t.def.name, record { number = n.0; registration = r.reg }))) e) in
      (at_one (RowFits IsName IsDefinedRegistration) (registration_rows server) row (registration_rows_are world server keeps).fit (registrations_same.back row given)).1.1
