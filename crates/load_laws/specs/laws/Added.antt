-- What a server gets, by what it keeps of definitions, is what a load makes new there.
use Rattle.std.proofs.Common.{◌≡◌, ℕ, Bool, ◌&&◌, List, ◌++◌, length, map, Option, Some, None, refl, sym, ap, ◌∙◌, find, filter, is_none, bytes_eq}
use Rattle.std.specs.List.{enumerate_from}
use Rattle.std.specs.Option.{option_map, option_and_then, option_or}
use Rattle.std.proofs.lemmas.List.Folds.{find-append}
use Rattle.repl_model.specs.Words.{Registration, DefinedTable, DefinedRegistration, SetDef, ServerKeepsRules, ServerTable, Server, World, server_table, source_side, target_side, find_image}
use Rattle.spelled_defs.specs.declared.defs.Defs.{Defs}
use Rattle.spelled_defs.specs.declared.defs.TableAt.{TableAt}
use Rattle.spelled_defs.specs.declared.defs.RegistrationAt.{RegistrationAt}
use Rattle.load_laws.specs.worlds.Loads.{new_tables}
use Rattle.load_plan.specs.Limits.{gets_table, gets_source, gets_target}
use Rattle.load_plan.specs.Additions.{tables_added, sources_added, targets_added, gets_registration, numbered_registration}
use Rattle.load_laws.specs.planned.Planned.{stored_server}
use Rattle.load_laws.specs.laws.PlannedLists.{numbered_images, numbered_rows}
use Rattle.load_laws.specs.laws.Named.{map_twice}
use Rattle.load_laws.specs.laws.StoredPlans.{defined_table, registration_of, tables_found, table_stored, tables_counted, source_stored, sources_counted, target_stored, targets_counted, registration_stored}

-- an image is nothing if there is none
none_image : {X Y : Type 0} (f : X → Y) (o : Option X) → is_none (option_map f o) ≡ is_none o
none_image f None = refl
none_image f (Some x) = refl

-- a table of a text that a server doesn't have
abbrev pub is_new_table : Server → TableAt → Bool
is_new_table server t = bytes_eq t.server server.name && is_none (server_table t.def.name server)

-- a set of a text whose source a server is, and that doesn't stand there
abbrev pub is_new_source : Server → SetDef → Bool
is_new_source server def = bytes_eq def.source server.name && is_none (source_side def.id server)

-- a set of a text whose target a server is, and that doesn't stand there
abbrev pub is_new_target : Server → SetDef → Bool
is_new_target server def = bytes_eq def.target server.name && is_none (target_side def.id server)

-- a registration of a text whose table isn't registered at a server
abbrev pub is_new_registration : Server → RegistrationAt → Bool
is_new_registration server r = bytes_eq r.server server.name && is_none (option_and_then registration_of (server_table r.def.table server))

module _ (world : World) (server : Server) (keeps : ServerKeepsRules world server) where
  -- ---- what it gets

  -- it gets a table if that is new
  pub table_is_new : (t : TableAt) → gets_table (stored_server server) t ≡ is_new_table server t
  table_is_new t = ap (λ (b : Bool). bytes_eq t.server server.name && b) (ap is_none (table_stored world server keeps t.def.name) ∙ none_image (λ (t : ServerTable). t.def) (server_table t.def.name server))

  -- it gets a set as its source if that is new
  pub source_is_new : (def : SetDef) → gets_source (stored_server server) def ≡ is_new_source server def
  source_is_new def = ap (λ (b : Bool). bytes_eq def.source server.name && b) (ap is_none (source_stored world server keeps def.id) ∙ none_image _ (source_side def.id server))

  -- and as its target
  pub target_is_new : (def : SetDef) → gets_target (stored_server server) def ≡ is_new_target server def
  target_is_new def = ap (λ (b : Bool). bytes_eq def.target server.name && b) (ap is_none (target_stored world server keeps def.id) ∙ none_image _ (target_side def.id server))

  -- it gets a registration if that is new
  pub registration_is_new : (r : RegistrationAt) → gets_registration (stored_server server) r ≡ is_new_registration server r
  registration_is_new r = ap (λ (o : Option Registration). bytes_eq r.server server.name && is_none o) (registration_stored world server keeps r.def.table)

  module _ (defs : Defs) where
    -- ---- what is added

    -- the tables that are added are the new ones
    pub tables_added_is : tables_added defs (stored_server server) ≡ map defined_table (enumerate_from (length server.tables) (new_tables defs server))
    tables_added_is =
        (λ i. map (λ (t : ℕ × TableAt). record { number = t.0; def = t.1.def }) (enumerate_from (tables_counted world server keeps i) (filter (λ t. table_is_new t i) defs.tables)))
        ∙ sym (numbered_images defined_table (λ (t : TableAt). record { def = t.def; registered = None }) (length server.tables) (filter (is_new_table server) defs.tables))

    -- so are the sets at their sources
    pub sources_added_is : sources_added defs (stored_server server) ≡ map (λ s. record { number = s.0; def = s.1 }) (enumerate_from (length server.source_sets) (filter (is_new_source server) defs.sets))
    sources_added_is = λ i. map (λ (s : ℕ × SetDef). record { number = s.0; def = s.1 }) (enumerate_from (sources_counted world server keeps i) (filter (λ def. source_is_new def i) defs.sets))

    -- and at their targets
    pub targets_added_is : targets_added defs (stored_server server) ≡ map (λ s. record { number = s.0; def = s.1 }) (enumerate_from (length server.target_sets) (filter (is_new_target server) defs.sets))
    targets_added_is = λ i. map (λ (s : ℕ × SetDef). record { number = s.0; def = s.1 }) (enumerate_from (targets_counted world server keeps i) (filter (λ def. target_is_new def i) defs.sets))

    -- the numbers of the tables that it has or gets are their places
    pub registration_numbered : (r : RegistrationAt) → numbered_registration ((stored_server server).tables ++ tables_added defs (stored_server server)) r ≡ option_map (λ t. record { number = t.0; registration = r.def }) (find (λ t. bytes_eq r.def.table t.1.def.name) (enumerate_from 0 (server.tables ++ new_tables defs server)))
    registration_numbered r =
        ap (option_map make) (
        find-append named (stored_server server).tables (tables_added defs (stored_server server))
        ∙ ap (λ (o : Option DefinedTable). option_or o (find named (tables_added defs (stored_server server)))) (tables_found world server keeps r.def.table ∙ sym (find_image defined_table named (enumerate_from 0 server.tables)))
        ∙ ap (λ (rows : List DefinedTable). option_or (find named (map defined_table (enumerate_from 0 server.tables))) (find named rows)) tables_added_is
        ∙ sym (find-append named (map defined_table (enumerate_from 0 server.tables)) (map defined_table (enumerate_from (length server.tables) (new_tables defs server))))
        ∙ ap (find named) (sym (numbered_rows defined_table server.tables (new_tables defs server)))
        ∙ find_image defined_table named (enumerate_from 0 (server.tables ++ new_tables defs server))
        )
        ∙ map_twice make defined_table (find (λ (t : ℕ × ServerTable). bytes_eq r.def.table t.1.def.name) (enumerate_from 0 (server.tables ++ new_tables defs server)))
      where
        named : DefinedTable → Bool
        named row = bytes_eq r.def.table row.def.name

        make : DefinedTable → DefinedRegistration
        make row = record { number = row.number; registration = r.def }
