-- The rows of tables that are planned for a server make the table of the loaded server.
use Rattle.std.proofs.Common.{◌≡◌, ℕ, List, ◌++◌, length, map, None, ap, ◌∙◌, filter, bytes_eq}
use Rattle.std.specs.List.{AllByRecursion, enumerate_from}
use Rattle.std.proofs.lemmas.Simd.{map-map}
use Rattle.world_store.specs.Words.{IsTable, name_cmp, IsName, short_text, definition_table}
use Rattle.repl_model.specs.Words.{all_append, all_filter, all_weaker, defined_table_spelling, DefinedTable, ServerKeepsRules, ServerTable, Server, World, each_image}
use Rattle.spelled_defs.specs.declared.defs.Defs.{Defs}
use Rattle.spelled_defs.specs.declared.defs.TableAt.{TableAt}
use Rattle.load_laws.specs.worlds.Loads.{new_tables, register, load_server}
use Rattle.load_laws.specs.rules.Accepted.{AreTyped}
use Rattle.load_plan.specs.Additions.{additions_at}
use Rattle.load_laws.specs.planned.Planned.{stored_server, with_rows, table_additions}
use Rattle.load_laws.specs.laws.Added.{is_new_table, tables_added_is}
use Rattle.load_laws.specs.laws.PlannedLists.{numbered_images}
use Rattle.load_laws.specs.laws.Named.{names, named_put}
use Rattle.load_laws.specs.laws.StoredPlans.{defined_table, table_names_fit}

module _ (world : World) (server : Server) (keeps : ServerKeepsRules world server) (defs : Defs) (typed : AreTyped defs) where
  -- the names of the tables that it has or gets are names
  all_names_fit : AllByRecursion (λ t. IsName t.def.name) (server.tables ++ new_tables defs server)
  all_names_fit = all_append (λ (t : ServerTable). IsName t.def.name) server.tables (new_tables defs server) (table_names_fit world server keeps)
      (each_image (λ (t : ServerTable). IsName t.def.name) (λ (t : TableAt). record { def = t.def; registered = None }) (filter (is_new_table server) defs.tables)
      (all_filter (λ t. IsName t.def.name) (is_new_table server) defs.tables (all_weaker (λ (t : TableAt). IsTable t.def) (λ t. IsName t.def.name) defs.tables (λ t fit. fit.0) typed.tables)))

  -- so they are once it is loaded
  pub loaded_names_fit : AllByRecursion (λ t. IsName t.def.name) (load_server defs server).tables
  loaded_names_fit = each_image (λ (t : ServerTable). IsName t.def.name) (register defs server) (server.tables ++ new_tables defs server) all_names_fit

  -- the rows of tables make the table of the loaded server
  pub tables_put : with_rows short_text defined_table_spelling (table_additions (additions_at defs (stored_server server))) (definition_table server 0) ≡ definition_table (load_server defs server) 0
  tables_put =
      ap (λ (rows : List (List ℕ × DefinedTable)). with_rows short_text defined_table_spelling rows (definition_table server 0))
      (ap (map (λ row. (row.def.name, row))) (tables_added_is world server keeps defs) ∙ map-map (λ (row : DefinedTable). (row.def.name, row)) defined_table (enumerate_from (length server.tables) (new_tables defs server)))
      ∙ named_put short_text IsName name_cmp bytes_eq names (λ (t : ServerTable). t.def.name) defined_table defined_table_spelling server.tables (new_tables defs server) (load_server defs server).tables
      (table_names_fit world server keeps) loaded_names_fit
      (numbered_images (λ (t : ℕ × ServerTable). (t.1.def.name, defined_table t)) (register defs server) 0 (server.tables ++ new_tables defs server))
