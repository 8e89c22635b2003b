-- What a loaded server holds.
use Rattle.std.proofs.Common.{◌≡◌, ℕ, zero, suc, true, false, List, [], ◌++◌, map, cond, refl, sym, ap, ◌∙◌, IsTrue, Option, Some, None, ◌/◌, ◌%◌, ◌&&◌, is_none, find, filter, slice_get, bytes_eq}
use Rattle.std.specs.List.{AllByRecursion}
use Rattle.std.specs.Option.{option_map, option_map_or, option_and_then, option_or}
use Rattle.std.proofs.lemmas.Bool.{and_parts}
use Rattle.world_store.specs.Words.{Decided, RejectedUnit, UnitKey, SetState, SourceRow, change_key_spelling, unit_key_spelling, member_key_spelling, source_row_spelling, change_row_spelling, decided_spelling, rejected_spelling, state_spelling, last_number_spelling, entry_spelling, first_decided, first_read_only, first_replica, b32, b64, key_spelling, table_from_rows, change_rows_of, rejected_rows, source_rows, StaysShown, no_rows, source_table, change_table, prune_table, state_table, target_table, trail_table, tables, with_first, first_table, state_of, trail_rows, all_kept, table_at, number_rows}
use Rattle.repl_model.specs.Words.{Area, all_weaker, SetDef, Values, record_fits, is_replica_set, Registered, ServerTable, SourceSide, TargetSide, Server, World, server_table, each_image, all_of}
use Rattle.repl_types.specs.declared.area.Area.TheVariants as areas
use Rattle.keep_core.specs.Contents.{Table}
use Rattle.spelled_defs.specs.declared.defs.Defs.{Defs}
use Rattle.spelled_defs.specs.declared.defs.TableAt.{TableAt}
use Rattle.spelled_defs.specs.declared.defs.RegistrationAt.{RegistrationAt}
use Rattle.load_laws.specs.worlds.Loads.{new_tables, fresh_registration, registration_in, register, fresh_source, fresh_target, new_sources, new_targets, load_server}
use Rattle.load_laws.specs.stored.LoadedServers.{is_loaded}
use Rattle.load_laws.specs.laws.StoredLists.{numbered_lists_stay, place_more, place_map}
use Rattle.load_laws.specs.laws.FirstStates.{numbered_more, numbered_lists_more}
use Rattle.load_laws.specs.laws.SourceTables.{no_source_rows}
use Rattle.load_laws.specs.laws.States.{first_number_rows_of, state_new, numbers_new, table_new}

-- what isn't there
pub none_there : {X : Type 0} (o : Option X) → is_none o ≡ true → o ≡ None
none_there None e = refl
none_there (Some x) e = absurd cc

module _ (defs : Defs) (server : Server) where
  -- what holds of each table as it is when it is new holds of the new tables, which the server didn't have
  all_new_tables : (P : ServerTable → Type 0) → ((t : ServerTable) → t.registered ≡ None → server_table t.def.name server ≡ None → P t) → AllByRecursion P (new_tables defs server)
  all_new_tables P f =
      let is_new = λ (t : TableAt). bytes_eq t.server server.name && is_none (server_table t.def.name server) in
      each_image P (λ t. record { def = t.def; registered = None }) (filter is_new defs.tables)
      (all_weaker {X = TableAt} (λ t. is_new t ≡ true) (λ t. P (record { def = t.def; registered = None })) (filter is_new defs.tables)
      (λ t e. f (record { def = t.def; registered = None }) refl (none_there (server_table t.def.name server) (and_parts (bytes_eq t.server server.name) (is_none (server_table t.def.name server)) e).1)) (all_kept is_new defs.tables))

  -- what holds of each set that is fresh at its source holds of the new ones
  all_new_sources : (P : SourceSide → Type 0) → ((def : SetDef) → P (fresh_source def)) → AllByRecursion P (new_sources defs server)
  all_new_sources P f = each_image P fresh_source _ (all_of (λ def. P (fresh_source def)) _ f)

  -- and the same at targets
  all_new_targets : (P : TargetSide → Type 0) → ((def : SetDef) → P (fresh_target def)) → AllByRecursion P (new_targets defs server)
  all_new_targets P f = each_image P fresh_target _ (all_of (λ def. P (fresh_target def)) _ f)

  -- ---- tables

  -- the tables of the source stay, and the new ones have no rows
  sources_loaded : AllByRecursion (λ r. IsTrue (record_fits server r)) server.log → (n : ℕ) → source_table (load_server defs server) n ≡ source_table server n
  sources_loaded fits n =
      let table = λ (t : ServerTable). table_from_rows key_spelling source_row_spelling (source_rows server t.def) in
      place_map (register defs server) (λ t. table_from_rows key_spelling source_row_spelling (source_rows (load_server defs server) t.def)) table no_rows (server.tables ++ new_tables defs server) n (λ t. refl)
      ∙ place_more table no_rows server.tables (new_tables defs server) n (all_new_tables (λ t. table t ≡ no_rows) (λ t _ none. ap (λ (rows : List (Values × SourceRow)). table_from_rows key_spelling source_row_spelling rows) (no_source_rows server t.def fits none)))

  -- the change rows of a registration, if there is one
  abbrev changes_of : Option Registered → Table
  changes_of o = option_map_or (λ r. table_from_rows change_key_spelling change_row_spelling (change_rows_of server r)) o no_rows

  -- a new registration has none
  changes_register : (t : ServerTable) (o : Option Registered) → changes_of (option_or o (registration_in defs server t)) ≡ changes_of o
  changes_register t (Some r) = refl
  changes_register t None = fresh (find (λ r. bytes_eq r.server server.name && bytes_eq r.def.table t.def.name) defs.registrations)
    where
      fresh : (o : Option RegistrationAt) → changes_of (option_map (λ r. fresh_registration r.def) o) ≡ no_rows
      fresh None = refl
      fresh (Some r) = refl

  -- the change rows stay, and new registrations have none
  changes_loaded : (n : ℕ) → change_table (load_server defs server) n ≡ change_table server n
  changes_loaded n =
      let table = λ (t : ServerTable). changes_of t.registered in
      at_table (slice_get (map (register defs server) (server.tables ++ new_tables defs server)) n)
      ∙ place_map (register defs server) table table no_rows (server.tables ++ new_tables defs server) n (λ t. changes_register t t.registered)
      ∙ place_more table no_rows server.tables (new_tables defs server) n (all_new_tables (λ t. table t ≡ no_rows) (λ t none _. ap changes_of none))
      ∙ sym (at_table (slice_get server.tables n))
    where
      at_table : (o : Option ServerTable) → changes_of (option_and_then (λ t. t.registered) o) ≡ option_map_or (λ t. changes_of t.registered) o no_rows
      at_table None = refl
      at_table (Some t) = refl

  -- the codes stay, and new sets have none
  codes_loaded : rejected_rows (load_server defs server) ≡ rejected_rows server
  codes_loaded =
      let codes = λ (s : ℕ × SourceSide). map (λ c. (record { set = s.0; seq = c.0 }, record { code = c.1 })) s.1.codes in
      numbered_lists_stay {Y = UnitKey × RejectedUnit} codes 0 server.source_sets (new_sources defs server) (all_new_sources (λ side. (n : ℕ) → codes (n, side) ≡ []) (λ def n. refl))

  -- the decisions are read as they were, and those of new sets as the first ones
  decisions_loaded : (t : Table) → with_first (first_table server areas.Prune 1) t ≡ prune_table server 1 → with_first (first_table (load_server defs server) areas.Prune 1) t ≡ prune_table (load_server defs server) 1
  unfolding first_table
  decisions_loaded t holds = numbered_more b32 decided_spelling (λ s. (s.0, first_decided)) (λ s. (s.0, record { t = s.1.t; d = s.1.d })) server.source_sets (new_sources defs server) t
      (all_new_sources (λ side. (n : ℕ) → ◌≡◌ {A = ℕ × Decided} (n, first_decided) (n, record { t = side.t; d = side.d })) (λ def n. refl)) holds

  module _ (world : World) where
    -- the targets stay, and those of new sets have no rows
    targets_loaded : (n : ℕ) → target_table world (load_server defs server) n ≡ target_table world server n
    targets_loaded n =
        let place = n % 64 in
        place_more (table_at world place) no_rows server.target_sets (new_targets defs server) (n / 64) (all_new_targets (λ side. table_at world place side ≡ no_rows) (λ def. table_new world def place))

    -- so do the trails
    trails_loaded : (n : ℕ) → trail_table world (load_server defs server) n ≡ trail_table world server n
    trails_loaded n =
        let table = λ (side : TargetSide). table_from_rows b64 entry_spelling (trail_rows world side) in
        place_more table no_rows server.target_sets (new_targets defs server) n (all_new_targets (λ side. table side ≡ no_rows) (λ def. refl))

    -- the states and last numbers are read as they were, and those of new sets as the first ones
    states_loaded : (n : ℕ) (t : Table) → with_first (first_table server areas.SetState n) t ≡ state_table world server n → with_first (first_table (load_server defs server) areas.SetState n) t ≡ state_table world (load_server defs server) n
    unfolding first_table
    states_loaded zero t holds = numbered_more b32 state_spelling (λ s. (s.0, cond (is_replica_set s.1.def) first_replica first_read_only)) (λ s. (s.0, state_of world s.1)) server.target_sets (new_targets defs server) t
        (all_new_targets (λ side. (n : ℕ) → ◌≡◌ {A = ℕ × SetState} (n, cond (is_replica_set side.def) first_replica first_read_only) (n, state_of world side)) (λ def n. ap (λ (state : SetState). (n, state)) (sym (state_new world def)))) holds
    states_loaded (suc zero) t holds = numbered_lists_more member_key_spelling last_number_spelling first_number_rows_of (number_rows world) server.target_sets (new_targets defs server) t
        (all_new_targets (λ side. (n : ℕ) → first_number_rows_of (n, side) ≡ number_rows world (n, side)) (numbers_new world)) holds
    states_loaded (suc (suc n)) t holds = holds

    -- the tables that a load leaves alone show what is called for at the loaded server
    pub loaded_stay : AllByRecursion (λ r. IsTrue (record_fits server r)) server.log → (a : Area) (n : ℕ) → is_loaded a n ≡ false → StaysShown world server (load_server defs server) a n
    unfolding tables first_table
    loaded_stay fits areas.Source n e t h = h ∙ sym (sources_loaded fits n)
    loaded_stay fits areas.Defs n e t h = absurd cc
    loaded_stay fits areas.Cd n e t h = h ∙ sym (changes_loaded n)
    loaded_stay fits areas.Capture (suc zero) e t h = absurd cc
    loaded_stay fits areas.Prune zero e t h = absurd cc
    loaded_stay fits areas.Prune (suc zero) e t h = decisions_loaded t h
    loaded_stay fits areas.Prune (suc (suc zero)) e t h = h ∙ ap (λ (rows : List (UnitKey × RejectedUnit)). table_from_rows unit_key_spelling rejected_spelling rows) (sym codes_loaded)
    loaded_stay fits areas.Target n e t h = h ∙ sym (targets_loaded n)
    loaded_stay fits areas.SetState n e t h = states_loaded n t h
    loaded_stay fits areas.Trail n e t h = h ∙ sym (trails_loaded n)
    loaded_stay fits a n e t h = h
