-- What a server that has captured units holds.
use Rattle.std.proofs.Common.{◌≡◌, ℕ, zero, suc, ◌+◌, List, [], ◌∷◌, map, Option, Some, None, true, false, refl, sym, ap, ap₂, subst, ◌∙◌, slice_get}
use Rattle.std.specs.List.{enumerate_from, filter_map, cons_option}
use Rattle.std.specs.Option.{option_map, option_map_or}
use Rattle.std.proofs.lemmas.Option.{slice_get-map}
use Rattle.world_store.specs.Words.{short_text, key_spelling, name_cmp, single_spelling, source_row_spelling, capture_spelling, table_from_rows, source_rows, table_rows, registration_rows, defined_registration, capture_rows, no_rows, source_table, tables, first_table, shown, Holds, Becomes, StaysShown, becomes_holds, no_first}
use Rattle.repl_model.specs.Words.{Area, Unit, defined_table_spelling, defined_registration_spelling, DefinedTable, DefinedRegistration, table_after, by_key, Registered, ServerTable, Server, World}
use Rattle.repl_types.specs.declared.area.Area.TheVariants as areas
use Rattle.keep_core.specs.Contents.{Contents, Table}
use Rattle.world_commits.specs.captures.Captures.{with_registration, with_units}
use Rattle.world_commits.specs.captures.laws.Servers.{states_after, by_states}
use Rattle.world_commits.specs.laws.Changed.{States, in_states, with_states}
use Rattle.stored_commits.specs.units.StoredCaptures.{HasCaptured}
use Rattle.stored_commits.specs.captures.CapturedServers.{is_of_capture, HoldsCaptured}

-- what a server holds has what it has captured
pub has_captured : HoldsCaptured
unfolding tables first_table
has_captured world server contents holds = record {
  changes = λ n. holds areas.Cd n;
  units = holds areas.Uow 0;
  states = sym (no_first (contents areas.Capture 1)) ∙ holds areas.Capture 1;
  registrations = holds areas.Defs 1;
}

module _ (s : States) (server : Server) where
  -- tables of the source stay if registrations get other states
  sources_stay : (n : ℕ) → source_table (with_states s server) n ≡ source_table server n
  sources_stay n = ap (λ (o : Option ServerTable). option_map_or table o no_rows) (slice_get-map (with_registration (in_states s)) server.tables n) ∙ at (slice_get server.tables n)
    where
      table : ServerTable → Table
      table t = table_from_rows key_spelling source_row_spelling (source_rows server (table_after server.log t.def))

      at : (o : Option ServerTable) → option_map_or table (option_map (with_registration (in_states s)) o) no_rows ≡ option_map_or table o no_rows
      at None = refl
      at (Some t) = refl

  -- so do the rows of definitions of tables
  table_rows_stay : table_rows (with_states s server) ≡ table_rows server
  table_rows_stay = ap (λ (rows : List (List ℕ × DefinedTable)). by_key name_cmp rows) (from 0 server.tables)
    where
      row : ℕ × ServerTable → List ℕ × DefinedTable
      row t = (t.1.def.name, record { number = t.0; def = t.1.def })

      from : (n : ℕ) (ts : List ServerTable) → map row (enumerate_from n (map (with_registration (in_states s)) ts)) ≡ map row (enumerate_from n ts)
      from n [] = refl
      from n (t ∷ ts) = ap (λ (rows : List (List ℕ × DefinedTable)). row (n, t) ∷ rows) (from (n + 1) ts)

  -- and of registrations
  registration_rows_stay : registration_rows (with_states s server) ≡ registration_rows server
  registration_rows_stay = ap (λ (rows : List (List ℕ × DefinedRegistration)). by_key name_cmp rows) (from 0 server.tables)
    where
      from : (n : ℕ) (ts : List ServerTable) → filter_map defined_registration (enumerate_from n (map (with_registration (in_states s)) ts)) ≡ filter_map defined_registration (enumerate_from n ts)
      from n [] = refl
      from n (t ∷ ts) = ap₂ (λ (row : Option (List ℕ × DefinedRegistration)) (rows : List (List ℕ × DefinedRegistration)). cons_option row rows) (of_table t.registered) (from (n + 1) ts)
        where
          of_table : (o : Option Registered) → defined_registration (n, record t { registered = option_map (in_states s) o }) ≡ defined_registration (n, record t { registered = o })
          of_table None = refl
          of_table (Some r) = refl

  -- the tables that a capture leaves alone show what is called for at the server in other states
  pub states_stay : (world : World) (a : Area) (n : ℕ) → is_of_capture a n ≡ false → StaysShown world server (with_states s server) a n
  unfolding tables first_table
  states_stay world areas.Source n e t h = h ∙ sym (sources_stay n)
  states_stay world areas.Defs zero e t h = h ∙ ap (table_from_rows short_text defined_table_spelling) (sym table_rows_stay)
  states_stay world areas.Defs (suc zero) e t h = h ∙ ap (table_from_rows short_text defined_registration_spelling) (sym registration_rows_stay)
  states_stay world areas.Defs (suc (suc (suc zero))) e t h = h
  states_stay world areas.Cd n e t h = absurd cc
  states_stay world areas.Uow zero e t h = absurd cc
  states_stay world areas.Capture zero e t h = absurd cc
  states_stay world areas.Capture (suc zero) e t h = absurd cc
  states_stay world a n e t h = h

-- The contents of a server become what a world calls for there, if they have what it has captured and how far that is, and
-- the other tables are as they were.
pub captured_becomes : (world : World) (server : Server) (before now : Contents)
    → HasCaptured server now
    → shown server areas.Capture 0 (now areas.Capture 0) ≡ table_from_rows single_spelling capture_spelling (capture_rows server)
    → ((a : Area) (n : ℕ) → is_of_capture a n ≡ false → now a n ≡ before a n)
    → Becomes is_of_capture world server before now
unfolding tables first_table
captured_becomes world server before now has state others = record { has = table_is; others = others }
  where
    table_is : (a : Area) (n : ℕ) → is_of_capture a n ≡ true → shown server a n (now a n) ≡ tables world server a n
    table_is areas.Cd n e = has.changes n
    table_is areas.Uow zero e = has.units
    table_is areas.Capture zero e = state
    table_is areas.Capture (suc zero) e = no_first (now areas.Capture 1) ∙ has.states
    table_is a n e = absurd cc

-- contents of the server that has captured units hold what the world calls for there
pub captured_holds : (us : List Unit) (world : World) (server : Server) (before now : Contents) → Holds world server before → Becomes is_of_capture world (with_units us server) before now → Holds world (with_units us server) now
captured_holds us world server before now holds becomes = becomes_holds is_of_capture world server (with_units us server)
    (subst (λ (s : Server). (a : Area) (n : ℕ) → is_of_capture a n ≡ false → StaysShown world server s a n) (sym (by_states us server)) (states_stay (states_after us server) server world)) before now holds becomes
