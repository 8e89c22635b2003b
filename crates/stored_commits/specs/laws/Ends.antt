-- A unit is captured once all its changes are.
use Rattle.std.proofs.Common.{◌≡◌, ℕ, ◌+◌, cond, List, [], ◌∷◌, map, Option, Some, None, refl, sym, ap, ◌∙◌, max, slice_get}
use Rattle.std.specs.List.{cons_option, enumerate_from, filter_map}
use Rattle.std.specs.Option.{option_map, option_map_or, option_and_then}
use Rattle.std.proofs.lemmas.Option.{slice_get-map}
use Rattle.world_store.specs.Words.{name_cmp, short_text, table_from_rows, change_rows_of, defined_registration, no_rows}
use Rattle.repl_model.specs.Words.{CdRow, Registration, Unit, defined_registration_spelling, DefinedRegistration, changes_between, by_key, Registered, ServerTable, Server}
use Rattle.world_commits.specs.captures.Captures.{registered_after, with_registration, with_unit}
use Rattle.stored_commits.specs.units.StoredChanges.{stored_change}
use Rattle.stored_commits.specs.units.StoredCaptures.{rows_so_far, UnitEnds}
use Rattle.stored_commits.specs.laws.CapturedUnits.{NextOf, next_of, rows_to_next}
use Rattle.stored_commits.specs.laws.Registrations.{reg_stays}
use Rattle.stored_commits.specs.laws.CapturedChange.{keyed_table}

module _ (server : Server) (u : Unit) where
  -- a registration after the unit
  abbrev after_unit : Registered → Registered
  after_unit r = registered_after u.head.seq u.changes r

  -- ---- change rows

  -- once all changes are captured, the change rows are those of the captured unit too
  last_rows : NextOf server u → (r : Registered) → rows_so_far server u.head.seq u.changes r ≡ change_rows_of (with_unit u server) (after_unit r)
  last_rows next r =
      let now : Registered = after_unit r in
      ap (λ (l : List CdRow). cond now.active (map stored_change l) []) (sym (rows_to_next server u next r.reg (max now.start now.floor)))
      ∙ ap (λ (reg : Registration). cond now.active (map stored_change (changes_between server.log reg (max now.start now.floor) u.head.seq)) []) (sym (reg_stays u.head.seq u.changes r))

  -- and so are their tables
  last_table : NextOf server u → (o : Option ServerTable) → option_map_or (λ r. keyed_table (rows_so_far server u.head.seq u.changes r)) (option_and_then (λ t. t.registered) o) no_rows
      ≡ option_map_or (λ r. keyed_table (change_rows_of (with_unit u server) r)) (option_and_then (λ t. t.registered) (option_map (with_registration after_unit) o)) no_rows
  last_table next None = refl
  last_table next (Some t) = of_registered t.registered
    where
      of_registered : (o : Option Registered) → option_map_or (λ r. keyed_table (rows_so_far server u.head.seq u.changes r)) o no_rows ≡ option_map_or (λ r. keyed_table (change_rows_of (with_unit u server) r)) (option_map after_unit o) no_rows
      of_registered None = refl
      of_registered (Some r) = ap keyed_table (last_rows next r)

  -- ---- registrations

  -- the stored registrations stay
  entries_stay : (b : ℕ) (ts : List ServerTable) → filter_map defined_registration (enumerate_from b ts) ≡ filter_map defined_registration (enumerate_from b (map (with_registration after_unit) ts))
  entries_stay b [] = refl
  entries_stay b (t ∷ ts) = λ i. cons_option (one t.registered i) (entries_stay (b + 1) ts i)
    where
      entry : Registration → List ℕ × DefinedRegistration
      entry reg = (t.def.name, record { number = b; registration = reg })

      one : (o : Option Registered) → option_map (λ (r : Registered). entry r.reg) o ≡ option_map (λ (r : Registered). entry r.reg) (option_map after_unit o)
      one None = refl
      one (Some r) = ap (λ (reg : Registration). Some (entry reg)) (sym (reg_stays u.head.seq u.changes r))

-- a unit ends
pub unit_ends : UnitEnds
unit_ends world server u c next part =
    let facts = next_of world server u next in
    record {
      changes = λ n. part.rows n
          ∙ last_table server u facts (slice_get server.tables n)
          ∙ ap (λ (o : Option ServerTable). option_map_or (λ (r : Registered). keyed_table (change_rows_of (with_unit u server) r)) (option_and_then (λ (t : ServerTable). t.registered) o) no_rows) (sym (slice_get-map (with_registration (after_unit server u)) server.tables n));
      units = part.units;
      states = part.states;
      registrations = part.registrations ∙ ap (λ (entries : List (List ℕ × DefinedRegistration)). table_from_rows short_text defined_registration_spelling (by_key name_cmp entries)) (entries_stay server u 0 server.tables);
    }
