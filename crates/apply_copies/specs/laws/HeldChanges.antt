-- What a server of a sound world holds of a registration, its table and its change rows.
use Rattle.std.proofs.Common.{◌≡◌, ℕ, ◌^◌, ◌≤◌, ◌<◌, Bool, true, false, cond, List, [], length, map, sym, ap, subst, ◌∙◌, arith, max, Option, Some, IfSome, slice_get, bytes_eq}
use Rattle.std.specs.Option.{option_map_or, option_and_then}
use Rattle.std.proofs.lemmas.List.{length-map}
use Rattle.std.proofs.lemmas.Option.{same_Some}
use Rattle.world_store.specs.Words.{short_text, change_row_spelling, change_key_spelling, table_from_rows, row_of, registration_rows, Holds, no_rows, tables, between_few}
use Rattle.site_store.specs.Words.{Contents, Table}
use Rattle.repl_model.specs.Words.{CdRow, Registration, defined_registration_spelling, IsDefinedRegistration, DefinedRegistration, DefinedTable, changes_between, RegistrationKeepsRules, IsSound, NumbersAreSound, KeepsTable, ServerKeepsRules, LogIsSound, log_limit, Registered, Server, ServerTable, World, server_table, at_place_in, In, at_one, found_in, same_name}
use Rattle.repl_types.specs.declared.area.Area.TheVariants as areas
use Rattle.stored_defs.specs.laws.NamedTables.{table_numbered}
use Rattle.stored_defs.specs.laws.Standing.{holds_defs}
use Rattle.set_places.specs.Members.{HasRegistration}
use Rattle.set_places.specs.laws.Registrations.{registration_row_is}
use Rattle.stored_commits.specs.units.StoredChanges.{stored_change}
use Rattle.cd_tables.specs.Captured.{ServerIsSound, captured_changes}
use Rattle.cd_tables.specs.laws.SoundChanges.{change_rows_are}
use Rattle.apply_copies.specs.ChangeRules.{IsRegisteredIn}
use Rattle.apply_copies.specs.Changing.{HasChanges}

-- A registered table of a server.
pub record IsRegisteredAt (server : Server) (number : ℕ) (t : ServerTable) (r : Registered) : Type 0 where
  pub at : slice_get server.tables number ≡ Some t
  pub is : t.registered ≡ Some r

module _ (w : World) (server : Server) (c : Contents) (sound : IsSound w) (i : In server w) (holds : Holds w server c) where
  -- the server keeps the rules
  pub keeps_rules : ServerKeepsRules w server
  keeps_rules = at_one (ServerKeepsRules w) w server sound.definitions.servers i

  -- it is sound by itself
  pub server_sound : ServerIsSound server
  server_sound = record { log = at_one LogIsSound w server sound.logs i; numbers = at_one NumbersAreSound w server sound.numbers i; tables = keeps_rules.tables }

  -- the table of a number keeps the rules
  pub keeps_table : (number : ℕ) (t : ServerTable) → slice_get server.tables number ≡ Some t → KeepsTable t
  keeps_table number t at = at_one KeepsTable server.tables t keeps_rules.tables (at_place_in server.tables number t at)

  -- and so does its registration
  pub keeps_registration : (number : ℕ) (t : ServerTable) (r : Registered) → IsRegisteredAt server number t r → RegistrationKeepsRules t.def r.reg
  keeps_registration number t r here = subst (λ (o : Option Registered). IfSome o (λ q. RegistrationKeepsRules t.def q.reg)) here.is (keeps_table number t here.at).2

  -- a registration that stands there is that of the table with its number
  pub registration_held : (reg : DefinedRegistration) → IsDefinedRegistration reg → HasRegistration reg c → (t : ServerTable) × (r : Registered) × IsRegisteredAt server reg.number t r × (reg.registration ≡ r.reg) × (server_table t.def.name server ≡ Some t)
  registration_held reg fits has =
      let found = row_of short_text defined_registration_spelling (registration_rows server) has.0 (defined_registration_spelling reg) (ap (λ (u : Table). u has.0) (sym (holds_defs w server c holds 1)) ∙ has.1) in
      let name : List ℕ = found.0.0 in
      let row = registration_row_is w server keeps_rules name reg fits (ap (table_from_rows short_text defined_registration_spelling (registration_rows server)) found.2 ∙ ap (λ (u : Table). u has.0) (sym (holds_defs w server c holds 1)) ∙ has.1) in
      let named : name ≡ row.0.def.name = same_name name row.0.def.name (found_in (λ (a : ServerTable). bytes_eq name a.def.name) server.tables row.0 row.2).1 in
      (row.0, row.1, record { at = row.3; is = row.4 }, row.5, ap (λ (n : List ℕ). server_table n server) (sym named) ∙ row.2)

  -- the table that stands under the name that it gives is its table
  pub table_held : (reg : DefinedRegistration) (table : DefinedTable) (t : ServerTable) (r : Registered) → IsRegisteredIn reg table c → IsRegisteredAt server reg.number t r → reg.registration ≡ r.reg → server_table t.def.name server ≡ Some t → table.def ≡ t.def
  table_held reg table t r stands here same named =
      let name : List ℕ = reg.registration.table in
      let own : name ≡ t.def.name = ap (λ (q : Registration). q.table) same ∙ (keeps_registration reg.number t r here).table in
      let found = table_numbered w server keeps_rules name table stands.table_fits (ap (λ (u : Table). u (short_text name)) (sym (holds_defs w server c holds 0)) ∙ stands.has_table) in
      sym found.3 ∙ ap (λ (u : ServerTable). u.def) (same_Some found.0 t (sym found.2 ∙ ap (λ (n : List ℕ). server_table n server) own ∙ named))

  -- the change rows of a registration are those that are captured
  pub changes_held : (number : ℕ) (t : ServerTable) (r : Registered) → IsRegisteredAt server number t r → HasChanges number (captured_changes server r) c
  unfolding tables
  changes_held number t r here = record {
    is = holds areas.Cd number ∙ ap (λ (o : Option ServerTable). option_map_or stored (option_and_then (λ (u : ServerTable). u.registered) o) no_rows) here.at ∙ ap (λ (o : Option Registered). option_map_or stored o no_rows) here.is;
    are = change_rows_are server server_sound number t r here.at here.is;
    few = pick r.active;
  }
    where
      stored : Registered → Table
      stored q = table_from_rows change_key_spelling change_row_spelling (captured_changes server q)

      rows : List CdRow
      rows = changes_between server.log r.reg (max r.start r.floor) server.captured

      short : length server.log ≤ log_limit
      short = server_sound.log.short

      pick : (active : Bool) → length (cond active (map stored_change rows) []) < 2 ^ 64
      pick true = omega (arith, length-map rows stored_change, between_few server.log r.reg (max r.start r.floor) server.captured, short)
      pick false = omega arith
