-- What a server of a sound world holds shows no damage of the source from which a copy takes change rows.
use Rattle.std.proofs.Common.{◌≡◌, ℕ, zero, suc, Bool, true, false, cond, List, [], map, refl, sym, ap, subst, ◌∙◌, max, Option, Some, None, is_some, slice_get}
use Rattle.std.specs.List.{AllByRecursion}
use Rattle.std.specs.Option.{option_map_or, option_and_then}
use Rattle.std.proofs.lemmas.Bool.{false≢true}
use Rattle.std.proofs.lemmas.Option.{none-some}
use Rattle.world_store.specs.Words.{key_spelling, short_text, change_row_spelling, IsChangeRow, change_key_spelling, IsChangeKey, CdKey, ChangeRow, table_from_rows, fits_each, row_of, table_rows, Holds, no_rows, tables, RowFits}
use Rattle.site_store.specs.Words.{Contents, Table, Rules, IsSpelt, IsUndamaged, rows_spelt}
use Rattle.repl_model.specs.Words.{IsKeySize, Area, CdRow, Registration, TableDef, all_weaker, defined_table_spelling, IsDefinedRegistration, DefinedRegistration, DefinedTable, table_named, changes_between, IsSound, KeepsTable, LogIsSound, Registered, Server, ServerTable, World, server_table, tables_of, at_place_in, In, at_one, image_in, each_image}
use Rattle.repl_types.specs.declared.area.Area.TheVariants as areas
use Rattle.stored_defs.specs.laws.NamedTables.{table_stands}
use Rattle.stored_defs.specs.laws.Standing.{holds_defs, holds_spelt}
use Rattle.set_places.specs.Members.{HasRegistration, member_rules}
use Rattle.set_places.specs.laws.Registrations.{members_undamaged}
use Rattle.stored_commits.specs.units.StoredChanges.{stored_change}
use Rattle.cd_tables.specs.Captured.{captured_changes}
use Rattle.cd_tables.specs.StoredRows.{change_of}
use Rattle.cd_tables.specs.laws.ChangeKeys.{changes_apart}
use Rattle.stored_commits.specs.copies.ChangedCopies.{key_after}
use Rattle.apply_copies.specs.ChangeRules.{may_be_change_key, may_be_change, calls_for_table, source_of, IsKeyless, is_unfit_change, change_source_rules}
use Rattle.apply_copies.specs.laws.ChangeSizes.{HasSize, all_sized}
use Rattle.apply_copies.specs.laws.HeldChanges.{IsRegisteredAt, keeps_rules, keeps_table, keeps_registration, registration_held, table_held, changes_held}
use Rattle.apply_copies.specs.laws.Undamaged.{joined_undamaged, none_too_wide}
use Rattle.stored_commits.specs.laws.SourceLogs.{tables_are_found}

module _ (w : World) (server : Server) (c : Contents) (sound : IsSound w) (i : In server w) (holds : Holds w server c) where
  -- the rules of change rows
  abbrev row_rules : Rules
  row_rules = record { is_key = may_be_change_key; is_value = may_be_change; is_needed = calls_for_table; is_unfit = is_unfit_change }

  -- ---- change rows

  -- each captured change row is of a row whose key can be stored
  each_sized : (number : ℕ) (t : ServerTable) (r : Registered) (here : IsRegisteredAt server number t r) → AllByRecursion (λ q. IsKeySize (key_spelling (key_after (source_of t.def r.reg) (change_of q)))) (captured_changes server r)
  each_sized number t r here = pick r.active
    where
      keeps : KeepsTable t
      keeps = keeps_table w server c sound i holds number t here.at

      named : table_named t.def.name (tables_of server) ≡ Some t.def
      named = at_one (λ (def : TableDef). table_named def.name (tables_of server) ≡ Some def) (tables_of server) t.def (tables_are_found w server (keeps_rules w server c sound i holds)) (image_in (λ (u : ServerTable). u.def) server.tables t (at_place_in server.tables number t here.at))

      all : AllByRecursion (HasSize t r keeps (keeps_registration w server c sound i holds number t r here)) (changes_between server.log r.reg (max r.start r.floor) server.captured)
      all = all_sized t r keeps (keeps_registration w server c sound i holds number t r here) server (at_one LogIsSound w server sound.logs i) named (max r.start r.floor) server.captured

      pick : (active : Bool) → AllByRecursion (λ (q : CdKey × ChangeRow). IsKeySize (key_spelling (key_after (source_of t.def r.reg) (change_of q)))) (cond active (map stored_change (changes_between server.log r.reg (max r.start r.floor) server.captured)) [])
      pick true = each_image (λ (q : CdKey × ChangeRow). IsKeySize (key_spelling (key_after (source_of t.def r.reg) (change_of q)))) stored_change (changes_between server.log r.reg (max r.start r.floor) server.captured) all
      pick false = tt

  -- so none that stands there is of one whose key can't be
  none_keyless : (reg : DefinedRegistration) (table : DefinedTable) (change : CdRow) → IsKeyless reg table change c → c areas.Cd reg.number (change_key_spelling (stored_change change).0) ≡ Some (change_row_spelling (stored_change change).1) → ⊥
  none_keyless reg table change keyless has =
      let held = registration_held w server c sound i holds reg keyless.registered.fits keyless.registered.stands in
      let t : ServerTable = held.0 in
      let r : Registered = held.1 in
      let def = table_held w server c sound i holds reg table t r keyless.registered held.2 held.3 held.4 in
      let rows = changes_held w server c sound i holds reg.number t r held.2 in
      let row = row_of change_key_spelling change_row_spelling (captured_changes server r) (change_key_spelling (stored_change change).0) (change_row_spelling (stored_change change).1) (ap (λ (u : Table). u (change_key_spelling (stored_change change).0)) (sym rows.is) ∙ has) in
      let is : row.0 ≡ stored_change change = changes_apart row.0 (stored_change change) (fits_each (RowFits IsChangeKey IsChangeRow) (captured_changes server r) row.0 rows.are.fit row.1) keyless.fits row.2 row.3 in
      let size = fits_each (λ (q : CdKey × ChangeRow). IsKeySize (key_spelling (key_after (source_of t.def r.reg) (change_of q)))) (captured_changes server r) row.0 (each_sized reg.number t r held.2) row.1 in
      keyless.keyless (subst (λ (p : (CdKey × ChangeRow) × TableDef × Registration). IsKeySize (key_spelling (key_after (source_of p.1 p.2) (change_of p.0)))) (λ j. (is j, sym def j, sym held.3 j)) size)

  -- ---- tables

  -- the table of a registration is there
  not_missing : (reg : DefinedRegistration) → IsDefinedRegistration reg → HasRegistration reg c → c areas.Defs 0 (short_text reg.registration.table) ≡ None → ⊥
  not_missing reg fits has none =
      let held = registration_held w server c sound i holds reg fits has in
      let name : List ℕ = reg.registration.table in
      let own : name ≡ held.0.def.name = ap (λ (q : Registration). q.table) held.3 ∙ (keeps_registration w server c sound i holds reg.number held.0 held.1 held.2).table in
      let stands : is_some (table_from_rows short_text defined_table_spelling (table_rows server) (short_text name)) ≡ true = table_stands w server (keeps_rules w server c sound i holds) name ∙ ap (λ (n : List ℕ). is_some (server_table n server)) own ∙ ap (λ (o : Option ServerTable). is_some o) held.4 in
      false≢true (ap (λ (o : Option (List ℕ)). is_some o) (sym none ∙ ap (λ (u : Table). u (short_text name)) (holds_defs w server c holds 0)) ∙ stands)

  -- ---- all of it

  -- what stands in a change-data table is a change row under its key
  changes_spelt : (n : ℕ) (key value : List ℕ) → c areas.Cd n key ≡ Some value → row_rules.is_key areas.Cd n key × row_rules.is_value areas.Cd n value
  unfolding tables
  changes_spelt n key value has = by_table (slice_get server.tables n) refl
    where
      stored : Registered → Table
      stored q = table_from_rows change_key_spelling change_row_spelling (captured_changes server q)

      by_registered : (t : ServerTable) → slice_get server.tables n ≡ Some t → (o : Option Registered) → t.registered ≡ o → row_rules.is_key areas.Cd n key × row_rules.is_value areas.Cd n value
      by_registered t at None is = absurd (none-some value (sym (ap (λ (u : Table). u key) (holds areas.Cd n ∙ ap (λ (o : Option ServerTable). option_map_or stored (option_and_then (λ (u : ServerTable). u.registered) o) no_rows) at ∙ ap (λ (o : Option Registered). option_map_or stored o no_rows) is)) ∙ has))
      by_registered t at (Some r) is =
          let rows = changes_held w server c sound i holds n t r (record { at = at; is = is }) in
          rows_spelt row_rules areas.Cd n change_key_spelling change_row_spelling (captured_changes server r) key value (all_weaker (RowFits IsChangeKey IsChangeRow) (λ (q : CdKey × ChangeRow). row_rules.is_key areas.Cd n (change_key_spelling q.0) × row_rules.is_value areas.Cd n (change_row_spelling q.1)) (captured_changes server r) (λ q fit. ((q.0, fit.0, refl), (q.1, fit.1, refl))) rows.are.fit) (ap (λ (u : Table). u key) (sym rows.is) ∙ has)

      by_table : (o : Option ServerTable) → slice_get server.tables n ≡ o → row_rules.is_key areas.Cd n key × row_rules.is_value areas.Cd n value
      by_table None at = absurd (none-some value (sym (ap (λ (u : Table). u key) (holds areas.Cd n ∙ ap (λ (o : Option ServerTable). option_map_or stored (option_and_then (λ (u : ServerTable). u.registered) o) no_rows) at)) ∙ has))
      by_table (Some t) at = by_registered t at t.registered refl

  -- what a server of a sound world holds shows no damage by the rules of change rows
  pub changes_undamaged : IsUndamaged change_source_rules c
  changes_undamaged = joined_undamaged member_rules row_rules c (members_undamaged w server c sound i holds) spelt needed unfit
    where
      spelt : IsSpelt row_rules c
      spelt areas.Cd t key value has = changes_spelt t key value has
      spelt areas.Defs zero key value has = (tt, (holds_spelt w server c (keeps_rules w server c sound i holds) holds areas.Defs 0 key value has).1)
      spelt a t key value has = (tt, tt)

      needed : (a : Area) (t : ℕ) (key : List ℕ) → c a t key ≡ None → row_rules.is_needed a t key c → ⊥
      needed areas.Defs zero key none call = not_missing call.0 call.1 call.2 (ap (c areas.Defs 0) (sym call.3) ∙ none)
      needed a t key none call = absurd call

      unfit : (a : Area) (t : ℕ) (key value : List ℕ) → c a t key ≡ Some value → row_rules.is_unfit a t key value c → ⊥
      unfit areas.Defs (suc (suc zero)) key value has wide = none_too_wide w server c sound i holds key value has wide
      unfit areas.Cd t key value has h = none_keyless h.0 h.1 h.2 h.3 (subst (λ (p : ℕ × List ℕ × List ℕ). c areas.Cd p.0 p.1 ≡ Some p.2) (λ j. (h.4 j, h.5 j, h.6 j)) has)
      unfit a t key value has h = absurd h
