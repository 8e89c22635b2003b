-- The rows of registrations that stand at a server, and what shows no damage of them.
use Rattle.std.proofs.Common.{◌≡◌, ℕ, zero, suc, true, List, ◌∷◌, refl, sym, ap, ap₂, subst, ◌∙◌, inl, inr, Option, Some, None, is_some, slice_get, filter_map, option_map, option_and_then, bytes_eq}
use Rattle.std.proofs.lemmas.Bool.{false≢true}
use Rattle.std.proofs.lemmas.Option.{none-some, same_Some}
use Rattle.world_store.specs.Words.{name_cmp, IsName, short_text, one_whole, name_cmp_exact, table_from_rows, fits_each, row_of, no_row_at, numbered_tables, defined_registration, registration_rows, Holds, RowFits, registration_rows_are, name_one}
use Rattle.site_store.specs.Words.{Contents, Table, Shows, IsUndamaged}
use Rattle.repl_model.specs.Words.{Area, DamageCause, defined_registration_spelling, IsDefinedRegistration, DefinedRegistration, Member, SetDef, SourceSet, one_defined_registration, SourceTable, IsSound, ServerKeepsRules, has_sources, table_after, Registered, ServerTable, Server, World, source_named, server_table, entry_has_row, row_is_entry, in_numbered, numbered_place, at_place_in, In, at_one, passes_at, in_second, in_filter_map, given_in, found_in, same_name, name_itself}
use Rattle.repl_types.specs.declared.area.Area.TheVariants as areas
use Rattle.repl_types.specs.declared.status.DamageCause.TheVariants as causes
use Rattle.stored_defs.specs.laws.Standing.{holds_defs, holds_spelt}
use Rattle.set_places.specs.Members.{may_be_registration, is_called_for, member_rules}
use Rattle.set_places.specs.laws.SetRows.{found_alone, held_source_row}

-- a table that is found is registered if its source is
registered_found : (name : List ℕ) (server : Server) → is_some (source_named name server) ≡ true → (t : ServerTable) × (server_table name server ≡ Some t) × ((r : Registered) × (t.registered ≡ Some r))
registered_found name server some = by_table (server_table name server) refl some
  where
    source_of : ServerTable → Registered → SourceTable
    source_of t r = record { def = table_after server.log t.def; reg = r.reg; log = server.log }

    by_registered : (t : ServerTable) → server_table name server ≡ Some t → (o : Option Registered) → t.registered ≡ o → is_some (option_map (source_of t) o) ≡ true → (t : ServerTable) × (server_table name server ≡ Some t) × ((r : Registered) × (t.registered ≡ Some r))
    by_registered t found None e some = absurd (false≢true some)
    by_registered t found (Some r) e some = (t, found, (r, e))

    by_table : (o : Option ServerTable) → server_table name server ≡ o → is_some (option_and_then (λ t. option_map (source_of t) t.registered) o) ≡ true → (t : ServerTable) × (server_table name server ≡ Some t) × ((r : Registered) × (t.registered ≡ Some r))
    by_table None found some = absurd (false≢true some)
    by_table (Some t) found some = by_registered t found t.registered refl some

module _ (w : World) (server : Server) (keeps : ServerKeepsRules w server) where
  -- the registration that stands under a name is that of the table with the name and with the row's number
  pub registration_row_is : (name : List ℕ) (d : DefinedRegistration) → IsDefinedRegistration d → table_from_rows short_text defined_registration_spelling (registration_rows server) (short_text name) ≡ Some (defined_registration_spelling d) → (t : ServerTable) × (r : Registered) × (server_table name server ≡ Some t) × (slice_get server.tables d.number ≡ Some t) × (t.registered ≡ Some r) × (d.registration ≡ r.reg)
  registration_row_is name d fit has =
      let found = row_of short_text defined_registration_spelling (registration_rows server) (short_text name) (defined_registration_spelling d) has in
      let row : List ℕ × DefinedRegistration = found.0 in
      let i : In row (registration_rows server) = subst (In row) (sym found.1.split) (in_second found.1.front (row ∷ found.1.back) row (inl refl)) in
      let p = in_filter_map defined_registration (numbered_tables server) row (row_is_entry name_cmp name_cmp_exact (filter_map defined_registration (numbered_tables server)) row i) in
      let same : row.1 ≡ d = one_whole IsDefinedRegistration defined_registration_spelling one_defined_registration row.1 d (fits_each (RowFits IsName IsDefinedRegistration) (registration_rows server) row (registration_rows_are w server keeps).fit found.1).1 fit found.3 in
      by_registered p.0 row same (name_one row.0 name found.2) p.1 p.0.1.registered refl p.2
    where
      by_registered : (t : ℕ × ServerTable) (row : List ℕ × DefinedRegistration) → row.1 ≡ d → row.0 ≡ name → In t (numbered_tables server) → (o : Option Registered) → t.1.registered ≡ o → option_map (λ (r : Registered). (t.1.def.name, record { number = t.0; registration = r.reg })) o ≡ Some row → (t : ServerTable) × (r : Registered) × (server_table name server ≡ Some t) × (slice_get server.tables d.number ≡ Some t) × (t.registered ≡ Some r) × (d.registration ≡ r.reg)
      by_registered t row same named i None e is = absurd (none-some row is)
      by_registered t row same named i (Some r) e is =
          let made : (t.1.def.name, record { number = t.0; registration = r.reg }) ≡ row = same_Some (t.1.def.name, record { number = t.0; registration = r.reg }) row is in
          let named_so : t.1.def.name ≡ name = ap (λ (q : List ℕ × DefinedRegistration). q.0) made ∙ named in
          let at : slice_get server.tables t.0 ≡ Some t.1 = numbered_place server.tables t i in
          let number : t.0 ≡ d.number = ap (λ (q : List ℕ × DefinedRegistration). q.1.number) made ∙ ap (λ (q : DefinedRegistration). q.number) same in (
            t.1,
            r,
            found_alone (λ (a : ServerTable). bytes_eq name a.def.name) (λ (a b : ServerTable). bytes_eq a.def.name b.def.name) server.tables t.1 (λ a b x y. ap₂ bytes_eq (sym (same_name name a.def.name x)) (sym (same_name name b.def.name y)) ∙ name_itself name) keeps.differ (at_place_in server.tables t.0 t.1 at) (ap (bytes_eq name) named_so ∙ name_itself name),
            ap (slice_get server.tables) (sym number) ∙ at,
            e,
            sym (ap (λ (q : List ℕ × DefinedRegistration). q.1.registration) made ∙ ap (λ (q : DefinedRegistration). q.registration) same),
          )

  -- if none stands there, no registered table has the name
  pub no_registration_row : (name : List ℕ) → table_from_rows short_text defined_registration_spelling (registration_rows server) (short_text name) ≡ None → is_some (source_named name server) ≡ true → ⊥
  no_registration_row name none some =
      let t = registered_found name server some in
      let found = found_in (λ (a : ServerTable). bytes_eq name a.def.name) server.tables t.0 t.1 in
      let named : t.0.def.name ≡ name = sym (same_name name t.0.def.name found.1) in
      let m = in_numbered 0 server.tables t.0 found.0 in
      let entry : List ℕ × DefinedRegistration = (t.0.def.name, record { number = m.0; registration = t.2.0.reg }) in
      let given : In entry (filter_map defined_registration (numbered_tables server)) = given_in defined_registration (numbered_tables server) (m.0, t.0) entry m.1 (ap (option_map (λ (r : Registered). (t.0.def.name, record { number = m.0; registration = r.reg }))) t.2.1) in
      let r = entry_has_row name_cmp name_cmp_exact name (λ (x : DefinedRegistration). Unit {0}) (filter_map defined_registration (numbered_tables server)) (λ e j same. tt) entry given named in
      at_one (λ (q : List ℕ × DefinedRegistration). short_text q.0 ≡ short_text name → ⊥) (registration_rows server) r.0 (no_row_at short_text defined_registration_spelling (registration_rows server) (short_text name) none) r.1 (ap short_text r.2)

-- what a server of a sound world holds shows no damage by the rules of registrations
pub members_undamaged : (w : World) (server : Server) (c : Contents) → IsSound w → In server w → Holds w server c → IsUndamaged member_rules c
members_undamaged w server c sound i holds a cause shows = by_cause a cause shows
  where
    keeps : ServerKeepsRules w server
    keeps = at_one (ServerKeepsRules w) w server sound.definitions.servers i

    spelt : (a : Area) (t : ℕ) (key bytes : List ℕ) → c a t key ≡ Some bytes → may_be_registration a t bytes
    spelt areas.Defs (suc zero) key bytes has = (holds_spelt w server c keeps holds areas.Defs 1 key bytes has).1
    spelt a t key bytes has = tt

    not_missing : (a : Area) (t : ℕ) (key : List ℕ) → c a t key ≡ None → is_called_for a t key c → ⊥
    not_missing areas.Defs (suc zero) key none needed =
        let row : SourceSet = needed.2.1 in
        let side = held_source_row w server c keeps holds needed.2.0 row needed.2.2 needed.2.3 in
        let has : has_sources server side.0 ≡ true = passes_at (has_sources server) server.source_sets side.0 keeps.source_members (at_place_in server.source_sets row.number side.0 side.1) in
        let member : Member = needed.2.4.0 in
        let among : In member side.0.def.members = subst (λ (def : SetDef). In member def.members) side.2 needed.2.4.1 in
        let some : is_some (source_named needed.0 server) ≡ true = ap (λ (name : List ℕ). is_some (source_named name server)) (sym needed.2.4.2) ∙ passes_at (λ (m : Member). is_some (source_named m.source server)) side.0.def.members member has among in
        no_registration_row w server keeps needed.0 (ap (λ (u : Table). u (short_text needed.0)) (sym (holds_defs w server c holds 1)) ∙ ap (c areas.Defs 1) (sym needed.1) ∙ none) some
    not_missing a t key none needed = absurd needed

    by_cause : (a : Area) (cause : DamageCause) → Shows member_rules a cause (Some c) → ⊥
    by_cause a (causes.Spelling bytes) h = elim h.1 [
      | inl k ↦ k.0 tt
      | inr v ↦ v.0 (spelt a h.0 v.1.0 bytes v.1.1)
    ]
    by_cause a (causes.Absent key) h = not_missing a h.0 key h.1.0 h.1.1
    by_cause a (causes.Unfit bytes) h = h.1.2
    by_cause a (causes.NoRest steps) h = h
