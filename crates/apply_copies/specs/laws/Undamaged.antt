-- What shows no damage of a source that a copy is loaded from.
use Rattle.std.proofs.Common.{◌≡◌, ℕ, zero, suc, ◌≤◌, List, length, inl, inr, refl, sym, ap, subst, ◌∙◌, arith, Option, Some, None, slice_get}
use Rattle.std.specs.FinMap.{entries}
use Rattle.std.specs.Option.{option_map_or}
use Rattle.std.proofs.lemmas.Option.{none-some}
use Rattle.world_store.specs.Words.{IsKey, IsRow, key_spelling, row_spelling, set_spelling, source_row_spelling, table_from_rows, row_of, source_set_rows, source_rows, Holds, no_rows, tables, RowFits}
use Rattle.site_store.specs.Words.{Contents, Table, Rules, joined, IsUndamaged, IsSpelt, rows_spelt}
use Rattle.repl_model.specs.Words.{row_limit, Values, Area, all_weaker, source_set_spelling, Member, SetDef, SourceSet, IsSound, ServerKeepsRules, SetKeepsLimits, UnknownSource, source_at, last_commit, ServerTable, SourceSide, Server, World, at_place_in, In, at_one}
use Rattle.repl_types.specs.declared.area.Area.TheVariants as areas
use Rattle.repl_types.specs.declared.status.DamageCause.TheVariants as causes
use Rattle.stored_defs.specs.laws.Standing.{holds_defs}
use Rattle.set_places.specs.Members.{member_rules}
use Rattle.set_places.specs.laws.Registrations.{members_undamaged}
use Rattle.set_places.specs.laws.SetRows.{source_row_is}
use Rattle.apply_copies.specs.Copying.{HasRows}
use Rattle.apply_copies.specs.Rules.{may_be_source_key, may_be_source_row, is_too_wide, source_rules}
use Rattle.apply_copies.specs.laws.SourceRows.{has_committed}

-- what shows no damage by the rules of one layer, and has what those of another allow, call for and find fit, shows no
-- damage by both
pub joined_undamaged : (r q : Rules) (c : Contents) → IsUndamaged r c → IsSpelt q c → ((a : Area) (t : ℕ) (key : List ℕ) → c a t key ≡ None → q.is_needed a t key c → ⊥) → ((a : Area) (t : ℕ) (key value : List ℕ) → c a t key ≡ Some value → q.is_unfit a t key value c → ⊥) → IsUndamaged (joined r q) c
joined_undamaged r q c sound spelt needed unfit a (causes.Spelling bytes) shows = elim shows.1 [
  | inl k ↦ sound a (causes.Spelling bytes) (shows.0, inl ((λ is. k.0 (is, (spelt a shows.0 bytes k.1.0 k.1.1).0)), k.1))
  | inr v ↦ sound a (causes.Spelling bytes) (shows.0, inr ((λ is. v.0 (is, (spelt a shows.0 v.1.0 bytes v.1.1).1)), v.1))
]
joined_undamaged r q c sound spelt needed unfit a (causes.Absent key) shows = elim shows.1.1 [
  | inl first ↦ sound a (causes.Absent key) (shows.0, (shows.1.0, first))
  | inr second ↦ needed a shows.0 key shows.1.0 second
]
joined_undamaged r q c sound spelt needed unfit a (causes.Unfit bytes) shows = elim shows.1.2 [
  | inl first ↦ sound a (causes.Unfit bytes) (shows.0, (shows.1.0, shows.1.1, first))
  | inr second ↦ unfit a shows.0 shows.1.0 bytes shows.1.1 second
]
joined_undamaged r q c sound spelt needed unfit a (causes.NoRest steps) shows = shows

module _ (w : World) (server : Server) (c : Contents) (sound : IsSound w) (i : In server w) (holds : Holds w server c) where
  -- no set that stands there is too wide
  pub none_too_wide : (key value : List ℕ) → c areas.Defs 2 key ≡ Some value → is_too_wide areas.Defs 2 key value c → ⊥
  none_too_wide key value has wide =
      let keeps : ServerKeepsRules w server = at_one (ServerKeepsRules w) w server sound.definitions.servers i in
      let row : SourceSet = wide.0 in
      let stands : table_from_rows set_spelling source_set_spelling (source_set_rows server) key ≡ Some (source_set_spelling row) = ap (λ (u : Table). u key) (sym (holds_defs w server c holds 2)) ∙ has ∙ ap Some wide.2 in
      let found = row_of set_spelling source_set_spelling (source_set_rows server) key (source_set_spelling row) stands in
      let side = source_row_is w server keeps found.0.0 row wide.1 (ap (table_from_rows set_spelling source_set_spelling (source_set_rows server)) found.2 ∙ stands) in
      let limits = (at_one (λ (s : SourceSide). (s.def.source ≡ server.name) × SetKeepsLimits w s.def × UnknownSource w server s) server.source_sets side.0 keeps.sources (at_place_in server.source_sets row.number side.0 side.2)).1 in
      let member : Member = wide.3.0 in
      let narrow : length member.columns ≤ row_limit = at_one (λ (m : Member). length m.columns ≤ row_limit) side.0.def.members member limits.columns (subst (λ (def : SetDef). In member def.members) side.3 wide.3.1) in
      omega (arith, narrow, wide.3.2)

module _ (w : World) (server : Server) (c : Contents) (sound : IsSound w) (i : In server w) (holds : Holds w server c) where
  -- the rules of the rows of a source
  abbrev row_rules : Rules
  row_rules = record { is_key = may_be_source_key; is_value = may_be_source_row; is_needed = λ a t key d. ⊥; is_unfit = is_too_wide }

  -- what stands in a table of the source is a row under its key
  source_spelt : (n : ℕ) (key value : List ℕ) → c areas.Source n key ≡ Some value → row_rules.is_key areas.Source n key × row_rules.is_value areas.Source n value
  unfolding tables
  source_spelt n key value has = by_table (slice_get server.tables n) refl
    where
      by_table : (o : Option ServerTable) → slice_get server.tables n ≡ o → row_rules.is_key areas.Source n key × row_rules.is_value areas.Source n value
      by_table None at = absurd (none-some value (sym (ap (λ (u : Table). u key) (holds areas.Source n ∙ ap (λ (o : Option ServerTable). option_map_or (λ t. table_from_rows key_spelling source_row_spelling (source_rows server t.def)) o no_rows) at)) ∙ has))
      by_table (Some t) at =
          let rows = entries (source_at t.def server.log (last_commit server.log)) in
          let all : HasRows n rows c = has_committed w server c sound i holds n t at in
          rows_spelt row_rules areas.Source n key_spelling row_spelling rows key value (all_weaker (RowFits IsKey IsRow) (λ (r : Values × Values). row_rules.is_key areas.Source n (key_spelling r.0) × row_rules.is_value areas.Source n (row_spelling r.1)) rows (λ r fit. ((r.0, fit.0, refl), (record { row = r.1 }, fit.1, refl))) all.fit) (ap (λ (u : Table). u key) (sym all.is) ∙ has)

  -- what a server of a sound world holds shows no damage by the rules of the source of a copy
  pub copies_undamaged : IsUndamaged source_rules c
  copies_undamaged = joined_undamaged member_rules row_rules c (members_undamaged w server c sound i holds) spelt (λ a t key none needed. needed) unfit
    where
      spelt : IsSpelt row_rules c
      spelt areas.Source t key value has = source_spelt t key value has
      spelt a t key value has = (tt, tt)

      unfit : (a : Area) (t : ℕ) (key value : List ℕ) → c a t key ≡ Some value → row_rules.is_unfit a t key value c → ⊥
      unfit areas.Defs (suc (suc zero)) key value has wide = none_too_wide w server c sound i holds key value has wide
      unfit a t key value has wide = absurd wide
