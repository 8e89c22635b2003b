-- No damage is shown to a unit whose changes fit a server: proofs.
use Rattle.std.proofs.Common.{◌≡◌, inl, inr, ℕ, zero, true, false, List, ◌||◌, sym, ap, subst, ◌∙◌, Some, None}
use Rattle.std.proofs.lemmas.Bool.{or_cases}
use Rattle.world_store.specs.Words.{one_whole, not_both}
use Rattle.site_store.specs.Words.{Contents, Kept, Rules, joined, IsUndamaged, IsSpelt, IsNoDamage, sees, no_damage, Stops}
use Rattle.site_store.specs.declared.sites.Sites.{Sites}
use Rattle.repl_model.specs.Words.{Area, Placed, Fault, defined_table_spelling, IsDefinedTable, DefinedTable, one_defined_table, is_signal, is_change_applicable, Server, tables_of, In, at_one}
use Rattle.repl_types.specs.declared.area.Area.TheVariants as areas
use Rattle.repl_types.specs.declared.status.DamageCause.TheVariants as causes
use Rattle.repl_types.specs.declared.unit.Unit.{Unit as LogUnit}
use Rattle.source_log.specs.Fitting.{may_stand}
use Rattle.source_log.specs.Rules.{all_rules, HasTable}
use Rattle.source_log.specs.Storing.{StoresWhole}
use Rattle.source_log.specs.Units.{ChangesFit, calls_for_table, is_unfit_table, table_rules, ShowsUnitDamage}
use Rattle.source_log.proofs.Extending.{some_none}
use Rattle.source_log.proofs.KeptFlights.{has_table}
use Rattle.source_log.proofs.Undamaged.{all_spelt, none_shown}
use Rattle.source_log.specs.laws.Whole.{same_value}

-- contents that show no damage by either of two rules, and of which each entry is spelt by both, show none by both together
joined_undamaged : (r q : Rules) (c : Contents) → IsSpelt r c → IsSpelt q c → IsUndamaged r c → IsUndamaged q c → IsUndamaged (joined r q) c
joined_undamaged r q c one two first second a (causes.Spelling bytes) h = elim h.1 [
  | inl k ↦ k.0 ((one a h.0 bytes k.1.0 k.1.1).0, (two a h.0 bytes k.1.0 k.1.1).0)
  | inr v ↦ v.0 ((one a h.0 v.1.0 bytes v.1.1).1, (two a h.0 v.1.0 bytes v.1.1).1)
]
joined_undamaged r q c one two first second a (causes.Absent key) h = elim h.1.1 [
  | inl n ↦ first a (causes.Absent key) (h.0, (h.1.0, n))
  | inr n ↦ second a (causes.Absent key) (h.0, (h.1.0, n))
]
joined_undamaged r q c one two first second a (causes.Unfit bytes) h = elim h.1.2 [
  | inl u ↦ first a (causes.Unfit bytes) (h.0, (h.1.0, h.1.1, u))
  | inr u ↦ second a (causes.Unfit bytes) (h.0, (h.1.0, h.1.1, u))
]
joined_undamaged r q c one two first second a (causes.NoRest steps) h = h

module _ (server : Server) (c : Contents) (whole : StoresWhole server c) (unit : LogUnit) (fit : ChangesFit server unit) where
  -- each of its changes may stand at its table, if it isn't a start or a stop
  unit_table : (p : Placed) → In p unit.changes → is_signal p.change ≡ false → (table : DefinedTable) × HasTable c p.change table
  unit_table p i plain = has_table server whole.kept c whole.stores p.change
      (elim (or_cases (is_signal p.change) (is_change_applicable (tables_of server) p.change) (at_one (λ (q : Placed). (is_signal q.change || is_change_applicable (tables_of server) q.change) ≡ true) unit.changes p fit i)) [
        | inl signal ↦ absurd (not_both (is_signal p.change) signal plain)
        | inr applicable ↦ applicable
      ])

  -- definitions are spelt
  tables_spelt : IsSpelt (table_rules unit.changes) c
  tables_spelt areas.Defs zero key value has = (tt, (all_spelt server c whole areas.Defs 0 key value has).1)
  tables_spelt a t key value has = (tt, tt)

  -- no table is missing
  none_missing : (a : Area) (t : ℕ) (key : List ℕ) → c a t key ≡ None → calls_for_table unit.changes a t key → ⊥
  none_missing areas.Defs zero key none h =
      let table = unit_table h.0 h.1 h.2 in
      some_none (sym table.1.stands ∙ ap (c areas.Defs 0) (sym h.3) ∙ none)
  none_missing a t key none h = h

  -- and none is unfit
  none_unfit : (a : Area) (t : ℕ) (key value : List ℕ) → c a t key ≡ Some value → is_unfit_table unit.changes a t key value → ⊥
  none_unfit areas.Defs zero key value has h =
      let table = unit_table h.0 h.1 h.2 in
      let same : table.0 ≡ h.4.0 = one_whole IsDefinedTable defined_table_spelling one_defined_table table.0 h.4.0 table.1.fits h.4.1 (same_value (sym table.1.stands ∙ ap (c areas.Defs 0) (sym h.3) ∙ has) ∙ h.4.2) in
      not_both (may_stand h.4.0.def h.0.change) (subst (λ (d : DefinedTable). may_stand d.def h.0.change ≡ true) same table.1.may) h.4.3
  none_unfit a t key value has h = h

  -- so no table shows damage
  tables_undamaged : IsUndamaged (table_rules unit.changes) c
  tables_undamaged a (causes.Spelling bytes) h = elim h.1 [
    | inl k ↦ k.0 tt
    | inr v ↦ v.0 (tables_spelt a h.0 v.1.0 bytes v.1.1).1
  ]
  tables_undamaged a (causes.Absent key) h = none_missing a h.0 key h.1.0 h.1.1
  tables_undamaged a (causes.Unfit bytes) h = none_unfit a h.0 h.1.0 bytes h.1.1 h.1.2
  tables_undamaged a (causes.NoRest steps) h = h

  -- and nothing does
  unit_undamaged : IsUndamaged (joined all_rules (table_rules unit.changes)) c
  unit_undamaged = joined_undamaged all_rules (table_rules unit.changes) c (all_spelt server c whole) tables_spelt (none_shown server c whole) tables_undamaged

  -- no damage is reported
  pub none_damaged : {K : Type 0} (kept : K → Kept) (s0 s1 : Sites K) (n : ℕ) → sees kept s0 n ≡ Some c → (e : Fault) → Stops kept s0 s1 (ShowsUnitDamage kept s0 n unit) e → IsNoDamage e
  none_damaged kept s0 s1 n seen e f =
      let all = joined all_rules (table_rules unit.changes) in
      no_damage kept s0 s1 (λ s. s ≡ n) all e (λ s is. subst (λ (k : ℕ). (d : Contents) × (sees kept s0 k ≡ Some d) × IsUndamaged all d) (sym is) (c, seen, unit_undamaged)) f.blames
