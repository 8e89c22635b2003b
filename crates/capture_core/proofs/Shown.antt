-- A captured unit shows no damage that wasn't shown before: proofs.
use Rattle.std.proofs.Common.{◌≡◌, ℕ, zero, Bool, true, false, List, inl, inr, refl, sym, ap, ◌∙◌, Some}
use Rattle.site_store.specs.Words.{Contents, Table, Shows, ShownBefore, shown_second}
use Rattle.repl_model.specs.Words.{Area}
use Rattle.repl_types.specs.declared.area.Area.TheVariants as areas
use Rattle.repl_types.specs.declared.status.DamageCause.TheVariants as causes
use Rattle.cd_tables.specs.Appending.{is_of_unit}
use Rattle.cd_tables.specs.Rules.{rules as unit_rules}
use Rattle.capture_core.specs.Rules.{log_rules, rules}

-- a table that the capture of a unit changes may have any keys by the rules of the log
free_key : (a : Area) (t : ℕ) (bytes : List ℕ) → is_of_unit a t ≡ true → log_rules.is_key a t bytes
free_key areas.Log t bytes of = absurd cc
free_key a t bytes of = tt

-- and any values
free_value : (a : Area) (t : ℕ) (bytes : List ℕ) → is_of_unit a t ≡ true → log_rules.is_value a t bytes
free_value areas.Log t bytes of = absurd cc
free_value areas.Capture zero bytes of = absurd cc
free_value a t bytes of = tt

module _ (c d : Contents) (others : (a : Area) (t : ℕ) → is_of_unit a t ≡ false → d a t ≡ c a t) (unit : ShownBefore unit_rules c d) where
  -- a key that is none by these rules stood there before, or the capture of the unit showed it before
  key_before : (a : Area) (t : ℕ) (bytes value : List ℕ) → (rules.is_key a t bytes → ⊥) → d a t bytes ≡ Some value → (b : Bool) → is_of_unit a t ≡ b → Shows rules a (causes.Spelling bytes) (Some c)
  key_before a t bytes value wrong has false apart = (t, inl (wrong, (value, ap (λ (table : Table). table bytes) (sym (others a t apart)) ∙ has)))
  key_before a t bytes value wrong has true of = shown_second log_rules unit_rules a (causes.Spelling bytes) (Some c) (unit a (causes.Spelling bytes) (t, inl ((λ k. wrong (free_key a t bytes of, k)), (value, has))))

  -- and so a value
  value_before : (a : Area) (t : ℕ) (bytes key : List ℕ) → (rules.is_value a t bytes → ⊥) → d a t key ≡ Some bytes → (b : Bool) → is_of_unit a t ≡ b → Shows rules a (causes.Spelling bytes) (Some c)
  value_before a t bytes key wrong has false apart = (t, inr (wrong, (key, ap (λ (table : Table). table key) (sym (others a t apart)) ∙ has)))
  value_before a t bytes key wrong has true of = shown_second log_rules unit_rules a (causes.Spelling bytes) (Some c) (unit a (causes.Spelling bytes) (t, inr ((λ v. wrong (free_value a t bytes of, v)), (key, has))))

  pub unit_shown : ShownBefore rules c d
  unit_shown a (causes.Spelling bytes) h = elim h.1 [
    | inl k ↦ key_before a h.0 bytes k.1.0 k.0 k.1.1 (is_of_unit a h.0) refl
    | inr v ↦ value_before a h.0 bytes v.1.0 v.0 v.1.1 (is_of_unit a h.0) refl
  ]
  unit_shown a (causes.Absent key) h = elim h.1.1 [
    | inl none ↦ absurd none
    | inr needed ↦ shown_second log_rules unit_rules a (causes.Absent key) (Some c) (unit a (causes.Absent key) (h.0, (h.1.0, needed)))
  ]
  unit_shown a (causes.Unfit bytes) h = elim h.1.2 [
    | inl none ↦ absurd none
    | inr unfit ↦ shown_second log_rules unit_rules a (causes.Unfit bytes) (Some c) (unit a (causes.Unfit bytes) (h.0, (h.1.0, h.1.1, unfit)))
  ]
  unit_shown a (causes.NoRest steps) h = h
