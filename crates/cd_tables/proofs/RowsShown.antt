-- Contents that show no damage that wasn't shown before: proofs.
use Rattle.std.proofs.Common.{◌≡◌, ℕ, zero, suc, List, sym, ap, ◌∙◌, Some, None}
use Rattle.site_store.specs.Words.{Contents, Table, Rules, AddsOnlySpelt, ShownBefore, shown_before}
use Rattle.repl_model.specs.Words.{Area}
use Rattle.repl_types.specs.declared.area.Area.TheVariants as areas
use Rattle.repl_types.specs.declared.status.DamageCause.TheVariants as causes
use Rattle.cd_tables.specs.StoredRows.{calls_for_state, row_rules}

-- contents to which only what is spelled was added, and which miss what they call for, or have what is unfit, only where
-- that was so before
pub added_shown : (rules : Rules) (c d : Contents) → AddsOnlySpelt rules c d
    → ((a : Area) (t : ℕ) (key : List ℕ) → d a t key ≡ None → rules.is_needed a t key d → (c a t key ≡ None) × rules.is_needed a t key c)
    → ((a : Area) (t : ℕ) (key value : List ℕ) → d a t key ≡ Some value → rules.is_unfit a t key value d → (c a t key ≡ Some value) × rules.is_unfit a t key value c)
    → ShownBefore rules c d
added_shown rules c d spelt needed unfit a (causes.Spelling bytes) h = shown_before (record rules { is_needed = λ b t key e. ⊥; is_unfit = λ b t key value e. ⊥ }) (λ b t key e n. n, λ b t key value e n. n) c d spelt a (causes.Spelling bytes) h
added_shown rules c d spelt needed unfit a (causes.Absent key) h = let b = needed a h.0 key h.1.0 h.1.1 in (h.0, b)
added_shown rules c d spelt needed unfit a (causes.Unfit bytes) h = let b = unfit a h.0 h.1.0 bytes h.1.1 h.1.2 in (h.0, (h.1.0, b.0, b.1))
added_shown rules c d spelt needed unfit a (causes.NoRest steps) h = h

-- contents to which only keys and values of their tables were added, and whose registrations and states stay
pub rows_shown : (c d : Contents) → AddsOnlySpelt row_rules c d → d areas.Defs 1 ≡ c areas.Defs 1 → d areas.Capture 1 ≡ c areas.Capture 1 → ShownBefore row_rules c d
rows_shown c d spelt defs states = added_shown row_rules c d spelt absent_back (λ a t key value has unfit. absurd unfit)
  where
    absent_back : (a : Area) (t : ℕ) (key : List ℕ) → d a t key ≡ None → calls_for_state a t key d → (c a t key ≡ None) × calls_for_state a t key c
    absent_back areas.Capture (suc zero) key none call = (sym (ap (λ (t : Table). t key) states) ∙ none, (call.0, call.1, (call.2.0, call.2.1, call.2.2, sym (ap (λ (t : Table). t call.2.0) defs) ∙ call.2.3, call.2.4)))
    absent_back a t key none call = absurd call
