-- What a server of a sound world has, with its captured units stored, shows no damage: proofs.
use Rattle.std.proofs.Common.{◌≡◌, inl, inr, ℕ, zero, suc, ◌^◌, List, refl, sym, ap, ◌∙◌, arith, Option, Some, None, slice_get, true≢false}
use Rattle.std.specs.List.{AllByRecursion}
use Rattle.std.specs.Option.{option_map_or, option_and_then}
use Rattle.world_store.specs.Words.{IsLogRecord, log_spelling, b32, b64, short_text, IsCapture, capture_spelling, IsChangeRow, change_row_spelling, IsRegistrationState, registration_state_spelling, IsChangeKey, change_key_spelling, RegState, RowFits, table_from_rows, Spells, change_rows_of, registration_state_rows, log_rows, no_rows}
use Rattle.site_store.specs.Words.{Contents, Table, IsUndamaged, IsSpelt, rows_spelt}
use Rattle.repl_model.specs.Words.{Area, all_weaker, IsSound, NumbersAreSound, ServerKeepsRules, LogIsSound, Registered, ServerTable, Server, World, In, at_one, all_numbered}
use Rattle.repl_types.specs.declared.area.Area.TheVariants as areas
use Rattle.repl_types.specs.declared.status.DamageCause.TheVariants as causes
use Rattle.cd_tables.specs.laws.SoundChanges.{change_rows_are}
use Rattle.capture_core.specs.Reading.{UnitsAreWithin, HasServer}
use Rattle.capture_core.specs.Rules.{rules}
use Rattle.capture_core.proofs.Restarts.{captured_within}
use Rattle.capture_core.proofs.StoredRegistrations.{spelt_registration, has_state, of_its_table, all_states_fit}

-- what stands there of how far the server is captured has a spelling
abbrev pub HasSpeltState : Contents → Type 0
HasSpeltState d = (key bytes : List ℕ) → d areas.Capture 0 key ≡ Some bytes → Spells IsCapture capture_spelling bytes

-- a row's key and value are a key and a value of its table
abbrev RowSpelt : {A X : Type 0} → Area → ℕ → (A → List ℕ) → (X → List ℕ) → A × X → Type 0
RowSpelt a t key value r = rules.is_key a t (key r.0) × rules.is_value a t (value r.1)

module _ (within : UnitsAreWithin) (world : World) (server : Server) (d : Contents) (keeps : ServerKeepsRules world server) (log : LogIsSound server) (numbers : NumbersAreSound server) (has : HasServer server d) (state : HasSpeltState d) where
  -- ---- spelling

  -- the records of the log
  log_spelt : AllByRecursion (RowSpelt areas.Log 0 b64 log_spelling) (log_rows server)
  log_spelt = all_numbered IsLogRecord (RowSpelt areas.Log 0 b64 log_spelling) (2 ^ 64) 1 server.log (omega (arith, log.short)) log.typed (λ n r lt fits. (((n, lt, refl), tt), ((r, fits, refl), tt)))

  -- the states of registrations
  states_spelt : AllByRecursion (RowSpelt areas.Capture 1 b32 registration_state_spelling) (registration_state_rows server)
  states_spelt = all_weaker (λ (r : ℕ × RegState). IsRegistrationState r.1) (RowSpelt areas.Capture 1 b32 registration_state_spelling) (registration_state_rows server) (λ r fits. ((tt, tt), (tt, (r.1, fits, refl))))
      (all_states_fit server server.captured (omega (arith, captured_within within server numbers, log.short)) numbers.registered)

  -- the change rows of a registration
  rows_spelt_of : (n : ℕ) (t : ServerTable) (r : Registered) → slice_get server.tables n ≡ Some t → t.registered ≡ Some r → AllByRecursion (RowSpelt areas.Cd n change_key_spelling change_row_spelling) (change_rows_of server r)
  rows_spelt_of n t r at is = all_weaker (RowFits IsChangeKey IsChangeRow) (RowSpelt areas.Cd n change_key_spelling change_row_spelling) (change_rows_of server r) (λ row fits. ((tt, (row.0, fits.0, refl)), (tt, (row.1, fits.1, refl)))) (change_rows_are server (record { log = log; numbers = numbers; tables = keeps.tables }) n t r at is).fit

  -- each entry is a key and a value of its table
  all_spelt : IsSpelt rules d
  all_spelt areas.Log zero key value stands = rows_spelt rules areas.Log 0 b64 log_spelling (log_rows server) key value log_spelt (sym (ap (λ (t : Table). t key) has.log) ∙ stands)
  all_spelt areas.Capture zero key value stands = ((tt, tt), (state key value stands, tt))
  all_spelt areas.Capture (suc zero) key value stands = rows_spelt rules areas.Capture 1 b32 registration_state_spelling (registration_state_rows server) key value states_spelt (sym (ap (λ (t : Table). t key) has.captured.states) ∙ stands)
  all_spelt areas.Cd n key value stands = of_table (slice_get server.tables n) refl (sym (ap (λ (t : Table). t key) (has.captured.changes n)) ∙ stands)
    where
      none : ◌≡◌ {A = Option (List ℕ)} None (Some value) → ⊥
      none e = cc

      of_registration : (t : ServerTable) → slice_get server.tables n ≡ Some t → (o : Option Registered) → t.registered ≡ o → option_map_or (λ r. table_from_rows change_key_spelling change_row_spelling (change_rows_of server r)) o no_rows key ≡ Some value → rules.is_key areas.Cd n key × rules.is_value areas.Cd n value
      of_registration t at None is e = absurd (none e)
      of_registration t at (Some r) is e = rows_spelt rules areas.Cd n change_key_spelling change_row_spelling (change_rows_of server r) key value (rows_spelt_of n t r at is) e

      of_table : (o : Option ServerTable) → slice_get server.tables n ≡ o → option_map_or (λ r. table_from_rows change_key_spelling change_row_spelling (change_rows_of server r)) (option_and_then (λ t. t.registered) o) no_rows key ≡ Some value → rules.is_key areas.Cd n key × rules.is_value areas.Cd n value
      of_table None at e = absurd (none e)
      of_table (Some t) at e = of_registration t at t.registered refl e
  all_spelt areas.Defs (suc zero) key value stands =
      let r = spelt_registration world server keeps key value (sym (ap (λ (t : Table). t key) has.captured.registrations) ∙ stands) in
      ((tt, tt), (tt, r))
  all_spelt a t key value stands = ((tt, tt), (tt, tt))

  -- ---- registrations

  -- no state that is called for is missing
  none_absent : (a : Area) (t : ℕ) (key : List ℕ) → d a t key ≡ None → rules.is_needed a t key d → ⊥
  none_absent a t key none (inl h) = h
  none_absent areas.Capture (suc zero) key none (inr h) =
      has_state world server keeps h.0 h.1 h.3.is.fits (sym (ap (λ (u : Table). u (short_text h.0)) has.captured.registrations) ∙ h.3.stands)
      (sym (ap (λ (u : Table). u (b32 h.1.number)) has.captured.states) ∙ ap (d areas.Capture 1) (sym h.2) ∙ none)
  none_absent a t key none (inr h) = absurd h

  -- no registration is misplaced
  none_unfit : (a : Area) (t : ℕ) (key value : List ℕ) → d a t key ≡ Some value → rules.is_unfit a t key value d → ⊥
  none_unfit a t key value stands (inl h) = h
  none_unfit areas.Defs (suc zero) key value stands (inr h) =
      true≢false (sym (of_its_table world server keeps h.0 h.1 h.4 (sym (ap (λ (u : Table). u (short_text h.0)) has.captured.registrations) ∙ ap (d areas.Defs 1) (sym h.2) ∙ stands ∙ ap (λ (v : List ℕ). Some v) h.3)) ∙ h.5)
  none_unfit a t key value stands (inr h) = absurd h

  -- so no damage is shown
  none_shown : IsUndamaged rules d
  none_shown a (causes.Spelling bytes) h = elim h.1 [
    | inl key ↦ key.0 (all_spelt a h.0 bytes key.1.0 key.1.1).0
    | inr value ↦ value.0 (all_spelt a h.0 value.1.0 bytes value.1.1).1
  ]
  none_shown a (causes.Absent key) h = none_absent a h.0 key h.1.0 h.1.1
  none_shown a (causes.Unfit bytes) h = none_unfit a h.0 h.1.0 bytes h.1.1 h.1.2
  none_shown a (causes.NoRest steps) h = h

-- by all rules of a capture
pub undamaged : UnitsAreWithin → (world : World) (server : Server) (d : Contents) → IsSound world → In server world → HasServer server d → HasSpeltState d → IsUndamaged rules d
undamaged within world server d sound member has state = none_shown within world server d (at_one (ServerKeepsRules world) world server sound.definitions.servers member) (at_one LogIsSound world server sound.logs member) (at_one NumbersAreSound world server sound.numbers member) has state
