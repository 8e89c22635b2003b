-- What stands at a server of a sound world of how far its log is captured.
use Rattle.std.proofs.Common.{◌≡◌, ℕ, ◌+◌, ◌≤◌, List, [], ◌∷◌, length, refl, sym, ap, ◌∙◌, arith, Option, Some, None, IfSome, find, slice_get}
use Rattle.std.specs.List.{AllByRecursion, enumerate_from}
use Rattle.std.specs.Option.{option_or, option_map, option_map_or}
use Rattle.world_store.specs.Words.{b32, b64, capture_spelling, IsCapture, registration_state_spelling, IsRegistrationState, uow_spelling, first_capture, single_spelling, RegState, Single, table_from_rows, at_head, capture_state, capture_rows, registration_state_rows, uow_rows, Holds, tables, first_table, no_first}
use Rattle.site_store.specs.Words.{Contents, Table, or_first}
use Rattle.repl_model.specs.Words.{LogRecord, NumbersAreSound, IsSound, ServerKeepsRules, log_limit, LogIsSound, At, positions, Registered, ServerTable, Server, World, is_open_at, restart_after, registered_of, In, at_one, found_in, is_seq_or_zero_within}
use Rattle.repl_types.specs.declared.area.Area.TheVariants as areas
use Rattle.prune_control.specs.laws.Numbered.{entry_at}
use Rattle.subs_sets.specs.laws.States.{first_or}

-- the state of a registration
abbrev pub state_of : Registered → RegState
state_of r = record { active = r.active; start = r.start; floor = r.floor }

-- the row of a registration's state
abbrev pub state_row : ℕ × ServerTable → Option (ℕ × RegState)
state_row t = option_map (λ r. (t.0, state_of r)) t.1.registered

-- it has the number of the table
pub numbered : (n : ℕ) (t : ServerTable) → IfSome (state_row (n, t)) (λ e. e.0 ≡ n)
numbered n t = pick t.registered
  where
    pick : (o : Option Registered) → IfSome {T = ℕ × RegState} (option_map (λ r. (n, state_of r)) o) (λ e. e.0 ≡ n)
    pick None = tt
    pick (Some r) = refl

-- positions from one on lie within the records
positions_within : (b m : ℕ) (log : List LogRecord) → b + length log ≤ m + 1 → AllByRecursion (λ (r : At). r.0 ≤ m) (enumerate_from b log)
positions_within b m [] few = tt
positions_within b m (r ∷ log) few = (omega arith, positions_within (b + 1) m log (omega arith))

-- a capture begins within the log, or after the point that was captured
restart_within : (log : List LogRecord) (point : ℕ) → point ≤ length log → restart_after log point ≤ length log + 1
unfolding restart_after
restart_within log point le = by_found (find (is_open_at log point) (positions log)) refl
  where
    by_found : (o : Option At) → find (is_open_at log point) (positions log) ≡ o → option_map_or (λ r. r.0) o (point + 1) ≤ length log + 1
    by_found None found = omega (arith, le)
    by_found (Some r) found = omega (arith, at_one (λ (q : At). q.0 ≤ length log) (positions log) r (positions_within 1 (length log) log (omega arith)) (found_in (is_open_at log point) (positions log) r found).0)

module _ (w : World) (server : Server) (sound : IsSound w) (i : In server w) where
  -- its numbers are sound
  numbers : NumbersAreSound server
  numbers = at_one NumbersAreSound w server sound.numbers i

  -- its log is short
  short : length server.log ≤ log_limit
  short = (at_one LogIsSound w server sound.logs i).short

  -- it has captured up to a point within its log
  pub captured_within : server.captured ≤ log_limit
  captured_within = omega (arith, is_seq_or_zero_within server.log server.captured numbers.captured, short)

  -- how far it has captured has a spelling
  pub capture_fits : IsCapture (capture_state server)
  capture_fits = (omega (arith, captured_within), omega (arith, restart_within server.log server.captured (is_seq_or_zero_within server.log server.captured numbers.captured), short), omega (arith, captured_within, numbers.floor))

  -- so have the states of its registrations
  pub registered_fits : (r : Registered) → In r (registered_of server) → IsRegistrationState (state_of r)
  registered_fits r among =
      let low = at_one (λ (q : Registered). (q.start ≤ server.captured) × (q.floor ≤ server.captured)) (registered_of server) r numbers.registered among in
      (omega (arith, captured_within, low.0), omega (arith, captured_within, low.1))

  module _ (c : Contents) (holds : Holds w server c) where
    -- how far it has captured counts there
    pub holds_capture : (k : List ℕ) → option_or (c areas.Capture 0 k) (table_from_rows single_spelling capture_spelling ((record {}, first_capture) ∷ []) k) ≡ table_from_rows single_spelling capture_spelling (capture_rows server) k
    unfolding tables first_table
    holds_capture k = ap (λ (t : Table). t k) (holds areas.Capture 0)

    -- the states of registrations stand there
    pub holds_registrations : (k : List ℕ) → c areas.Capture 1 k ≡ table_from_rows b32 registration_state_spelling (registration_state_rows server) k
    unfolding tables first_table
    holds_registrations k = ap (λ (t : Table). t k) (sym (no_first (c areas.Capture 1)) ∙ holds areas.Capture 1)

    -- so do the captured units
    pub holds_units : c areas.Uow 0 ≡ table_from_rows b64 uow_spelling (uow_rows server)
    unfolding tables
    holds_units = holds areas.Uow 0

    -- what is read of how far it has captured
    pub capture_at : or_first capture_spelling first_capture (c areas.Capture 0 (single_spelling (record {}))) ≡ capture_spelling (capture_state server)
    capture_at =
        let key : Single = record {} in
        first_or capture_spelling first_capture (c areas.Capture 0 (single_spelling key)) (capture_spelling (capture_state server))
        (ap (option_or (c areas.Capture 0 (single_spelling key))) (sym (at_head single_spelling capture_spelling (key, first_capture) []))
        ∙ holds_capture (single_spelling key)
        ∙ at_head single_spelling capture_spelling (key, capture_state server) [])

    -- under a table's number stands the state of its registration
    pub registration_at : (n : ℕ) (t : ServerTable) (r : Registered) → slice_get server.tables n ≡ Some t → t.registered ≡ Some r → c areas.Capture 1 (b32 n) ≡ Some (registration_state_spelling (state_of r))
    registration_at n t r at is =
        let keeps = at_one (ServerKeepsRules w) w server sound.definitions.servers i in
        holds_registrations (b32 n) ∙ entry_at state_row numbered registration_state_spelling 0 n n t (n, state_of r) server.tables (omega arith) (omega (arith, keeps.count)) at (ap (option_map (λ (q : Registered). (n, state_of q))) is)
