-- Starts and stops of registrations: proofs.
use Rattle.std.proofs.Common.{◌≡◌, ℕ, true, false, refl}
use Rattle.world_store.specs.Words.{IsRegistrationState, RegState}
use Rattle.site_store.specs.Words.{Contents}
use Rattle.stored_commits.specs.units.StoredChanges.{with_cleared, with_state, started, stopped}
use Rattle.cd_tables.specs.Appending.{Becomes}
use Rattle.cd_tables.proofs.Shown.{becomes_state, becomes_then, becomes_if}

-- the state of a registration that is started
abbrev pub active_state : ℕ → RegState → RegState
active_state seq state = record { active = true; start = seq; floor = state.floor }

-- and of one that is stopped
abbrev pub inactive_state : RegState → RegState
inactive_state state = record { active = false; start = state.start; floor = state.floor }

-- a start of an active registration does nothing
pub start_nothing : (seq number : ℕ) (state : RegState) (c : Contents) → state.active ≡ true → Becomes (started seq number state) c c
start_nothing seq number state c active = becomes_if state.active true (λ x. x) (with_state number (active_state seq state)) c c active (refl, λ a cause h. h)

-- any other puts the state
pub start_made : (seq number : ℕ) (state : RegState) (c d : Contents) → state.active ≡ false → IsRegistrationState (active_state seq state) → d ≡ with_state number (active_state seq state) c → Becomes (started seq number state) c d
start_made seq number state c d inactive fits is = becomes_if state.active false (λ x. x) (with_state number (active_state seq state)) c d inactive (becomes_state number (active_state seq state) c d fits is)

-- a stop of an inactive registration does nothing
pub stop_nothing : (number : ℕ) (state : RegState) (c : Contents) → state.active ≡ false → Becomes (stopped number state) c c
stop_nothing number state c inactive = becomes_if state.active false (λ x. with_cleared number (with_state number (inactive_state state) x)) (λ x. x) c c inactive (refl, λ a cause h. h)

-- any other puts the state and removes the change rows
pub stop_made : (number : ℕ) (state : RegState) (c d e : Contents) → state.active ≡ true → Becomes (with_state number (inactive_state state)) c d → Becomes (with_cleared number) d e → Becomes (stopped number state) c e
stop_made number state c d e active puts clears = becomes_if state.active true (λ x. with_cleared number (with_state number (inactive_state state) x)) (λ x. x) c e active (becomes_then (with_state number (inactive_state state)) (with_cleared number) c d e puts clears)
