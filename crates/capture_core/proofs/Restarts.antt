-- Where a capture begins to read, and that nothing is in flight there.
use Rattle.std.proofs.Common.{◌≡◌, inl, inr, ℕ, ◌+◌, ◌<◌, ◌≤◌, Bool, true, false, cond, List, [], ◌∷◌, length, refl, sym, ap, ◌∙◌, arith, ◌==◌, nat_le, find, filter, Option, Some, None, nat_lt}
use Rattle.std.specs.List.{AllByRecursion, enumerate_from}
use Rattle.std.specs.Option.{option_map_or, option_or}
use Rattle.std.proofs.lemmas.Bool.{and_parts, eqb-true, leb-true, or_cases}
use Rattle.std.proofs.Math.Nat.{max-eq_left}
use Rattle.repl_types.specs.declared.area.Area.TheVariants as areas
use Rattle.repl_types.specs.declared.record.LogRecord.TheVariants as records
use Rattle.std.proofs.lemmas.Option.{same_Some}
use Rattle.world_store.specs.Words.{one_whole, first_capture, single_spelling, IsCapture, capture_spelling, one_capture, CaptureState, Single, table_from_rows, at_head, Spells, capture_state, Holds, tables, first_table}
use Rattle.site_store.specs.Words.{Contents, Table, same_key, or_first}
use Rattle.repl_model.specs.Words.{LogRecord, Unit, At, positions, units, last_end, Server, World, is_open_at, restart_after, is_seq, is_seq_or_zero, NumbersAreSound, LogIsSound, log_limit, at_one, some_passes}
use Rattle.world_commits.specs.captures.Captures.{uncaptured}
use Rattle.world_commits.specs.readings.Reading.{HasReadTo}
use Rattle.capture_core.specs.Committing.{IsStart, StateIn}
use Rattle.capture_core.specs.Reading.{UnitsAreWithin, IsReadTo}
use Rattle.capture_core.specs.declared.progress.Progress.{Progress}
use Rattle.world_commits.specs.laws.InFlight.{starts_empty}

-- ---- positions

-- what holds of a number, and of the position of each record that passes a test, holds of what is found
found_holds : (p : At → Bool) (P : ℕ → Type 0) (d : ℕ) (xs : List At) → P d → AllByRecursion (λ x. p x ≡ true → P x.0) xs → P (option_map_or (λ r. r.0) (find p xs) d)
found_holds p P d [] base all = base
found_holds p P d (x ∷ xs) base all = pick (p x) refl (found_holds p P d xs base all.1)
  where
    pick : (b : Bool) → p x ≡ b → P (option_map_or (λ r. r.0) (find p xs) d) → P (option_map_or (λ r. r.0) (cond b (Some x) (find p xs)) d)
    pick true e rest = all.0 e
    pick false e rest = rest

-- records that are open at a point stand up to it
open_upto : (log : List LogRecord) (point : ℕ) (x : At) → is_open_at log point x ≡ true → x.0 ≤ point
open_upto log point (pos, records.Change tx change) e = leb-true pos point (and_parts (nat_le pos point) (nat_lt (last_end tx (point + 1) log) pos) e).0
open_upto log point (pos, records.Commit tx time authid origin) e = absurd cc
open_upto log point (pos, records.Abort tx) e = absurd cc

-- each position from a number on is between that number and a point, if its record is open there
between : (log : List LogRecord) (point b : ℕ) (rs : List LogRecord) → 0 < b → AllByRecursion (λ x. is_open_at log point x ≡ true → (0 < x.0) × (x.0 ≤ point + 1)) (enumerate_from b rs)
between log point b [] some = tt
between log point b (r ∷ rs) some = ((λ e. (some, omega (arith, open_upto log point (b, r) e))), between log point (b + 1) rs (omega arith))

-- the restart after a point stands after 0, and no later than after the point
pub restart_between : (log : List LogRecord) (point : ℕ) → (0 < restart_after log point) × (restart_after log point ≤ point + 1)
unfolding restart_after
restart_between log point = found_holds (is_open_at log point) (λ n. (0 < n) × (n ≤ point + 1)) (point + 1) (positions log) (omega arith, omega arith) (between log point 1 log (omega arith))

-- ---- how far a server is captured

-- a unit's seq or 0 is within the log
seq_within : UnitsAreWithin → (log : List LogRecord) (point : ℕ) → is_seq_or_zero log point ≡ true → point ≤ length log
seq_within within log point e = elim (or_cases (point == 0) (is_seq log point) e) [
  | inl zero ↦ omega (arith, eqb-true point 0 zero)
  | inr seq ↦ of_unit seq
]
  where
    of_unit : is_seq log point ≡ true → point ≤ length log
    of_unit seq =
        let u = some_passes (λ (u : Unit). u.head.seq == point) (units log) seq in
        let h : (0 < u.0.head.seq) × (u.0.head.seq ≤ length log) = at_one (λ (u : Unit). (0 < u.head.seq) × (u.head.seq ≤ length log)) (units log) u.0 (within log) u.1 in
        omega (arith, h.1, eqb-true u.0.head.seq point u.2)

-- a server is captured within its log
pub captured_within : UnitsAreWithin → (server : Server) → NumbersAreSound server → server.captured ≤ length server.log
captured_within within server sound = seq_within within server.log server.captured sound.captured

-- how far it is captured has a spelling
pub state_fits : UnitsAreWithin → (server : Server) → NumbersAreSound server → LogIsSound server → IsCapture (capture_state server)
state_fits within server numbers sound =
    let upto = captured_within within server numbers in
    let short : length server.log ≤ log_limit = sound.short in
    let restart = restart_between server.log server.captured in
    (omega (arith, upto, short), omega (arith, upto, short, restart.1), omega (arith, upto, short, numbers.floor))

-- ---- the state that is read

-- what is read of a missing state is the first one
read_state : (o : Option (List ℕ)) (bytes : List ℕ) → option_or o (Some (capture_spelling first_capture)) ≡ Some bytes → or_first capture_spelling first_capture o ≡ bytes
read_state None bytes e = cc
read_state (Some v) bytes e = cc

-- what is held of it, or read of none, is the server's
held_state : (world : World) (server : Server) (c : Contents) → Holds world server c → option_or (c areas.Capture 0 (single_spelling (record {}))) (Some (capture_spelling first_capture)) ≡ Some (capture_spelling (capture_state server))
unfolding tables first_table
held_state world server c holds =
    let key : Single = record {} in
    ap (option_or (c areas.Capture 0 (single_spelling key))) (sym (at_head single_spelling capture_spelling (key, first_capture) []))
    ∙ ap (λ (t : Table). t (single_spelling key)) (holds areas.Capture 0)
    ∙ at_head single_spelling capture_spelling (key, capture_state server) []

-- the state that is read is the server's
pub state_is : UnitsAreWithin → (world : World) (server : Server) (c : Contents) → NumbersAreSound server → LogIsSound server → Holds world server c → (state : CaptureState) → IsCapture state → StateIn state c → state ≡ capture_state server
state_is within world server c numbers sound holds state fits is =
    let read = read_state (c areas.Capture 0 (single_spelling (record {}))) (capture_spelling (capture_state server)) (held_state world server c holds) in
    one_whole IsCapture capture_spelling one_capture state (capture_state server) fits (state_fits within server numbers sound) (is ∙ read)

-- what is held of the state is spelled, or missing
pub state_spelt : UnitsAreWithin → (world : World) (server : Server) (c : Contents) → NumbersAreSound server → LogIsSound server → Holds world server c → (key bytes : List ℕ) → c areas.Capture 0 key ≡ Some bytes → Spells IsCapture capture_spelling bytes
unfolding tables first_table
state_spelt within world server c numbers sound holds key bytes is =
    (capture_state server, state_fits within server numbers sound, of_row (same_key (single_spelling (record {})) key) (sym (ap (λ (t : Table). t key) (holds areas.Capture 0)) ∙ ap (λ (o : Option (List ℕ)). option_or o (table_from_rows single_spelling capture_spelling ((record {}, first_capture) ∷ []) key)) is))
  where
    of_row : (b : Bool) → cond b (Some (capture_spelling (capture_state server))) None ≡ Some bytes → bytes ≡ capture_spelling (capture_state server)
    of_row true e = same_Some bytes (capture_spelling (capture_state server)) (sym e)
    of_row false e = absurd cc

-- ---- the beginning

-- all units after what is captured are left if the log is read no further
read_before : (server : Server) (read : ℕ) → read ≤ server.captured → HasReadTo read server
unfolding uncaptured
read_before server read le = ap (λ (n : ℕ). filter (λ (u : Unit). nat_lt n u.head.seq) (units server.log)) (sym (max-eq_left le))

-- a capture has read up to the restart of its server
pub starts_at : (server : Server) (p : Progress) → IsStart p → p.state ≡ capture_state server → p.read + 1 ≡ restart_after server.log server.captured
starts_at server p begins is =
    let at_restart : p.state.restart ≡ restart_after server.log server.captured = ap (λ (s : CaptureState). s.restart) is in
    omega (arith, begins.read, at_restart, (restart_between server.log server.captured).0)

-- so its reading begins there
pub starts_reading : UnitsAreWithin → (server : Server) → NumbersAreSound server → (p : Progress) → IsStart p → p.state ≡ capture_state server → IsReadTo server p
starts_reading within server numbers p begins is =
    let log = server.log in
    let upto = captured_within within server numbers in
    let restart = restart_between log server.captured in
    let read : p.read + 1 ≡ restart_after log server.captured = starts_at server p begins is in
    record {
      state = is;
      base = server.captured;
      low = omega arith;
      from = omega (arith, read);
      last = omega (arith, read, restart.1, upto);
      read = read_before server p.read (omega (arith, read, restart.1));
      keeps = λ tx. begins.empty tx ∙ sym (starts_empty (restart_after log server.captured) p.read log tx (omega (arith, read)));
    }
