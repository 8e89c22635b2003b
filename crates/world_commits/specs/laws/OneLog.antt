-- The log of a server stays sound when users' records follow.
use Rattle.std.proofs.Common.{◌≡◌, ℕ, true, false, ◌&&◌, ◌||◌, not, List, [], ◌∷◌, ◌++◌, map, refl, sym, ap, subst, ◌∙◌, arith, append-nil, append_assoc, ◌⊎◌, inl, inr, IsTrue, ◌==◌, length-append}
use Rattle.std.specs.List.{AllByRecursion}
use Rattle.std.specs.FinMap.{empty}
use Rattle.std.proofs.lemmas.Bool.{and_parts, and_from, or_left, or_right, or_cases, false≢true, not-true, not_from_false}
use Rattle.repl_model.specs.Words.{all_append, all_weaker, LogRecord, TableDef, all_apply, units, is_change_applicable, is_applicable, is_signal_applicable, Server, tables_of, registered_of, is_own_change, is_own_abort, begins_with_tx, own_units_are_whole, record_fits, LogIsSound, with_more}
use Rattle.repl_types.specs.declared.record.LogRecord.TheVariants as records
use Rattle.row_codec.specs.LogRecords.{IsLogRecord}
use Rattle.world_commits.specs.logs.LongerLogs.{is_users, CanFollow}
use Rattle.world_commits.specs.logs.StaysSound.{LogStaysSound}
use Rattle.world_commits.specs.logs.laws.Servers.{tables_stay}
use Rattle.world_commits.specs.laws.SoundUnits.{all_changes, UnitsAreSound, units_stay_sound}

-- ---- records of a server

-- a record that fits a server fits it when others follow
fits_longer : (more : List LogRecord) (server : Server) (r : LogRecord) → record_fits server r ≡ true → record_fits (with_more more server) r ≡ true
fits_longer more server (records.Change tx change) e =
    ap (λ (tables : List TableDef). is_change_applicable tables change || (tx == 0 && is_signal_applicable (map (λ r. r.reg) (registered_of server)) change)) (tables_stay more server) ∙ e
fits_longer more server (records.Commit tx time authid origin) e = refl
fits_longer more server (records.Abort tx) e = refl

-- an applicable record fits the server
applicable_fits : (server : Server) (log : List LogRecord) (r : LogRecord) → is_applicable (tables_of server) log r ≡ true → record_fits server r ≡ true
unfolding is_applicable
applicable_fits server log (records.Change tx change) e = or_left (is_change_applicable (tables_of server) change) (tx == 0 && is_signal_applicable (map (λ r. r.reg) (registered_of server)) change) e
applicable_fits server log (records.Commit tx time authid origin) e = refl
applicable_fits server log (records.Abort tx) e = refl

-- a user's record is no change of the program, and no abort of it
no_own : (r : LogRecord) → is_users r ≡ true → (is_own_change r ≡ false) × (is_own_abort r ≡ false)
no_own (records.Change tx change) e = (not-true (tx == 0) e, refl)
no_own (records.Commit tx time authid origin) e = (refl, refl)
no_own (records.Abort tx) e = (refl, not-true (tx == 0) e)

-- records that begin with one of a transaction do so when others follow
begins_longer : (tx : ℕ) (log more : List LogRecord) → begins_with_tx tx log ≡ true → begins_with_tx tx (log ++ more) ≡ true
begins_longer tx [] more e = absurd (false≢true e)
begins_longer tx (r ∷ log) more e = e

-- the program's units stay whole when a user's record follows
whole_push : (log : List LogRecord) (r : LogRecord) → is_own_change r ≡ false → is_own_abort r ≡ false → own_units_are_whole log ≡ true → own_units_are_whole (log ++ r ∷ []) ≡ true
whole_push [] r change abort e = and_from (not (is_own_abort r) && (not (is_own_change r) || false)) true
    (and_from (not (is_own_abort r)) (not (is_own_change r) || false) (not_from_false (is_own_abort r) abort) (or_left (not (is_own_change r)) false (not_from_false (is_own_change r) change))) refl
whole_push (x ∷ log) r change abort e =
    let longer = log ++ r ∷ [] in
    let both = and_parts (not (is_own_abort x) && (not (is_own_change x) || begins_with_tx 0 log)) (own_units_are_whole log) e in
    let first = and_parts (not (is_own_abort x)) (not (is_own_change x) || begins_with_tx 0 log) both.0 in
    and_from (not (is_own_abort x) && (not (is_own_change x) || begins_with_tx 0 longer)) (own_units_are_whole longer)
    (and_from (not (is_own_abort x)) (not (is_own_change x) || begins_with_tx 0 longer) first.0 (next (or_cases (not (is_own_change x)) (begins_with_tx 0 log) first.1)))
    (whole_push log r change abort both.1)
  where
    next : (not (is_own_change x) ≡ true) ⊎ (begins_with_tx 0 log ≡ true) → (not (is_own_change x) || begins_with_tx 0 (log ++ r ∷ [])) ≡ true
    next (inl other) = or_left (not (is_own_change x)) (begins_with_tx 0 (log ++ r ∷ [])) other
    next (inr begins) = or_right (not (is_own_change x)) (begins_with_tx 0 (log ++ r ∷ [])) (begins_longer 0 log (r ∷ []) begins)

-- ---- the log of a server

-- the log of a server stays sound when a user's record follows
sound_push : (server : Server) (r : LogRecord) → LogIsSound server → CanFollow server r → LogIsSound (with_more (r ∷ []) server)
sound_push server r sound can = record {
  short = omega (arith, length-append server.log (r ∷ []), can.short);
  typed = all_append IsLogRecord server.log (r ∷ []) sound.typed (can.typed, tt);
  fits = all_append (λ (q : LogRecord). IsTrue (record_fits (with_more (r ∷ []) server) q)) server.log (r ∷ [])
      (all_weaker (λ (q : LogRecord). IsTrue (record_fits server q)) (λ q. IsTrue (record_fits (with_more (r ∷ []) server) q)) server.log (λ q. fits_longer (r ∷ []) server q) sound.fits)
      (fits_longer (r ∷ []) server r (applicable_fits server server.log r can.applies), tt);
  apply = subst (AllByRecursion (λ (def : TableDef). IsTrue (all_apply def (all_changes (units (server.log ++ r ∷ []))) empty))) (sym (tables_stay (r ∷ []) server)) now.apply;
  times = now.times;
  early = now.early;
  own = let users = no_own r can.users in whole_push server.log r users.0 users.1 sound.own;
  signals = now.signals;
}
  where
    now : UnitsAreSound (tables_of server) (units (server.log ++ r ∷ []))
    now = units_stay_sound server r sound can

-- the log of a server stays sound when users' records follow, each of which can
pub log_stays_sound : LogStaysSound
log_stays_sound server [] sound follow = subst LogIsSound (ap (λ (log : List LogRecord). record server { log = log }) (sym (append-nil server.log))) sound
log_stays_sound server (r ∷ rs) sound follow = subst LogIsSound (ap (λ (log : List LogRecord). record server { log = log }) (append_assoc server.log (r ∷ []) rs))
    (log_stays_sound (with_more (r ∷ []) server) rs (sound_push server r sound follow.0) follow.1)
