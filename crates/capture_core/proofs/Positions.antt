-- What is read of a log is its next record.
use Rattle.std.proofs.Common.{◌≡◌, ℕ, ◌+◌, ◌<◌, ◌≤◌, ◌^◌, length, get_or, sym, ap, subst, ◌∙◌, arith, Option, Some, None, IfSome, nat_cmp, Less}
use Rattle.std.proofs.lemmas.Option.{slice_get-get_or, same_Some}
use Rattle.world_store.specs.Words.{IsLogRecord, log_spelling, Is64, b64, one_log_record, one_whole, whole_order, order64, SpellsInOrder, key_less, numbered_at, numbered_next, numbered_last}
use Rattle.site_store.specs.Words.{Contents, Table, IsNextKey, IsLastKey, Follows}
use Rattle.repl_model.specs.Words.{bytes_cmp, LogRecord, LogIsSound, Server}
use Rattle.repl_types.specs.declared.area.Area.TheVariants as areas
use Rattle.stored_defs.specs.laws.Standing.{all_at_place}
use Rattle.stored_commits.specs.records.LongerTables.{log_table}
use Rattle.capture_core.specs.Reading.{IsNextRecord, IsLoggedAfter, ComesNext}

-- spelled positions are in order
pub in_order : SpellsInOrder b64 (2 ^ 64)
in_order a b la lb = whole_order Is64 b64 nat_cmp order64 a b la lb

-- a key above a position has a larger one
pub above_less : (read pos : ℕ) → Is64 read → Is64 pos → bytes_cmp (b64 read) (b64 pos) ≡ Less → read < pos
above_less read pos small fits above = key_less b64 (2 ^ 64) in_order read pos small fits above

-- the record that is read next is the next one of the log
pub comes_next : (server : Server) (c : Contents) (read pos : ℕ) (logged : LogRecord) → LogIsSound server → c areas.Log 0 ≡ log_table server → read ≤ length server.log → IsLoggedAfter read (pos, logged) → IsNextRecord read (Some (pos, logged)) c → ComesNext server read pos logged
comes_next server c read pos logged sound is within after next =
    let log = server.log in
    let there : IsNextKey (log_table server) (b64 read) (b64 pos) (log_spelling logged) = subst (λ (t : Table). IsNextKey t (b64 read) (b64 pos) (log_spelling logged)) is next in
    let at = numbered_next b64 (2 ^ 64) in_order log_spelling 1 read pos log (log_spelling logged) (omega (arith, sound.short)) (omega (arith, sound.short)) after.small (omega arith) there in
    let lt : read < length log = omega (arith, at.0, at.1) in
    let one : read + 1 ≡ 1 + read = omega arith in
    let placed = numbered_at b64 (2 ^ 64) in_order log_spelling 1 read log logged (omega (arith, sound.short)) lt in
    let same : log_spelling logged ≡ log_spelling (get_or log read logged) = same_Some (log_spelling logged) (log_spelling (get_or log read logged)) (sym there.has ∙ ap (λ (p : ℕ). log_table server (b64 p)) (at.0 ∙ one) ∙ placed) in
    let typed = all_at_place IsLogRecord log read logged sound.typed lt in
    let is_it : logged ≡ get_or log read logged = one_whole IsLogRecord log_spelling one_log_record logged (get_or log read logged) after.typed typed same in
    (at.0, slice_get-get_or log read logged lt ∙ ap (λ (r : LogRecord). Some r) (sym is_it))

-- if no record is read, the log is at its end
pub at_end : (server : Server) (c : Contents) (read : ℕ) → LogIsSound server → c areas.Log 0 ≡ log_table server → read ≤ length server.log → IsNextRecord read None c → read ≡ length server.log
at_end server c read sound is within last =
    let there : IsLastKey (log_table server) (b64 read) = subst (λ (t : Table). IsLastKey t (b64 read)) is last in
    let past = numbered_last b64 (2 ^ 64) in_order log_spelling 1 read server.log (omega (arith, sound.short)) (omega arith) there in
    omega (arith, past)

-- a record that a read gave is one after the position
pub logged_after : (read : ℕ) → Is64 read → (next : Option (ℕ × LogRecord)) → IfSome next (Follows Is64 b64 IsLogRecord log_spelling (b64 read)) → IfSome next (IsLoggedAfter read)
logged_after read small None h = tt
logged_after read small (Some r) h = record { above = above_less read r.0 small h.fits h.above; small = h.fits; typed = h.row.fits }
