-- The rows of the changes in flight: after one more record, and of one transaction.
use Rattle.std.proofs.Common.{◌≡◌, ℕ, ◌+◌, ◌≤◌, ◌<◌, not, List, [], ◌∷◌, length, map, refl, sym, ap, ◌∙◌, arith, ◌==◌, filter, IfSome, Equal}
use Rattle.std.specs.List.{AllByRecursion, enumerate_from, filter_map}
use Rattle.std.specs.Cmp.{IsTotalOrder, ranked}
use Rattle.std.specs.FinMap.{IsAntisymmetric}
use Rattle.std.specs.Ordering.{nat_cmp}
use Rattle.std.proofs.lemmas.Cmp.{nat_cmp_total, on_total, then_total}
use Rattle.world_store.specs.Words.{Is32, IsChange, IsLogRecord, whole_order, InFlightKey, in_flight_key_spelling, in_flight_key_cmp, IsInFlightKey, in_flight_spelling, order_in_flight_key, table_from_rows, in_flight_key, in_flight_rows, both_tie, sorted_rises, put_table}
use Rattle.repl_model.specs.Words.{bytes_cmp, all_weaker, all_filter, Change, LogRecord, Placed, each_image, each_given, At, positions, open_changes, by_key, Server, is_open_at, LogIsSound, log_limit}
use Rattle.repl_types.specs.declared.record.Change.TheVariants.{Insert, Update, Delete, Start, Stop}
use Rattle.repl_types.specs.declared.record.LogRecord.TheVariants as records
use Rattle.stored_commits.specs.records.InFlight.{InFlightRow, in_flight_row, InFlightRowsStand, ChangeIsInFlight, EndLeavesOthers, OpenChangesAreRows, OpenPositionsAreRows}
use Rattle.stored_commits.specs.laws.LoggedPuts.{by_key_all, by_key_sorted, by_key_push, by_key_same, by_key_kept}
use Rattle.stored_commits.specs.laws.OpenEntries.{entry, open_entries, entries_change, entries_end}
use Rattle.stored_commits.specs.laws.OwnEntries.{own_entries, open_sorted}

-- ---- the order of the keys

-- keys of changes in flight are in a total order
in_flight_total : IsTotalOrder in_flight_key_cmp
in_flight_total = then_total (on_total (λ (k : InFlightKey). k.tx) nat_cmp_total) (on_total (λ (k : InFlightKey). k.pos) nat_cmp_total)

-- in which only equal keys tie
in_flight_exact : IsAntisymmetric in_flight_key_cmp
in_flight_exact x y e =
    let both = both_tie (nat_cmp x.tx y.tx) (nat_cmp x.pos y.pos) e in
    let txs : x.tx ≡ y.tx = ranked x.tx y.tx Equal (sym both.0) in
    let places : x.pos ≡ y.pos = ranked x.pos y.pos Equal (sym both.1) in
    λ i. record { tx = txs i; pos = places i }

-- their spellings are in that order
pub spelled_in_order : (x y : InFlightKey) → IsInFlightKey x → IsInFlightKey y → bytes_cmp (in_flight_key_spelling x) (in_flight_key_spelling y) ≡ in_flight_key_cmp x y
spelled_in_order = whole_order IsInFlightKey in_flight_key_spelling in_flight_key_cmp order_in_flight_key

-- ---- the rows of a sound log

-- the row's key has a spelling, and a position from 1 on
abbrev pub FitsRow : InFlightRow → Type 0
FitsRow row = IsInFlightKey row.0 × (0 < row.0.pos)

-- the number of a change's transaction has four bytes
change_tx : (tx : ℕ) (change : Change) → IsChange tx change → Is32 tx
change_tx tx (Insert table row) typed = typed.0
change_tx tx (Update table before after) typed = typed.0
change_tx tx (Delete table row) typed = typed.0
change_tx tx (Start table) typed = typed.0
change_tx tx (Stop table) typed = typed.0

-- the keys of numbered records fit, if there are few enough
keys_fit : (b : ℕ) (log : List LogRecord) → 0 < b → b + length log ≤ log_limit + 1 → AllByRecursion IsLogRecord log → AllByRecursion (λ (q : At). IfSome (in_flight_key q) (λ key. FitsRow (entry key))) (enumerate_from b log)
keys_fit b [] some few typed = tt
keys_fit b (r ∷ log) some few typed = (one r typed.0, keys_fit (b + 1) log (omega arith) (omega arith) typed.1)
  where
    one : (r : LogRecord) → IsLogRecord r → IfSome (in_flight_key (b, r)) (λ key. FitsRow (entry key))
    one (records.Change tx change) typed = ((change_tx tx change typed, omega arith), some)
    one (records.Commit tx time authid origin) typed = tt
    one (records.Abort tx) typed = tt

-- the rows of a sound log fit
rows_fit : (server : Server) → LogIsSound server → AllByRecursion FitsRow (in_flight_rows server)
rows_fit server sound =
    let test = is_open_at server.log (length server.log) in
    let short : length server.log ≤ log_limit = sound.short in
    let fit = λ (q : At). IfSome (in_flight_key q) (λ key. FitsRow (entry key)) in
    by_key_all in_flight_key_cmp in_flight_total in_flight_exact FitsRow (open_entries server.log)
    (each_image FitsRow entry (filter_map in_flight_key (filter test (positions server.log)))
    (each_given (λ key. FitsRow (entry key)) in_flight_key (filter test (positions server.log))
    (all_filter fit test (positions server.log) (keys_fit 1 server.log (omega arith) (omega arith) sound.typed))))

-- so do their keys
pub row_keys_fit : (server : Server) → LogIsSound server → AllByRecursion (λ row. IsInFlightKey row.0) (in_flight_rows server)
row_keys_fit server sound = all_weaker FitsRow (λ row. IsInFlightKey row.0) (in_flight_rows server) (λ row fits. fits.0) (rows_fit server sound)

-- they rise
pub in_flight_stand : InFlightRowsStand
in_flight_stand server sound = record {
  rise = sorted_rises in_flight_key_spelling IsInFlightKey in_flight_key_cmp spelled_in_order (in_flight_rows server) (row_keys_fit server sound) (by_key_sorted in_flight_key_cmp in_flight_total in_flight_exact (open_entries server.log));
  fit = rows_fit server sound;
}

-- ---- one more record

-- a change is put at its transaction and its position
pub change_in_flight : ChangeIsInFlight
change_in_flight server tx change sound small =
    let key : InFlightKey = record { tx = tx; pos = length server.log + 1 } in
    let short : length server.log ≤ log_limit = sound.short in
    ap (λ (es : List InFlightRow). table_from_rows in_flight_key_spelling in_flight_spelling (by_key in_flight_key_cmp es)) (entries_change server.log tx change)
    ∙ ap (table_from_rows in_flight_key_spelling in_flight_spelling) (by_key_push in_flight_key_cmp in_flight_total in_flight_exact (open_entries server.log) (entry key))
    ∙ put_table in_flight_key_spelling IsInFlightKey in_flight_key_cmp spelled_in_order in_flight_spelling key (record {}) (in_flight_rows server) (small, omega arith) (row_keys_fit server sound)

-- an end leaves the rows of the others
pub end_leaves_others : EndLeavesOthers
end_leaves_others server tx r e =
    ap (by_key in_flight_key_cmp) (entries_end server.log tx r e)
    ∙ sym (by_key_kept in_flight_key_cmp in_flight_total in_flight_exact (λ key. not (key.tx == tx)) (open_entries server.log))

-- ---- one transaction

-- the rows of a transaction are its open changes
pub open_rows : OpenChangesAreRows
open_rows server tx =
    by_key_kept in_flight_key_cmp in_flight_total in_flight_exact (λ key. key.tx == tx) (open_entries server.log)
    ∙ ap (by_key in_flight_key_cmp) (own_entries server.log tx)
    ∙ by_key_same in_flight_key_cmp in_flight_total in_flight_exact (map (in_flight_row tx) (open_changes tx server.log)) (open_sorted server.log tx)

-- so they have the positions of these
pub open_positions : OpenPositionsAreRows
open_positions server tx = ap (map (λ (row : InFlightRow). row.0.pos)) (open_rows server tx) ∙ places (open_changes tx server.log)
  where
    places : (changes : List Placed) → map (λ (row : InFlightRow). row.0.pos) (map (in_flight_row tx) changes) ≡ map (λ placed. placed.pos) changes
    places [] = refl
    places (p ∷ ps) = ap (λ (l : List ℕ). p.pos ∷ l) (places ps)
