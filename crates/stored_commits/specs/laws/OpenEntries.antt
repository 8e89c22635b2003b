-- The entries of the changes in flight, in the order of the log: after one more record, and of one transaction.
use Rattle.std.proofs.Common.{◌≡◌, ℕ, ◌+◌, ◌<◌, Bool, true, false, cond, ◌&&◌, not, List, [], ◌∷◌, ◌++◌, length, map, Option, None, refl, sym, ap, ◌∙◌, arith, append-nil, ◌==◌, filter, eqb-true}
use Rattle.std.specs.List.{AllByRecursion, filter_map, cons_option}
use Rattle.std.proofs.lemmas.Bool.Decides.{nat_tests}
use Rattle.std.proofs.lemmas.List.{map-append}
use Rattle.std.proofs.lemmas.List.Elements.{filter-append, filter_map-append}
use Rattle.std.proofs.Math.Path.{fun_ext}
use Rattle.world_store.specs.Words.{InFlightKey, in_flight_key}
use Rattle.repl_model.specs.Words.{all_weaker, filter_all, Change, LogRecord, At, positions, ends, is_open_at, positions_push, positions_within}
use Rattle.repl_types.specs.declared.record.LogRecord.TheVariants as records
use Rattle.stored_commits.specs.records.InFlight.{InFlightRow, of_others}
use Rattle.stored_commits.specs.laws.LastEnds.{open_push, last_is_open}

-- the entry of a key
abbrev pub entry : InFlightKey → InFlightRow
entry key = (key, record {})

-- the entries of the changes among some records that pass a test
abbrev pub entries_of : (At → Bool) → List At → List InFlightRow
entries_of p ps = map entry (filter_map in_flight_key (filter p ps))

-- the changes in flight at the end of a log
abbrev pub open_entries : List LogRecord → List InFlightRow
open_entries log = entries_of (is_open_at log (length log)) (positions log)

-- entries of two lists of records are those of both
entries_append : (p : At → Bool) (ps qs : List At) → entries_of p (ps ++ qs) ≡ entries_of p ps ++ entries_of p qs
entries_append p ps qs =
    ap (λ (l : List At). map entry (filter_map in_flight_key l)) (filter-append p ps qs)
    ∙ ap (map entry) (filter_map-append in_flight_key (filter p ps) (filter p qs))
    ∙ map-append entry (filter_map in_flight_key (filter p ps)) (filter_map in_flight_key (filter p qs))

-- a record that is no change makes no entry
pub skipped : (p : At → Bool) (q : At) (ps : List At) → in_flight_key q ≡ None → entries_of p (q ∷ ps) ≡ entries_of p ps
skipped p q ps none = by_test (p q)
  where
    by_test : (t : Bool) → map entry (filter_map in_flight_key (cond t (q ∷ filter p ps) (filter p ps))) ≡ entries_of p ps
    by_test true = ap (λ (o : Option InFlightKey). map entry (cons_option o (filter_map in_flight_key (filter p ps)))) none
    by_test false = refl

-- ---- one more record

-- what one more record makes of the entries of those before it: it drops those of a transaction that it ends
abbrev Agrees : (At → Bool) → (At → Bool) → LogRecord → At → Type 0
Agrees old new r q = (t : ℕ) (change : Change) → q.1 ≡ records.Change t change → new q ≡ (old q && not (ends t r))

-- the tests before and after it agree
tests_agree : (log : List LogRecord) (r : LogRecord) → AllByRecursion (Agrees (is_open_at log (length log)) (is_open_at (log ++ r ∷ []) (length (log ++ r ∷ []))) r) (positions log)
tests_agree log r = all_weaker {X = At} (λ q. q.0 < length log + 1) (Agrees (is_open_at log (length log)) (is_open_at (log ++ r ∷ []) (length (log ++ r ∷ []))) r) (positions log) one (positions_within log)
  where
    one : (q : At) → q.0 < length log + 1 → Agrees (is_open_at log (length log)) (is_open_at (log ++ r ∷ []) (length (log ++ r ∷ []))) r q
    one q lt t change e =
        ap (λ (x : LogRecord). is_open_at (log ++ r ∷ []) (length (log ++ r ∷ [])) (q.0, x)) e
        ∙ open_push log r q.0 t change lt
        ∙ ap (λ (x : LogRecord). is_open_at log (length log) (q.0, x) && not (ends t r)) (sym e)

-- the entries that one more record leaves
entries_left : (old new : At → Bool) (r : LogRecord) (ps : List At) → AllByRecursion (Agrees old new r) ps → entries_of new ps ≡ filter (λ row. not (ends row.0.tx r)) (entries_of old ps)
entries_left old new r [] all = refl
entries_left old new r ((pos, records.Change t change) ∷ ps) all =
    ap (λ (b : Bool). map entry (filter_map in_flight_key (cond b (q ∷ filter new ps) (filter new ps)))) (all.0 t change refl)
    ∙ pick (old q) (ends t r) refl (entries_left old new r ps all.1)
  where
    q : At
    q = (pos, records.Change t change)

    first : InFlightRow
    first = entry (record { tx = t; pos = pos })

    kept : List InFlightRow
    kept = filter (λ row. not (ends row.0.tx r)) (entries_of old ps)

    pick : (a e : Bool) → ends t r ≡ e → entries_of new ps ≡ filter (λ row. not (ends row.0.tx r)) (entries_of old ps)
        → map entry (filter_map in_flight_key (cond (a && not e) (q ∷ filter new ps) (filter new ps))) ≡ filter (λ row. not (ends row.0.tx r)) (map entry (filter_map in_flight_key (cond a (q ∷ filter old ps) (filter old ps))))
    pick true true is rest = rest ∙ sym (ap (λ (b : Bool). cond (not b) (first ∷ kept) kept) is)
    pick true false is rest = ap (λ (l : List InFlightRow). first ∷ l) rest ∙ sym (ap (λ (b : Bool). cond (not b) (first ∷ kept) kept) is)
    pick false e is rest = rest
entries_left old new r ((pos, records.Commit t time authid origin) ∷ ps) all =
    let q : At = (pos, records.Commit t time authid origin) in
    skipped new q ps refl ∙ entries_left old new r ps all.1 ∙ sym (ap (filter (λ (row : InFlightRow). not (ends row.0.tx r))) (skipped old q ps refl))
entries_left old new r ((pos, records.Abort t) ∷ ps) all =
    let q : At = (pos, records.Abort t) in
    skipped new q ps refl ∙ entries_left old new r ps all.1 ∙ sym (ap (filter (λ (row : InFlightRow). not (ends row.0.tx r))) (skipped old q ps refl))

-- the changes in flight after one more record: those that it doesn't end, and itself if it is one
entries_push : (log : List LogRecord) (r : LogRecord) → open_entries (log ++ r ∷ []) ≡ filter (λ row. not (ends row.0.tx r)) (open_entries log) ++ entries_of (is_open_at (log ++ r ∷ []) (length (log ++ r ∷ []))) ((length log + 1, r) ∷ [])
entries_push log r =
    let new = is_open_at (log ++ r ∷ []) (length (log ++ r ∷ [])) in
    let last : List At = (length log + 1, r) ∷ [] in
    ap (entries_of new) (positions_push log r)
    ∙ entries_append new (positions log) last
    ∙ ap (λ (l : List InFlightRow). l ++ entries_of new last) (entries_left (is_open_at log (length log)) new r (positions log) (tests_agree log r))

-- a change is one entry more
pub entries_change : (log : List LogRecord) (tx : ℕ) (change : Change) → open_entries (log ++ records.Change tx change ∷ []) ≡ open_entries log ++ entry (record { tx = tx; pos = length log + 1 }) ∷ []
entries_change log tx change =
    let r = records.Change tx change in
    let q : At = (length log + 1, r) in
    entries_push log r
    ∙ ap (λ (l : List InFlightRow). l ++ entries_of (is_open_at (log ++ r ∷ []) (length (log ++ r ∷ []))) (q ∷ [])) (filter_all {X = InFlightRow} (λ row. not (ends row.0.tx r)) (open_entries log) (all_rows (open_entries log)))
    ∙ ap (λ (b : Bool). open_entries log ++ map entry (filter_map in_flight_key (cond b (q ∷ []) []))) (last_is_open log tx change)
  where
    all_rows : (rows : List InFlightRow) → AllByRecursion (λ row. true ≡ true) rows
    all_rows [] = tt
    all_rows (row ∷ rows) = (refl, all_rows rows)

-- an end leaves the entries of the other transactions
pub entries_end : (log : List LogRecord) (tx : ℕ) (r : LogRecord) → ends tx r ≡ true → open_entries (log ++ r ∷ []) ≡ of_others tx (open_entries log)
entries_end log tx r e =
    entries_push log r
    ∙ ap (λ (l : List InFlightRow). filter (λ row. not (ends row.0.tx r)) (open_entries log) ++ l) (no_change r e)
    ∙ append-nil (filter (λ row. not (ends row.0.tx r)) (open_entries log))
    ∙ ap (λ (f : ℕ → Bool). filter (λ row. not (f row.0.tx)) (open_entries log)) (fun_ext (λ t. of_one r t e))
  where
    no_change : (r : LogRecord) → ends tx r ≡ true → entries_of (is_open_at (log ++ r ∷ []) (length (log ++ r ∷ []))) ((length log + 1, r) ∷ []) ≡ []
    no_change (records.Change t change) e = absurd cc
    no_change (records.Commit t time authid origin) e = skipped (is_open_at (log ++ records.Commit t time authid origin ∷ []) (length (log ++ records.Commit t time authid origin ∷ []))) (length log + 1, records.Commit t time authid origin) [] refl
    no_change (records.Abort t) e = skipped (is_open_at (log ++ records.Abort t ∷ []) (length (log ++ records.Abort t ∷ []))) (length log + 1, records.Abort t) [] refl

    turned : (a b : ℕ) → (a == b) ≡ (b == a)
    turned a b = grind (arith, nat_tests)

    of_one : (r : LogRecord) (t : ℕ) → ends tx r ≡ true → ends t r ≡ (t == tx)
    of_one (records.Change u change) t e = absurd cc
    of_one (records.Commit u time authid origin) t e = ap (λ (n : ℕ). n == t) (eqb-true u tx e) ∙ turned tx t
    of_one (records.Abort u) t e = ap (λ (n : ℕ). n == t) (eqb-true u tx e) ∙ turned tx t
