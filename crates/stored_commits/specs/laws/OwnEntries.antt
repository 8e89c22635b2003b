-- The entries of one transaction's changes in flight, in the order of the log.
use Rattle.std.proofs.Common.{◌≡◌, ℕ, ◌+◌, ◌≤◌, ◌<◌, Bool, true, false, cond, ◌&&◌, List, [], ◌∷◌, length, map, Option, Some, None, refl, sym, ap, subst, ◌∙◌, arith, T, ◌==◌, nat_lt, nat_le, filter, Ordering, Less, eqb-true, le-leb, lt-ltb}
use Rattle.std.specs.List.{AllByRecursion, enumerate_from, filter_map, cons_option}
use Rattle.std.specs.FinMap.Entries.{below_all, is_sorted}
use Rattle.std.specs.Ordering.{nat_cmp, is_lt, ordering_then}
use Rattle.std.specs.Cmp.{nat_cmp_is}
use Rattle.std.proofs.lemmas.Cmp.{tied_itself, nat_cmp_total}
use Rattle.world_store.specs.Words.{in_flight_key_cmp, in_flight_key}
use Rattle.repl_model.specs.Words.{all_weaker, Change, LogRecord, Placed, At, positions, last_end, change_of, open_changes, is_open_at, positions_within}
use Rattle.repl_types.specs.declared.record.LogRecord.TheVariants as records
use Rattle.stored_commits.specs.records.InFlight.{InFlightRow, in_flight_row, of_transaction}
use Rattle.stored_commits.specs.laws.LoggedPuts.{pass_both}
use Rattle.stored_commits.specs.laws.OpenEntries.{entry, entries_of, open_entries, skipped}

-- two tests that agree at the changes of a transaction
abbrev AgreesOwn : ℕ → (At → Bool) → (At → Bool) → At → Type 0
AgreesOwn tx old within q = (change : Change) → q.1 ≡ records.Change tx change → old q ≡ within q

-- a record that is no change of the transaction adds none
skipped_change : (tx : ℕ) (within : At → Bool) (q : At) (ps : List At) → change_of tx q ≡ None → filter_map (change_of tx) (filter within (q ∷ ps)) ≡ filter_map (change_of tx) (filter within ps)
skipped_change tx within q ps none = by_test (within q)
  where
    by_test : (t : Bool) → filter_map (change_of tx) (cond t (q ∷ filter within ps) (filter within ps)) ≡ filter_map (change_of tx) (filter within ps)
    by_test true = ap (λ (o : Option Placed). cons_option o (filter_map (change_of tx) (filter within ps))) none
    by_test false = refl

-- the entries of a transaction are its changes, if the tests agree at them
entries_own : (tx : ℕ) (old within : At → Bool) (ps : List At) → AllByRecursion (AgreesOwn tx old within) ps → of_transaction tx (entries_of old ps) ≡ map (in_flight_row tx) (filter_map (change_of tx) (filter within ps))
entries_own tx old within [] all = refl
entries_own tx old within ((pos, records.Change t change) ∷ ps) all = by_own (t == tx) refl (entries_own tx old within ps all.1)
  where
    q : At
    q = (pos, records.Change t change)

    own : List InFlightRow
    own = of_transaction tx (entries_of old ps)

    theirs : List Placed
    theirs = filter_map (change_of tx) (filter within ps)

    placed : Placed
    placed = record { pos = pos; change = change }

    first : InFlightRow
    first = entry (record { tx = t; pos = pos })

    other : (b : Bool) → (t == tx) ≡ false → of_transaction tx (map entry (filter_map in_flight_key (cond b (q ∷ filter old ps) (filter old ps)))) ≡ own
    other true e = ap (λ (b : Bool). cond b (first ∷ own) own) e
    other false e = refl

    this : (b : Bool) → (t == tx) ≡ true → own ≡ map (in_flight_row tx) theirs
        → of_transaction tx (map entry (filter_map in_flight_key (cond b (q ∷ filter old ps) (filter old ps)))) ≡ map (in_flight_row tx) (filter_map (change_of tx) (cond b (q ∷ filter within ps) (filter within ps)))
    this true e rest =
        ap (λ (b : Bool). cond b (first ∷ own) own) e
        ∙ ap (λ (n : ℕ). entry (record { tx = n; pos = pos }) ∷ own) (eqb-true t tx e)
        ∙ ap (λ (l : List InFlightRow). in_flight_row tx placed ∷ l) rest
        ∙ sym (ap (λ (b : Bool). map (in_flight_row tx) (cons_option (cond b (Some placed) None) theirs)) e)
    this false e rest = rest

    by_own : (b : Bool) → (t == tx) ≡ b → own ≡ map (in_flight_row tx) theirs → of_transaction tx (entries_of old (q ∷ ps)) ≡ map (in_flight_row tx) (filter_map (change_of tx) (filter within (q ∷ ps)))
    by_own true e rest =
        this (old q) e rest
        ∙ ap (λ (b : Bool). map (in_flight_row tx) (filter_map (change_of tx) (cond b (q ∷ filter within ps) (filter within ps)))) (all.0 change (ap (λ (n : ℕ). records.Change n change) (eqb-true t tx e)))
    by_own false e rest =
        other (old q) e ∙ rest
        ∙ sym (ap (map (in_flight_row tx)) (skipped_change tx within q ps (ap (λ (b : Bool). cond b (Some placed) None) e)))
entries_own tx old within ((pos, records.Commit t time authid origin) ∷ ps) all =
    let q : At = (pos, records.Commit t time authid origin) in
    ap (of_transaction tx) (skipped old q ps refl) ∙ entries_own tx old within ps all.1 ∙ sym (ap (map (in_flight_row tx)) (skipped_change tx within q ps refl))
entries_own tx old within ((pos, records.Abort t) ∷ ps) all =
    let q : At = (pos, records.Abort t) in
    ap (of_transaction tx) (skipped old q ps refl) ∙ entries_own tx old within ps all.1 ∙ sym (ap (map (in_flight_row tx)) (skipped_change tx within q ps refl))

-- the entries of a transaction's changes in flight are its open changes
pub own_entries : (log : List LogRecord) (tx : ℕ) → of_transaction tx (open_entries log) ≡ map (in_flight_row tx) (open_changes tx log)
own_entries log tx = entries_own tx (is_open_at log n) within (positions log) (all_weaker {X = At} (λ q. q.0 < n + 1) (AgreesOwn tx (is_open_at log n) within) (positions log) one (positions_within log))
  where
    n : ℕ
    n = length log

    within : At → Bool
    within q = nat_lt (last_end tx (n + 1) log) q.0 && nat_lt q.0 (n + 1)

    last_true : (a b c : Bool) → b ≡ true → c ≡ true → (b && a) ≡ (a && c)
    last_true true true true f g = refl
    last_true false true true f g = refl
    last_true a false c f g = absurd cc
    last_true a true false f g = absurd cc

    one : (q : At) → q.0 < n + 1 → AgreesOwn tx (is_open_at log n) within q
    one q lt change e =
        ap (λ (x : LogRecord). is_open_at log n (q.0, x)) e
        ∙ last_true (nat_lt (last_end tx (n + 1) log) q.0) (nat_le q.0 n) (nat_lt q.0 (n + 1)) (le-leb q.0 n (omega arith)) (lt-ltb q.0 (n + 1) lt)

-- ---- their order

-- the change stands at this position or after it
abbrev IsFrom : ℕ → Placed → Type 0
IsFrom n placed = n ≤ placed.pos

-- the changes among numbered records stand from their first number on
changes_from : (tx b : ℕ) (within : At → Bool) (log : List LogRecord) → AllByRecursion (IsFrom b) (filter_map (change_of tx) (filter within (enumerate_from b log)))
changes_from tx b within [] = tt
changes_from tx b within (r ∷ log) = by_test (within (b, r)) (all_weaker (IsFrom (b + 1)) (IsFrom b) (filter_map (change_of tx) (filter within (enumerate_from (b + 1) log))) (λ placed le. omega (arith, le)) (changes_from tx (b + 1) within log))
  where
    later : List Placed
    later = filter_map (change_of tx) (filter within (enumerate_from (b + 1) log))

    by_record : (r : LogRecord) → AllByRecursion (IsFrom b) later → AllByRecursion (IsFrom b) (cons_option (change_of tx (b, r)) later)
    by_record (records.Change t change) rest = by_own (t == tx)
      where
        by_own : (u : Bool) → AllByRecursion (IsFrom b) (cons_option (cond u (Some (record { pos = b; change = change })) None) later)
        by_own true = (omega arith, rest)
        by_own false = rest
    by_record (records.Commit t time authid origin) rest = rest
    by_record (records.Abort t) rest = rest

    by_test : (t : Bool) → AllByRecursion (IsFrom b) later → AllByRecursion (IsFrom b) (filter_map (change_of tx) (cond t ((b, r) ∷ filter within (enumerate_from (b + 1) log)) (filter within (enumerate_from (b + 1) log))))
    by_test true rest = by_record r rest
    by_test false rest = rest

-- entries of one transaction at later positions are after one of it
below_later : (tx b : ℕ) (change : Change) (later : List Placed) → AllByRecursion (IsFrom (b + 1)) later → T (below_all in_flight_key_cmp (record { tx = tx; pos = b }) (map (in_flight_row tx) later))
below_later tx b change [] all = tt
below_later tx b change (p ∷ ps) all = pass_both (is_lt (in_flight_key_cmp (record { tx = tx; pos = b }) (record { tx = tx; pos = p.pos }))) (below_all in_flight_key_cmp (record { tx = tx; pos = b }) (map (in_flight_row tx) ps))
    (subst (λ (o : Ordering). T (is_lt o)) (sym (ap (λ (o : Ordering). ordering_then o (nat_cmp b p.pos)) (tied_itself nat_cmp_total tx) ∙ sym (nat_cmp_is b p.pos Less (omega (arith, all.0))))) tt)
    (below_later tx b change ps all.1)

-- entries of one transaction are sorted by their positions
entries_sorted : (tx b : ℕ) (within : At → Bool) (log : List LogRecord) → T (is_sorted in_flight_key_cmp (map (in_flight_row tx) (filter_map (change_of tx) (filter within (enumerate_from b log)))))
entries_sorted tx b within [] = tt
entries_sorted tx b within (r ∷ log) = by_test (within (b, r)) (entries_sorted tx (b + 1) within log)
  where
    later : List Placed
    later = filter_map (change_of tx) (filter within (enumerate_from (b + 1) log))

    by_record : (r : LogRecord) → T (is_sorted in_flight_key_cmp (map (in_flight_row tx) later)) → T (is_sorted in_flight_key_cmp (map (in_flight_row tx) (cons_option (change_of tx (b, r)) later)))
    by_record (records.Change t change) rest = by_own (t == tx)
      where
        by_own : (u : Bool) → T (is_sorted in_flight_key_cmp (map (in_flight_row tx) (cons_option (cond u (Some (record { pos = b; change = change })) None) later)))
        by_own true = pass_both (below_all in_flight_key_cmp (record { tx = tx; pos = b }) (map (in_flight_row tx) later)) (is_sorted in_flight_key_cmp (map (in_flight_row tx) later)) (below_later tx b change later (changes_from tx (b + 1) within log)) rest
        by_own false = rest
    by_record (records.Commit t time authid origin) rest = rest
    by_record (records.Abort t) rest = rest

    by_test : (t : Bool) → T (is_sorted in_flight_key_cmp (map (in_flight_row tx) later)) → T (is_sorted in_flight_key_cmp (map (in_flight_row tx) (filter_map (change_of tx) (cond t ((b, r) ∷ filter within (enumerate_from (b + 1) log)) (filter within (enumerate_from (b + 1) log))))))
    by_test true rest = by_record r rest
    by_test false rest = rest

-- the open changes of a transaction are sorted
pub open_sorted : (log : List LogRecord) (tx : ℕ) → T (is_sorted in_flight_key_cmp (map (in_flight_row tx) (open_changes tx log)))
open_sorted log tx = entries_sorted tx 1 (λ q. nat_lt (last_end tx (length log + 1) log) q.0 && nat_lt q.0 (length log + 1)) log
