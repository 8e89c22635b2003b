-- What a unit of the program's own leaves in flight, and what it makes of committed rows: proofs.
use Rattle.std.proofs.Common.{◌≡◌, ℕ, ◌+◌, Bool, true, false, cond, List, [], ◌∷◌, ◌++◌, length, map, Option, Some, None, inl, inr, refl, sym, ap, subst, ◌∙◌, append_assoc, append-nil, ◌==◌, eq-eqb, eqb-true}
use Rattle.std.proofs.lemmas.List.{map-append}
use Rattle.world_store.specs.Words.{in_flight_key_spelling, in_flight_spelling, table_from_rows, row_of, same_itself, in_flight_rows}
use Rattle.site_store.specs.Words.{same_key}
use Rattle.repl_model.specs.Words.{Change, LogRecord, TableDef, Placed, unplaced, after_changes, open_changes, Server, In, in_second, in_filter, kept_by, open_changes_change, open_changes_commit, source_change, source_commit}
use Rattle.repl_types.specs.declared.unit.Unit.{Unit as LogUnit}
use Rattle.stored_commits.specs.records.InFlight.{InFlightRow, in_flight_row, of_transaction, in_flight_table}
use Rattle.source_log.specs.Units.{own_change, own_commit, unit_records, committed}
use Rattle.source_log.proofs.Extending.{some_none}
use Rattle.stored_commits.specs.laws.InFlightRows.{open_rows}

-- ---- stored changes in flight

-- the one record of a change in flight
abbrev one : List ℕ
one = in_flight_spelling (record {})

-- a row stands in the stored table of the rows
stands_in : (rows : List InFlightRow) (row : InFlightRow) → In row rows → table_from_rows in_flight_key_spelling in_flight_spelling rows (in_flight_key_spelling row.0) ≡ Some one
stands_in [] row i = absurd i
stands_in (q ∷ qs) row (inl is) = ap (λ (b : Bool). cond b (Some one) (table_from_rows in_flight_key_spelling in_flight_spelling qs (in_flight_key_spelling row.0))) (subst (λ (r : InFlightRow). same_key (in_flight_key_spelling r.0) (in_flight_key_spelling row.0) ≡ true) is (same_itself (in_flight_key_spelling row.0)))
stands_in (q ∷ qs) row (inr i) = pick (same_key (in_flight_key_spelling q.0) (in_flight_key_spelling row.0)) (stands_in qs row i)
  where
    rest : Option (List ℕ)
    rest = table_from_rows in_flight_key_spelling in_flight_spelling qs (in_flight_key_spelling row.0)

    pick : (b : Bool) → rest ≡ Some one → cond b (Some one) rest ≡ Some one
    pick true e = refl
    pick false e = e

-- what is in flight at one server is at another that has the same open changes
flies_too : (a b : Server) → ((tx : ℕ) → open_changes tx a.log ≡ open_changes tx b.log) → (row : InFlightRow) → In row (in_flight_rows a) → In row (in_flight_rows b)
flies_too a b same row i =
    let tx = row.0.tx in
    let of_tx : InFlightRow → Bool = λ r. r.0.tx == tx in
    let own : In row (of_transaction tx (in_flight_rows a)) = kept_by of_tx (in_flight_rows a) row i (eq-eqb tx tx refl) in
    let there : In row (of_transaction tx (in_flight_rows b)) = subst (In row) (open_rows a tx ∙ ap (map (in_flight_row tx)) (same tx) ∙ sym (open_rows b tx)) own in
    (in_filter of_tx (in_flight_rows b) row there).0

-- it is stored there too
stands_too : (a b : Server) → ((tx : ℕ) → open_changes tx a.log ≡ open_changes tx b.log) → (k v : List ℕ) → in_flight_table a k ≡ Some v → (v ≡ one) × (in_flight_table b k ≡ Some one)
stands_too a b same k v has =
    let r = row_of in_flight_key_spelling in_flight_spelling (in_flight_rows a) k v has in
    let there : In r.0 (in_flight_rows a) = subst (In r.0) (sym r.1.split) (in_second r.1.front (r.0 ∷ r.1.back) r.0 (inl refl)) in
    (sym r.3, subst (λ (q : List ℕ). in_flight_table b q ≡ Some one) r.2 (stands_in (in_flight_rows b) r.0 (flies_too a b same r.0 there)))

-- so servers with the same open changes store the same
pub same_flights : (a b : Server) → ((tx : ℕ) → open_changes tx a.log ≡ open_changes tx b.log) → in_flight_table a ≡ in_flight_table b
same_flights a b same = λ i k. at k (in_flight_table a k) refl (in_flight_table b k) refl i
  where
    at : (k : List ℕ) (o : Option (List ℕ)) → in_flight_table a k ≡ o → (p : Option (List ℕ)) → in_flight_table b k ≡ p → in_flight_table a k ≡ in_flight_table b k
    at k None e None f = e ∙ sym f
    at k None e (Some w) f = absurd (some_none (sym (stands_too b a (λ tx. sym (same tx)) k w f).1 ∙ e))
    at k (Some v) e p f = let both = stands_too a b same k v e in e ∙ ap Some both.0 ∙ sym both.1

-- ---- open changes

-- changes of the program leave what others have in flight
others_open : (tx : ℕ) (log : List LogRecord) (changes : List Placed) → (0 == tx) ≡ false → open_changes tx (log ++ map own_change changes) ≡ open_changes tx log
others_open tx log [] other = ap (open_changes tx) (append-nil log)
others_open tx log (p ∷ ps) other =
    ap (open_changes tx) (sym (append_assoc log (own_change p ∷ []) (map own_change ps)))
    ∙ others_open tx (log ++ own_change p ∷ []) ps other
    ∙ open_changes_change tx 0 p.change log
    ∙ ap (λ (b : Bool). cond b (open_changes tx log ++ record { pos = length log + 1; change = p.change } ∷ []) (open_changes tx log)) other

-- and are in flight themselves
own_open : (log : List LogRecord) (changes : List Placed) → unplaced (open_changes 0 (log ++ map own_change changes)) ≡ unplaced (open_changes 0 log) ++ unplaced changes
own_open log [] = ap (λ (l : List LogRecord). unplaced (open_changes 0 l)) (append-nil log) ∙ sym (append-nil (unplaced (open_changes 0 log)))
own_open log (p ∷ ps) =
    ap (λ (l : List LogRecord). unplaced (open_changes 0 l)) (sym (append_assoc log (own_change p ∷ []) (map own_change ps)))
    ∙ own_open (log ++ own_change p ∷ []) ps
    ∙ ap (λ (l : List Placed). unplaced l ++ unplaced ps) (open_changes_change 0 0 p.change log)
    ∙ ap (λ (l : List Change). l ++ unplaced ps) (map-append (λ (q : Placed). q.change) (open_changes 0 log) (record { pos = length log + 1; change = p.change } ∷ []))
    ∙ append_assoc (unplaced (open_changes 0 log)) (p.change ∷ []) (unplaced ps)

-- after a whole unit all have in flight what they had, if the program had nothing
pub unit_closes : (log : List LogRecord) (unit : LogUnit) → open_changes 0 log ≡ [] → (tx : ℕ) → open_changes tx (log ++ unit_records unit) ≡ open_changes tx log
unit_closes log unit none tx =
    ap (open_changes tx) (sym (append_assoc log (map own_change unit.changes) (own_commit unit.head ∷ [])))
    ∙ open_changes_commit tx 0 unit.head.time unit.head.authid unit.head.origin (log ++ map own_change unit.changes)
    ∙ by_own (0 == tx) refl
  where
    by_own : (b : Bool) → (0 == tx) ≡ b → cond b [] (open_changes tx (log ++ map own_change unit.changes)) ≡ open_changes tx log
    by_own true e = sym (subst (λ (n : ℕ). open_changes n log ≡ []) (eqb-true 0 tx e) none)
    by_own false e = others_open tx log unit.changes e

-- ---- committed rows

-- changes that aren't committed leave them
committed_stay : (def : TableDef) (log : List LogRecord) (changes : List Placed) → committed (log ++ map own_change changes) def ≡ committed log def
committed_stay def log [] = ap (λ (l : List LogRecord). committed l def) (append-nil log)
committed_stay def log (p ∷ ps) =
    ap (λ (l : List LogRecord). committed l def) (sym (append_assoc log (own_change p ∷ []) (map own_change ps)))
    ∙ committed_stay def (log ++ own_change p ∷ []) ps
    ∙ source_change def 0 p.change log

-- a unit makes its changes, if the program had nothing in flight
pub unit_commits : (def : TableDef) (log : List LogRecord) (unit : LogUnit) → open_changes 0 log ≡ [] → committed (log ++ unit_records unit) def ≡ after_changes def (unplaced unit.changes) (committed log def)
unit_commits def log unit none =
    ap (λ (l : List LogRecord). committed l def) (sym (append_assoc log (map own_change unit.changes) (own_commit unit.head ∷ [])))
    ∙ source_commit def 0 unit.head.time unit.head.authid unit.head.origin (log ++ map own_change unit.changes)
    ∙ ap (λ (l : List Change). after_changes def l (committed (log ++ map own_change unit.changes) def)) (own_open log unit.changes ∙ ap (λ (l : List Placed). unplaced l ++ unplaced unit.changes) none)
    ∙ ap (after_changes def (unplaced unit.changes)) (committed_stay def log unit.changes)
