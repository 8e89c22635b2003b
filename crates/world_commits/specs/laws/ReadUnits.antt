-- The unit that the next record makes, and those after it.
use Rattle.std.proofs.Common.{◌≡◌, ℕ, ◌+◌, ◌<◌, ◌≤◌, Bool, true, false, ◌⊎◌, inl, inr, List, [], ◌∷◌, ◌++◌, length, take, drop, Option, Some, refl, ap, subst, ◌∙◌, arith, max, filter, slice_get, length-append}
use Rattle.std.proofs.lemmas.Bool.{cond-true, cases_lt, lt-ltb, le-ltb, ltb-true}
use Rattle.std.proofs.lemmas.List.Elements.{filter-append}
use Rattle.repl_model.specs.Words.{all_weaker, filter_all, filter_none, SetId, LogRecord, Unit, open_changes, unit_of, units, Server, In, at_each, in_filter, seqs_within, units_abort, units_change, units_commit, units_longer}
use Rattle.repl_types.specs.declared.record.LogRecord.TheVariants as records
use Rattle.world_commits.specs.logs.laws.Units.{is_past, later_units, none_past_end}
use Rattle.world_commits.specs.captures.Captures.{with_unit, uncaptured}
use Rattle.world_commits.specs.readings.Reading.{units_after, HasReadTo, OthersAreRead, CommitIsNext, NoneAtTheEnd}
use Rattle.world_commits.specs.laws.Fronts.{length_read, next_and_others}

-- ---- one record

-- the units after a log are those of the next record, and those after it
units_from : (log : List LogRecord) (r : LogRecord) (more : List LogRecord) → filter (is_past (length log)) (units ((log ++ r ∷ []) ++ more)) ≡ filter (is_past (length log)) (units (log ++ r ∷ [])) ++ filter (is_past (length log + 1)) (units ((log ++ r ∷ []) ++ more))
units_from log r more =
    ap (filter after) (units_longer longer more)
    ∙ filter-append after (units longer) later
    ∙ ap (λ (us : List Unit). filter after (units longer) ++ us) (filter_all after later (at_each (λ u. after u ≡ true) later past) ∙ ap (λ (n : ℕ). filter (is_past n) (units (longer ++ more))) size)
  where
    after : Unit → Bool
    after = is_past (length log)

    longer : List LogRecord
    longer = log ++ r ∷ []

    later : List Unit
    later = later_units longer more

    size : length longer ≡ length log + 1
    size = length-append log (r ∷ []) ∙ omega arith

    past : (u : Unit) → In u later → after u ≡ true
    past u i =
        let above : length longer < u.head.seq = ltb-true (length longer) u.head.seq (in_filter (is_past (length longer)) (units (longer ++ more)) u i).1 in
        lt-ltb (length log) u.head.seq (omega (arith, above, size))

-- the same of the next record of a log
units_next : (log : List LogRecord) (read : ℕ) (r : LogRecord) → slice_get log read ≡ Some r
    → filter (is_past read) (units log) ≡ filter (is_past read) (units (take read log ++ r ∷ [])) ++ filter (is_past (read + 1)) (units log)
units_next log read r e =
    subst (λ (l : List LogRecord). filter (is_past read) (units l) ≡ filter (is_past read) (units (take read log ++ r ∷ [])) ++ filter (is_past (read + 1)) (units l)) (next_and_others log read r e)
    (subst (λ (n : ℕ). filter (is_past n) (units longer) ≡ filter (is_past n) (units (take read log ++ r ∷ [])) ++ filter (is_past (n + 1)) (units longer)) (length_read log read r e)
    (units_from (take read log) r (drop (read + 1) log)))
  where
    longer : List LogRecord
    longer = (take read log ++ r ∷ []) ++ drop (read + 1) log

-- a record that is no commit makes no unit
none_made : (log : List LogRecord) (r : LogRecord) → ((t time : ℕ) (authid : List ℕ) (origin : Option SetId) → r ≡ records.Commit t time authid origin → ⊥) → filter (is_past (length log)) (units (log ++ r ∷ [])) ≡ []
none_made log (records.Change tx change) other = ap (filter (is_past (length log))) (units_change tx change log) ∙ none_past_end log
none_made log (records.Commit tx time authid origin) other = absurd (other tx time authid origin refl)
none_made log (records.Abort tx) other = ap (filter (is_past (length log))) (units_abort tx log) ∙ none_past_end log

-- a commit makes one, of what its transaction has in flight
one_made : (log : List LogRecord) (t time : ℕ) (authid : List ℕ) (origin : Option SetId) → filter (is_past (length log)) (units (log ++ records.Commit t time authid origin ∷ [])) ≡ unit_of (length log + 1) time authid origin (open_changes t log) ∷ []
one_made log t time authid origin =
    let u = unit_of (length log + 1) time authid origin (open_changes t log) in
    ap (filter (is_past (length log))) (units_commit t time authid origin log)
    ∙ filter-append (is_past (length log)) (units log) (u ∷ [])
    ∙ ap (λ (us : List Unit). us ++ filter (is_past (length log)) (u ∷ [])) (none_past_end log)
    ∙ cond-true _ _ _ (lt-ltb (length log) (length log + 1) (omega arith))

-- ---- at a server

-- while no commit is read after what is captured, no unit is missed
pub others_are_read : OthersAreRead
others_are_read server read r e has early = has ∙ by_place (cases_lt server.captured (read + 1))
  where
    none : server.captured < read + 1 → filter (is_past read) (units (take read server.log ++ r ∷ [])) ≡ []
    none past = subst (λ (n : ℕ). filter (is_past n) (units (take read server.log ++ r ∷ [])) ≡ []) (length_read server.log read r e)
        (none_made (take read server.log) r (λ t time authid origin is.
        let before : read + 1 ≤ server.captured = early t time authid origin is in
        absurd (omega arith)))

    by_place : (server.captured < read + 1) ⊎ (read + 1 ≤ server.captured) → units_after (max server.captured read) server ≡ units_after (max server.captured (read + 1)) server
    by_place (inl past) =
        let here : max server.captured read ≡ read = omega arith in
        let next : read + 1 ≡ max server.captured (read + 1) = omega arith in
        ap (λ (n : ℕ). units_after n server) here
        ∙ units_next server.log read r e
        ∙ ap (λ (us : List Unit). us ++ units_after (read + 1) server) (none past)
        ∙ ap (λ (n : ℕ). units_after n server) next
    by_place (inr before) =
        let same : max server.captured read ≡ max server.captured (read + 1) = omega arith in
        ap (λ (n : ℕ). units_after n server) same

-- what is captured once a unit that ends at what was read is
read_to_unit : (u : Unit) (server : Server) → HasReadTo u.head.seq (with_unit u server)
unfolding uncaptured
read_to_unit u server =
    let same : u.head.seq ≡ max u.head.seq u.head.seq = omega arith in
    ap (λ (n : ℕ). units_after n server) same

-- a commit that is read after what is captured makes the next unit
pub commit_is_next : CommitIsNext
commit_is_next server read t time authid origin e past has = ((units_after (read + 1) server, next), read_to_unit u server)
  where
    front : List LogRecord
    front = take read server.log

    u : Unit
    u = unit_of (read + 1) time authid origin (open_changes t front)

    one : filter (is_past read) (units (front ++ records.Commit t time authid origin ∷ [])) ≡ u ∷ []
    one = subst (λ (n : ℕ). filter (is_past n) (units (front ++ records.Commit t time authid origin ∷ [])) ≡ unit_of (n + 1) time authid origin (open_changes t front) ∷ []) (length_read server.log read (records.Commit t time authid origin) e)
        (one_made front t time authid origin)

    next : uncaptured server ≡ u ∷ units_after (read + 1) server
    next =
        let here : max server.captured read ≡ read = omega arith in
        has
        ∙ ap (λ (n : ℕ). units_after n server) here
        ∙ units_next server.log read (records.Commit t time authid origin) e
        ∙ ap (λ (us : List Unit). us ++ units_after (read + 1) server) one

-- at the end of the log all units are captured
pub none_at_the_end : NoneAtTheEnd
none_at_the_end server has =
    let to = max server.captured (length server.log) in
    has
    ∙ filter_none (is_past to) (units server.log)
    (all_weaker (λ (u : Unit). (0 < u.head.seq) × (u.head.seq ≤ length server.log)) (λ u. is_past to u ≡ false) (units server.log) (λ u within. le-ltb to u.head.seq (omega arith)) (seqs_within server.log))
