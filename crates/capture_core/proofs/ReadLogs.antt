-- A log is read record by record: proofs.
use Rattle.std.proofs.Common.{◌≡◌, ◌≢◌, inl, inr, ℕ, ◌+◌, ◌<◌, ◌≤◌, cond, List, [], ◌∷◌, ◌++◌, length, take, refl, sym, ap, subst, ◌∙◌, arith, ◌==◌, min, Option, Some, None, IfSome}
use Rattle.std.proofs.Math.Nat.{min-eq_left}
use Rattle.std.proofs.lemmas.Option.{slice_get_within, same_Some}
use Rattle.world_store.specs.Words.{CaptureState}
use Rattle.site_store.specs.Words.{Contents}
use Rattle.repl_model.specs.Words.{Change, SetId, LogRecord, Placed, Unit, IsSound, LogIsSound, unit_of, open_changes, Server, World, restart_after, In, at_one}
use Rattle.repl_types.specs.declared.area.Area.TheVariants as areas
use Rattle.repl_types.specs.declared.record.LogRecord.TheVariants as records
use Rattle.world_commits.specs.captures.Captures.{with_unit, uncaptured, rows_captured}
use Rattle.world_commits.specs.readings.Reading.{in_flight_from, HasReadTo}
use Rattle.txn_buffer.specs.Buffer.{changes_in, first_position}
use Rattle.txn_buffer.specs.declared.buffer.Buffer.{Buffer}
use Rattle.capture_core.specs.Reading.{greatest, IsReadTo, HasServer, ComesNext, IsRestart, TakesCommit, HasTaken, TakesNone, TakesOne, ReadsOn, ReadsAll, ReadsUnit, IsNextRecord, IsLoggedAfter}
use Rattle.capture_core.specs.declared.progress.Progress.{Progress}
use Rattle.capture_core.proofs.Calls.{same_leaves, leaves_then}
use Rattle.capture_core.proofs.Buffers.{pushed, ended}
use Rattle.capture_core.proofs.Positions.{comes_next, at_end}
use Rattle.world_commits.specs.laws.ReadUnits.{commit_is_next, none_at_the_end, others_are_read}
use Rattle.world_commits.specs.laws.InFlight.{change_joins, end_leaves_none}
use Rattle.world_commits.specs.laws.Restarts.{restart_is_early, restarts_after, restarts_at_first}

-- where it began to be read
abbrev began : (server : Server) (p : Progress) → IsReadTo server p → ℕ
began server p is = restart_after server.log is.base

-- ---- records that end no unit

-- the log is read one record further, if it isn't a commit after what is captured
read_on : (server : Server) (p q : Progress) (pos : ℕ) (logged : LogRecord) → ComesNext server p.read pos logged → (is : IsReadTo server p) → ((t time : ℕ) (authid : List ℕ) (origin : Option SetId) → logged ≡ records.Commit t time authid origin → p.read + 1 ≤ server.captured)
    → q.state ≡ p.state → q.read ≡ pos → ((tx : ℕ) → changes_in q.buffer tx ≡ in_flight_from (began server p is) (p.read + 1) server.log tx) → IsReadTo server q
read_on server p q pos logged next is old state read keeps =
    let lt = slice_get_within server.log p.read logged next.1 in
    let now : q.read ≡ p.read + 1 = read ∙ next.0 in
    record {
      state = state ∙ is.state;
      base = is.base;
      low = is.low;
      from = omega (arith, is.from, now);
      last = omega (arith, lt, now);
      read = subst (λ (n : ℕ). HasReadTo n server) (sym now) (others_are_read server p.read logged next.1 is.read old);
      keeps = λ tx. keeps tx ∙ ap (λ (n : ℕ). in_flight_from (began server p is) n server.log tx) (sym now);
    }

-- a change is kept
pub change_read : (server : Server) (p q : Progress) (pos tx : ℕ) (change : Change) → ComesNext server p.read pos (records.Change tx change) → IsReadTo server p
    → q.state ≡ p.state → q.read ≡ pos → changes_in q.buffer tx ≡ changes_in p.buffer tx ++ record { pos = pos; change = change } ∷ [] → ((t : ℕ) → t ≢ tx → changes_in q.buffer t ≡ changes_in p.buffer t) → IsReadTo server q
change_read server p q pos tx change next is state read here apart =
    let placed : Placed = record { pos = pos; change = change } in
    let now : ℕ → Placed = λ n. record { pos = n; change = change } in
    read_on server p q pos (records.Change tx change) next is (λ t time authid origin e. absurd cc) state read (λ t.
    pushed p.buffer q.buffer tx apart placed here t
    ∙ ap (λ (xs : List Placed). cond (tx == t) (xs ++ placed ∷ []) xs) (is.keeps t)
    ∙ ap (λ (n : ℕ). cond (tx == t) (in_flight_from (began server p is) p.read server.log t ++ now n ∷ []) (in_flight_from (began server p is) p.read server.log t)) next.0
    ∙ sym (change_joins (began server p is) p.read server.log tx change t is.from next.1))

-- what is in flight after the end of a transaction
left_after : (server : Server) (p q : Progress) (t : ℕ) (is : IsReadTo server p) → changes_in q.buffer t ≡ [] → ((s : ℕ) → s ≢ t → changes_in q.buffer s ≡ changes_in p.buffer s) → (tx : ℕ) → changes_in q.buffer tx ≡ cond (t == tx) [] (in_flight_from (began server p is) p.read server.log tx)
left_after server p q t is here apart tx = ended p.buffer q.buffer t apart here tx ∙ ap (λ (xs : List Placed). cond (t == tx) [] xs) (is.keeps tx)

-- an abort drops the changes of its transaction
pub abort_read : (server : Server) (p q : Progress) (pos t : ℕ) → ComesNext server p.read pos (records.Abort t) → IsReadTo server p
    → q.state ≡ p.state → q.read ≡ pos → changes_in q.buffer t ≡ [] → ((s : ℕ) → s ≢ t → changes_in q.buffer s ≡ changes_in p.buffer s) → IsReadTo server q
abort_read server p q pos t next is state read here apart =
    read_on server p q pos (records.Abort t) next is (λ tx time authid origin e. absurd cc) state read (λ tx.
    left_after server p q t is here apart tx ∙ sym ((end_leaves_none (began server p is) p.read server.log t tx (records.Abort t) next.1).1 refl))

-- so does a commit, and what it commits is captured if it isn't after what is captured
pub commit_read : (server : Server) (p q : Progress) (pos t time : ℕ) (authid : List ℕ) (origin : Option SetId) → ComesNext server p.read pos (records.Commit t time authid origin) → IsReadTo server p → pos ≤ p.state.captured
    → q.state ≡ p.state → q.read ≡ pos → changes_in q.buffer t ≡ [] → ((s : ℕ) → s ≢ t → changes_in q.buffer s ≡ changes_in p.buffer s) → IsReadTo server q
commit_read server p q pos t time authid origin next is old state read here apart =
    read_on server p q pos (records.Commit t time authid origin) next is (λ tx at user from e. omega (arith, old, next.0, ap (λ (s : CaptureState). s.captured) is.state)) state read (λ tx.
    left_after server p q t is here apart tx ∙ sym ((end_leaves_none (began server p is) p.read server.log t tx (records.Commit t time authid origin) next.1).0 time authid origin refl))

-- ---- the restart

-- the first change of a transaction whose first change has a position
first_of : (xs : List Placed) (n : ℕ) → first_position xs ≡ Some n → (placed : Placed) × (rest : List Placed) × (xs ≡ placed ∷ rest) × (placed.pos ≡ n)
first_of [] n e = absurd cc
first_of (placed ∷ rest) n e = (placed, rest, refl, same_Some placed.pos n e)

-- the restart after a position up to which the log is read, if the buffer has all that is in flight there
restart_is : (server : Server) (buffer : Buffer) (pos restart : ℕ) → LogIsSound server → pos ≤ length server.log → ((tx : ℕ) → changes_in buffer tx ≡ open_changes tx (take pos server.log)) → IsRestart buffer pos restart → restart ≡ restart_after server.log pos
restart_is server buffer pos restart sound within all (inl none) =
    let small : pos + 1 ≤ greatest = omega (arith, within, sound.short) in
    none.1 ∙ min-eq_left small ∙ sym (restarts_after server.log pos within (λ tx. sym (all tx) ∙ none.0 tx))
restart_is server buffer pos restart sound within all (inr least) =
    let f = first_of (changes_in buffer least.tx) restart least.here in
    sym (restarts_at_first server.log pos least.tx f.0 f.1 within (sym (all least.tx) ∙ f.2) (λ t placed more is.
    let low = subst (λ (xs : List Placed). IfSome (first_position xs) (λ n. restart ≤ n)) (all t ∙ is) (least.least t) in
    omega (arith, low, f.3)) ∙ f.3)

-- ---- a commit after what is captured

-- it ends the next unit, which is captured
pub unit_taken : (world : World) (server : Server) (p m q : Progress) (pos t time : ℕ) (authid : List ℕ) (origin : Option SetId) (changes : List Placed) (c d : Contents) → IsSound world → In server world → HasServer server c → IsReadTo server p → ComesNext server p.read pos (records.Commit t time authid origin) → p.state.captured < pos
    → changes ≡ changes_in p.buffer t → m.state ≡ p.state → m.read ≡ pos → m.rows ≡ p.rows → changes_in m.buffer t ≡ [] → ((s : ℕ) → s ≢ t → changes_in m.buffer s ≡ changes_in p.buffer s)
    → TakesCommit m q (unit_of pos time authid origin changes) c d → HasTaken server p q d
unit_taken world server p m q pos t time authid origin changes c d sound member has is next late taken state read rows here apart takes =
    let log = server.log in
    let logged : LogRecord = records.Commit t time authid origin in
    let own = at_one LogIsSound world server sound.logs member in
    let within = slice_get_within log p.read logged next.1 in
    let captured : p.state.captured ≡ server.captured = ap (λ (s : CaptureState). s.captured) is.state in
    let before : server.captured ≤ p.read = omega (arith, late, next.0, captured) in
    let u = unit_of pos time authid origin changes in
    let v = unit_of (p.read + 1) time authid origin (open_changes t (take p.read log)) in
    let open_at : (n : ℕ) → is.base ≤ n → n ≤ length log → (tx : ℕ) → in_flight_from (began server p is) n log tx ≡ open_changes tx (take n log) = λ n low high tx. restart_is_early log is.base n tx low high in
    let same_changes : changes ≡ open_changes t (take p.read log) = taken ∙ is.keeps t ∙ open_at p.read (omega (arith, is.low, before)) is.last t in
    let same : v ≡ u = λ i. unit_of (sym next.0 i) time authid origin (sym same_changes i) in
    let met = commit_is_next server p.read t time authid origin next.1 before is.read in
    let found : uncaptured server ≡ u ∷ met.0.0 = met.0.1 ∙ ap (λ (x : Unit). x ∷ met.0.0) same in
    let left : (tx : ℕ) → changes_in m.buffer tx ≡ in_flight_from (began server p is) pos log tx = λ tx.
    left_after server p m t is here apart tx
    ∙ sym ((end_leaves_none (began server p is) p.read log t tx logged next.1).0 time authid origin refl)
    ∙ ap (λ (n : ℕ). in_flight_from (began server p is) n log tx) (sym next.0) in
    let all : (tx : ℕ) → changes_in m.buffer tx ≡ open_changes tx (take pos log) = λ tx. left tx ∙ open_at pos (omega (arith, is.low, late, captured)) (omega (arith, within, next.0)) tx in
    let restart : takes.restart ≡ restart_after log pos = restart_is server m.buffer pos takes.restart own (omega (arith, within, next.0)) all takes.begins in
    let floor : m.state.floor ≡ server.floor = ap (λ (s : CaptureState). s.floor) (state ∙ is.state) in
    let its = takes.captures.captures world server (record { sound = sound; in_world = member; rest = met.0.0; next = found }) has.captured in
    let now = takes.progress in
    let at_read : q.read ≡ pos = ap (λ (x : Progress). x.read) now ∙ read in
    record {
      unit = u;
      rest = met.0.0;
      next = found;
      captured = its.0;
      read = record {
        state = ap (λ (x : Progress). x.state) now ∙ (λ i. record { captured = pos; restart = restart i; floor = floor i });
        base = is.base;
        low = omega (arith, is.low, late, captured);
        from = omega (arith, is.from, at_read, next.0);
        last = omega (arith, within, at_read, next.0);
        read = subst (λ (n : ℕ). HasReadTo n (with_unit u server)) (sym (at_read ∙ next.0)) (subst (λ (x : Unit). HasReadTo (p.read + 1) (with_unit x server)) same met.1);
        keeps = λ tx. ap (λ (x : Progress). changes_in x.buffer tx) now ∙ left tx ∙ ap (λ (n : ℕ). in_flight_from (began server p is) n log tx) (sym at_read);
      };
      rows = ap (λ (x : Progress). x.rows) now ∙ ap (λ (n : ℕ). min (m.rows + n) greatest) its.1 ∙ ap (λ (n : ℕ). min (n + rows_captured u.head.seq u.changes server) greatest) rows;
    }

-- ---- one record after another

-- nothing was read yet
pub reads_none : (p : Progress) (c : Contents) → ReadsOn p p c c
reads_none p c = record { same = refl; rows = refl; reads = λ world server sound member has is. is }

-- a record that was read after others is the next one
after_reads : (p q : Progress) (c d : Contents) (pos : ℕ) (logged : LogRecord) → ReadsOn p q c d → IsLoggedAfter q.read (pos, logged) → IsNextRecord q.read (Some (pos, logged)) d → (world : World) (server : Server) → IsSound world → In server world → HasServer server c → IsReadTo server p → HasServer server d × IsReadTo server q × ComesNext server q.read pos logged
after_reads p q c d pos logged on after next world server sound member has is =
    let reads = on.reads world server sound member has is in
    let now : HasServer server d = subst (HasServer server) (sym on.same) has in
    (now, reads, comes_next server d q.read pos logged (at_one LogIsSound world server sound.logs member) now.log reads.last after next)

-- the log was read one record further
pub reads_more : (p q r : Progress) (c d e : Contents) (pos : ℕ) (logged : LogRecord) → ReadsOn p q c d → IsLoggedAfter q.read (pos, logged) → IsNextRecord q.read (Some (pos, logged)) d → TakesNone q r pos logged d e → ReadsOn p r c e
reads_more p q r c d e pos logged on after next takes = record {
  same = takes.same ∙ on.same;
  rows = takes.rows ∙ on.rows;
  reads = λ world server sound member has is. let at = after_reads p q c d pos logged on after next world server sound member has is in takes.takes world server sound member at.0 at.1 at.2;
}

-- and ended a unit
pub reads_unit : (p q r : Progress) (c d e : Contents) (pos : ℕ) (logged : LogRecord) → ReadsOn p q c d → IsLoggedAfter q.read (pos, logged) → IsNextRecord q.read (Some (pos, logged)) d → TakesOne q r pos logged d e → ReadsUnit p r c e
reads_unit p q r c d e pos logged on after next takes = record {
  leaves = leaves_then c d e (same_leaves c d on.same) takes.leaves;
  takes = λ world server sound member has is.
      let at = after_reads p q c d pos logged on after next world server sound member has is in
      let taken = takes.takes world server sound member at.0 at.1 at.2 in
      record {
        unit = taken.unit;
        rest = taken.rest;
        next = taken.next;
        captured = taken.captured;
        read = taken.read;
        rows = taken.rows ∙ ap (λ (n : ℕ). min (n + rows_captured taken.unit.head.seq taken.unit.changes server) greatest) on.rows;
      };
}

-- the log was read to its end
pub reads_all : (p q : Progress) (c d : Contents) → ReadsOn p q c d → IsNextRecord q.read None d → ReadsAll p q c d
reads_all p q c d on last = record {
  same = on.same;
  rows = on.rows;
  reads = λ world server sound member has is.
      let reads = on.reads world server sound member has is in
      let at_last = at_end server d q.read (at_one LogIsSound world server sound.logs member) (ap (λ (f : Contents). f areas.Log 0) on.same ∙ has.log) reads.last last in
      (reads, none_at_the_end server (subst (λ (n : ℕ). HasReadTo n server) at_last reads.read));
}

-- ---- the record at a position

-- the progress once it is taken, with what the buffer then has
abbrev pub read_to : Progress → ℕ → Buffer → Progress
read_to p pos buffer = record p { read = pos; buffer = buffer }

module _ (p : Progress) (pos : ℕ) (logged : LogRecord) (buffer : Buffer) where
  -- what comes next is this record
  next_as : (server : Server) (r : LogRecord) → logged ≡ r → ComesNext server p.read pos logged → ComesNext server p.read pos r
  next_as server r is next = (next.0, next.1 ∙ ap (λ (x : LogRecord). Some x) is)

  -- a change is taken
  pub change_taken : (tx : ℕ) (change : Change) → logged ≡ records.Change tx change → changes_in buffer tx ≡ changes_in p.buffer tx ++ record { pos = pos; change = change } ∷ [] → ((t : ℕ) → t ≢ tx → changes_in buffer t ≡ changes_in p.buffer t) → (c : Contents) → TakesNone p (read_to p pos buffer) pos logged c c
  change_taken tx change is here apart c = record {
    same = refl;
    rows = refl;
    takes = λ world server sound member has reads next. change_read server p (read_to p pos buffer) pos tx change (next_as server (records.Change tx change) is next) reads refl refl here apart;
  }

  -- an abort is taken
  pub abort_taken : (t : ℕ) → logged ≡ records.Abort t → changes_in buffer t ≡ [] → ((s : ℕ) → s ≢ t → changes_in buffer s ≡ changes_in p.buffer s) → (c : Contents) → TakesNone p (read_to p pos buffer) pos logged c c
  abort_taken t is here apart c = record {
    same = refl;
    rows = refl;
    takes = λ world server sound member has reads next. abort_read server p (read_to p pos buffer) pos t (next_as server (records.Abort t) is next) reads refl refl here apart;
  }

  -- a commit is taken whose unit is captured
  pub commit_taken : (t time : ℕ) (authid : List ℕ) (origin : Option SetId) → logged ≡ records.Commit t time authid origin → pos ≤ p.state.captured → changes_in buffer t ≡ [] → ((s : ℕ) → s ≢ t → changes_in buffer s ≡ changes_in p.buffer s) → (c : Contents) → TakesNone p (read_to p pos buffer) pos logged c c
  commit_taken t time authid origin is old here apart c = record {
    same = refl;
    rows = refl;
    takes = λ world server sound member has reads next. commit_read server p (read_to p pos buffer) pos t time authid origin (next_as server (records.Commit t time authid origin) is next) reads old refl refl here apart;
  }

  -- and one whose unit wasn't
  pub unit_was_taken : (q : Progress) (t time : ℕ) (authid : List ℕ) (origin : Option SetId) (changes : List Placed) (u : Unit) → logged ≡ records.Commit t time authid origin → u ≡ unit_of pos time authid origin changes → changes ≡ changes_in p.buffer t → p.state.captured < pos → changes_in buffer t ≡ [] → ((s : ℕ) → s ≢ t → changes_in buffer s ≡ changes_in p.buffer s)
      → (c d : Contents) → TakesCommit (read_to p pos buffer) q u c d → TakesOne p q pos logged c d
  unit_was_taken q t time authid origin changes u is unit taken late here apart c d takes = record {
    leaves = takes.leaves;
    takes = λ world server sound member has reads next. unit_taken world server p (read_to p pos buffer) q pos t time authid origin changes c d sound member has reads (next_as server (records.Commit t time authid origin) is next) late taken refl refl refl here apart (subst (λ (x : Unit). TakesCommit (read_to p pos buffer) q x c d) unit takes);
  }
