-- What one more record at the end of the log makes of contents: proofs.
use Rattle.std.proofs.Common.{◌≡◌, ℕ, zero, suc, ◌+◌, ◌<◌, Bool, true, false, cond, List, [], ◌∷◌, refl, sym, ap, subst, ◌∙◌, arith, inl, inr, ◌⊎◌, Option, Some, None, ◌==◌, ◌&&◌, nat_cmp, Less}
use Rattle.std.proofs.Math.Dec.{eqb-zero-suc}
use Rattle.std.specs.Cmp.{nat_cmp_is}
use Rattle.world_store.specs.Words.{IsLogRecord, log_spelling, Is64, b64, order64, whole_order, Head, order, same_is, differ}
use Rattle.site_store.specs.Words.{Contents, Table, IsLastKey, put_at, set_key, same_key, adds_put, adds_remove}
use Rattle.repl_model.specs.Words.{same_area, bytes_cmp, Area, LogRecord, log_limit}
use Rattle.repl_types.specs.declared.area.Area.TheVariants as areas
use Rattle.repl_types.specs.declared.record.LogRecord.TheVariants as records
use Rattle.stored_commits.specs.records.LongerTables.{head_after}
use Rattle.stored_commits.specs.records.SourceTables.{with_effect}
use Rattle.stored_commits.specs.logs.LongerServers.{is_of_log}
use Rattle.source_log.specs.Making.{all_made, with_made}
use Rattle.source_log.specs.Reading.{with_dropped}
use Rattle.source_log.specs.Rules.{rules, flight_key}
use Rattle.source_log.specs.Storing.{MayBeLogged, GetsRecord, Extends}
use Rattle.source_log.specs.declared.step.Step.{Step}
use Rattle.source_log.proofs.Extending.{some_none, extends_none, extends_then}

-- ---- the last key

-- the position after the last one is after it
pub next_above : (n : ℕ) → n < log_limit → bytes_cmp (b64 n) (b64 (n + 1)) ≡ Less
next_above n room = whole_order Is64 b64 nat_cmp order64 n (n + 1) (omega (arith, room)) (omega (arith, room)) ∙ sym (nat_cmp_is n (n + 1) Less (omega arith))

-- nothing stands there
pub next_free : (t : Table) (n : ℕ) → n < log_limit → IsLastKey t (b64 n) → t (b64 (n + 1)) ≡ None
next_free t n room last = last (b64 (n + 1)) (next_above n room)

-- and what is put there is the last
pub next_last : (t : Table) (n : ℕ) (v : Option (List ℕ)) → n < log_limit → IsLastKey t (b64 n) → IsLastKey (set_key t (b64 (n + 1)) v) (b64 (n + 1))
next_last t n v room last q above = ap (λ (b : Bool). cond b v (t q)) (differ (b64 (n + 1)) q above) ∙ last q (order.trans (b64 n) (b64 (n + 1)) q (next_above n room) above)

-- the end of a log is one position further after one more record
pub last_after : (r : LogRecord) (head : Head) → (head_after r head).last ≡ head.last + 1
last_after (records.Change tx change) head = refl
last_after (records.Commit tx time authid origin) head = refl
last_after (records.Abort tx) head = refl

-- ---- no other damage

-- a record is put where nothing stands
pub put_extends : (c : Contents) (n : ℕ) (r : LogRecord) → n < log_limit → c areas.Log 0 (b64 (n + 1)) ≡ None → IsLogRecord r → MayBeLogged c r
    → Extends c (put_at c areas.Log 0 (b64 (n + 1)) (Some (log_spelling r)))
put_extends c n r room free typed may = record {
  defs = refl;
  log = λ q. at q (same_key k q) refl;
  in_flight = λ q value h. inl h;
  adds = adds_put rules c areas.Log 0 k (log_spelling r) (n + 1, omega (arith, room), refl) (r, typed, refl);
}
  where
    k : List ℕ
    k = b64 (n + 1)

    d : Contents
    d = put_at c areas.Log 0 k (Some (log_spelling r))

    now : (q : List ℕ) (b : Bool) → same_key k q ≡ b → d areas.Log 0 q ≡ cond b (Some (log_spelling r)) (c areas.Log 0 q)
    now q b e = ap (λ (s : Bool). cond s (Some (log_spelling r)) (c areas.Log 0 q)) e

    at : (q : List ℕ) (b : Bool) → same_key k q ≡ b → (d areas.Log 0 q ≡ c areas.Log 0 q) ⊎ GetsRecord c d q
    at q true e = inr (record { free = subst (λ (p : List ℕ). c areas.Log 0 p ≡ None) (same_is k q e) free; r = r; stands = now q true e; typed = typed; may = may })
    at q false e = inl (now q false e)

-- a change in flight is removed
drop_extends : (c : Contents) (k : List ℕ) → Extends c (put_at c areas.Inflight 0 k None)
drop_extends c k = record {
  defs = refl;
  log = λ q. inl refl;
  in_flight = λ q value h. inl (at q value (same_key k q) h);
  adds = adds_remove rules c areas.Inflight 0 k;
}
  where
    at : (q value : List ℕ) (b : Bool) → cond b None (c areas.Inflight 0 q) ≡ Some value → c areas.Inflight 0 q ≡ Some value
    at q value true h = absurd (some_none (sym h))
    at q value false h = h

-- so are several
pub dropped_extends : (tx : ℕ) (positions : List ℕ) (c : Contents) → Extends c (with_dropped tx positions c)
dropped_extends tx [] c = extends_none c
dropped_extends tx (p ∷ positions) c =
    let d = put_at c areas.Inflight 0 (flight_key tx p) None in
    extends_then c d (with_dropped tx positions d) (drop_extends c (flight_key tx p)) (dropped_extends tx positions d)

-- ---- other tables

-- a table that is none of the log is not among the records, the source and the changes in flight
pub others_apart : (a : Area) (n : ℕ) → is_of_log a n ≡ false → ((same_area areas.Log a && (0 == n)) ≡ false) × (same_area areas.Source a ≡ false) × ((same_area areas.Inflight a && (0 == n)) ≡ false)
others_apart areas.Log zero e = absurd cc
others_apart areas.Log (suc n) e = (eqb-zero-suc n, refl, refl)
others_apart areas.Source n e = absurd cc
others_apart areas.Inflight zero e = absurd cc
others_apart areas.Inflight (suc n) e = (refl, refl, eqb-zero-suc n)
others_apart a n e = (refl, refl, refl)

-- changes that are made leave every table outside the source
pub made_elsewhere : (steps : List Step) (c : Contents) (a : Area) (n : ℕ) → same_area areas.Source a ≡ false → all_made steps c a n ≡ c a n
made_elsewhere [] c a n other = refl
made_elsewhere (s ∷ steps) c a n other =
    let t = with_effect s.table.def s.change (c areas.Source s.table.number) in
    made_elsewhere steps (with_made s.table s.change c) a n other ∙ ap (λ (b : Bool). cond (b && (s.table.number == n)) t (c a n)) other
