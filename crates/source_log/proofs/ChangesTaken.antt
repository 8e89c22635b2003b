-- What becomes of a change that is appended: proofs.
use Rattle.std.proofs.Common.{◌≡◌, ℕ, zero, suc, ◌+◌, ◌<◌, Bool, true, false, cond, List, [], ◌∷◌, length, refl, sym, ap, subst, ◌∙◌, arith, inl, inr, ◌⊎◌, Option, Some, None, nat_lt, Less, lt-ltb}
use Rattle.world_store.specs.Words.{IsChange, IsLogRecord, log_spelling, Is32, Is64, b64, short_text, in_flight_spelling, Head, order, same_itself, same_is, differ, put_other_table, head_of}
use Rattle.site_store.specs.Words.{Contents, IsLastKey, put_at, same_key, set_key, AddsOnlySpelt, adds_put, adds_then}
use Rattle.repl_model.specs.Words.{bytes_cmp, Area, Change, LogRecord, defined_table_spelling, IsDefinedTable, DefinedTable, is_applicable, with_more, log_limit, table_of, Server, tables_of}
use Rattle.repl_types.specs.declared.area.Area.TheVariants as areas
use Rattle.repl_types.specs.declared.record.Change.TheVariants.{Insert, Update, Delete, Start, Stop}
use Rattle.repl_types.specs.declared.record.LogRecord.TheVariants as records
use Rattle.stored_commits.specs.logs.LongerServers.{is_of_log}
use Rattle.stored_commits.specs.records.InFlight.{in_flight_table}
use Rattle.stored_commits.specs.records.LongerTables.{log_table}
use Rattle.source_log.specs.Fitting.{may_stand}
use Rattle.source_log.specs.Rules.{rules, flight_key, HasTable}
use Rattle.source_log.specs.Storing.{IsKept, Stores, GetsRecord, GetsInFlight, TakesRecord}
use Rattle.source_log.specs.declared.outcome.Outcome.TheVariants as outcomes
use Rattle.source_log.proofs.Extending.{extends_none}
use Rattle.source_log.proofs.OwnTables.{no_table}
use Rattle.source_log.proofs.Outcomes.{applicable_is, applicable_if_may, outcome_is, room_is}
use Rattle.stored_commits.specs.laws.LogTables.{log_gets_row}
use Rattle.stored_commits.specs.laws.InFlightRows.{change_in_flight}
use Rattle.stored_commits.specs.laws.SourceLogs.{change_leaves}
use Rattle.source_log.proofs.LogEnds.{next_above}

-- ---- one more record

-- the position after the end of a log with room has eight bytes
next_fits : (n : ℕ) → n < log_limit → Is64 (n + 1)
next_fits n room = omega arith

-- the transaction of a change whose parts are in their ranges has four bytes
tx_fits : (tx : ℕ) (change : Change) → IsChange tx change → Is32 tx
tx_fits tx (Insert table row) typed = typed.0
tx_fits tx (Update table before after) typed = typed.0
tx_fits tx (Delete table row) typed = typed.0
tx_fits tx (Start table) typed = typed.0
tx_fits tx (Stop table) typed = typed.0

-- writes of the log and of what is in flight leave the tables that aren't of a log
others_stay : (c : Contents) (k l : List ℕ) (v w : Option (List ℕ)) (a : Area) (n : ℕ) → is_of_log a n ≡ false → put_at (put_at c areas.Log 0 k v) areas.Inflight 0 l w a n ≡ c a n
others_stay c k l v w areas.Log zero e = absurd cc
others_stay c k l v w areas.Log (suc n) e = put_other_table c areas.Log 0 (suc n) k v (λ is. omega arith)
others_stay c k l v w areas.Inflight zero e = absurd cc
others_stay c k l v w areas.Inflight (suc n) e = put_other_table (put_at c areas.Log 0 k v) areas.Inflight 0 (suc n) l w (λ is. omega arith)
others_stay c k l v w a n e = refl

module _ (head : Head) (tx : ℕ) (change : Change) (c : Contents) (table : DefinedTable) (typed : IsLogRecord (records.Change tx change)) (has : HasTable c change table) (room : head.last < log_limit) where
  -- the change as a record
  abbrev r : LogRecord
  r = records.Change tx change

  -- its position in the log
  abbrev pos : ℕ
  pos = head.last + 1

  -- the contents in which it stands in the log
  abbrev in_log : Contents
  in_log = put_at c areas.Log 0 (b64 pos) (Some (log_spelling r))

  -- and among the changes in flight
  abbrev after : Contents
  after = put_at in_log areas.Inflight 0 (flight_key tx pos) (Some (in_flight_spelling (record {})))

  -- the log gets it where no record stood
  log_gets : IsLastKey (c areas.Log 0) (b64 head.last) → (key : List ℕ) → (after areas.Log 0 key ≡ c areas.Log 0 key) ⊎ GetsRecord c after key
  log_gets last key = by_key (same_key (b64 pos) key) refl
    where
      by_key : (b : Bool) → same_key (b64 pos) key ≡ b → (after areas.Log 0 key ≡ c areas.Log 0 key) ⊎ GetsRecord c after key
      by_key true e = inr (record {
        free = last key (subst (λ (k : List ℕ). bytes_cmp (b64 head.last) k ≡ Less) (same_is (b64 pos) key e) (next_above head.last room));
        r = r;
        stands = ap (λ (b : Bool). cond b (Some (log_spelling r)) (c areas.Log 0 key)) e;
        typed = typed;
        may = (table, has);
      })
      by_key false e = inl (ap (λ (b : Bool). cond b (Some (log_spelling r)) (c areas.Log 0 key)) e)

  -- it is in flight together with its record
  in_flight_gets : (key value : List ℕ) → after areas.Inflight 0 key ≡ Some value → (c areas.Inflight 0 key ≡ Some value) ⊎ GetsInFlight after key
  in_flight_gets key value h = by_key (same_key (flight_key tx pos) key) refl
    where
      by_key : (b : Bool) → same_key (flight_key tx pos) key ≡ b → (c areas.Inflight 0 key ≡ Some value) ⊎ GetsInFlight after key
      by_key true e = inr (record {
        tx = tx;
        pos = pos;
        fits = (tx_fits tx change typed, next_fits head.last room);
        is = sym (same_is (flight_key tx pos) key e);
        change = change;
        kept = record {
          typed = typed;
          logged = ap (λ (b : Bool). cond b (Some (log_spelling r)) (c areas.Log 0 (b64 pos))) (same_itself (b64 pos));
          table = table;
          has = record { stands = has.stands; fits = has.fits; may = has.may };
        };
      })
      by_key false e = inl (sym (ap (λ (b : Bool). cond b (Some (in_flight_spelling (record {}))) (c areas.Inflight 0 key)) e) ∙ h)

  -- both are spelled as they must be
  adds_both : AddsOnlySpelt rules c after
  adds_both = adds_then rules c in_log after
      (adds_put rules c areas.Log 0 (b64 pos) (log_spelling r) (pos, next_fits head.last room, refl) (r, typed, refl))
      (adds_put rules in_log areas.Inflight 0 (flight_key tx pos) (in_flight_spelling (record {})) (record { tx = tx; pos = pos }, (tx_fits tx change typed, next_fits head.last room), refl) (record {}, tt, refl))

  -- the new record is the last one
  ends_last : IsLastKey (c areas.Log 0) (b64 head.last) → IsLastKey (after areas.Log 0) (b64 pos)
  ends_last last key above =
      ap (λ (b : Bool). cond b (Some (log_spelling r)) (c areas.Log 0 key)) (differ (b64 pos) key above)
      ∙ last key (order.trans (b64 head.last) (b64 pos) key (next_above head.last room) above)

  -- the stored tables are those of the longer log
  stores_more : (server : Server) → IsKept server → head ≡ head_of server → Stores server c → Stores (with_more (r ∷ []) server) after
  stores_more server kept is stores = record {
    log = logged ∙ sym (log_gets_row server r kept.log.short);
    source = λ n. stores.source n ∙ sym (change_leaves server tx change n);
    in_flight = flies ∙ sym (change_in_flight server tx change kept.log (tx_fits tx change typed));
    defs = stores.defs;
  }
    where
      next : pos ≡ length server.log + 1
      next = ap (λ (h : Head). h.last + 1) is

      logged : after areas.Log 0 ≡ set_key (log_table server) (b64 (length server.log + 1)) (Some (log_spelling r))
      logged = λ i. set_key (stores.log i) (b64 (next i)) (Some (log_spelling r))

      flies : after areas.Inflight 0 ≡ set_key (in_flight_table server) (flight_key tx (length server.log + 1)) (Some (in_flight_spelling (record {})))
      flies = λ i. set_key (stores.in_flight i) (flight_key tx (next i)) (Some (in_flight_spelling (record {})))

-- ---- what becomes of it

module _ (head : Head) (tx : ℕ) (change : Change) (c : Contents) where
  -- contents that stay as they are don't take a record that isn't applicable
  refused : ((server : Server) → IsKept server → Stores server c → is_applicable (tables_of server) server.log (records.Change tx change) ≡ false) → TakesRecord head (records.Change tx change) outcomes.NotApplicable c c
  refused fails = record {
    others = λ a n e. refl;
    end = λ n. refl;
    extends = λ last. extends_none c;
    ends = λ last. last;
    told = λ server kept is stores. outcome_is server (records.Change tx change) false (nat_lt (length server.log) log_limit) (fails server kept stores) refl;
    stores = λ server kept is stores. stores;
  }

  -- its table isn't defined
  pub change_unknown : c areas.Defs 0 (short_text (table_of change)) ≡ None → TakesRecord head (records.Change tx change) outcomes.NotApplicable c c
  change_unknown none = refused (λ server kept stores. applicable_is server tx change None (no_table server c (table_of change) kept stores none))

  -- or it doesn't fit there
  pub change_unfit : (table : DefinedTable) → c areas.Defs 0 (short_text (table_of change)) ≡ Some (defined_table_spelling table) → IsDefinedTable table → may_stand table.def change ≡ false → TakesRecord head (records.Change tx change) outcomes.NotApplicable c c
  change_unfit table stands fits unfit = refused (λ server kept stores. applicable_if_may server tx change c table kept stores stands fits false unfit)

  -- or the log has no room
  pub change_full : (table : DefinedTable) → HasTable c change table → nat_lt head.last log_limit ≡ false → TakesRecord head (records.Change tx change) outcomes.Full c c
  change_full table has full = record {
    others = λ a n e. refl;
    end = λ n. refl;
    extends = λ last. extends_none c;
    ends = λ last. last;
    told = λ server kept is stores. outcome_is server (records.Change tx change) true false (applicable_if_may server tx change c table kept stores has.stands has.fits true has.may) (room_is head server false is full);
    stores = λ server kept is stores. stores;
  }

  -- else it is put into the log, and among the changes in flight
  pub change_taken : (table : DefinedTable) (d : Contents) → IsLogRecord (records.Change tx change) → HasTable c change table → head.last < log_limit → d ≡ put_at (put_at c areas.Log 0 (b64 (head.last + 1)) (Some (log_spelling (records.Change tx change)))) areas.Inflight 0 (flight_key tx (head.last + 1)) (Some (in_flight_spelling (record {}))) → TakesRecord head (records.Change tx change) outcomes.Taken c d
  change_taken table d typed has room puts = subst (TakesRecord head (records.Change tx change) outcomes.Taken c) (sym puts) (record {
    others = others_stay c (b64 (head.last + 1)) (flight_key tx (head.last + 1)) (Some (log_spelling (records.Change tx change))) (Some (in_flight_spelling (record {})));
    end = λ n. refl;
    extends = λ last. record { defs = refl; log = log_gets head tx change c table typed has room last; in_flight = in_flight_gets head tx change c table typed has room; adds = adds_both head tx change c table typed has room };
    ends = ends_last head tx change c table typed has room;
    told = λ server kept is stores. outcome_is server (records.Change tx change) true true (applicable_if_may server tx change c table kept stores has.stands has.fits true has.may) (room_is head server true is (lt-ltb head.last log_limit room));
    stores = stores_more head tx change c table typed has room;
  })
