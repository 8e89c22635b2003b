-- The end of a transaction is put into the log, and its changes in flight are removed: proofs.
use Rattle.std.proofs.Common.{◌≡◌, ℕ, ◌+◌, ◌<◌, Bool, false, cond, List, [], ◌∷◌, refl, sym, ap, subst, ◌∙◌, Some, None, IsTrue}
use Rattle.world_store.specs.Words.{IsLogRecord, log_spelling, b64, in_flight_key_spelling, in_flight_spelling, Head, table_from_rows, put_here, head_of, in_flight_rows, source_table}
use Rattle.site_store.specs.Words.{Contents, Table, IsLastKey, put_at, set_key}
use Rattle.repl_model.specs.Words.{same_area, Area, LogRecord, with_more, log_limit, ends, Server}
use Rattle.repl_types.specs.declared.area.Area.TheVariants as areas
use Rattle.stored_commits.specs.records.LongerTables.{head_after}
use Rattle.stored_commits.specs.logs.LongerServers.{is_of_log}
use Rattle.source_log.specs.Reading.{ArePositions, with_dropped}
use Rattle.source_log.specs.Storing.{IsKept, Stores, MayBeLogged, Extends}
use Rattle.source_log.proofs.DroppedRows.{dropped_elsewhere, dropped_rows}
use Rattle.source_log.proofs.Extending.{extends_then}
use Rattle.source_log.proofs.LogEnds.{next_free, next_last, last_after, put_extends, dropped_extends, others_apart}
use Rattle.stored_commits.specs.laws.LogTables.{log_gets_row}
use Rattle.stored_commits.specs.laws.InFlightRows.{end_leaves_others, in_flight_stand}

-- the tables outside the source are as they were
abbrev pub LeavesOthers : Contents → Contents → Type 0
LeavesOthers c m = (a : Area) (n : ℕ) → same_area areas.Source a ≡ false → m a n ≡ c a n

-- a record is put after the end of the log, and the changes of its transaction at these positions are removed
abbrev pub PutsEnd : Head → ℕ → LogRecord → List ℕ → Contents → Contents → Type 0
PutsEnd head tx r positions m d = d ≡ with_dropped tx positions (put_at m areas.Log 0 (b64 (head.last + 1)) (Some (log_spelling r)))

-- The record is put where at most the source was changed.
module _ (head : Head) (tx : ℕ) (r : LogRecord) (positions : List ℕ) (c m d : Contents) (room : head.last < log_limit) (leaves : LeavesOthers c m) (puts : PutsEnd head tx r positions m d) where
  -- the position of the record
  abbrev key : List ℕ
  key = b64 (head.last + 1)

  -- the contents with the record, before the removals
  abbrev put : Contents
  put = put_at m areas.Log 0 key (Some (log_spelling r))

  -- the tables outside the log stay
  pub end_others : (a : Area) (n : ℕ) → is_of_log a n ≡ false → d a n ≡ c a n
  end_others a n other =
      let apart = others_apart a n other in
      ap (λ (x : Contents). x a n) puts
      ∙ dropped_elsewhere tx positions a n put apart.2
      ∙ ap (λ (b : Bool). cond b (set_key (m areas.Log 0) key (Some (log_spelling r))) (m a n)) apart.0
      ∙ leaves a n apart.1

  -- and so does its end
  pub end_head : (n : ℕ) → d areas.Head n ≡ c areas.Head n
  end_head n = ap (λ (x : Contents). x areas.Head n) puts ∙ dropped_elsewhere tx positions areas.Head n put refl ∙ leaves areas.Head n refl

  -- the log gets the record
  end_log : d areas.Log 0 ≡ set_key (c areas.Log 0) key (Some (log_spelling r))
  end_log =
      ap (λ (x : Contents). x areas.Log 0) puts
      ∙ dropped_elsewhere tx positions areas.Log 0 put refl
      ∙ put_here m areas.Log 0 key (Some (log_spelling r))
      ∙ ap (λ (t : Table). set_key t key (Some (log_spelling r))) (leaves areas.Log 0 refl)

  -- no other damage is shown
  pub end_extends : IsLogRecord r → MayBeLogged m r → Extends c m → IsLastKey (c areas.Log 0) (b64 head.last) → Extends c d
  end_extends typed may made last =
      let free : m areas.Log 0 key ≡ None = ap (λ (t : Table). t key) (leaves areas.Log 0 refl) ∙ next_free (c areas.Log 0) head.last room last in
      let more : Extends c put = extends_then c m put made (put_extends m head.last r room free typed may) in
      subst (Extends c) (sym puts) (extends_then c put (with_dropped tx positions put) more (dropped_extends tx positions put))

  -- the record is the last
  pub end_last : IsLastKey (c areas.Log 0) (b64 head.last) → IsLastKey (d areas.Log 0) (b64 (head_after r head).last)
  end_last last =
      let now : IsLastKey (d areas.Log 0) key = subst (λ (t : Table). IsLastKey t key) (sym end_log) (next_last (c areas.Log 0) head.last (Some (log_spelling r)) room last) in
      subst (λ (n : ℕ). IsLastKey (d areas.Log 0) (b64 n)) (sym (last_after r head)) now

  -- the tables of the longer log stand, if those of its source do
  pub end_stores : ArePositions tx positions c → IsTrue (ends tx r)
      → (server : Server) → IsKept server → head ≡ head_of server → Stores server c → ((n : ℕ) → m areas.Source n ≡ source_table (with_more (r ∷ []) server) n) → Stores (with_more (r ∷ []) server) d
  end_stores found end server kept is stores source =
      let rows = in_flight_rows server in
      let are = in_flight_stand server kept.log in
      record {
        log = end_log ∙ (λ i. set_key (stores.log i) (b64 ((is i).last + 1)) (Some (log_spelling r))) ∙ sym (log_gets_row server r kept.log.short);
        source = λ n. ap (λ (x : Contents). x areas.Source n) puts ∙ dropped_elsewhere tx positions areas.Source n put refl ∙ source n;
        in_flight =
            ap (λ (x : Contents). x areas.Inflight 0) puts
            ∙ ap (λ (l : List ℕ). with_dropped tx l put areas.Inflight 0) (found.all rows are stores.in_flight)
            ∙ dropped_rows tx [] rows put are.rise (leaves areas.Inflight 0 refl ∙ stores.in_flight)
            ∙ ap (table_from_rows in_flight_key_spelling in_flight_spelling) (sym (end_leaves_others server tx r end));
        defs = end_others areas.Defs 0 refl ∙ stores.defs;
      }
