-- A unit of the program's own is put at the end of a log: proofs.
use Rattle.std.proofs.Common.{◌≡◌, ℕ, ◌+◌, ◌<◌, Bool, false, cond, List, [], ◌∷◌, ◌++◌, length, map, refl, sym, ap, subst, ◌∙◌, append_assoc, arith, Some, nat_le, slice_get, leb-false}
use Rattle.std.specs.List.{AllByRecursion}
use Rattle.std.specs.Option.{option_map_or}
use Rattle.world_store.specs.Words.{log_spelling, b64, one_whole, first_head, single_spelling, IsHead, head_spelling, one_head, Head, same_itself, put_here, head_of, no_rows, source_table}
use Rattle.site_store.specs.Words.{Contents, Table, set_key, put_at, or_first}
use Rattle.repl_model.specs.Words.{LogRecord, Placed, with_more, log_limit, open_changes, ServerTable, Server}
use Rattle.repl_types.specs.declared.area.Area.TheVariants as areas
use Rattle.repl_types.specs.declared.unit.Unit.{Unit as LogUnit}
use Rattle.stored_commits.specs.records.InFlight.{in_flight_table}
use Rattle.stored_commits.specs.records.LongerTables.{log_table}
use Rattle.stored_commits.specs.records.SourceTables.{rows_table}
use Rattle.source_log.specs.Rules.{EndIs}
use Rattle.source_log.specs.Storing.{IsKept, Stores}
use Rattle.source_log.specs.Units.{own_change, own_commit, unit_records, MayBePut, MayAppendUnit, HasChanges, PutsChanges, PutsCommit, HasUnit, AppendsUnit, HasNoRoomFor}
use Rattle.source_log.proofs.Appended.{end_apart}
use Rattle.source_log.proofs.LogEnds.{others_apart}
use Rattle.source_log.proofs.OwnChanges.{own_length}
use Rattle.source_log.proofs.OwnFlights.{same_flights, unit_closes, unit_commits}
use Rattle.stored_commits.specs.laws.LogTables.{head_fits, head_goes_on, log_gets_row}
use Rattle.world_commits.specs.laws.OwnUnits.{none_in_flight}

-- ---- the records of a unit

-- those of its changes can be put, and so can its commit
records_put : (changes : List Placed) (commit : LogRecord) → AllByRecursion MayBePut (map own_change changes ++ commit ∷ []) → AllByRecursion (λ placed. MayBePut (own_change placed)) changes × MayBePut commit
records_put [] commit all = (tt, all.0)
records_put (p ∷ ps) commit all = let rest = records_put ps commit all.1 in ((all.0, rest.0), rest.1)

pub changes_may : (unit : LogUnit) → MayAppendUnit unit → AllByRecursion (λ placed. MayBePut (own_change placed)) unit.changes
changes_may unit all = (records_put unit.changes (own_commit unit.head) all).0

pub commit_may : (unit : LogUnit) → MayAppendUnit unit → MayBePut (own_commit unit.head)
commit_may unit all = (records_put unit.changes (own_commit unit.head) all).1

-- ---- the end of the log

-- the end that is read is that of a server whose stored end is its end
end_is : (server : Server) (c : Contents) (head : Head) → IsKept server → IsHead head → EndIs head c → EndIs (head_of server) c → head ≡ head_of server
end_is server c head kept is read own = one_whole IsHead head_spelling one_head head (head_of server) is (head_fits server kept.log) (read ∙ sym own)

-- if there is no room, there is none for such a server
pub no_room : (unit : LogUnit) (c : Contents) (head : Head) → IsHead head → EndIs head c → nat_le (head.last + length unit.changes + 1) log_limit ≡ false → HasNoRoomFor unit c
no_room unit c head is read full server kept own stores =
    subst (λ (h : Head). log_limit < h.last + length unit.changes + 1) (end_is server c head kept is read own) (leb-false (head.last + length unit.changes + 1) log_limit full)

-- ---- a unit

module _ (unit : LogUnit) (head : Head) (is : IsHead head) (c m d : Contents) (read : EndIs head c) (room : head.last + length unit.changes < log_limit) (puts : PutsChanges head.last unit.changes c m) (ends : PutsCommit (head.last + length unit.changes + 1) unit.head m d) where
  -- its seq
  abbrev seq : ℕ
  seq = head.last + length unit.changes + 1

  -- the commit
  abbrev commit : LogRecord
  commit = own_commit unit.head

  -- the contents with the commit, before the end is put
  abbrev logged : Contents
  logged = put_at m areas.Log 0 (b64 seq) (Some (log_spelling commit))

  -- the end that is put
  abbrev end : Head
  end = record { last = seq; commit = seq; time = unit.head.time }

  -- its key
  abbrev key : List ℕ
  key = single_spelling (record {})

  module _ (server : Server) (kept : IsKept server) (own : EndIs (head_of server) c) (stores : Stores server c) where
    -- the end that was read is the server's
    same_end : head ≡ head_of server
    same_end = end_is server c head kept is read own

    -- the server with the changes, and with the commit
    abbrev changed : Server
    changed = with_more (map own_change unit.changes) server

    abbrev longer : Server
    longer = with_more (unit_records unit) server

    -- what the changes made
    has : HasChanges server unit.changes m
    has = puts.has server kept (ap (λ (h : Head). h.last) same_end) stores

    -- the program had nothing in flight
    none : open_changes 0 server.log ≡ []
    none = none_in_flight server.log kept.log.own

    -- the one is the other with the commit
    commit_last : with_more (commit ∷ []) changed ≡ longer
    commit_last = ap (λ (l : List LogRecord). record server { log = l }) (append_assoc server.log (map own_change unit.changes) (commit ∷ []))

    -- where the log with the changes ends
    len : length changed.log ≡ head.last + length unit.changes
    len = own_length server unit.changes ∙ ap (λ (h : Head). h.last + length unit.changes) (sym same_end)

    -- the end of the log with the unit
    longer_end : end ≡ head_of longer
    longer_end =
        (λ i. record { last = sym len i + 1; commit = sym len i + 1; time = unit.head.time })
        ∙ sym (head_goes_on changed commit)
        ∙ ap head_of commit_last

    -- the log gets the commit
    log_whole : d areas.Log 0 ≡ log_table longer
    log_whole =
        ap (λ (x : Contents). x areas.Log 0) ends
        ∙ put_here m areas.Log 0 (b64 seq) (Some (log_spelling commit))
        ∙ (λ i. set_key (has.log i) (b64 (sym len i + 1)) (Some (log_spelling commit)))
        ∙ sym (log_gets_row changed commit (omega (arith, len, room)))
        ∙ ap log_table commit_last

    -- the source is that of the longer log
    source_whole : (n : ℕ) → d areas.Source n ≡ source_table longer n
    source_whole n =
        ap (λ (x : Contents). x areas.Source n) ends
        ∙ has.source n
        ∙ (λ i. option_map_or (λ (t : ServerTable). rows_table (sym (unit_commits t.def server.log unit none) i)) (slice_get server.tables n) no_rows)

    -- what is in flight stays
    flights_whole : d areas.Inflight 0 ≡ in_flight_table longer
    flights_whole =
        ap (λ (x : Contents). x areas.Inflight 0) ends
        ∙ puts.in_flight
        ∙ stores.in_flight
        ∙ same_flights server longer (λ tx. sym (unit_closes server.log unit none tx))

    -- the end is put in the place of the one before
    end_put : d areas.Head 0 ≡ set_key (c areas.Head 0) key (Some (head_spelling (head_of longer)))
    end_put =
        ap (λ (x : Contents). x areas.Head 0) ends
        ∙ put_here logged areas.Head 0 key (Some (head_spelling end))
        ∙ (λ i. set_key (puts.end i) key (Some (head_spelling (longer_end i))))

    -- so it is read
    end_read : EndIs (head_of longer) d
    end_read = sym (ap (or_first head_spelling first_head) (
        ap (λ (t : Table). t key) end_put
        ∙ ap (λ (b : Bool). cond b (Some (head_spelling (head_of longer))) (c areas.Head 0 key)) (same_itself key)))

    -- the tables are those of the log with the unit
    has_unit : HasUnit server unit seq c d
    has_unit = record {
      stores = record {
        log = log_whole;
        source = source_whole;
        in_flight = flights_whole;
        defs = ap (λ (x : Contents). x areas.Defs 0) ends ∙ puts.others areas.Defs 0 refl ∙ stores.defs;
      };
      end = end_read;
      put = end_put;
      last = ap (λ (h : Head). h.last) longer_end;
    }

  -- the unit was appended
  pub unit_appended : AppendsUnit unit seq c d
  unit_appended = record {
    room = omega (arith, room);
    others = λ a n other.
        ap (λ (x : Contents). x a n) ends
        ∙ end_apart logged key (Some (head_spelling end)) a n other
        ∙ ap (λ (b : Bool). cond b (set_key (m areas.Log 0) (b64 seq) (Some (log_spelling commit))) (m a n)) (others_apart a n other).0
        ∙ puts.others a n other;
    stores = has_unit;
  }
