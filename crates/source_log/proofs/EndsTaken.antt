-- What becomes of the end of a transaction that is appended: proofs.
use Rattle.std.proofs.Common.{◌≡◌, ℕ, ◌+◌, ◌<◌, ◌≤◌, Bool, true, false, cond, List, [], ◌∷◌, length, refl, sym, ap, subst, ◌∙◌, Some, ◌&&◌, IsTrue, nat_lt, nat_le, slice_get}
use Rattle.std.specs.List.{AllByRecursion}
use Rattle.std.specs.Option.{option_map_or}
use Rattle.std.proofs.lemmas.Bool.{eq-eqb, lt-ltb, le-leb, lt-leb}
use Rattle.world_store.specs.Words.{IsLogRecord, log_spelling, b64, Head, head_of, no_rows, source_table}
use Rattle.site_store.specs.Words.{Contents, put_at}
use Rattle.repl_model.specs.Words.{Change, LogRecord, TableDef, is_applicable, with_more, log_limit, unplaced, source_at, Rows, after_changes, ends, units, open_changes, last_commit, last_time, ServerTable, Server, tables_of, source_commit}
use Rattle.repl_types.specs.declared.area.Area.TheVariants as areas
use Rattle.repl_types.specs.declared.record.LogRecord.TheVariants as records
use Rattle.stored_commits.specs.records.Applying.{apply_to_each}
use Rattle.stored_commits.specs.records.SourceTables.{RowsStand, rows_table}
use Rattle.source_log.specs.Making.{StepCanBeMade, AreSteps, ApplyAll, SourceStands, all_made}
use Rattle.source_log.specs.Reading.{ArePositions, with_dropped}
use Rattle.source_log.specs.Storing.{IsKept, Stores, MayBeLogged, TakesRecord, IsCommit, outcome_of}
use Rattle.source_log.specs.declared.outcome.Outcome.{Outcome}
use Rattle.source_log.specs.declared.outcome.Outcome.TheVariants as outcomes
use Rattle.source_log.specs.declared.step.Step.{Step}
use Rattle.source_log.proofs.EndsPut.{LeavesOthers, end_others, end_head, end_extends, end_last, end_stores}
use Rattle.source_log.proofs.Extending.{extends_none, all_made_extends}
use Rattle.source_log.proofs.LogEnds.{made_elsewhere}
use Rattle.source_log.proofs.OwnSteps.{steps_are_open, steps_of_server}
use Rattle.source_log.proofs.OwnTables.{tables_apart}
use Rattle.source_log.proofs.Turns.{made_source}
use Rattle.stored_commits.specs.laws.SourceLogs.{abort_leaves, source_stands}

-- ---- records that aren't taken

-- at each server whose log is stored so, this is the outcome of a record
abbrev Told : Head → LogRecord → Contents → Outcome → Type 0
Told head r c outcome = (server : Server) → IsKept server → head ≡ head_of server → Stores server c → outcome ≡ outcome_of server r

-- a record that isn't applicable changes nothing
not_applicable : (head : Head) (r : LogRecord) (c : Contents) → Told head r c outcomes.NotApplicable → TakesRecord head r outcomes.NotApplicable c c
not_applicable head r c told = record { others = λ a n other. refl; end = λ n. refl; extends = λ last. extends_none c; ends = λ last. last; told = told; stores = λ server kept is stores. stores }

-- nor does one for which there is no room
no_room : (head : Head) (r : LogRecord) (c : Contents) → Told head r c outcomes.Full → TakesRecord head r outcomes.Full c c
no_room head r c told = record { others = λ a n other. refl; end = λ n. refl; extends = λ last. extends_none c; ends = λ last. last; told = told; stores = λ server kept is stores. stores }

-- ---- outcomes

-- the outcome of a record that is applicable
abbrev if_room : ℕ → Outcome
if_room last = cond (nat_lt last log_limit) outcomes.Taken outcomes.Full

-- an abort is applicable
abort_outcome : (server : Server) (tx : ℕ) → outcome_of server (records.Abort tx) ≡ if_room (length server.log)
unfolding is_applicable
abort_outcome server tx = refl

-- the rows of the source of a server
abbrev rows_of : Server → TableDef → Rows
rows_of server def = source_at def server.log (last_commit server.log)

-- whether the open changes of a transaction apply
abbrev open_apply : Server → ℕ → Bool
open_apply server tx = apply_to_each (tables_of server) (unplaced (open_changes tx server.log)) (rows_of server)

-- a commit is applicable if its time isn't too early, and the open changes apply
commit_outcome : (server : Server) (tx time : ℕ) (r : LogRecord) → IsCommit tx time r
    → outcome_of server r ≡ cond (nat_le (last_time (units server.log)) time && open_apply server tx) (if_room (length server.log)) outcomes.NotApplicable
unfolding is_applicable
commit_outcome server tx time (records.Change t change) is = absurd is
commit_outcome server tx time (records.Commit t at authid origin) is = λ i. cond (nat_le (last_time (units server.log)) (is.1 i) && open_apply server (is.0 i)) (if_room (length server.log)) outcomes.NotApplicable
commit_outcome server tx time (records.Abort t) is = absurd is

-- ---- commits

-- a commit ends its transaction
commit_ends : (tx time : ℕ) (r : LogRecord) → IsCommit tx time r → IsTrue (ends tx r)
commit_ends tx time (records.Change t change) is = absurd is
commit_ends tx time (records.Commit t at authid origin) is = eq-eqb t tx is.0
commit_ends tx time (records.Abort t) is = absurd is

-- it may stand in every log
commit_may : (tx time : ℕ) (r : LogRecord) (c : Contents) → IsCommit tx time r → MayBeLogged c r
commit_may tx time (records.Change t change) c is = absurd is
commit_may tx time (records.Commit t at authid origin) c is = tt
commit_may tx time (records.Abort t) c is = absurd is

-- and it makes the open changes
commit_rows : (tx time : ℕ) (r : LogRecord) → IsCommit tx time r → (server : Server) (def : TableDef) → rows_of (with_more (r ∷ []) server) def ≡ after_changes def (unplaced (open_changes tx server.log)) (rows_of server def)
commit_rows tx time (records.Change t change) is server def = absurd is
commit_rows tx time (records.Commit t at authid origin) is server def =
    source_commit def t at authid origin server.log ∙ ap (λ (n : ℕ). after_changes def (unplaced (open_changes n server.log)) (rows_of server def)) is.0
commit_rows tx time (records.Abort t) is server def = absurd is

-- the rows of the source of a sound log stand under their keys
pub source_stand : (server : Server) → IsKept server → SourceStands server (rows_of server)
source_stand server kept = each server.tables
  where
    each : (tables : List ServerTable) → AllByRecursion (λ t. RowsStand t.def (rows_of server t.def)) tables
    each [] = tt
    each (t ∷ tables) = (source_stands server t.def kept.log, each tables)

module _ (head : Head) (tx : ℕ) (c : Contents) where
  -- ---- an abort

  -- the log has no room for it
  pub abort_full : nat_lt head.last log_limit ≡ false → TakesRecord head (records.Abort tx) outcomes.Full c c
  abort_full full = no_room head (records.Abort tx) c (λ server kept is stores. sym (abort_outcome server tx ∙ (λ i. if_room (sym is i).last) ∙ ap (λ (b : Bool). cond b outcomes.Taken outcomes.Full) full))

  -- or it is put into the log, and the changes of its transaction are no longer in flight
  pub abort_taken : (positions : List ℕ) (d : Contents) → IsLogRecord (records.Abort tx) → ArePositions tx positions c → head.last < log_limit → d ≡ with_dropped tx positions (put_at c areas.Log 0 (b64 (head.last + 1)) (Some (log_spelling (records.Abort tx)))) → TakesRecord head (records.Abort tx) outcomes.Taken c d
  abort_taken positions d typed found room puts =
      let r = records.Abort tx in
      let same : LeavesOthers c c = λ a n other. refl in
      record {
        others = end_others head tx r positions c c d room same puts;
        end = end_head head tx r positions c c d room same puts;
        extends = end_extends head tx r positions c c d room same puts typed tt (extends_none c);
        ends = end_last head tx r positions c c d room same puts;
        told = λ server kept is stores. sym (abort_outcome server tx ∙ (λ i. if_room (sym is i).last) ∙ ap (λ (b : Bool). cond b outcomes.Taken outcomes.Full) (lt-ltb head.last log_limit room));
        stores = λ server kept is stores. end_stores head tx r positions c c d room same puts found (eq-eqb tx tx refl) server kept is stores (λ n. stores.source n ∙ sym (abort_leaves server tx n));
      }

  -- ---- a commit

  module _ (time : ℕ) (r : LogRecord) (is : IsCommit tx time r) where
    -- its time is before that of the last one
    pub commit_late : time < head.time → TakesRecord head r outcomes.NotApplicable c c
    commit_late late = not_applicable head r c (λ server kept at_end stores. sym (
        commit_outcome server tx time r is
        ∙ ap (λ (b : Bool). cond (b && open_apply server tx) (if_room (length server.log)) outcomes.NotApplicable) (lt-leb (last_time (units server.log)) time (subst (λ (h : Head). time < h.time) at_end late))))

    module _ (positions : List ℕ) (steps : List Step) (found : ArePositions tx positions c) (are : AreSteps tx positions steps c) (in_time : head.time ≤ time) where
      -- its outcome depends on whether its changes apply, if each of them can be made
      steps_tell : (answer : Bool) → AllByRecursion StepCanBeMade steps → ApplyAll steps answer c → (server : Server) → IsKept server → head ≡ head_of server → Stores server c
          → outcome_of server r ≡ cond answer (if_room head.last) outcomes.NotApplicable
      steps_tell answer can applies server kept at_end stores =
          let changes = steps_are_open server kept c stores tx positions steps are can found in
          let apart = tables_apart server kept in
          let of = steps_of_server server kept c stores tx positions steps are in
          let stand = source_stand server kept in
          let same = ap (λ (l : List Change). apply_to_each (tables_of server) l (rows_of server)) (sym changes) in
          let apply : open_apply server tx ≡ answer = same ∙ applies server (rows_of server) apart stand stores.source of in
          let timely : nat_le (last_time (units server.log)) time ≡ true = le-leb (last_time (units server.log)) time (subst (λ (h : Head). h.time ≤ time) at_end in_time) in
          commit_outcome server tx time r is ∙ (λ i. cond (timely i && apply i) (if_room (sym at_end i).last) outcomes.NotApplicable)

      -- one of its changes doesn't apply
      pub commit_fails : AllByRecursion StepCanBeMade steps → ApplyAll steps false c → TakesRecord head r outcomes.NotApplicable c c
      commit_fails can fails = not_applicable head r c (λ server kept at_end stores. sym (steps_tell false can fails server kept at_end stores))

      -- or they do, and the log has no room
      pub commit_full : AllByRecursion StepCanBeMade steps → ApplyAll steps true c → nat_lt head.last log_limit ≡ false → TakesRecord head r outcomes.Full c c
      commit_full can applies full = no_room head r c (λ server kept at_end stores. sym (steps_tell true can applies server kept at_end stores ∙ ap (λ (b : Bool). cond b outcomes.Taken outcomes.Full) full))

      -- the source of the longer log is what the changes make of the source
      source_after : AllByRecursion StepCanBeMade steps → (server : Server) → IsKept server → Stores server c → (n : ℕ) → all_made steps c areas.Source n ≡ source_table (with_more (r ∷ []) server) n
      source_after can server kept stores n =
          let changes = steps_are_open server kept c stores tx positions steps are can found in
          let apart = tables_apart server kept in
          let of = steps_of_server server kept c stores tx positions steps are in
          let stand = source_stand server kept in
          let made = made_source server apart steps (rows_of server) c stand stores.source of can in
          let rows = λ (def : TableDef). ap (λ (l : List Change). after_changes def l (rows_of server def)) changes ∙ sym (commit_rows tx time r is server def) in
          made.0 n ∙ (λ i. option_map_or (λ (t : ServerTable). rows_table (rows t.def i)) (slice_get server.tables n) no_rows)

      -- or they are made, the commit is put into the log, and its changes are no longer in flight
      pub commit_taken : (d : Contents) → AllByRecursion StepCanBeMade steps → IsLogRecord r → ApplyAll steps true c → head.last < log_limit → d ≡ with_dropped tx positions (put_at (all_made steps c) areas.Log 0 (b64 (head.last + 1)) (Some (log_spelling r))) → TakesRecord head r outcomes.Taken c d
      commit_taken d can typed applies room puts =
          let m = all_made steps c in
          let leaves = made_elsewhere steps c in
          record {
            others = end_others head tx r positions c m d room leaves puts;
            end = end_head head tx r positions c m d room leaves puts;
            extends = end_extends head tx r positions c m d room leaves puts typed (commit_may tx time r m is) (all_made_extends steps c can);
            ends = end_last head tx r positions c m d room leaves puts;
            told = λ server kept at_end stores. sym (steps_tell true can applies server kept at_end stores ∙ ap (λ (b : Bool). cond b outcomes.Taken outcomes.Full) (lt-ltb head.last log_limit room));
            stores = λ server kept at_end stores. end_stores head tx r positions c m d room leaves puts found (commit_ends tx time r is) server kept at_end stores
                (source_after can server kept stores);
          }
