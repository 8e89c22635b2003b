-- The steps that are read of a transaction are its open changes, at the tables of the server: proofs.
use Rattle.std.proofs.Common.{◌≡◌, ℕ, ◌+◌, Bool, true, false, cond, List, [], ◌∷◌, length, map, refl, sym, ap, subst, ◌∙◌, Some, None, ◌==◌, ◌&&◌, nat_lt, filter, eqb-true}
use Rattle.std.specs.List.{AllByRecursion, filter_map, cons_option, enumerate_from}
use Rattle.world_store.specs.Words.{IsLogRecord, log_spelling, Is32, IsName, b64, one_whole, one_log_record, in_flight_rows}
use Rattle.site_store.specs.Words.{Contents, Table}
use Rattle.repl_model.specs.Words.{Change, LogRecord, Placed, all_filter, IsDefinedTable, DefinedTable, table_of, At, last_end, change_of, open_changes, unplaced, Server, same_name}
use Rattle.repl_types.specs.declared.record.Change.TheVariants.{Insert, Update, Delete, Start, Stop}
use Rattle.repl_types.specs.declared.record.LogRecord.TheVariants as records
use Rattle.repl_model.specs.Units.{positions as places}
use Rattle.stored_commits.specs.records.LongerTables.{log_table}
use Rattle.source_log.specs.Fitting.{CanBeMade}
use Rattle.source_log.specs.Making.{StepCanBeMade, AreSteps, IsOfServer, changes_of}
use Rattle.source_log.specs.Reading.{ArePositions}
use Rattle.source_log.specs.Rules.{IsInFlight}
use Rattle.source_log.specs.Storing.{IsKept, Stores}
use Rattle.source_log.specs.declared.step.Step.{Step}
use Rattle.source_log.proofs.MayStand.{parts_of}
use Rattle.source_log.proofs.OwnTables.{own_table}
use Rattle.stored_commits.specs.laws.InFlightRows.{in_flight_stand, open_positions}
use Rattle.stored_commits.specs.laws.LoggedChanges.{open_stored}
use Rattle.source_log.specs.laws.Whole.{same_value}

-- ---- records in their ranges

-- the records of a log with their positions are in their ranges
placed_typed : (n : ℕ) (log : List LogRecord) → AllByRecursion IsLogRecord log → AllByRecursion (λ (q : At). IsLogRecord q.1) (enumerate_from n log)
placed_typed n [] all = tt
placed_typed n (r ∷ log) all = (all.0, placed_typed (n + 1) log all.1)

-- the record of a transaction's change is in its ranges
abbrev IsTyped : ℕ → Placed → Type 0
IsTyped tx placed = IsLogRecord (records.Change tx placed.change)

-- among such records, so are the changes of a transaction
changes_typed : (tx : ℕ) (qs : List At) → AllByRecursion (λ (q : At). IsLogRecord q.1) qs → AllByRecursion (IsTyped tx) (filter_map (change_of tx) qs)
changes_typed tx [] all = tt
changes_typed tx ((pos, records.Change t change) ∷ qs) all = pick (t == tx) refl (changes_typed tx qs all.1)
  where
    pick : (b : Bool) → (t == tx) ≡ b → AllByRecursion (IsTyped tx) (filter_map (change_of tx) qs)
        → AllByRecursion (IsTyped tx) (cons_option (cond b (Some (record { pos = pos; change = change })) None) (filter_map (change_of tx) qs))
    pick true e rest = (subst (λ (n : ℕ). IsLogRecord (records.Change n change)) (eqb-true t tx e) all.0, rest)
    pick false e rest = rest
changes_typed tx ((pos, records.Commit t time authid origin) ∷ qs) all = changes_typed tx qs all.1
changes_typed tx ((pos, records.Abort t) ∷ qs) all = changes_typed tx qs all.1

-- so are the open changes of a log
open_typed : (tx : ℕ) (log : List LogRecord) → AllByRecursion IsLogRecord log → AllByRecursion (IsTyped tx) (open_changes tx log)
open_typed tx log all =
    let before = length log + 1 in
    let p : At → Bool = λ r. nat_lt (last_end tx before log) r.0 && nat_lt r.0 before in
    changes_typed tx (filter p (places log)) (all_filter (λ (q : At). IsLogRecord q.1) p (places log) (placed_typed 1 log all))

-- and so is the record of a change that can be made at a stored table
made_typed : (tx : ℕ) (table : DefinedTable) (change : Change) → Is32 tx → IsDefinedTable table → CanBeMade table.def change → IsLogRecord (records.Change tx change)
made_typed tx table change ft fits can = by_kind change (subst IsName (sym (same_name (table_of change) table.def.name (parts_of table.def change can.stands).own)) fits.1.0) can
  where
    by_kind : (change : Change) → IsName (table_of change) → CanBeMade table.def change → IsLogRecord (records.Change tx change)
    by_kind (Insert name row) named can = (ft, named, can.rows)
    by_kind (Update name before after) named can = (ft, named, can.rows.0, can.rows.1)
    by_kind (Delete name row) named can = (ft, named, can.rows)
    by_kind (Start name) named can = (ft, named)
    by_kind (Stop name) named can = (ft, named)

-- equal records are of equal changes
change_is : (t u : ℕ) (a b : Change) → records.Change t a ≡ records.Change u b → a ≡ b
change_is t u a b e = cc

-- ---- the steps

-- the log has the change at its position
abbrev IsStored : Server → ℕ → Placed → Type 0
IsStored server tx placed = log_table server (b64 placed.pos) ≡ Some (log_spelling (records.Change tx placed.change))

module _ (server : Server) (kept : IsKept server) (c : Contents) (stores : Stores server c) (tx : ℕ) where
  -- steps at the positions of changes are the changes
  same_changes : (changes : List Placed) (steps : List Step) → AllByRecursion (IsInFlight tx c) (map (λ placed. placed.pos) changes) → AreSteps tx (map (λ placed. placed.pos) changes) steps c
      → AllByRecursion StepCanBeMade steps → AllByRecursion (IsStored server tx) changes → AllByRecursion (IsTyped tx) changes → changes_of steps ≡ unplaced changes
  same_changes [] [] flights are can stored typed = refl
  same_changes [] (s ∷ steps) flights are can stored typed = absurd are
  same_changes (p ∷ changes) [] flights are can stored typed = absurd are
  same_changes (p ∷ changes) (s ∷ steps) flights are can stored typed =
      let alike : log_spelling (records.Change tx s.change) ≡ log_spelling (records.Change tx p.change) = same_value (sym are.0.logged ∙ ap (λ (t : Table). t (b64 p.pos)) stores.log ∙ stored.0) in
      let fit : IsLogRecord (records.Change tx s.change) = made_typed tx s.table s.change flights.0.fits.0 are.0.has.fits can.0 in
      let one : s.change ≡ p.change = change_is tx tx s.change p.change (one_whole IsLogRecord log_spelling one_log_record (records.Change tx s.change) (records.Change tx p.change) fit typed.0 alike) in
      let others : changes_of steps ≡ unplaced changes = same_changes changes steps flights.1 are.1 can.1 stored.1 typed.1 in
      (λ i. one i ∷ others i)

  -- the table of each is the server's
  of_server : (positions : List ℕ) (steps : List Step) → AreSteps tx positions steps c → AllByRecursion (IsOfServer server) steps
  of_server [] [] are = tt
  of_server [] (s ∷ steps) are = absurd are
  of_server (p ∷ positions) [] are = absurd are
  of_server (p ∷ positions) (s ∷ steps) are =
      let t = own_table server c (table_of s.change) s.table kept stores are.0.has.stands are.0.has.fits in
      (record { table = t.own; at_number = t.at_number; def = t.def; named = t.named }, of_server positions steps are.1)

module _ (server : Server) (kept : IsKept server) (c : Contents) (stores : Stores server c) (tx : ℕ) (positions : List ℕ) (steps : List Step) (are : AreSteps tx positions steps c) where
  -- if each can be made, they are the open changes, in order
  pub steps_are_open : AllByRecursion StepCanBeMade steps → ArePositions tx positions c
      → changes_of steps ≡ unplaced (open_changes tx server.log)
  steps_are_open can found =
      let at : positions ≡ map (λ placed. placed.pos) (open_changes tx server.log) = found.all (in_flight_rows server) (in_flight_stand server kept.log) stores.in_flight ∙ open_positions server tx in
      let flights = subst (AllByRecursion (IsInFlight tx c)) at found.stand in
      let at_them = subst (λ (l : List ℕ). AreSteps tx l steps c) at are in
      same_changes server kept c stores tx (open_changes tx server.log) steps flights at_them can (open_stored server tx kept.log.short) (open_typed tx server.log kept.log.typed)

  -- each at its own table
  pub steps_of_server : AllByRecursion (IsOfServer server) steps
  steps_of_server = of_server server kept c stores tx positions steps are
