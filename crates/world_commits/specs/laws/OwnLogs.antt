-- The log of a server, and a world, stay sound with a unit of the program's own.
use Rattle.std.proofs.Common.{◌≡◌, ℕ, ◌+◌, ◌≤◌, Bool, true, false, cond, not, ◌&&◌, ◌||◌, List, [], ◌∷◌, ◌++◌, map, Option, Some, refl, sym, ap, subst, ◌∙◌, arith, inl, inr, IsTrue, ◌==◌, fold, bytes_eq, length-append}
use Rattle.std.specs.List.{AllByRecursion, flat_map, list_all, list_any}
use Rattle.std.specs.FinMap.{empty}
use Rattle.std.proofs.lemmas.Bool.{and_parts, and_from, or_cases, or_left, or_right, false≢true, le-leb}
use Rattle.std.proofs.lemmas.Option.{same_Some}
use Rattle.repl_model.specs.Words.{time_limit, all_append, all_weaker, Change, SetId, LogRecord, TableDef, Unit, Rows, table_of, applies, after_change, all_apply, units, last_time, unplaced, after_units, is_signal, is_change_applicable, is_signal_applicable, Server, World, server_named, tables_of, registered_of, is_own_change, is_own_abort, begins_with_tx, own_units_are_whole, record_fits, LogIsSound, IsSound, with_more, grown, new_units, In, at_one, all_pass_from, each_image, found_in}
use Rattle.repl_types.specs.declared.record.Change.TheVariants.{Insert, Update, Delete, Start, Stop}
use Rattle.repl_types.specs.declared.record.LogRecord.TheVariants as records
use Rattle.row_codec.specs.LogRecords.{IsLogRecord}
use Rattle.world_commits.specs.logs.LongerLogs.{CanCome}
use Rattle.world_commits.specs.logs.OwnUnits.{own_records, MaySignal, MayFollow}
use Rattle.world_commits.specs.logs.laws.Servers.{tables_stay}
use Rattle.world_commits.specs.laws.SoundUnits.{UnitsAreSound, units_push}
use Rattle.world_commits.specs.laws.OwnUnits.{change_records, own_unit, own_commit, own_units, own_changes, own_comes}
use Rattle.world_commits.specs.laws.LogsStaySound.{new_of_named, grows_sound}

-- ---- records

-- whether a record fits a server is as it was when others follow
fits_stays : (more : List LogRecord) (server : Server) (r : LogRecord) → record_fits (with_more more server) r ≡ record_fits server r
fits_stays more server (records.Change tx change) = ap (λ (tables : List TableDef). is_change_applicable tables change || (tx == 0 && is_signal_applicable (map (λ r. r.reg) (registered_of server)) change)) (tables_stay more server)
fits_stays more server (records.Commit tx time authid origin) = refl
fits_stays more server (records.Abort tx) = refl

-- the program's units are whole in one log after another if they are in both
whole_both : (log more : List LogRecord) → own_units_are_whole log ≡ true → own_units_are_whole more ≡ true → own_units_are_whole (log ++ more) ≡ true
whole_both [] more whole others = others
whole_both (r ∷ log) more whole others =
    let both = and_parts (not (is_own_abort r) && (not (is_own_change r) || begins_with_tx 0 log)) (own_units_are_whole log) whole in
    let first = and_parts (not (is_own_abort r)) (not (is_own_change r) || begins_with_tx 0 log) both.0 in
    and_from (not (is_own_abort r) && (not (is_own_change r) || begins_with_tx 0 (log ++ more))) (own_units_are_whole (log ++ more))
    (and_from (not (is_own_abort r)) (not (is_own_change r) || begins_with_tx 0 (log ++ more)) first.0 (next log first.1))
    (whole_both log more both.1 others)
  where
    next : (l : List LogRecord) → (not (is_own_change r) || begins_with_tx 0 l) ≡ true → (not (is_own_change r) || begins_with_tx 0 (l ++ more)) ≡ true
    next [] e = elim (or_cases (not (is_own_change r)) false e) [
      | inl other ↦ or_left (not (is_own_change r)) (begins_with_tx 0 more) other
      | inr never ↦ absurd (false≢true never)
    ]
    next (q ∷ l) e = e

-- a unit of the program is whole: its changes are followed by its commit
own_is_whole : (changes : List Change) (commit : LogRecord) → is_own_change commit ≡ false → is_own_abort commit ≡ false → begins_with_tx 0 (commit ∷ []) ≡ true → own_units_are_whole (change_records changes ++ commit ∷ []) ≡ true
own_is_whole [] commit no_change no_abort own = and_from (not (is_own_abort commit) && (not (is_own_change commit) || false)) true (ap (λ (b : Bool). not b && (not (is_own_change commit) || false)) no_abort ∙ ap (λ (b : Bool). not b || false) no_change) refl
own_is_whole (change ∷ changes) commit no_change no_abort own =
    let rest = change_records changes ++ commit ∷ [] in
    and_from (begins_with_tx 0 rest) (own_units_are_whole rest) (next changes) (own_is_whole changes commit no_change no_abort own)
  where
    next : (cs : List Change) → begins_with_tx 0 (change_records cs ++ commit ∷ []) ≡ true
    next [] = own
    next (c ∷ cs) = refl

-- ---- changes

-- a start or a stop applies to all rows
signal_applies : (def : TableDef) (change : Change) (rows : Rows) → is_signal change ≡ true → applies def change rows ≡ true
unfolding applies
signal_applies def (Insert table row) rows e = absurd (false≢true e)
signal_applies def (Update table before after) rows e = absurd (false≢true e)
signal_applies def (Delete table row) rows e = absurd (false≢true e)
signal_applies def (Start table) rows e = either (bytes_eq table def.name)
  where
    either : (b : Bool) → cond b true true ≡ true
    either true = refl
    either false = refl
signal_applies def (Stop table) rows e = either (bytes_eq table def.name)
  where
    either : (b : Bool) → cond b true true ≡ true
    either true = refl
    either false = refl

-- so do several
signals_apply : (def : TableDef) (changes : List Change) (rows : Rows) → list_all is_signal changes ≡ true → all_apply def changes rows ≡ true
signals_apply def [] rows e = refl
signals_apply def (change ∷ changes) rows e =
    let both = and_parts (is_signal change) (list_all is_signal changes) e in
    and_from (applies def change rows) (all_apply def changes (after_change def change rows)) (signal_applies def change rows both.0) (signals_apply def changes (after_change def change rows) both.1)

-- the time of the last unit is no later than a time may be, if those of all are
last_is_early : (time : ℕ) (us : List Unit) → time ≤ time_limit → AllByRecursion (λ u. u.head.time ≤ time_limit) us → fold (λ last v. v.head.time) time us ≤ time_limit
last_is_early time [] first all = first
last_is_early time (u ∷ us) first all = last_is_early u.head.time us all.0 all.1

-- ---- the log

-- a start or a stop that may stand at a server is a record that does
signal_typed : (server : Server) (change : Change) → MaySignal server change → IsLogRecord (records.Change 0 change)
signal_typed server (Insert table row) may = absurd (false≢true may.registered)
signal_typed server (Update table before after) may = absurd (false≢true may.registered)
signal_typed server (Delete table row) may = absurd (false≢true may.registered)
signal_typed server (Start table) may = (omega arith, may.named)
signal_typed server (Stop table) may = (omega arith, may.named)

-- the log of a server stays sound with a unit of the program's own that may follow there
pub log_with_own : (server : Server) (changes : List Change) (authid : List ℕ) (origin : Option SetId) → LogIsSound server → MayFollow server changes authid origin → LogIsSound (with_more (own_records changes authid origin server.log) server)
log_with_own server changes authid origin sound may = record {
  short = omega (arith, length-append server.log more, may.room);
  typed = all_append IsLogRecord server.log more sound.typed
      (all_append IsLogRecord (change_records changes) (commit ∷ [])
      (each_image IsLogRecord (λ change. records.Change 0 change) changes (all_weaker (MaySignal server) (λ change. IsLogRecord (records.Change 0 change)) changes (signal_typed server) may.each))
      ((omega arith, omega (arith, in_time), may.spelled.0, may.spelled.1), tt));
  fits = all_append (λ (r : LogRecord). IsTrue (record_fits (with_more more server) r)) server.log more
      (all_weaker (λ (r : LogRecord). IsTrue (record_fits server r)) (λ r. IsTrue (record_fits (with_more more server) r)) server.log (λ r e. fits_stays more server r ∙ e) sound.fits)
      (all_append (λ (r : LogRecord). IsTrue (record_fits (with_more more server) r)) (change_records changes) (commit ∷ [])
      (each_image (λ (r : LogRecord). IsTrue (record_fits (with_more more server) r)) (λ change. records.Change 0 change) changes
      (all_weaker (MaySignal server) (λ change. IsTrue (record_fits (with_more more server) (records.Change 0 change))) changes
      (λ change m. or_right (is_change_applicable (tables_of (with_more more server)) change) (is_signal_applicable (map (λ r. r.reg) (registered_of server)) change) m.registered) may.each))
      (refl, tt));
  apply = subst (AllByRecursion (λ (def : TableDef). IsTrue (all_apply def (flat_map (λ u. unplaced u.changes) (units (server.log ++ more))) empty))) (sym (tables_stay more server)) now.apply;
  times = now.times;
  early = now.early;
  own = whole_both server.log more sound.own (own_is_whole changes commit refl refl refl);
  signals = now.signals;
}
  where
    more : List LogRecord
    more = own_records changes authid origin server.log

    commit : LogRecord
    commit = own_commit changes authid origin server.log

    u : Unit
    u = own_unit changes authid origin server.log

    in_time : last_time (units server.log) ≤ time_limit
    in_time = last_is_early 0 (units server.log) (omega arith) sound.early

    changes_are : unplaced u.changes ≡ changes
    changes_are = own_changes changes authid origin server.log sound.own

    all_signals : list_all is_signal (unplaced u.changes) ≡ true
    all_signals = ap (list_all is_signal) changes_are ∙ each_signal changes may.each
      where
        each_signal : (cs : List Change) → AllByRecursion (MaySignal server) cs → list_all is_signal cs ≡ true
        each_signal [] all = refl
        each_signal (c ∷ cs) all = and_from (is_signal c) (list_all is_signal cs) (and_parts (is_signal c) (list_any (λ reg. bytes_eq (table_of c) reg.table) (map (λ r. r.reg) (registered_of server))) all.0.registered).0 (each_signal cs all.1)

    now : UnitsAreSound (tables_of server) (units (server.log ++ more))
    now = subst (UnitsAreSound (tables_of server)) (sym (own_units changes authid origin server.log))
        (units_push (tables_of server) (units server.log) u (record { apply = sound.apply; times = sound.times; early = sound.early; signals = sound.signals })
        (all_pass_from (λ def. all_apply def (unplaced u.changes) (after_units def (units server.log) empty)) (tables_of server) (λ def i. signals_apply def (unplaced u.changes) (after_units def (units server.log) empty) all_signals))
        (le-leb (last_time (units server.log)) u.head.time (omega arith))
        in_time
        (or_left (list_all is_signal (unplaced u.changes)) (not (list_any is_signal (unplaced u.changes))) all_signals))

-- ---- a world

-- A world stays sound when a unit of the program's own that may follow at the server of this name does, if it can come
-- there without a step of a replica set.
pub own_grows_sound : (name : List ℕ) (changes : List Change) (authid : List ℕ) (origin : Option SetId) (world : World) (server : Server) → IsSound world → server_named name world ≡ Some server
    → MayFollow server changes authid origin → CanCome world server (own_unit changes authid origin server.log ∷ [])
    → IsSound (grown name (own_records changes authid origin server.log) world)
own_grows_sound name changes authid origin world server sound named may come = grows_sound name more world sound
    (λ s e. subst (λ (a : Server). LogIsSound (with_more more a)) (is_server s e) (log_with_own server changes authid origin (at_one LogIsSound world server sound.logs found.0) may))
    (λ s e. subst (λ (a : Server). CanCome world a (new_units name more a)) (is_server s e) (subst (CanCome world server) (sym (new_of_named name more server found.1 ∙ own_comes changes authid origin server.log)) come))
  where
    more : List LogRecord
    more = own_records changes authid origin server.log

    found : In server world × (bytes_eq name server.name ≡ true)
    found = found_in (λ (a : Server). bytes_eq name a.name) world server named

    is_server : (s : Server) → server_named name world ≡ Some s → server ≡ s
    is_server s e = same_Some server s (sym named ∙ e)
