-- The units of a log stay sound when a user's record follows.
use Rattle.std.proofs.Common.{◌≡◌, ℕ, ◌≤◌, Bool, true, false, cond, ◌&&◌, ◌||◌, not, List, [], ◌∷◌, ◌++◌, length, map, Option, Some, None, refl, sym, ap, subst, ◌∙◌, ◌+◌, IsTrue, ◌==◌, nat_lt, nat_le, filter, fold, is_none}
use Rattle.std.specs.List.{AllByRecursion, flat_map, enumerate_from, list_all, list_any}
use Rattle.std.specs.Option.{IfSome, option_map_or}
use Rattle.std.specs.FinMap.{empty}
use Rattle.std.proofs.lemmas.Bool.{and_parts, and_from, or_right, false≢true, not-true, not_from_false, eqb-true}
use Rattle.std.proofs.lemmas.List.Concat.{flat_map-append}
use Rattle.std.proofs.Math.Path.{fun_ext}
use Rattle.repl_model.specs.Words.{time_limit, all_append, all_weaker, all_filter, Change, LogRecord, TableDef, Placed, Unit, Rows, table_of, applies, after_change, after_changes, all_apply, At, positions, last_end, change_of, open_changes, unit_of, units, last_time, last_commit, unplaced, after_units, source_at, change_fits, table_named, is_change_applicable, is_applicable, is_signal, is_signal_applicable, Server, tables_of, registered_of, record_fits, signals_stand_alone, times_rise, LogIsSound, at_one, at_each, passes_at, each_given, units_abort, units_change, units_commit, source_at_last}
use Rattle.repl_types.specs.declared.record.Change.TheVariants.{Insert, Update, Delete, Start, Stop}
use Rattle.repl_types.specs.declared.record.LogRecord.TheVariants as records
use Rattle.world_commits.specs.logs.LongerLogs.{is_users, IsEarly, CanFollow}

-- ---- units that are sound of a log

-- the changes of all units, in order
abbrev pub all_changes : List Unit → List Change
all_changes us = flat_map (λ u. unplaced u.changes) us

-- What is sound of units, whose changes are of some tables.
pub record UnitsAreSound (tables : List TableDef) (us : List Unit) : Type 0 where
  pub apply : AllByRecursion (λ def. IsTrue (all_apply def (all_changes us) empty)) tables
  pub times : IsTrue (times_rise 0 us)
  pub early : AllByRecursion (λ u. u.head.time ≤ time_limit) us
  pub signals : AllByRecursion (λ u. IsTrue (signals_stand_alone u)) us

-- changes apply one after another, if the first ones do and the others do after them
apply_more : (def : TableDef) (cs ds : List Change) (rows : Rows) → all_apply def cs rows ≡ true → all_apply def ds (after_changes def cs rows) ≡ true → all_apply def (cs ++ ds) rows ≡ true
apply_more def [] ds rows h g = g
apply_more def (c ∷ cs) ds rows h g =
    let both = and_parts (applies def c rows) (all_apply def cs (after_change def c rows)) h in
    and_from (applies def c rows) (all_apply def (cs ++ ds) (after_change def c rows)) both.0 (apply_more def cs ds (after_change def c rows) both.1 g)

-- the rows after changes, and then more
after_more : (def : TableDef) (cs ds : List Change) (rows : Rows) → after_changes def (cs ++ ds) rows ≡ after_changes def ds (after_changes def cs rows)
after_more def [] ds rows = refl
after_more def (c ∷ cs) ds rows = after_more def cs ds (after_change def c rows)

-- the rows after all changes of units are those after the units
after_all : (def : TableDef) (us : List Unit) (rows : Rows) → after_changes def (all_changes us) rows ≡ after_units def us rows
after_all def [] rows = refl
after_all def (u ∷ us) rows = after_more def (unplaced u.changes) (all_changes us) rows ∙ after_all def us (after_changes def (unplaced u.changes) rows)

-- times don't fall, if those of the first units don't, and the last one's isn't below theirs
times_rise_push : (time : ℕ) (us : List Unit) (u : Unit) → times_rise time us ≡ true → nat_le (fold (λ last v. v.head.time) time us) u.head.time ≡ true → times_rise time (us ++ u ∷ []) ≡ true
times_rise_push time [] u h g = and_from (nat_le time u.head.time) true g refl
times_rise_push time (v ∷ us) u h g =
    let both = and_parts (nat_le time v.head.time) (times_rise v.head.time us) h in
    and_from (nat_le time v.head.time) (times_rise v.head.time (us ++ u ∷ [])) both.0 (times_rise_push v.head.time us u both.1 g)

-- one more unit leaves units sound, if its changes apply after theirs, its time isn't below theirs nor past
-- the limit, and its starts and stops stand alone
pub units_push : (tables : List TableDef) (us : List Unit) (u : Unit) → UnitsAreSound tables us
    → list_all (λ def. all_apply def (unplaced u.changes) (after_units def us empty)) tables ≡ true → nat_le (last_time us) u.head.time ≡ true → u.head.time ≤ time_limit → signals_stand_alone u ≡ true
    → UnitsAreSound tables (us ++ u ∷ [])
units_push tables us u h apply time early signals = record {
  apply = at_each (λ def. IsTrue (all_apply def (all_changes (us ++ u ∷ [])) empty)) tables (λ def i. one def
      (at_one (λ (d : TableDef). IsTrue (all_apply d (all_changes us) empty)) tables def h.apply i)
      (passes_at (λ (d : TableDef). all_apply d (unplaced u.changes) (after_units d us empty)) tables def apply i));
  times = times_rise_push 0 us u h.times time;
  early = all_append (λ (v : Unit). v.head.time ≤ time_limit) us (u ∷ []) h.early (early, tt);
  signals = all_append (λ (v : Unit). IsTrue (signals_stand_alone v)) us (u ∷ []) h.signals (signals, tt);
}
  where
    none_after : (cs : List Change) → cs ++ [] ≡ cs
    none_after [] = refl
    none_after (c ∷ cs) = ap (λ (ds : List Change). c ∷ ds) (none_after cs)

    one : (def : TableDef) → all_apply def (all_changes us) empty ≡ true → all_apply def (unplaced u.changes) (after_units def us empty) ≡ true → all_apply def (all_changes (us ++ u ∷ [])) empty ≡ true
    one def before now =
        ap (λ (cs : List Change). all_apply def cs empty) (flat_map-append (λ (v : Unit). unplaced v.changes) us (u ∷ []) ∙ ap (λ (cs : List Change). all_changes us ++ cs) (none_after (unplaced u.changes)))
        ∙ apply_more def (all_changes us) (unplaced u.changes) empty before (ap (all_apply def (unplaced u.changes)) (after_all def us empty) ∙ now)

-- ---- changes of users

-- a change that fits a table is no start or stop
fits_no_signal : (def : TableDef) (change : Change) → change_fits def change ≡ true → is_signal change ≡ false
unfolding change_fits
fits_no_signal def (Insert table row) e = refl
fits_no_signal def (Update table before after) e = refl
fits_no_signal def (Delete table row) e = refl
fits_no_signal def (Start table) e = absurd (false≢true e)
fits_no_signal def (Stop table) e = absurd (false≢true e)

-- an applicable change is no start or stop
applicable_no_signal : (tables : List TableDef) (change : Change) → is_change_applicable tables change ≡ true → is_signal change ≡ false
applicable_no_signal tables change e = by_found (table_named (table_of change) tables) e
  where
    by_found : (o : Option TableDef) → option_map_or (λ def. change_fits def change) o false ≡ true → is_signal change ≡ false
    by_found None e = absurd (false≢true e)
    by_found (Some def) e = fits_no_signal def change e

-- what holds of each record of a log holds of each with its position
each_position : (P : LogRecord → Type 0) (n : ℕ) (log : List LogRecord) → AllByRecursion P log → AllByRecursion (λ (r : At). P r.1) (enumerate_from n log)
each_position P n [] h = tt
each_position P n (r ∷ log) h = (h.0, each_position P (n + 1) log h.1)

-- what a transaction of a user has in flight has no start or stop
open_no_signals : (server : Server) (tx : ℕ) → (tx == 0) ≡ false → AllByRecursion (λ r. IsTrue (record_fits server r)) server.log → AllByRecursion (λ placed. is_signal placed.change ≡ false) (open_changes tx server.log)
open_no_signals server tx users fits =
    let kept = λ (r : At). nat_lt (last_end tx (length server.log + 1) server.log) r.0 && nat_lt r.0 (length server.log + 1) in
    each_given (λ (placed : Placed). is_signal placed.change ≡ false) (change_of tx) (filter kept (positions server.log))
    (all_weaker (λ (r : At). IsTrue (record_fits server r.1)) (λ r. IfSome (change_of tx r) (λ placed. is_signal placed.change ≡ false)) (filter kept (positions server.log)) (λ r fit. one r.0 r.1 fit)
    (all_filter (λ (r : At). IsTrue (record_fits server r.1)) kept (positions server.log) (each_position (λ r. IsTrue (record_fits server r)) 1 server.log fits)))
  where
    its_own : (change : Change) (own : Bool) → own ≡ false → (is_change_applicable (tables_of server) change || (own && is_signal_applicable (map (λ r. r.reg) (registered_of server)) change)) ≡ true → is_signal change ≡ false
    its_own change true e fit = absurd (false≢true (sym e))
    its_own change false e fit = by_applicable (is_change_applicable (tables_of server) change) refl fit
      where
        by_applicable : (b : Bool) → is_change_applicable (tables_of server) change ≡ b → (b || false) ≡ true → is_signal change ≡ false
        by_applicable true e fit = applicable_no_signal (tables_of server) change e
        by_applicable false e fit = absurd (false≢true fit)

    one : (pos : ℕ) (r : LogRecord) → IsTrue (record_fits server r) → IfSome (change_of tx (pos, r)) (λ placed. is_signal placed.change ≡ false)
    one pos (records.Change t change) fit = by_tx (t == tx) refl
      where
        by_tx : (b : Bool) → (t == tx) ≡ b → IfSome (cond b (Some (record { pos = pos; change = change })) None) (λ (placed : Placed). is_signal placed.change ≡ false)
        by_tx true same = its_own change (t == 0) (ap (λ (n : ℕ). n == 0) (eqb-true t tx same) ∙ users) fit
        by_tx false other = tt
    one pos (records.Commit t time authid origin) fit = tt
    one pos (records.Abort t) fit = tt

-- changes without starts and stops have none
no_signal : (placed : List Placed) → AllByRecursion (λ p. is_signal p.change ≡ false) placed → list_any is_signal (unplaced placed) ≡ false
no_signal [] h = refl
no_signal (p ∷ placed) h = ap (λ (b : Bool). b || list_any is_signal (unplaced placed)) h.0 ∙ no_signal placed h.1

-- ---- units of a server

-- the units of a server's log are sound, and stay so when a user's record follows
pub units_stay_sound : (server : Server) (r : LogRecord) → LogIsSound server → CanFollow server r → UnitsAreSound (tables_of server) (units (server.log ++ r ∷ []))
unfolding is_applicable
units_stay_sound server r sound can = by_record r can.users can.early can.applies
  where
    now : UnitsAreSound (tables_of server) (units server.log)
    now = record { apply = sound.apply; times = sound.times; early = sound.early; signals = sound.signals }

    by_record : (r : LogRecord) → IsTrue (is_users r) → IsEarly r → is_applicable (tables_of server) server.log r ≡ true → UnitsAreSound (tables_of server) (units (server.log ++ r ∷ []))
    by_record (records.Change tx change) users early applies = subst (UnitsAreSound (tables_of server)) (sym (units_change tx change server.log)) now
    by_record (records.Commit tx time authid origin) users early applies =
        let us = units server.log in
        let changes = open_changes tx server.log in
        let both = and_parts (nat_le (last_time us) time) (list_all (λ def. all_apply def (unplaced changes) (source_at def server.log (last_commit server.log))) (tables_of server)) applies in
        let none = no_signal changes (open_no_signals server tx (not-true (tx == 0) (and_parts (not (tx == 0)) (is_none origin) users).0) sound.fits) in
        subst (UnitsAreSound (tables_of server)) (sym (units_commit tx time authid origin server.log))
        (units_push (tables_of server) us (unit_of (length server.log + 1) time authid origin changes) now
        (ap (λ (rows : TableDef → Rows). list_all (λ def. all_apply def (unplaced changes) (rows def)) (tables_of server)) (fun_ext (λ def. sym (source_at_last def server.log))) ∙ both.1)
        both.0 early
        (or_right (list_all is_signal (unplaced changes)) (not (list_any is_signal (unplaced changes))) (not_from_false (list_any is_signal (unplaced changes)) none)))
    by_record (records.Abort tx) users early applies = subst (UnitsAreSound (tables_of server)) (sym (units_abort tx server.log)) now
