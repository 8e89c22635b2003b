-- Logs made longer by further records: what stays at a point.
use Rattle.std.proofs.Common.{◌≡◌, ℕ, ◌+◌, ◌≤◌, ◌<◌, Bool, false, ◌&&◌, List, [], ◌∷◌, ◌++◌, length, Option, Some, None, refl, sym, ap, ◌∙◌, arith, append-nil, append_assoc, nat_lt, nat_le, find, length-append}
use Rattle.std.specs.Option.{option_map_or, option_or}
use Rattle.std.proofs.lemmas.Bool.{and_left, cond-false, lt-leb}
use Rattle.std.proofs.lemmas.List.Folds.{find-append}
use Rattle.std.proofs.Math.Path.{fun_ext}
use Rattle.repl_types.specs.declared.record.LogRecord.{LogRecord}
use Rattle.repl_types.specs.declared.record.LogRecord.TheVariants as records
use Rattle.repl_types.specs.declared.table.TableDef.{TableDef}
use Rattle.repl_types.specs.declared.change_row.Registration.{Registration}
use Rattle.repl_model.specs.Units.{At, positions, last_end, last_time}
use Rattle.repl_model.specs.SourceAt.{units_up_to, units_between, source_at, time_at}
use Rattle.repl_model.specs.ChangeRows.{changes_between}
use Rattle.repl_model.specs.World.{is_open_at, restart_after}
use Rattle.repl_model.specs.laws.Units.{positions_push, last_end_stays, units_up_to_stay, units_between_stay, changes_stay}
use Rattle.repl_model.specs.laws.Source.{source_stays}

-- what one more record leaves at a point of the log, further records leave
by_records : {X : Type 0} (f : List LogRecord → X) (point : ℕ) → ((log : List LogRecord) (r : LogRecord) → point ≤ length log → f (log ++ r ∷ []) ≡ f log) → (log more : List LogRecord) → point ≤ length log → f (log ++ more) ≡ f log
by_records f point step log [] h = ap f (append-nil log)
by_records f point step log (r ∷ more) h =
    ap f (sym (append_assoc log (r ∷ []) more))
    ∙ by_records f point step (log ++ r ∷ []) more (omega (arith, length-append log (r ∷ [])))
    ∙ step log r h

-- ---- units and rows

-- further records leave the units up to a point of the log
pub units_up_to_stay_longer : (log more : List LogRecord) (point : ℕ) → point ≤ length log → units_up_to point (log ++ more) ≡ units_up_to point log
units_up_to_stay_longer log more point h = by_records (units_up_to point) point (units_up_to_stay point) log more h

-- further records leave the units between points of the log
pub units_between_stay_longer : (log more : List LogRecord) (low high : ℕ) → high ≤ length log → units_between low high (log ++ more) ≡ units_between low high log
units_between_stay_longer log more low high h = by_records (units_between low high) high (units_between_stay low high) log more h

-- further records leave the rows of a table at a point of the log
pub source_stays_longer : (def : TableDef) (log more : List LogRecord) (point : ℕ) → point ≤ length log → source_at def (log ++ more) point ≡ source_at def log point
source_stays_longer def log more point h = by_records (λ l. source_at def l point) point (source_stays def point) log more h

-- further records leave the time at a point of the log
pub time_stays_longer : (log more : List LogRecord) (point : ℕ) → point ≤ length log → time_at (log ++ more) point ≡ time_at log point
unfolding time_at
time_stays_longer log more point h = ap last_time (units_up_to_stay_longer log more point h)

-- further records leave the change rows up to a point of the log
pub changes_stay_longer : (log more : List LogRecord) (reg : Registration) (low high : ℕ) → high ≤ length log → changes_between (log ++ more) reg low high ≡ changes_between log reg low high
changes_stay_longer log more reg low high h = by_records (λ l. changes_between l reg low high) high (λ l r. changes_stay l reg low high r) log more h

-- ---- where a capture begins

-- one more record leaves what is open at a point
open_stays : (log : List LogRecord) (r : LogRecord) (point : ℕ) → point ≤ length log → (p : At) → is_open_at (log ++ r ∷ []) point p ≡ is_open_at log point p
open_stays log r point h (pos, records.Change tx change) = ap (λ (low : ℕ). nat_le pos point && nat_lt low pos) (last_end_stays tx (point + 1) log r (omega arith))
open_stays log r point h (pos, records.Commit tx time authid origin) = refl
open_stays log r point h (pos, records.Abort tx) = refl

-- no record past a point is open there
open_within : (log : List LogRecord) (point pos : ℕ) (r : LogRecord) → point < pos → is_open_at log point (pos, r) ≡ false
open_within log point pos (records.Change tx change) h = and_left (nat_le pos point) (nat_lt (last_end tx (point + 1) log) pos) (lt-leb pos point h)
open_within log point pos (records.Commit tx time authid origin) h = refl
open_within log point pos (records.Abort tx) h = refl

-- one more record leaves where a capture after a point begins
restart_stays : (point : ℕ) (log : List LogRecord) (r : LogRecord) → point ≤ length log → restart_after (log ++ r ∷ []) point ≡ restart_after log point
unfolding restart_after
restart_stays point log r h = ap (λ (found : Option At). option_map_or (λ p. p.0) found (point + 1)) (
    ap (λ (test : At → Bool). find test (positions (log ++ r ∷ []))) (fun_ext (open_stays log r point h))
    ∙ ap (find (is_open_at log point)) (positions_push log r)
    ∙ find-append (is_open_at log point) (positions log) ((length log + 1, r) ∷ [])
    ∙ ap (option_or (find (is_open_at log point) (positions log))) (cond-false _ _ _ (open_within log point (length log + 1) r (omega arith)))
    ∙ or_none (find (is_open_at log point) (positions log)))
  where
    or_none : (o : Option At) → option_or o None ≡ o
    or_none None = refl
    or_none (Some p) = refl

-- further records leave where a capture after a point begins
pub restart_stays_longer : (log more : List LogRecord) (point : ℕ) → point ≤ length log → restart_after (log ++ more) point ≡ restart_after log point
restart_stays_longer log more point h = by_records (λ l. restart_after l point) point (restart_stays point) log more h
