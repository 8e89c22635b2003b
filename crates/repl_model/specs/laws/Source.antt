-- How the source grows with its log.
use Rattle.std.proofs.Common.{◌≡◌, ℕ, ◌+◌, ◌≤◌, List, [], ◌∷◌, ◌++◌, length, Option, refl, sym, ap, ◌∙◌}
use Rattle.std.specs.FinMap.{empty}
use Rattle.repl_types.specs.declared.record.Change.{Change}
use Rattle.repl_types.specs.declared.record.SetId.{SetId}
use Rattle.repl_types.specs.declared.record.LogRecord.{LogRecord}
use Rattle.repl_types.specs.declared.record.LogRecord.TheVariants as records
use Rattle.repl_types.specs.declared.table.TableDef.{TableDef}
use Rattle.repl_types.specs.declared.unit.Unit.{Unit}
use Rattle.repl_model.specs.Tables.{Rows, after_changes}
use Rattle.repl_model.specs.Units.{open_changes, unit_of, units, last_commit}
use Rattle.repl_model.specs.SourceAt.{unplaced, after_units, units_up_to, units_between, source_at}
use Rattle.repl_model.specs.laws.Units.{units_change, units_abort, units_commit, units_up_to_last, units_split, units_up_to_stay, units_up_to_zero}

-- units, and then more
pub after_units-append : (def : TableDef) (us vs : List Unit) (rows : Rows) → after_units def (us ++ vs) rows ≡ after_units def vs (after_units def us rows)
after_units-append def [] vs rows = refl
after_units-append def (u ∷ us) vs rows = after_units-append def us vs (after_changes def (unplaced u.changes) rows)

-- at a later point the source has the changes of the units between
pub source_onward : (def : TableDef) (low high : ℕ) (log : List LogRecord) → low ≤ high → source_at def log high ≡ after_units def (units_between low high log) (source_at def log low)
unfolding source_at
source_onward def low high log h = ap (λ (us : List Unit). after_units def us empty) (units_split low high log h) ∙ after_units-append def (units_up_to low log) (units_between low high log) empty

-- at position 0 the source has no rows
pub source_zero : (def : TableDef) (log : List LogRecord) → source_at def log 0 ≡ empty
unfolding source_at
source_zero def log = ap (λ (us : List Unit). after_units def us empty) (units_up_to_zero log)

-- at the last commit the source has the changes of all units
pub source_at_last : (def : TableDef) (log : List LogRecord) → source_at def log (last_commit log) ≡ after_units def (units log) empty
unfolding source_at
source_at_last def log = ap (λ (us : List Unit). after_units def us empty) (units_up_to_last log)

-- logs with the same units have the same source
source_same : (def : TableDef) (log longer : List LogRecord) → units longer ≡ units log → source_at def longer (last_commit longer) ≡ source_at def log (last_commit log)
source_same def log longer e = source_at_last def longer ∙ ap (λ (us : List Unit). after_units def us empty) e ∙ sym (source_at_last def log)

-- a change that isn't committed leaves the source
pub source_change : (def : TableDef) (tx : ℕ) (change : Change) (log : List LogRecord) → source_at def (log ++ records.Change tx change ∷ []) (last_commit (log ++ records.Change tx change ∷ [])) ≡ source_at def log (last_commit log)
source_change def tx change log = source_same def log (log ++ records.Change tx change ∷ []) (units_change tx change log)

-- an abort leaves the source
pub source_abort : (def : TableDef) (tx : ℕ) (log : List LogRecord) → source_at def (log ++ records.Abort tx ∷ []) (last_commit (log ++ records.Abort tx ∷ [])) ≡ source_at def log (last_commit log)
source_abort def tx log = source_same def log (log ++ records.Abort tx ∷ []) (units_abort tx log)

-- a commit makes the changes that its transaction has in flight
pub source_commit : (def : TableDef) (tx time : ℕ) (authid : List ℕ) (origin : Option SetId) (log : List LogRecord) → source_at def (log ++ records.Commit tx time authid origin ∷ []) (last_commit (log ++ records.Commit tx time authid origin ∷ [])) ≡ after_changes def (unplaced (open_changes tx log)) (source_at def log (last_commit log))
source_commit def tx time authid origin log =
    let u = unit_of (length log + 1) time authid origin (open_changes tx log) in
    source_at_last def (log ++ records.Commit tx time authid origin ∷ [])
    ∙ ap (λ (us : List Unit). after_units def us empty) (units_commit tx time authid origin log)
    ∙ after_units-append def (units log) (u ∷ []) empty
    ∙ ap (after_changes def (unplaced (open_changes tx log))) (sym (source_at_last def log))

-- one more record leaves the source at a point of the log
pub source_stays : (def : TableDef) (point : ℕ) (log : List LogRecord) (r : LogRecord) → point ≤ length log → source_at def (log ++ r ∷ []) point ≡ source_at def log point
unfolding source_at
source_stays def point log r h = ap (λ (us : List Unit). after_units def us empty) (units_up_to_stay point log r h)
