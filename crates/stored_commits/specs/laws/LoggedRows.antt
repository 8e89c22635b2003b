-- What holds of each change of a log holds of those of its units and of those in flight, and what such changes
-- keep of rows holds of the source.
use Rattle.std.proofs.Common.{ℕ, ◌+◌, Bool, true, false, cond, ◌&&◌, List, [], ◌∷◌, length, Some, None}
use Rattle.std.specs.Prelude.{◌==◌, nat_lt, filter, IfSome, ⊤}
use Rattle.std.specs.List.{AllByRecursion, enumerate_from}
use Rattle.repl_model.specs.Words.{all_weaker, all_filter, Change, LogRecord, TableDef, Placed, Unit, each_given, each_image, Rows, after_change, after_changes, At, positions, last_end, change_of, changes_up_to, open_changes, unit_at, units, unplaced, after_units}
use Rattle.repl_types.specs.declared.record.LogRecord.TheVariants as records

module _ (P : Change → Type 0) where
  -- it holds of a record's change, if the record is one
  abbrev pub RecordHas : LogRecord → Type 0
  RecordHas (records.Change tx change) = P change
  RecordHas (records.Commit tx time authid origin) = ⊤
  RecordHas (records.Abort tx) = ⊤

  -- it holds of each change of a unit
  abbrev pub UnitHas : Unit → Type 0
  UnitHas u = AllByRecursion (λ placed. P placed.change) u.changes

  -- the records of a log with their positions
  placed_have : (b : ℕ) (log : List LogRecord) → AllByRecursion RecordHas log → AllByRecursion (λ (q : At). RecordHas q.1) (enumerate_from b log)
  placed_have b [] all = tt
  placed_have b (r ∷ log) all = (all.0, placed_have (b + 1) log all.1)

  -- a transaction's change that a record is
  change_has : (tx pos : ℕ) (r : LogRecord) → RecordHas r → IfSome (change_of tx (pos, r)) (λ placed. P placed.change)
  change_has tx pos (records.Change t change) has = pick (t == tx)
    where
      pick : (b : Bool) → IfSome (cond b (Some (record { pos = pos; change = change })) None) (λ (placed : Placed). P placed.change)
      pick true = has
      pick false = tt
  change_has tx pos (records.Commit t time authid origin) has = tt
  change_has tx pos (records.Abort t) has = tt

  -- the changes of a transaction up to a position
  pub up_to_have : (log : List LogRecord) → AllByRecursion RecordHas log → (tx before : ℕ) → AllByRecursion (λ placed. P placed.change) (changes_up_to tx before log)
  up_to_have log all tx before =
      let within = λ (q : At). nat_lt (last_end tx before log) q.0 && nat_lt q.0 before in
      each_given (λ placed. P placed.change) (change_of tx) (filter within (positions log))
      (all_weaker {X = At} (λ q. RecordHas q.1) (λ q. IfSome (change_of tx q) (λ placed. P placed.change)) (filter within (positions log)) (λ q has. change_has tx q.0 q.1 has) (all_filter (λ (q : At). RecordHas q.1) within (positions log) (placed_have 1 log all)))

  -- those in flight
  pub open_have : (log : List LogRecord) → AllByRecursion RecordHas log → (tx : ℕ) → AllByRecursion P (unplaced (open_changes tx log))
  open_have log all tx = each_image P (λ placed. placed.change) (open_changes tx log) (up_to_have log all tx (length log + 1))

  -- those of the units
  pub units_have : (log : List LogRecord) → AllByRecursion RecordHas log → AllByRecursion UnitHas (units log)
  unfolding units
  units_have log all = each_given UnitHas (unit_at log) (positions log) (all_weaker {X = At} (λ q. RecordHas q.1) (λ q. IfSome (unit_at log q) UnitHas) (positions log) (λ q has. one q.0 q.1) (placed_have 1 log all))
    where
      one : (pos : ℕ) (r : LogRecord) → IfSome (unit_at log (pos, r)) UnitHas
      one pos (records.Change tx change) = tt
      one pos (records.Commit tx time authid origin) = up_to_have log all tx pos
      one pos (records.Abort tx) = tt

  -- ---- rows

  module _ (def : TableDef) (Q : Rows → Type 0) (keeps : (change : Change) (rows : Rows) → P change → Q rows → Q (after_change def change rows)) where
    -- what each change keeps, changes keep
    changes_keep : (placed : List Placed) (rows : Rows) → AllByRecursion (λ p. P p.change) placed → Q rows → Q (after_changes def (unplaced placed) rows)
    changes_keep [] rows all q = q
    changes_keep (p ∷ ps) rows all q = changes_keep ps (after_change def p.change rows) all.1 (keeps p.change rows all.0 q)

    -- and so do units
    pub units_keep : (us : List Unit) (rows : Rows) → AllByRecursion UnitHas us → Q rows → Q (after_units def us rows)
    units_keep [] rows all q = q
    units_keep (u ∷ us) rows all q = units_keep us (after_changes def (unplaced u.changes) rows) all.1 (changes_keep u.changes rows all.0 q)
