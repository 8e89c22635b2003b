-- The rows of a user copy of a source at a point: what they are made of, and that they can be stored.
use Rattle.std.proofs.Common.{◌≡◌, ℕ, List, [], ◌∷◌, length, map, refl, sym, ap, subst, ◌∙◌, arith, nat_le, Some}
use Rattle.std.specs.FinMap.{empty, entries, len-empty, len-entries}
use Rattle.std.specs.List.{AllByRecursion}
use Rattle.world_store.specs.Words.{IsLogRecord, IsKey, IsRow, key_spelling, copy_spelling, IsCopy, CopyRow, table_from_rows, RowFits}
use Rattle.site_store.specs.Words.{Contents, Table, IsUndamaged, IsSpelt, rows_spelt, spelt_undamaged}
use Rattle.repl_model.specs.Words.{Values, key_cmp, Change, LogRecord, TableDef, Placed, all_filter, all_weaker, IsMember, Member, user_copy, SourceTable, is_selected, selected_rows, target_row, LogIsSound, unplaced, after_units, units_up_to, source_at, Rows, after_change, after_changes, units, Server, each_image}
use Rattle.repl_types.specs.declared.area.Area.TheVariants as areas
use Rattle.repl_types.specs.declared.record.LogRecord.TheVariants as records
use Rattle.repl_types.specs.declared.unit.Unit.{Unit as LogUnit}
use Rattle.stored_commits.specs.records.SourceTables.{HasRows, StandsUnderKey, RowsStand}
use Rattle.stored_commits.specs.records.laws.StandingRows.{standing_fit}
use Rattle.stored_commits.specs.laws.LoggedRows.{RecordHas, UnitHas, units_have}
use Rattle.apply_copies.specs.Copying.{selected, copied}
use Rattle.apply_copies.specs.Rules.{target_rules, TargetIsUndamaged}
use Rattle.apply_copies.specs.laws.Values.{target_row_fits}
use Rattle.stored_commits.specs.laws.StoredRows.{change_stands, typed_rows}

-- the rows of a user copy as records are those that are copied
pub copied_are : (source : SourceTable) (member : Member) (point : ℕ) → map {A = Values × Values} {B = Values × CopyRow} (λ r. (r.0, record { row = r.1 })) (user_copy source member point) ≡ copied member (entries (source_at source.def source.log point))
unfolding user_copy
copied_are source member point = again (selected_rows source member point)
  where
    again : (rows : List (Values × Values)) → map {A = Values × Values} {B = Values × CopyRow} (λ r. (r.0, record { row = r.1 })) (map (λ (r : Values × Values). (r.0, target_row member r.1)) rows) ≡ map {A = Values × Values} {B = Values × CopyRow} (λ r. (r.0, record { row = target_row member r.1 })) rows
    again [] = refl
    again (r ∷ rows) = ap (λ (l : List (Values × CopyRow)). (r.0, record { row = target_row member r.1 }) ∷ l) (again rows)

-- ---- the source at a point

-- the changes of a unit are made of rows of values
abbrev HasRowsEach : LogUnit → Type 0
HasRowsEach u = AllByRecursion HasRows (unplaced u.changes)

module _ (log : List LogRecord) (all : AllByRecursion IsLogRecord log) where
  -- a change of a record is
  record_has_rows : (r : LogRecord) → IsLogRecord r → RecordHas HasRows r
  record_has_rows (records.Change tx change) is = typed_rows tx change is
  record_has_rows (records.Commit tx time authid origin) is = tt
  record_has_rows (records.Abort tx) is = tt

  -- so are the changes of the log's units
  units_have_rows : AllByRecursion HasRowsEach (units log)
  units_have_rows = all_weaker (UnitHas HasRows) HasRowsEach (units log) (λ u has. each_image HasRows (λ (p : Placed). p.change) u.changes has) (units_have HasRows log (all_weaker IsLogRecord (RecordHas HasRows) log record_has_rows all))

-- rows stand under their keys after such changes
changes_stand : (def : TableDef) (changes : List Change) (rows : Rows) → AllByRecursion HasRows changes → RowsStand def rows → RowsStand def (after_changes def changes rows)
changes_stand def [] rows all stand = stand
changes_stand def (change ∷ changes) rows all stand = changes_stand def changes (after_change def change rows) all.1 (change_stands def change rows stand all.0)

-- and after such units
units_stand : (def : TableDef) (us : List LogUnit) (rows : Rows) → AllByRecursion HasRowsEach us → RowsStand def rows → RowsStand def (after_units def us rows)
units_stand def [] rows all stand = stand
units_stand def (u ∷ us) rows all stand = units_stand def us (after_changes def (unplaced u.changes) rows) all.1 (changes_stand def (unplaced u.changes) rows all.0 stand)

-- the rows of the source of a sound log stand under their keys at each point
pub rows_stand_at : (server : Server) (def : TableDef) (point : ℕ) → LogIsSound server → RowsStand def (source_at def server.log point)
unfolding source_at
rows_stand_at server def point sound = units_stand def (units_up_to point server.log) empty (all_filter HasRowsEach (λ (u : LogUnit). nat_le u.head.seq point) (units server.log) (units_have_rows server.log sound.typed)) (none_stand (StandsUnderKey def) (entries (empty {X = Values} {R = key_cmp})) (sym (len-entries (empty {X = Values} {R = key_cmp})) ∙ len-empty key_cmp Values))
  where
    none_stand : {X : Type 0} (P : X → Type 0) (xs : List X) → length xs ≡ 0 → AllByRecursion P xs
    none_stand P [] e = tt
    none_stand P (x ∷ xs) e = absurd (omega (arith, e))

-- the rows of a user copy of it can be stored
pub copy_rows_fit : (server : Server) (source : SourceTable) (member : Member) (point : ℕ) → LogIsSound server → source.log ≡ server.log → IsMember member → AllByRecursion (RowFits IsKey IsCopy) (map (λ r. (r.0, record { row = r.1 })) (user_copy source member point))
copy_rows_fit server source member point sound same fits = subst (AllByRecursion (RowFits IsKey IsCopy)) (sym (copied_are source member point)) (each (selected member rows) (all_filter (λ (r : Values × Values). IsKey r.0 × IsRow r.1) (λ (r : Values × Values). is_selected member r.1) rows all))
  where
    rows : List (Values × Values)
    rows = entries (source_at source.def source.log point)

    all : AllByRecursion (λ (r : Values × Values). IsKey r.0 × IsRow r.1) rows
    all = standing_fit source.def (source_at source.def source.log point) (subst (λ (log : List LogRecord). RowsStand source.def (source_at source.def log point)) (sym same) (rows_stand_at server source.def point sound))

    each : (rs : List (Values × Values)) → AllByRecursion (λ (r : Values × Values). IsKey r.0 × IsRow r.1) rs → AllByRecursion (RowFits IsKey IsCopy) (map {A = Values × Values} {B = Values × CopyRow} (λ r. (r.0, record { row = target_row member r.1 })) rs)
    each [] h = tt
    each (r ∷ rs) h = ((h.0.0, target_row_fits r.1 h.0.1.1 member fits), each rs h.1)

-- a target that has rows of a copy, and no others, shows no damage
pub target_undamaged : (number : ℕ) (c : Contents) (rows : List (Values × CopyRow)) → c areas.Target number ≡ table_from_rows key_spelling copy_spelling rows → AllByRecursion (RowFits IsKey IsCopy) rows → IsUndamaged (target_rules number) c
target_undamaged number c rows is fit = spelt_undamaged (target_rules number) (λ a t key d needed. needed, λ a t key value d unfit. unfit) c spelt
  where
    there : (key value : List ℕ) → c areas.Target number key ≡ Some value → (target_rules number).is_key areas.Target number key × (target_rules number).is_value areas.Target number value
    there key value has = rows_spelt (target_rules number) areas.Target number key_spelling copy_spelling rows key value (each rows fit) (ap (λ (u : Table). u key) (sym is) ∙ has)
      where
        each : (rs : List (Values × CopyRow)) → AllByRecursion (RowFits IsKey IsCopy) rs → AllByRecursion (λ (r : Values × CopyRow). (target_rules number).is_key areas.Target number (key_spelling r.0) × (target_rules number).is_value areas.Target number (copy_spelling r.1)) rs
        each [] h = tt
        each (r ∷ rs) h = (((λ a t. (r.0, h.0.0, refl)), (λ a t. (r.1, h.0.1, refl))), each rs h.1)

    spelt : IsSpelt (target_rules number) c
    spelt a t key value has = (
      λ area table. (there key value (sym (λ i. c (area i) (table i) key) ∙ has)).0 refl refl,
      λ area table. (there key value (sym (λ i. c (area i) (table i) key) ∙ has)).1 refl refl,
    )

-- a target that has the rows of a user copy of a sound log's source, and no others, shows no damage
pub copied_undamaged : TargetIsUndamaged
copied_undamaged server source member point number c sound same fits is = target_undamaged number c (map (λ r. (r.0, record { row = r.1 })) (user_copy source member point)) is (copy_rows_fit server source member point sound same fits)
