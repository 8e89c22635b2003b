-- A table that a server's log never names has no rows.
use Rattle.std.proofs.Common.{◌≡◌, ℕ, Bool, true, false, cond, List, [], ◌∷◌, map, refl, sym, ap, inl, inr, ◌∙◌, bytes_eq}
use Rattle.std.specs.Prelude.{IsTrue, Option, Some, None, IfSome, ◌&&◌, ◌==◌, ◌+◌, nat_lt, nat_le, find, filter, ⊤}
use Rattle.std.specs.List.{AllByRecursion, enumerate_from}
use Rattle.std.specs.Option.{option_map_or}
use Rattle.std.specs.FinMap.{empty, entries}
use Rattle.std.proofs.lemmas.Bool.{and_parts, or_cases}
use Rattle.std.proofs.lemmas.Slice.Eq.{bytes_eq-Decides}
use Rattle.world_store.specs.Words.{SourceRow, source_rows}
use Rattle.repl_model.specs.Words.{Values, all_weaker, all_filter, Change, LogRecord, TableDef, Placed, Unit, Rows, table_of, effect, after_change, after_changes, At, positions, last_end, change_of, changes_up_to, unit_at, units, last_commit, unplaced, after_units, units_up_to, source_at, table_named, change_fits, is_change_applicable, is_signal, is_signal_applicable, record_fits, ServerTable, Server, tables_of, registered_of, server_table, entries_empty, each_given}
use Rattle.repl_types.specs.declared.record.Change.TheVariants.{Insert, Update, Delete, Start, Stop}
use Rattle.repl_types.specs.declared.record.LogRecord.TheVariants as records

-- a change leaves the rows of a table
abbrev Leaves : TableDef → Change → Type 0
Leaves def change = (rows : Rows) → after_change def change rows ≡ rows

-- and so does a record, if it is a change
abbrev RecordLeaves : TableDef → LogRecord → Type 0
RecordLeaves def (records.Change tx change) = Leaves def change
RecordLeaves def (records.Commit tx time authid origin) = ⊤
RecordLeaves def (records.Abort tx) = ⊤

-- a unit whose changes all leave it
abbrev UnitLeaves : TableDef → Unit → Type 0
UnitLeaves def u = AllByRecursion (λ placed. Leaves def placed.change) u.changes

-- ---- records

-- a name that no table has is none of a definition
no_table : (name : List ℕ) (ts : List ServerTable) → find (λ t. bytes_eq name t.def.name) ts ≡ None → table_named name (map (λ t. t.def) ts) ≡ None
no_table name [] e = refl
no_table name (t ∷ ts) e = pick (bytes_eq name t.def.name) (no_table name ts) e
  where
    pick : (b : Bool) → (find (λ t. bytes_eq name t.def.name) ts ≡ None → table_named name (map (λ t. t.def) ts) ≡ None) → cond b (Some t) (find (λ t. bytes_eq name t.def.name) ts) ≡ None → cond b (Some t.def) (table_named name (map (λ t. t.def) ts)) ≡ None
    pick true rest e = absurd cc
    pick false rest e = rest e

-- a start or a stop leaves each table
signal_leaves : (def : TableDef) (change : Change) → is_signal change ≡ true → Leaves def change
unfolding after_change
signal_leaves def (Insert table row) e rows = absurd cc
signal_leaves def (Update table before after) e rows = absurd cc
signal_leaves def (Delete table row) e rows = absurd cc
signal_leaves def (Start table) e rows = either (bytes_eq table def.name)
  where
    either : (b : Bool) → cond b rows rows ≡ rows
    either true = refl
    either false = refl
signal_leaves def (Stop table) e rows = either (bytes_eq table def.name)
  where
    either : (b : Bool) → cond b rows rows ≡ rows
    either true = refl
    either false = refl

-- a change that fits the tables of a server leaves a table that the server doesn't have
change_leaves : (server : Server) (def : TableDef) (change : Change) → server_table def.name server ≡ None → is_change_applicable (tables_of server) change ≡ true → Leaves def change
unfolding after_change
change_leaves server def change none fits rows = pick (bytes_eq (table_of change) def.name) refl
  where
    named : bytes_eq (table_of change) def.name ≡ true → ⊥
    named e = clash (sym fits ∙ ap (λ (o : Option TableDef). option_map_or (λ d. change_fits d change) o false) (ap (λ (name : List ℕ). table_named name (tables_of server)) ((bytes_eq-Decides (table_of change) def.name).0 e) ∙ no_table def.name server.tables none))
      where
        clash : true ≡ false → ⊥
        clash e = cc

    pick : (b : Bool) → bytes_eq (table_of change) def.name ≡ b → cond b (effect def change rows) rows ≡ rows
    pick true e = absurd (named e)
    pick false e = refl

-- a record that fits a server leaves such a table
record_leaves : (server : Server) (def : TableDef) → server_table def.name server ≡ None → (r : LogRecord) → IsTrue (record_fits server r) → RecordLeaves def r
record_leaves server def none (records.Change tx change) fits =
    let regs = map (λ r. r.reg) (registered_of server) in
    elim (or_cases (is_change_applicable (tables_of server) change) (tx == 0 && is_signal_applicable regs change) fits) [
      | inl applicable ↦ change_leaves server def change none applicable
      | inr own ↦ signal_leaves def change (and_parts (is_signal change) _ (and_parts (tx == 0) (is_signal_applicable regs change) own).1).0
    ]
record_leaves server def none (records.Commit tx time authid origin) fits = tt
record_leaves server def none (records.Abort tx) fits = tt

-- ---- units

module _ (def : TableDef) where
  -- the records of a log that leaves it, with their positions
  placed_leave : (b : ℕ) (log : List LogRecord) → AllByRecursion (RecordLeaves def) log → AllByRecursion (λ (r : At). RecordLeaves def r.1) (enumerate_from b log)
  placed_leave b [] all = tt
  placed_leave b (r ∷ log) all = (all.0, placed_leave (b + 1) log all.1)

  -- the change of a record that leaves it
  change_of_leaves : (tx : ℕ) (r : At) → RecordLeaves def r.1 → IfSome (change_of tx r) (λ placed. Leaves def placed.change)
  change_of_leaves tx (pos, records.Change t change) leaves = pick (t == tx)
    where
      pick : (b : Bool) → IfSome (cond b (Some (record { pos = pos; change = change })) None) (λ (placed : Placed). Leaves def placed.change)
      pick true = leaves
      pick false = tt
  change_of_leaves tx (pos, records.Commit t time authid origin) leaves = tt
  change_of_leaves tx (pos, records.Abort t) leaves = tt

  -- the units of a log whose records leave it
  units_leave : (log : List LogRecord) → AllByRecursion (RecordLeaves def) log → AllByRecursion (UnitLeaves def) (units log)
  unfolding units
  units_leave log all = each_given (UnitLeaves def) (unit_at log) (positions log) (all_weaker {X = At} (λ r. RecordLeaves def r.1) (λ r. IfSome (unit_at log r) (UnitLeaves def)) (positions log) one records_leave)
    where
      records_leave : AllByRecursion (λ (r : At). RecordLeaves def r.1) (positions log)
      records_leave = placed_leave 1 log all

      changes : (tx before : ℕ) → AllByRecursion (λ placed. Leaves def placed.change) (changes_up_to tx before log)
      changes tx before =
          let within = λ (r : At). nat_lt (last_end tx before log) r.0 && nat_lt r.0 before in
          each_given (λ placed. Leaves def placed.change) (change_of tx) (filter within (positions log))
          (all_weaker {X = At} (λ r. RecordLeaves def r.1) (λ r. IfSome (change_of tx r) (λ placed. Leaves def placed.change)) (filter within (positions log)) (change_of_leaves tx) (all_filter (λ (r : At). RecordLeaves def r.1) within (positions log) records_leave))

      one : (r : At) → RecordLeaves def r.1 → IfSome (unit_at log r) (UnitLeaves def)
      one (pos, records.Change tx change) leaves = tt
      one (pos, records.Commit tx time authid origin) leaves = changes tx pos
      one (pos, records.Abort tx) leaves = tt

  -- changes that leave it leave its rows
  changes_leave : (placed : List Placed) (rows : Rows) → AllByRecursion (λ p. Leaves def p.change) placed → after_changes def (unplaced placed) rows ≡ rows
  changes_leave [] rows all = refl
  changes_leave (p ∷ ps) rows all = ap (after_changes def (unplaced ps)) (all.0 rows) ∙ changes_leave ps rows all.1

  -- and so do units
  after_leave : (us : List Unit) (rows : Rows) → AllByRecursion (UnitLeaves def) us → after_units def us rows ≡ rows
  after_leave [] rows all = refl
  after_leave (u ∷ us) rows all = ap (after_units def us) (changes_leave u.changes rows all.0) ∙ after_leave us rows all.1

-- a table that a server doesn't have has no rows at the end of its log, if the log's records fit the server
pub no_source_rows : (server : Server) (def : TableDef) → AllByRecursion (λ r. IsTrue (record_fits server r)) server.log → server_table def.name server ≡ None → source_rows server def ≡ []
unfolding source_at
no_source_rows server def fits none =
    let records_leave = all_weaker (λ r. IsTrue (record_fits server r)) (RecordLeaves def) server.log (record_leaves server def none) fits in
    let up_to = units_up_to (last_commit server.log) server.log in
    ap (λ (rows : Rows). map (λ (r : Values × Values). (r.0, source_row r.1)) (entries rows)) (after_leave def up_to empty (all_filter (UnitLeaves def) (λ u. nat_le u.head.seq (last_commit server.log)) (units server.log) (units_leave def server.log records_leave)))
    ∙ ap (map (λ (r : Values × Values). (r.0, source_row r.1))) entries_empty
  where
    source_row : Values → SourceRow
    source_row row = record { row = row }
