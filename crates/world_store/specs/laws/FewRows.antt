-- What a log leaves of a source, and what a set takes of it, can be counted.
use Rattle.std.proofs.Common.{ℕ, ◌+◌, ◌-◌, ◌*◌, ◌≤◌, Bool, true, false, cond, List, [], ◌∷◌, length, filter, sym, subst, arith, length-append, ◌&&◌, nat_le, nat_lt, flat_map, bytes_eq}
use Rattle.std.specs.FinMap.{empty, entries, insert, remove, contains_key, len, len-empty, len-entries, len-insert, len-remove}
use Rattle.repl_model.specs.Words.{Values, key_cmp, key_cmp_total, CdRow, Registration, Change, LogRecord, TableDef, Placed, Member, shows_nothing, rows_of, rows_of_placed, change_rows, changes_between, SourceTable, is_selected, selected_rows, unplaced, after_units, units_up_to, units_between, source_at, Rows, key_of, table_of, effect, after_change, after_changes, units}
use Rattle.repl_types.specs.declared.record.Change.TheVariants.{Insert, Update, Delete, Start, Stop}
use Rattle.repl_types.specs.declared.unit.Unit.{Unit as LogUnit}
use Rattle.world_store.specs.laws.FewChanges.{total_changes, changes_few}

-- ---- lists

-- a filter keeps no more than there are
pub filter_few : {X : Type 0} (p : X → Bool) (xs : List X) → length (filter p xs) ≤ length xs
filter_few p [] = omega arith
filter_few {X} p (x ∷ xs) = pick (p x) (filter_few p xs)
  where
    pick : (b : Bool) → length (filter p xs) ≤ length xs → length (cond b (x ∷ filter p xs) (filter p xs)) ≤ length (x ∷ xs)
    pick true le = omega (arith, le)
    pick false le = omega (arith, le)

-- units that a filter keeps have no more changes
kept_changes : (p : LogUnit → Bool) (us : List LogUnit) → total_changes (filter p us) ≤ total_changes us
kept_changes p [] = omega arith
kept_changes p (u ∷ us) = pick (p u) (kept_changes p us)
  where
    pick : (b : Bool) → total_changes (filter p us) ≤ total_changes us → total_changes (cond b (u ∷ filter p us) (filter p us)) ≤ total_changes (u ∷ us)
    pick true le = omega (arith, le)
    pick false le = omega (arith, le)

-- ---- rows of a source

-- one more, or not
pub at_most_more : (b : Bool) (n : ℕ) → cond b n (n + 1) ≤ n + 1
at_most_more true n = omega arith
at_most_more false n = omega arith

-- one less, or not
pub no_more : (b : Bool) (n : ℕ) → cond b (n - 1) n ≤ n
no_more true n = omega arith
no_more false n = omega arith

-- a row that is put is one more at most
pub insert_adds : (rows : Rows) (key row : Values) → len (insert rows key row) ≤ len rows + 1
insert_adds rows key row = subst (λ (n : ℕ). n ≤ len rows + 1) (sym (len-insert key_cmp_total rows key row)) (at_most_more (contains_key rows key) (len rows))

-- a removal adds none
pub remove_adds : (rows : Rows) (key : Values) → len (remove rows key) ≤ len rows
remove_adds rows key = subst (λ (n : ℕ). n ≤ len rows) (sym (len-remove key_cmp_total rows key)) (no_more (contains_key rows key) (len rows))

-- a change of the table adds one row at most
pub effect_adds : (def : TableDef) (change : Change) (rows : Rows) → len (effect def change rows) ≤ len rows + 1
effect_adds def (Insert table row) rows = insert_adds rows (key_of def row) row
effect_adds def (Update table before after) rows = omega (arith, insert_adds (remove rows (key_of def before)) (key_of def after) after, remove_adds rows (key_of def before))
effect_adds def (Delete table row) rows = omega (arith, remove_adds rows (key_of def row))
effect_adds def (Start table) rows = omega arith
effect_adds def (Stop table) rows = omega arith

-- so does any change
pub change_adds : (def : TableDef) (change : Change) (rows : Rows) → len (after_change def change rows) ≤ len rows + 1
unfolding after_change
change_adds def change rows = pick (bytes_eq (table_of change) def.name)
  where
    pick : (b : Bool) → len (cond b (effect def change rows) rows) ≤ len rows + 1
    pick true = effect_adds def change rows
    pick false = omega arith

-- changes add no more rows than they are
pub changes_add : (def : TableDef) (placed : List Placed) (rows : Rows) → len (after_changes def (unplaced placed) rows) ≤ len rows + length placed
changes_add def [] rows = omega arith
changes_add def (p ∷ ps) rows = omega (arith, changes_add def ps (after_change def p.change rows), change_adds def p.change rows)

-- nor do those of units
units_add : (def : TableDef) (us : List LogUnit) (rows : Rows) → len (after_units def us rows) ≤ len rows + total_changes us
units_add def [] rows = omega arith
units_add def (u ∷ us) rows = omega (arith, units_add def us (after_changes def (unplaced u.changes) rows), changes_add def u.changes rows)

-- a source has no more rows than its log has records
pub source_few : (def : TableDef) (log : List LogRecord) (point : ℕ) → length (entries (source_at def log point)) ≤ length log
unfolding source_at
source_few def log point = omega (arith, units_add def (units_up_to point log) empty, kept_changes (λ (u : LogUnit). nat_le u.head.seq point) (units log), changes_few log, len-empty key_cmp Values, len-entries (source_at def log point))

-- a member selects no more
pub selected_few : (source : SourceTable) (member : Member) (point : ℕ) → length (selected_rows source member point) ≤ length source.log
selected_few source member point = omega (arith, filter_few (λ (r : Values × Values). is_selected member r.1) (entries (source_at source.def source.log point)), source_few source.def source.log point)

-- ---- change rows

-- a change has two change rows at most
rows_few : (reg : Registration) (seq : ℕ) (placed : Placed) → length (rows_of_placed reg seq placed) ≤ 2
rows_few reg seq placed = by_table (bytes_eq (table_of placed.change) reg.table)
  where
    taken_apart : (a b : Bool) (xs ys : List CdRow) → length xs ≤ 2 → length ys ≤ 2 → length (cond a [] (cond b xs ys)) ≤ 2
    taken_apart true b xs ys x y = omega arith
    taken_apart false true xs ys x y = x
    taken_apart false false xs ys x y = y

    by_change : (change : Change) → length (rows_of reg seq placed.pos change) ≤ 2
    by_change (Insert table row) = omega arith
    by_change (Update table before after) = taken_apart (shows_nothing reg before after) reg.del_ins _ _ (omega arith) (omega arith)
    by_change (Delete table row) = omega arith
    by_change (Start table) = omega arith
    by_change (Stop table) = omega arith

    by_table : (b : Bool) → length (cond b (rows_of reg seq placed.pos placed.change) []) ≤ 2
    by_table true = by_change placed.change
    by_table false = omega arith

-- so changes have twice as many as they are
placed_few : (reg : Registration) (seq : ℕ) (changes : List Placed) → length (flat_map (rows_of_placed reg seq) changes) ≤ 2 * length changes
placed_few reg seq [] = omega arith
placed_few reg seq (p ∷ ps) = omega (arith, rows_few reg seq p, placed_few reg seq ps, length-append (rows_of_placed reg seq p) (flat_map (rows_of_placed reg seq) ps))

-- and so have units
units_few : (reg : Registration) (us : List LogUnit) → length (flat_map (change_rows reg) us) ≤ 2 * total_changes us
unfolding change_rows
units_few reg [] = omega arith
units_few reg (u ∷ us) = omega (arith, placed_few reg u.head.seq u.changes, units_few reg us, length-append (change_rows reg u) (flat_map (change_rows reg) us))

-- a registration has no more change rows than twice the records
pub between_few : (log : List LogRecord) (reg : Registration) (low high : ℕ) → length (changes_between log reg low high) ≤ 2 * length log
unfolding changes_between
between_few log reg low high = omega (arith, units_few reg (units_between low high log), kept_changes (λ (u : LogUnit). nat_lt low u.head.seq && nat_le u.head.seq high) (units log), changes_few log)
