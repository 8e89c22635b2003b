-- The runs of the tables of a keeper in memory, and what is said of each.
use Rattle.std.specs.Prelude.{◌≡◌, ◌⊎◌, ℕ, Bool, true, false, cond, List, [], ◌∷◌, ◌++◌, Option, Some, None}
use Rattle.std.specs.Ordering.{is_eq, nat_cmp, ordering_then}
use Rattle.std.specs.List.{list_any}
use Rattle.std.specs.declared.cmp.Ordering.{Ordering}
use Rattle.std.specs.BTreeMap.{BTreeMap, get_by}
use Rattle.keep_core.specs.Contents.{Table}
use Rattle.keep_map.specs.Places.{Values}
use Rattle.rows_in_runs.specs.Runs.{row_at, row_held, is_settled, value_in}
use Rattle.rows_in_runs.specs.declared.run.Run.{Run}
use Rattle.keep_map.specs.declared.table_id.TableId.{TableId}
use Rattle.keep_map.specs.declared.table_run.TableRun.{TableRun}

-- the place of a table: the number of its area, and its own number
abbrev pub TablePlace : Type 0
TablePlace = ℕ × ℕ

-- the order of tables: by areas, and then by their own numbers
abbrev pub table_cmp : TablePlace → TablePlace → Ordering
table_cmp x y = ordering_then (nat_cmp x.0 y.0) (nat_cmp x.1 y.1)

-- two tables are the same
abbrev pub same_table : TablePlace → TablePlace → Bool
same_table x y = is_eq (table_cmp x y)

-- the table that an id names
abbrev pub id_of : TableId → TablePlace
id_of i = (i.area, i.table)

-- the order of ids is that of the tables that they name
abbrev pub id_cmp : TableId → TableId → Ordering
id_cmp i j = table_cmp (id_of i) (id_of j)

-- the run of a table, if there is one
abbrev pub run_at : BTreeMap TableId TableRun → TablePlace → Option TableRun
run_at m t = get_by (λ i. table_cmp t (id_of i)) m

-- what is known of the rows of one table: the run's row at each key, with a value or without, and the same row before
-- the open transaction; whether there may be rows beside the run; and whether the open transaction left the run as it was
pub record TableRows : Type 0 where
  pub now : List ℕ → Option (Option (List ℕ))
  pub held : List ℕ → Option (Option (List ℕ))
  pub has_more : Bool
  pub is_settled : Bool

-- the rows of a run, and whether there may be rows beside it
abbrev pub run_rows : Run → Bool → TableRows
run_rows r more = record { now = row_at r; held = row_held r; has_more = more; is_settled = is_settled r }

-- the rows of a table with no run
abbrev pub no_rows : TableRows
no_rows = record { now = λ _. None; held = λ _. None; has_more = false; is_settled = true }

-- the rows of a table, which has none if it has no run
abbrev pub rows_of : Option TableRun → TableRows
rows_of None = no_rows
rows_of (Some t) = run_rows t.run t.has_more

-- the rows of each table
abbrev pub Tables : Type 0
Tables = TablePlace → TableRows

-- the rows of each table of a map
abbrev pub tables_of : BTreeMap TableId TableRun → Tables
tables_of m t = rows_of (run_at m t)

-- the table that the open transaction sees in a run
abbrev pub seen_in_run : TableRows → Table
seen_in_run r k = value_in (r.now k)

-- the table that is held in a run
abbrev pub held_in_run : TableRows → Table
held_in_run r k = value_in (r.held k)

-- the values that the open transaction sees in the runs
abbrev pub runs_seen : Tables → Values
runs_seen ts p = seen_in_run (ts (p.0, p.1)) p.2

-- the values that are held in the runs
abbrev pub runs_held : Tables → Values
runs_held ts p = held_in_run (ts (p.0, p.1)) p.2

-- ---- changes

-- one table changed in the open transaction, which sees these values in its run now: there are new rows only at keys at
-- which a value is seen
pub record RunBecomes (values : Table) (old new : TableRows) : Type 0 where
  pub seen : (k : List ℕ) → seen_in_run new k ≡ values k
  pub held : (k : List ℕ) → held_in_run new k ≡ held_in_run old k
  pub rows : (k : List ℕ) → old.now k ≡ None → values k ≡ None → new.now k ≡ None
  pub more : old.has_more ≡ true → new.has_more ≡ true

-- the tables changed in the open transaction, which sees these values in the runs now
pub record RunsBecome (values : Values) (old new : Tables) : Type 0 where
  pub seen : runs_seen new ≡ values
  pub held : runs_held new ≡ runs_held old
  pub rows : (t : TablePlace) (k : List ℕ) → (old t).now k ≡ None → values (t.0, t.1, k) ≡ None → (new t).now k ≡ None
  pub more : (t : TablePlace) → (old t).has_more ≡ true → (new t).has_more ≡ true

-- some id of the list names the table
abbrev pub is_touched : List TableId → TablePlace → Bool
is_touched ids t = list_any (λ i. same_table (id_of i) t) ids

-- the list names each table that the open transaction changed
abbrev pub AreTouched : List TableId → Tables → Type 0
AreTouched ids ts = (t : TablePlace) → is_touched ids t ≡ false → (ts t).is_settled ≡ true

-- only the table may have changed
abbrev pub OnlyChanges : TablePlace → Tables → Tables → Type 0
OnlyChanges at old new = (t : TablePlace) → same_table at t ≡ false → new t ≡ old t

-- the list names the table that changed, unless the table was left as it was, or was changed before
abbrev pub IsNamed : TableId → List TableId → List TableId → TableRows → TableRows → Type 0
IsNamed id before after old new = (after ≡ before ++ id ∷ []) ⊎ ((after ≡ before) × (old.is_settled ≡ true → new.is_settled ≡ true))

-- the row after the transaction, if it is kept or else if it is not
abbrev pub kept_row : Bool → TableRows → List ℕ → Option (Option (List ℕ))
kept_row keep r k = cond keep (r.now k) (r.held k)

-- the table after the transaction, if it is kept or else if it is not
pub record RunSettles (keep : Bool) (old new : TableRows) : Type 0 where
  pub rows : (k : List ℕ) → new.now k ≡ kept_row keep old k
  pub more : new.has_more ≡ old.has_more
  pub settled : new.is_settled ≡ true

-- the tables after the transaction, if it is kept or else if it is not; there are no new rows
pub record RunsSettle (keep : Bool) (old new : Tables) : Type 0 where
  pub seen : runs_seen new ≡ cond keep (runs_seen old) (runs_held old)
  pub held : runs_held new ≡ runs_seen new
  pub rows : (t : TablePlace) (k : List ℕ) → (old t).now k ≡ None → (new t).now k ≡ None
  pub more : (t : TablePlace) → (new t).has_more ≡ (old t).has_more
