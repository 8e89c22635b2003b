-- What a put leaves in a run.
use Rattle.std.specs.Prelude.{◌≡◌, ℕ, Bool, true, false, List, Some, None}
use Rattle.std.specs.BTreeMap.{BTreeMap}
use Rattle.keep_core.specs.Contents.{set_key}
use Rattle.keep_map.specs.Places.{put_value}
use Rattle.keep_map.specs.Scattered.{row_at}
use Rattle.keep_map.specs.Tables.{TablePlace, TableRows, Tables, seen_in_run, runs_seen, RunBecomes, RunsBecome}
use Rattle.keep_map.specs.declared.slot.Slot.{Slot}
use Rattle.keep_map.specs.declared.stored_row.StoredRow.{StoredRow}

-- the run of a table took the value at the key, with a new row only if there is none beside the run; or else the key has no
-- row in the run, which says that there may be rows beside it
abbrev pub RunPuts : TablePlace → List ℕ → List ℕ → BTreeMap Slot StoredRow → TableRows → TableRows → Bool → Type 0
RunPuts t key value m old new true = RunBecomes (set_key (seen_in_run old) key (Some value)) old new × (old.now key ≡ None → old.has_more ≡ true → row_at m (t.0, t.1, key) ≡ None)
RunPuts t key value m old new false = RunBecomes (seen_in_run old) old new × (new.now key ≡ None) × (new.has_more ≡ true)

-- the same of the runs of all tables
abbrev pub RunsPut : TablePlace → List ℕ → List ℕ → BTreeMap Slot StoredRow → Tables → Tables → Bool → Type 0
RunsPut t key value m old new true = RunsBecome (put_value (runs_seen old) (t.0, t.1, key) (Some value)) old new × ((old t).now key ≡ None → (old t).has_more ≡ true → row_at m (t.0, t.1, key) ≡ None)
RunsPut t key value m old new false = RunsBecome (runs_seen old) old new × ((new t).now key ≡ None) × ((new t).has_more ≡ true)
