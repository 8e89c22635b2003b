-- The rows of consistent-change-data tables.
use Rattle.std.specs.Prelude.{ℕ, Bool, if◌then◌else◌, List, ◌++◌, map}
use Rattle.std.specs.List.{flat_map}
use Rattle.repl_types.specs.Value.{Values, key_cmp}
use Rattle.repl_types.specs.declared.sequence.Sequence.{Sequence}
use Rattle.repl_types.specs.declared.change_row.CdRow.{CdRow}
use Rattle.repl_types.specs.declared.change_row.Op.{Op}
use Rattle.repl_types.specs.declared.change_row.Op.TheVariants.{I}
use Rattle.repl_definitions.specs.declared.member.Member.{Member}
use Rattle.repl_model.specs.Tables.{key_of}
use Rattle.repl_model.specs.SourceAt.{time_at}
use Rattle.repl_model.specs.Selection.{SourceTable, imaged_row, selected_rows, selected_changes, target_row}
use Rattle.repl_model.specs.Summaries.{by_key}
use Rattle.repl_model.specs.Trails.{Trail, synchpoint, base_of, intervals}

-- What a consistent-change-data table keeps of a change: the change's place in the log, the seq of its unit
-- and that unit's time in seconds, and the target columns.
pub record HistoryEntry : Type 0 where
  pub intentseq : Sequence
  pub op : Op
  pub commitseq : ℕ
  pub time : ℕ
  pub row : Values

-- the entry of a change, under the key of its after-images
abbrev pub change_entry : SourceTable → Member → CdRow → Values × HistoryEntry
change_entry source member change = let row = imaged_row source change in
    (key_of source.def row, record { intentseq = change.intentseq; op = change.op; commitseq = change.commitseq; time = time_at source.log change.commitseq; row = target_row member row })

-- the entries of the selected changes after one point and up to another
abbrev pub interval_entries : SourceTable → Member → ℕ → ℕ → List (Values × HistoryEntry)
interval_entries source member low high = map (change_entry source member) (selected_changes source member low high)

-- the entries of the selected rows at the point of a refresh: as if each was inserted there
abbrev pub refresh_entries : SourceTable → Member → ℕ → List (Values × HistoryEntry)
refresh_entries source member base = map (λ r. (r.0, record { intentseq = record { position = base; sub = 0 }; op = I; commitseq = base; time = time_at source.log base; row = target_row member r.1 })) (selected_rows source member base)

-- The entries of a table in order, each under its key. A complete one has the rows at the last refresh, and
-- the changes since; another one has the changes of all intervals.
unfoldable pub history : Bool → SourceTable → Member → Trail → List (Values × HistoryEntry)
history complete source member trail =
    if complete
    then refresh_entries source member (base_of trail) ++ interval_entries source member (base_of trail) (synchpoint trail)
    else flat_map (λ i. interval_entries source member i.0 i.1) (intervals trail)

-- the last entry of each key, in the order of the keys; a deleted key keeps the entry of its delete
unfoldable pub condensed : List (Values × HistoryEntry) → List (Values × HistoryEntry)
condensed entries = by_key key_cmp entries
