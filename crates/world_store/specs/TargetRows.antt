-- The rows of the areas Target, SetState and Trail, in the order of their keys.
use Rattle.std.specs.Prelude.{ℕ, Bool, true, false, nat_lt, if◌then◌else◌, List, [], ◌∷◌, length, map, count_by, sum_by, Option}
use Rattle.std.specs.List.{flat_map, enumerate_from}
use Rattle.std.specs.Option.{option_map_or, option_and_then}
use Rattle.repl_types.specs.Value.{Values}
use Rattle.repl_types.specs.declared.change_row.CdRow.{CdRow}
use Rattle.repl_types.specs.declared.change_row.Op.{Op}
use Rattle.repl_types.specs.declared.change_row.Op.TheVariants.{I, U, D}
use Rattle.repl_definitions.specs.declared.member.Member.{Member}
use Rattle.repl_definitions.specs.declared.member.TargetKind.{TargetKind}
use Rattle.repl_definitions.specs.declared.member.TargetKind.TheVariants.{UserCopy, PointInTime, BaseAggregate, ChangeAggregate, Ccd, Replica}
use Rattle.repl_definitions.specs.declared.set.SetDef.{SetDef}
use Rattle.repl_records.specs.declared.record_keys.MemberKey.{MemberKey}
use Rattle.repl_records.specs.declared.target_side.CopyRow.{CopyRow}
use Rattle.repl_records.specs.declared.target_side.PointRow.{PointRow}
use Rattle.repl_records.specs.declared.target_side.AggregateRow.{AggregateRow}
use Rattle.repl_records.specs.declared.target_side.HistoryRow.{HistoryRow}
use Rattle.repl_records.specs.declared.target_side.LatestRow.{LatestRow}
use Rattle.repl_records.specs.declared.set_state.SetState.{SetState}
use Rattle.repl_records.specs.declared.set_state.SetState.TheVariants as states
use Rattle.repl_records.specs.declared.set_state.LastNumber.{LastNumber}
use Rattle.repl_records.specs.declared.trail.TrailEntry.{TrailEntry}
use Rattle.repl_records.specs.declared.trail.TrailEntry.TheVariants as entries
use Rattle.repl_records.specs.FirstStates.{first_read_only, first_replica, first_number}
use Rattle.repl_model.specs.SourceAt.{time_at}
use Rattle.repl_model.specs.ChangeRows.{changes_between}
use Rattle.repl_model.specs.Selection.{SourceTable, selected_rows}
use Rattle.repl_model.specs.MemberCopies.{user_copy, point_in_time_copy}
use Rattle.repl_model.specs.Trails.{Entry, Trail, refresh, block, load, settle, synchpoint, base_of, replica_point}
use Rattle.repl_model.specs.Aggregates.{SummaryRow, change_aggregate, base_aggregate}
use Rattle.repl_model.specs.History.{HistoryEntry, history, condensed}
use Rattle.repl_model.specs.World.{TargetSide, Server, World, server_named, source_named}
use Rattle.repl_model.specs.Rules.{is_replica_set}

-- ---- what a set copies from

-- the source table of a member of a set, if the set's source has it and has registered it
abbrev pub source_of : World → SetDef → Member → Option SourceTable
source_of world def member = option_and_then (source_named member.source) (server_named def.source world)

-- the time at a point of a set's source, 0 if the source isn't there
abbrev pub source_time : World → SetDef → ℕ → ℕ
source_time world def point = option_map_or (λ source. time_at source.log point) (server_named def.source world) 0

-- ---- Target

-- the rows of a user copy, under their keys
abbrev pub copy_rows : SourceTable → Member → Trail → List (Values × CopyRow)
copy_rows source member trail = map (λ r. (r.0, record { row = r.1 })) (user_copy source member (synchpoint trail))

-- the rows of a point-in-time copy, under their keys
abbrev pub point_rows : SourceTable → Member → Trail → List (Values × PointRow)
point_rows source member trail = map (λ r. (r.0, record { marker = r.1.marker; row = r.1.row })) (point_in_time_copy source member (base_of trail) (synchpoint trail))

-- the rows of an aggregate, numbered from 1
abbrev pub aggregate_rows : List SummaryRow → List (ℕ × AggregateRow)
aggregate_rows rows = enumerate_from 1 (map (λ r. record { low = r.low; high = r.high; row = r.row }) rows)

-- the rows of a consistent-change-data table that keeps all changes, numbered from 1
abbrev pub history_rows : List (Values × HistoryEntry) → List (ℕ × HistoryRow)
history_rows es = enumerate_from 1 (map (λ e. record { intentseq = e.1.intentseq; op = e.1.op; commitseq = e.1.commitseq; time = e.1.time; row = e.1.row }) es)

-- the rows of a condensed one, under their keys
abbrev pub latest_rows : List (Values × HistoryEntry) → List (Values × LatestRow)
latest_rows es = map (λ e. (e.0, record { intentseq = e.1.intentseq; op = e.1.op; commitseq = e.1.commitseq; time = e.1.time; row = e.1.row })) (condensed es)

-- ---- SetState

-- the trail has entries
abbrev pub has_points : Trail → Bool
has_points trail = nat_lt 0 (length trail)

-- how far a set is at its target
abbrev pub state_of : World → TargetSide → SetState
state_of world side = if is_replica_set side.def
    then states.Replica (has_points side.trail) (synchpoint side.trail) (replica_point side.trail) side.signal (length side.trail)
    else states.ReadOnly (has_points side.trail) (synchpoint side.trail) (source_time world side.def (synchpoint side.trail)) (base_of side.trail) side.flag (length side.trail)

-- the sets whose target a server is, with their numbers
abbrev pub numbered_target_sets : Server → List (ℕ × TargetSide)
numbered_target_sets server = enumerate_from 0 server.target_sets

-- the states of the sets, under their numbers
abbrev pub set_state_rows : World → Server → List (ℕ × SetState)
set_state_rows world server = map (λ s. (s.0, state_of world s.1)) (numbered_target_sets server)

-- what a missing record of these says
abbrev pub first_state_rows : Server → List (ℕ × SetState)
first_state_rows server = map (λ s. (s.0, if is_replica_set s.1.def then first_replica else first_read_only)) (numbered_target_sets server)

-- how many rows a member's target has numbered
abbrev pub numbers_given : World → SetDef → Trail → Member → ℕ
numbers_given world def trail member = option_map_or (λ source. by_kind source member.kind) (source_of world def member) 0
  where
    by_kind : SourceTable → TargetKind → ℕ
    by_kind source UserCopy = 0
    by_kind source PointInTime = 0
    by_kind source BaseAggregate = length (base_aggregate source member trail)
    by_kind source ChangeAggregate = length (change_aggregate source member trail)
    by_kind source (Ccd complete condensed) = if condensed then 0 else length (history complete source member trail)
    by_kind source Replica = 0

-- the members of a set, with their places
abbrev pub numbered_members : SetDef → List (ℕ × Member)
numbered_members def = enumerate_from 0 def.members

-- the last number that was given in each member's target, 0 if none was
abbrev pub last_number_rows : World → Server → List (MemberKey × LastNumber)
last_number_rows world server = flat_map (λ s. map (λ m. (record { set = s.0; member = m.0 }, record { number = numbers_given world s.1.def s.1.trail m.1 })) (numbered_members s.1.def)) (numbered_target_sets server)

-- what a missing record of these says
abbrev pub first_number_rows : Server → List (MemberKey × LastNumber)
first_number_rows server = flat_map (λ s. map (λ m. (record { set = s.0; member = m.0 }, first_number)) (numbered_members s.1.def)) (numbered_target_sets server)

-- ---- Trail

-- how many rows a refresh at a point puts in a member's target: none in one that keeps its rows, the groups at
-- the point where base aggregates were read, and else the selected rows
abbrev pub rows_refreshed : SourceTable → ℕ → Option ℕ → Member → ℕ
rows_refreshed source p q member = by_kind member.kind
  where
    by_kind : TargetKind → ℕ
    by_kind UserCopy = length (selected_rows source member p)
    by_kind PointInTime = length (selected_rows source member p)
    by_kind BaseAggregate = length (base_aggregate source member (refresh p q ∷ []))
    by_kind ChangeAggregate = 0
    by_kind (Ccd complete condensed) = if complete then length (selected_rows source member p) else 0
    by_kind Replica = 0

-- the rows that a refresh puts in the targets of a set
abbrev pub set_rows_refreshed : World → SetDef → ℕ → Option ℕ → ℕ
set_rows_refreshed world def p q = sum_by (λ member. option_map_or (λ source. rows_refreshed source p q member) (source_of world def member) 0) def.members

-- the change rows of a member in an interval; base aggregates take none
abbrev pub member_changes : World → SetDef → ℕ → ℕ → Member → List CdRow
member_changes world def low high member = by_kind member.kind
  where
    from_source : List CdRow
    from_source = option_map_or (λ source. changes_between source.log source.reg low high) (source_of world def member) []

    by_kind : TargetKind → List CdRow
    by_kind BaseAggregate = []
    by_kind UserCopy = from_source
    by_kind PointInTime = from_source
    by_kind ChangeAggregate = from_source
    by_kind (Ccd complete condensed) = from_source
    by_kind Replica = from_source

-- how many of some change rows have an operation
abbrev pub count_op : (Op → Bool) → List CdRow → ℕ
count_op is_op changes = count_by (λ change. is_op change.op) changes

-- an insert
abbrev pub is_insert : Op → Bool
is_insert I = true
is_insert U = false
is_insert D = false

-- an update
abbrev pub is_update : Op → Bool
is_update I = false
is_update U = true
is_update D = false

-- a delete
abbrev pub is_delete : Op → Bool
is_delete I = false
is_delete U = false
is_delete D = true

-- the change rows of all members of a set in an interval
abbrev pub set_changes : World → SetDef → ℕ → ℕ → List CdRow
set_changes world def low high = flat_map (member_changes world def low high) def.members

-- an entry of the trail, with its counts: the rows that a refresh put, and the change rows of a block by their
-- operations, before predicates
abbrev pub trail_entry : World → SetDef → Entry → TrailEntry
trail_entry world def (refresh p q) = entries.Refresh p (set_rows_refreshed world def p q) q
trail_entry world def (block low high q) = let changes = set_changes world def low high in
    entries.Block low high (count_op is_insert changes) (count_op is_update changes) (count_op is_delete changes) q
trail_entry world def (load m f rows) = entries.Load m f rows
trail_entry world def (settle m f rejected applied) = entries.Settle m f rejected applied

-- the trail of a set, numbered from 1
abbrev pub trail_rows : World → TargetSide → List (ℕ × TrailEntry)
trail_rows world side = enumerate_from 1 (map (trail_entry world side.def) side.trail)
