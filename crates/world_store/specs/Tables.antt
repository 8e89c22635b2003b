-- The tables that a world calls for at one server, area by area and number by number.
use Rattle.std.specs.Prelude.{ℕ, zero, suc, ◌/◌, ◌%◌, if◌then◌else◌, [], ◌∷◌, None, slice_get}
use Rattle.std.specs.Option.{option_map_or, option_or, option_and_then}
use Rattle.repl_types.specs.declared.area.Area.{Area}
use Rattle.repl_types.specs.declared.area.Area.TheVariants as areas
use Rattle.row_codec.specs.Spelling.{b32, b64, short_text, set_spelling, key_spelling}
use Rattle.row_codec.specs.LogRecords.{log_spelling}
use Rattle.repl_definitions.specs.Defined.{defined_table_spelling, defined_registration_spelling}
use Rattle.repl_definitions.specs.Sets.{source_set_spelling, target_set_spelling}
use Rattle.repl_definitions.specs.declared.member.Member.{Member}
use Rattle.repl_definitions.specs.declared.member.TargetKind.{TargetKind}
use Rattle.repl_definitions.specs.declared.member.TargetKind.TheVariants.{UserCopy, PointInTime, BaseAggregate, ChangeAggregate, Ccd, Replica}
use Rattle.repl_records.specs.RecordKeys.{single_spelling, in_flight_key_spelling, change_key_spelling, unit_key_spelling, member_key_spelling}
use Rattle.repl_records.specs.SourceSide.{source_row_spelling, in_flight_spelling, head_spelling}
use Rattle.repl_records.specs.Capture.{change_row_spelling, uow_spelling, capture_spelling, registration_state_spelling}
use Rattle.repl_records.specs.Prune.{mark_spelling, decided_spelling, rejected_spelling}
use Rattle.repl_records.specs.TargetSide.{copy_spelling, point_spelling, aggregate_spelling, history_spelling, latest_spelling}
use Rattle.repl_records.specs.SetState.{state_spelling, last_number_spelling}
use Rattle.repl_records.specs.Trail.{entry_spelling}
use Rattle.repl_records.specs.FirstStates.{first_head, first_capture}
use Rattle.rows_in_order.specs.Contents.{Table}
use Rattle.rows_in_order.specs.Rows.{table_from_rows}
use Rattle.repl_model.specs.SourceAt.{table_after}
use Rattle.repl_model.specs.Selection.{SourceTable}
use Rattle.repl_model.specs.Trails.{Trail}
use Rattle.repl_model.specs.Aggregates.{change_aggregate, base_aggregate}
use Rattle.repl_model.specs.History.{history}
use Rattle.repl_model.specs.World.{Server, TargetSide, World}
use Rattle.world_store.specs.LogRows.{log_rows, source_rows, in_flight_rows, head_rows}
use Rattle.world_store.specs.DefinitionRows.{table_rows, registration_rows, source_set_rows, target_set_rows}
use Rattle.world_store.specs.CaptureRows.{change_rows_of, uow_rows, capture_rows, registration_state_rows, mark_rows, decided_rows, first_decided_rows, rejected_rows}
use Rattle.world_store.specs.TargetRows.{source_of, copy_rows, point_rows, aggregate_rows, history_rows, latest_rows, set_state_rows, first_state_rows, last_number_rows, first_number_rows, trail_rows}

-- a table with nothing in it
abbrev pub no_rows : Table
no_rows k = None

-- the table of the source with a number
abbrev pub source_table : Server → ℕ → Table
source_table server number = option_map_or (λ t. table_from_rows key_spelling source_row_spelling (source_rows server (table_after server.log t.def))) (slice_get server.tables number) no_rows

-- the change-data table of the registration with a number
abbrev pub change_table : Server → ℕ → Table
change_table server number = option_map_or (λ r. table_from_rows change_key_spelling change_row_spelling (change_rows_of server r)) (option_and_then (λ t. t.registered) (slice_get server.tables number)) no_rows

-- the target of a member
abbrev pub member_table : SourceTable → Member → Trail → Table
member_table source member trail = by_kind member.kind
  where
    by_kind : TargetKind → Table
    by_kind UserCopy = table_from_rows key_spelling copy_spelling (copy_rows source member trail)
    by_kind PointInTime = table_from_rows key_spelling point_spelling (point_rows source member trail)
    by_kind BaseAggregate = table_from_rows b64 aggregate_spelling (aggregate_rows (base_aggregate source member trail))
    by_kind ChangeAggregate = table_from_rows b64 aggregate_spelling (aggregate_rows (change_aggregate source member trail))
    by_kind (Ccd complete condensed) = if condensed
        then table_from_rows key_spelling latest_spelling (latest_rows (history complete source member trail))
        else table_from_rows b64 history_spelling (history_rows (history complete source member trail))
    by_kind Replica = no_rows

-- the target with a number, which is 64 times its set's number and then its member's place
abbrev pub target_table : World → Server → ℕ → Table
target_table world server number = option_map_or (λ side. of_set side) (slice_get server.target_sets (number / 64)) no_rows
  where
    of_set : TargetSide → Table
    of_set side = option_map_or (λ member. option_map_or (λ source. member_table source member side.trail) (source_of world side.def member) no_rows) (slice_get side.def.members (number % 64)) no_rows

-- the trail of the set with a number
abbrev pub trail_table : World → Server → ℕ → Table
trail_table world server number = option_map_or (λ side. table_from_rows b64 entry_spelling (trail_rows world side)) (slice_get server.target_sets number) no_rows

-- the tables of the area Defs: tables, registrations, and sets at their sources and at their targets
abbrev pub definition_table : Server → ℕ → Table
definition_table server zero = table_from_rows short_text defined_table_spelling (table_rows server)
definition_table server (suc zero) = table_from_rows short_text defined_registration_spelling (registration_rows server)
definition_table server (suc (suc zero)) = table_from_rows set_spelling source_set_spelling (source_set_rows server)
definition_table server (suc (suc (suc zero))) = table_from_rows set_spelling target_set_spelling (target_set_rows server)
definition_table server (suc (suc (suc (suc n)))) = no_rows

-- the tables of the area Capture: how far capture is, and the states of registrations
abbrev pub capture_table : Server → ℕ → Table
capture_table server zero = table_from_rows single_spelling capture_spelling (capture_rows server)
capture_table server (suc zero) = table_from_rows b32 registration_state_spelling (registration_state_rows server)
capture_table server (suc (suc n)) = no_rows

-- the tables of the area Prune: marks, decisions, and codes
abbrev pub prune_table : Server → ℕ → Table
prune_table server zero = table_from_rows b32 mark_spelling (mark_rows server)
prune_table server (suc zero) = table_from_rows b32 decided_spelling (decided_rows server)
prune_table server (suc (suc zero)) = table_from_rows unit_key_spelling rejected_spelling (rejected_rows server)
prune_table server (suc (suc (suc n))) = no_rows

-- the tables of the area SetState: states of sets, and last numbers
abbrev pub state_table : World → Server → ℕ → Table
state_table world server zero = table_from_rows b32 state_spelling (set_state_rows world server)
state_table world server (suc zero) = table_from_rows member_key_spelling last_number_spelling (last_number_rows world server)
state_table world server (suc (suc n)) = no_rows

-- a table that is alone in its area
abbrev pub alone : Table → ℕ → Table
alone t zero = t
alone t (suc n) = no_rows

-- the tables of a server. Those of the area Spill are free, and count as empty.
unfoldable pub tables : World → Server → Area → ℕ → Table
tables world server areas.Log n = alone (table_from_rows b64 log_spelling (log_rows server)) n
tables world server areas.Source n = source_table server n
tables world server areas.Inflight n = alone (table_from_rows in_flight_key_spelling in_flight_spelling (in_flight_rows server)) n
tables world server areas.Head n = alone (table_from_rows single_spelling head_spelling (head_rows server)) n
tables world server areas.Defs n = definition_table server n
tables world server areas.Cd n = change_table server n
tables world server areas.Uow n = alone (table_from_rows b64 uow_spelling (uow_rows server)) n
tables world server areas.Capture n = capture_table server n
tables world server areas.Prune n = prune_table server n
tables world server areas.Spill n = no_rows
tables world server areas.Target n = target_table world server n
tables world server areas.SetState n = state_table world server n
tables world server areas.Trail n = trail_table world server n

-- ---- first states

-- a table in which a record that is missing is read from another one
abbrev pub with_first : Table → Table → Table
with_first first t k = option_or (t k) (first k)

-- what a missing record of a table stands for, if it stands for something: the empty log, nothing captured,
-- nothing decided, no points, and no number given
unfoldable pub first_table : Server → Area → ℕ → Table
first_table server areas.Log n = no_rows
first_table server areas.Source n = no_rows
first_table server areas.Inflight n = no_rows
first_table server areas.Head n = alone (table_from_rows single_spelling head_spelling ((record {}, first_head) ∷ [])) n
first_table server areas.Defs n = no_rows
first_table server areas.Cd n = no_rows
first_table server areas.Uow n = no_rows
first_table server areas.Capture n = alone (table_from_rows single_spelling capture_spelling ((record {}, first_capture) ∷ [])) n
first_table server areas.Prune zero = no_rows
first_table server areas.Prune (suc zero) = table_from_rows b32 decided_spelling (first_decided_rows server)
first_table server areas.Prune (suc (suc n)) = no_rows
first_table server areas.Spill n = no_rows
first_table server areas.Target n = no_rows
first_table server areas.SetState zero = table_from_rows b32 state_spelling (first_state_rows server)
first_table server areas.SetState (suc zero) = table_from_rows member_key_spelling last_number_spelling (first_number_rows server)
first_table server areas.SetState (suc (suc n)) = no_rows
first_table server areas.Trail n = no_rows
