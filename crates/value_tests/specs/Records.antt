-- Spellings of keys and records, worked out by hand.
use Rattle.std.specs.Prelude.{ℕ, pos, true, false, codes, [], ◌∷◌, ◌++◌, Some, None}
use Rattle.std.proofs.Common.{refl, arith}
use Rattle.repl_records.specs.Capture.{change_row_spelling, IsChangeRow, uow_spelling, IsUow}
use Rattle.repl_records.specs.Capture.{capture_spelling, IsCapture, registration_state_spelling, IsRegistrationState}
use Rattle.repl_records.specs.Prune.{mark_spelling, IsMark, decided_spelling, IsDecided, rejected_spelling, IsRejected}
use Rattle.repl_records.specs.RecordKeys.{single_spelling, in_flight_key_spelling, IsInFlightKey, change_key_spelling, IsChangeKey}
use Rattle.repl_records.specs.RecordKeys.{unit_key_spelling, IsUnitKey, member_key_spelling, IsMemberKey}
use Rattle.repl_records.specs.SetState.{state_spelling, IsState, last_number_spelling, IsLastNumber}
use Rattle.repl_records.specs.SourceSide.{source_row_spelling, IsSourceRow, in_flight_spelling, head_spelling, IsHead}
use Rattle.repl_records.specs.TargetSide.{copy_spelling, IsCopy, point_spelling, IsPoint, aggregate_spelling, IsAggregate}
use Rattle.repl_records.specs.TargetSide.{history_spelling, IsHistory, latest_spelling, IsLatest}
use Rattle.repl_records.specs.Trail.{entry_spelling, IsEntry}
use Rattle.repl_records.specs.declared.set_state.SetState.TheVariants.{ReadOnly, Replica}
use Rattle.repl_records.specs.declared.trail.TrailEntry.TheVariants.{Refresh, Block, Load, Settle}
use Rattle.repl_types.specs.Value.{Values}
use Rattle.repl_types.specs.declared.change_row.Op.TheVariants as ops
use Rattle.repl_types.specs.declared.record.SetId.{SetId}
use Rattle.repl_types.specs.declared.sequence.Sequence.{Sequence}
use Rattle.repl_types.specs.declared.value.Value.TheVariants.{Int}
use Rattle.row_codec.specs.Spelling.{Any, Is32, b16, b32, b64}
use Rattle.value_tests.specs.Spelled.{IsSpelled}

-- the place of a change in a log
abbrev place : Sequence
place = record { position = 258; sub = 1 }

pub keys_by_hand :
    IsSpelled Any single_spelling (record {}) (0 ∷ [])
    × IsSpelled Is32 b32 513 (0 ∷ 0 ∷ 2 ∷ 1 ∷ [])
    × IsSpelled IsInFlightKey in_flight_key_spelling (record { tx = 7; pos = 258 }) (
    0 ∷ 0 ∷ 0 ∷ 7 ∷ 0 ∷ 0 ∷ 0 ∷ 0 ∷ 0 ∷ 0 ∷ 1 ∷ 2 ∷ [])
    × IsSpelled IsChangeKey change_key_spelling (record { commitseq = 259; intentseq = place }) (
    0 ∷ 0 ∷ 0 ∷ 0 ∷ 0 ∷ 0 ∷ 1 ∷ 3 ∷ 0 ∷ 0 ∷ 0 ∷ 0 ∷ 0 ∷ 0 ∷ 1 ∷ 2 ∷ 0 ∷ 1 ∷ [])
    × IsSpelled IsUnitKey unit_key_spelling (record { set = 2; seq = 9 }) (0 ∷ 0 ∷ 0 ∷ 2 ∷ 0 ∷ 0 ∷ 0 ∷ 0 ∷ 0 ∷ 0 ∷ 0 ∷ 9 ∷ [])
    × IsSpelled IsMemberKey member_key_spelling (record { set = 2; member = 3 }) (0 ∷ 0 ∷ 0 ∷ 2 ∷ 0 ∷ 0 ∷ 0 ∷ 3 ∷ [])
unfolding b16 b32 b64
keys_by_hand = search (arith, refl)

pub numbers_by_hand :
    IsSpelled Any in_flight_spelling (record {}) (0 ∷ [])
    × IsSpelled IsHead head_spelling (record { last = 259; commit = 258; time = 100 }) (
    0 ∷ 0 ∷ 0 ∷ 0 ∷ 0 ∷ 0 ∷ 1 ∷ 3 ∷ 0 ∷ 0 ∷ 0 ∷ 0 ∷ 0 ∷ 0 ∷ 1 ∷ 2 ∷ 0 ∷ 0 ∷ 0 ∷ 0 ∷ 0 ∷ 0 ∷ 0 ∷ 100 ∷ [])
    × IsSpelled IsCapture capture_spelling (record { captured = 5; restart = 6; floor = 4 }) (
    0 ∷ 0 ∷ 0 ∷ 0 ∷ 0 ∷ 0 ∷ 0 ∷ 5 ∷ 0 ∷ 0 ∷ 0 ∷ 0 ∷ 0 ∷ 0 ∷ 0 ∷ 6 ∷ 0 ∷ 0 ∷ 0 ∷ 0 ∷ 0 ∷ 0 ∷ 0 ∷ 4 ∷ [])
    × IsSpelled IsRegistrationState registration_state_spelling (record { active = true; start = 5; floor = 4 }) (
    1 ∷ 0 ∷ 0 ∷ 0 ∷ 0 ∷ 0 ∷ 0 ∷ 0 ∷ 5 ∷ 0 ∷ 0 ∷ 0 ∷ 0 ∷ 0 ∷ 0 ∷ 0 ∷ 4 ∷ [])
    × IsSpelled IsMark mark_spelling (record { mark = 8; signal = 9 }) (
    0 ∷ 0 ∷ 0 ∷ 0 ∷ 0 ∷ 0 ∷ 0 ∷ 8 ∷ 0 ∷ 0 ∷ 0 ∷ 0 ∷ 0 ∷ 0 ∷ 0 ∷ 9 ∷ [])
    × IsSpelled IsDecided decided_spelling (record { t = 8; d = 9 }) (
    0 ∷ 0 ∷ 0 ∷ 0 ∷ 0 ∷ 0 ∷ 0 ∷ 8 ∷ 0 ∷ 0 ∷ 0 ∷ 0 ∷ 0 ∷ 0 ∷ 0 ∷ 9 ∷ [])
    × IsSpelled IsRejected rejected_spelling (record { code = 4 }) (4 ∷ [])
    × IsSpelled IsLastNumber last_number_spelling (record { number = 10 }) (0 ∷ 0 ∷ 0 ∷ 0 ∷ 0 ∷ 0 ∷ 0 ∷ 10 ∷ [])
unfolding b64
numbers_by_hand = search (arith, refl)

pub states_of_sets_by_hand :
    IsSpelled IsState state_spelling (ReadOnly true 8 100 7 true 2) (
    1 ∷ 1 ∷ 0 ∷ 0 ∷ 0 ∷ 0 ∷ 0 ∷ 0 ∷ 0 ∷ 8 ∷ 0 ∷ 0 ∷ 0 ∷ 0 ∷ 0 ∷ 0 ∷ 0 ∷ 100 ∷ 0 ∷ 0 ∷ 0 ∷ 0 ∷ 0 ∷ 0 ∷ 0 ∷ 7 ∷ 1 ∷ 0 ∷ 0 ∷ 0
    ∷ 0 ∷ 0 ∷ 0 ∷ 0 ∷ 2 ∷ [])
    × IsSpelled IsState state_spelling (Replica false 0 0 9 2) (
    2 ∷ 0 ∷ 0 ∷ 0 ∷ 0 ∷ 0 ∷ 0 ∷ 0 ∷ 0 ∷ 0 ∷ 0 ∷ 0 ∷ 0 ∷ 0 ∷ 0 ∷ 0 ∷ 0 ∷ 0 ∷ 0 ∷ 0 ∷ 0 ∷ 0 ∷ 0 ∷ 0 ∷ 0 ∷ 9 ∷ 0 ∷ 0 ∷ 0 ∷ 0
    ∷ 0 ∷ 0 ∷ 0 ∷ 2 ∷ [])
unfolding b64
states_of_sets_by_hand = search (arith, refl)

pub entries_of_trails_by_hand :
    IsSpelled IsEntry entry_spelling (Refresh 8 3 None) (
    1 ∷ 0 ∷ 0 ∷ 0 ∷ 0 ∷ 0 ∷ 0 ∷ 0 ∷ 8 ∷ 0 ∷ 0 ∷ 0 ∷ 0 ∷ 0 ∷ 0 ∷ 0 ∷ 3 ∷ 0 ∷ 0 ∷ 0 ∷ 0 ∷ 0 ∷ 0 ∷ 0 ∷ 0 ∷ 0 ∷ [])
    × IsSpelled IsEntry entry_spelling (Block 1 2 3 4 5 (Some 6)) (
    2 ∷ 0 ∷ 0 ∷ 0 ∷ 0 ∷ 0 ∷ 0 ∷ 0 ∷ 1 ∷ 0 ∷ 0 ∷ 0 ∷ 0 ∷ 0 ∷ 0 ∷ 0 ∷ 2 ∷ 0 ∷ 0 ∷ 0 ∷ 0 ∷ 0 ∷ 0 ∷ 0 ∷ 3 ∷ 0 ∷ 0 ∷ 0 ∷ 0 ∷ 0
    ∷ 0 ∷ 0 ∷ 4 ∷ 0 ∷ 0 ∷ 0 ∷ 0 ∷ 0 ∷ 0 ∷ 0 ∷ 5 ∷ 1 ∷ 0 ∷ 0 ∷ 0 ∷ 0 ∷ 0 ∷ 0 ∷ 0 ∷ 6 ∷ [])
    × IsSpelled IsEntry entry_spelling (Load 1 2 3) (
    3 ∷ 0 ∷ 0 ∷ 0 ∷ 0 ∷ 0 ∷ 0 ∷ 0 ∷ 1 ∷ 0 ∷ 0 ∷ 0 ∷ 0 ∷ 0 ∷ 0 ∷ 0 ∷ 2 ∷ 0 ∷ 0 ∷ 0 ∷ 0 ∷ 0 ∷ 0 ∷ 0 ∷ 3 ∷ [])
    × IsSpelled IsEntry entry_spelling (Settle 1 2 3 4) (
    4 ∷ 0 ∷ 0 ∷ 0 ∷ 0 ∷ 0 ∷ 0 ∷ 0 ∷ 1 ∷ 0 ∷ 0 ∷ 0 ∷ 0 ∷ 0 ∷ 0 ∷ 0 ∷ 2 ∷ 0 ∷ 0 ∷ 0 ∷ 0 ∷ 0 ∷ 0 ∷ 0 ∷ 3 ∷ 0 ∷ 0 ∷ 0 ∷ 0 ∷ 0
    ∷ 0 ∷ 0 ∷ 4 ∷ [])
unfolding b64
entries_of_trails_by_hand = search (arith, refl)

-- a row of one integer
abbrev row_of : ℕ → Values
row_of number = Int (pos number) ∷ []

pub rows_by_hand :
    IsSpelled IsSourceRow source_row_spelling (record { row = row_of 3 }) (0 ∷ 1 ∷ 1 ∷ 0x80 ∷ 0 ∷ 0 ∷ 0 ∷ 0 ∷ 0 ∷ 0 ∷ 3 ∷ [])
    × IsSpelled IsCopy copy_spelling (record { row = row_of 4 }) (0 ∷ 1 ∷ 1 ∷ 0x80 ∷ 0 ∷ 0 ∷ 0 ∷ 0 ∷ 0 ∷ 0 ∷ 4 ∷ [])
    × IsSpelled IsPoint point_spelling (record { marker = 100; row = row_of 5 }) (
    0 ∷ 0 ∷ 0 ∷ 0 ∷ 0 ∷ 0 ∷ 0 ∷ 100 ∷ 0 ∷ 1 ∷ 1 ∷ 0x80 ∷ 0 ∷ 0 ∷ 0 ∷ 0 ∷ 0 ∷ 0 ∷ 5 ∷ [])
    × IsSpelled IsAggregate aggregate_spelling (record { low = 1; high = 2; row = row_of 6 }) (
    0 ∷ 0 ∷ 0 ∷ 0 ∷ 0 ∷ 0 ∷ 0 ∷ 1 ∷ 0 ∷ 0 ∷ 0 ∷ 0 ∷ 0 ∷ 0 ∷ 0 ∷ 2 ∷ 0 ∷ 1 ∷ 1 ∷ 0x80 ∷ 0 ∷ 0 ∷ 0 ∷ 0 ∷ 0 ∷ 0 ∷ 6 ∷ [])
unfolding b16 b64
rows_by_hand = search (arith, refl)

pub rows_of_changes_by_hand :
    IsSpelled IsChangeRow change_row_spelling (record { op = ops.U; after = row_of 3; before = [] }) (
    codes "U" ++ 0 ∷ 1 ∷ 1 ∷ 0x80 ∷ 0 ∷ 0 ∷ 0 ∷ 0 ∷ 0 ∷ 0 ∷ 3 ∷ 0 ∷ 0 ∷ [])
    × IsSpelled IsHistory history_spelling (record { intentseq = place; op = ops.I; commitseq = 259; time = 100; row = row_of 4 }) (
    0 ∷ 0 ∷ 0 ∷ 0 ∷ 0 ∷ 0 ∷ 1 ∷ 2 ∷ 0 ∷ 1 ∷ codes "I" ++ 0 ∷ 0 ∷ 0 ∷ 0 ∷ 0 ∷ 0 ∷ 1 ∷ 3 ∷ 0 ∷ 0 ∷ 0 ∷ 0 ∷ 0 ∷ 0 ∷ 0 ∷ 100 ∷ 0
    ∷ 1 ∷ 1 ∷ 0x80 ∷ 0 ∷ 0 ∷ 0 ∷ 0 ∷ 0 ∷ 0 ∷ 4 ∷ [])
    × IsSpelled IsLatest latest_spelling (record { intentseq = place; op = ops.D; commitseq = 259; time = 100; row = row_of 5 }) (
    0 ∷ 0 ∷ 0 ∷ 0 ∷ 0 ∷ 0 ∷ 1 ∷ 2 ∷ 0 ∷ 1 ∷ codes "D" ++ 0 ∷ 0 ∷ 0 ∷ 0 ∷ 0 ∷ 0 ∷ 1 ∷ 3 ∷ 0 ∷ 0 ∷ 0 ∷ 0 ∷ 0 ∷ 0 ∷ 0 ∷ 100 ∷ 0
    ∷ 1 ∷ 1 ∷ 0x80 ∷ 0 ∷ 0 ∷ 0 ∷ 0 ∷ 0 ∷ 0 ∷ 5 ∷ [])
unfolding b16 b64
rows_of_changes_by_hand = search (arith, refl)

-- the set q/s1
abbrev set : SetId
set = record { qual = codes "q"; name = codes "s1" }

pub captured_units_by_hand :
    IsSpelled IsUow uow_spelling (record { time = 100; authid = codes "ann"; origin = None; code = 4 }) (
    0 ∷ 0 ∷ 0 ∷ 0 ∷ 0 ∷ 0 ∷ 0 ∷ 100 ∷ 3 ∷ codes "ann" ++ 0 ∷ 4 ∷ [])
    × IsSpelled IsUow uow_spelling (record { time = 101; authid = codes "bo"; origin = Some set; code = 0 }) (
    0 ∷ 0 ∷ 0 ∷ 0 ∷ 0 ∷ 0 ∷ 0 ∷ 101 ∷ 2 ∷ codes "bo" ++ 1 ∷ 1 ∷ codes "q" ++ 2 ∷ codes "s1" ++ 0 ∷ [])
unfolding b64
captured_units_by_hand = search (arith, refl)
