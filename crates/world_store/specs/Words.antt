-- The words that laws and proofs of upper crates cite, passed on from one place. Declares nothing.
pub use Rattle.row_codec.specs.Definitions.{ArePlaces, HasRegistrationSpelling, HasTableSpelling, IsColumn, IsRegistration, IsTable, column_spelling, kind_spelling, places_spelling, registration_spelling, table_spelling}
pub use Rattle.row_codec.specs.LogRecords.{ChangesShortRows, IsChange, IsLogRecord, log_spelling}
pub use Rattle.row_codec.specs.Order.{name_cmp, set_cmp}
pub use Rattle.row_codec.specs.Spelling.{Any, Is16, Is32, Is64, IsCounted, IsKey, IsName, IsOrigin, IsRow, IsSet, flag, key_spelling, list_spelling, marked_byte, row_spelling, sequence_spelling, set_spelling, shifted, short_text, value_spelling, zeros_marked}
unfoldable pub use Rattle.row_codec.specs.Spelling.{b16, b32, b64}
pub use Rattle.row_codec.specs.Storable.{IsStorable}
pub use Rattle.row_codec.specs.Takes.{One}
pub use Rattle.row_codec.specs.laws.Again.{registration_again, table_again}
pub use Rattle.row_codec.specs.laws.Definitions.{one_registration, one_table}
pub use Rattle.row_codec.specs.laws.Lengths.{length_of_key, log_storable}
pub use Rattle.row_codec.specs.laws.LogRecords.{one_log_record}
pub use Rattle.row_codec.specs.laws.Numbers.{length16, length32, length64, one32, one64, one_flag, same_prefixes}
pub use Rattle.row_codec.specs.laws.Ones.{one_whole}
pub use Rattle.row_codec.specs.laws.Orders.{name_cmp_exact, order32, order64, order_name, order_set, whole_order}
pub use Rattle.row_codec.specs.laws.Sizes.{key_size, length_flag, name_length}
pub use Rattle.row_codec.specs.laws.Values.{one_key, one_row, order_key}
pub use Rattle.rows_in_order.specs.Numbers.{AllAbove, AllBelow, NoneAbove, NumbersRise, SpellsInOrder}
pub use Rattle.rows_in_order.specs.Rows.{AllAfter, AllBefore, HasRow, IsRising, NextRow, NoneAfter, SpellsApart, begins_with, is_before, rows_after, table_from_rows, without_row}
pub use Rattle.rows_in_order.specs.laws.After.{after_all, after_first, after_next}
pub use Rattle.rows_in_order.specs.laws.Before.{before_key, both_tie, empty_first, is_equal, not_both, order, tied_not_greater}
pub use Rattle.rows_in_order.specs.laws.ByNumber.{all_before, key_before, key_is_before, key_less, key_same, read_last, read_next, rises}
pub use Rattle.rows_in_order.specs.laws.Changed.{append_at, or_else, rises_without, table_without, without_split}
pub use Rattle.rows_in_order.specs.laws.Filtered.{all_kept, filters_commute}
pub use Rattle.rows_in_order.specs.laws.Fitting.{fits_each, fits_next}
pub use Rattle.rows_in_order.specs.laws.Found.{all_some, first_row, next_of, no_first_row, row_of}
pub use Rattle.rows_in_order.specs.laws.Numbered.{numbered_at, numbered_below, numbered_found, numbered_last, numbered_next, numbered_parts, numbered_push}
pub use Rattle.rows_in_order.specs.laws.Prefixed.{begins_longer, begins_parts, prefix_last, prefix_next, prefix_past}
pub use Rattle.rows_in_order.specs.laws.Rising.{at_head, differ, filter_rises, found_after, found_row, no_row, no_row_at, past_head, same_is, same_itself, some_is, table_push}
pub use Rattle.rows_in_order.specs.laws.Written.{differ_numbers, put_here, put_other_area, put_other_table, written_first, written_last, written_removed}
pub use Rattle.repl_records.specs.Capture.{HasChangeRowSpelling, IsCapture, IsChangeRow, IsCode, IsRegistrationState, IsUow, capture_spelling, change_row_spelling, registration_state_spelling, uow_spelling}
pub use Rattle.repl_records.specs.FirstStates.{first_capture, first_decided, first_head, first_number, first_read_only, first_replica}
pub use Rattle.repl_records.specs.Prune.{IsMark, decided_spelling, mark_spelling, rejected_spelling}
pub use Rattle.repl_records.specs.RecordKeys.{IsChangeKey, IsInFlightKey, change_key_cmp, change_key_spelling, in_flight_key_cmp, in_flight_key_spelling, member_key_spelling, single_spelling, unit_key_spelling}
pub use Rattle.repl_records.specs.SetState.{IsState, last_number_spelling, state_spelling}
pub use Rattle.repl_records.specs.SourceSide.{IsHead, IsSourceRow, head_spelling, in_flight_spelling, source_row_spelling}
pub use Rattle.repl_records.specs.TargetSide.{IsCopy, aggregate_spelling, copy_spelling, history_spelling, latest_spelling, point_spelling}
pub use Rattle.repl_records.specs.Trail.{IsEntry, entry_spelling}
pub use Rattle.repl_records.specs.declared.capture.CaptureState.{CaptureState}
pub use Rattle.repl_records.specs.declared.capture.ChangeRow.{ChangeRow}
pub use Rattle.repl_records.specs.declared.capture.RegState.{RegState}
pub use Rattle.repl_records.specs.declared.capture.UowRow.{UowRow}
pub use Rattle.repl_records.specs.declared.prune.Decided.{Decided}
pub use Rattle.repl_records.specs.declared.prune.RejectedUnit.{RejectedUnit}
pub use Rattle.repl_records.specs.declared.prune.SyncMark.{SyncMark}
pub use Rattle.repl_records.specs.declared.record_keys.CdKey.{CdKey}
pub use Rattle.repl_records.specs.declared.record_keys.InFlightKey.{InFlightKey}
pub use Rattle.repl_records.specs.declared.record_keys.MemberKey.{MemberKey}
pub use Rattle.repl_records.specs.declared.record_keys.Single.{Single}
pub use Rattle.repl_records.specs.declared.record_keys.UnitKey.{UnitKey}
pub use Rattle.repl_records.specs.declared.set_state.LastNumber.{LastNumber}
pub use Rattle.repl_records.specs.declared.set_state.SetState.{SetState}
pub use Rattle.repl_records.specs.declared.source_side.Head.{Head}
pub use Rattle.repl_records.specs.declared.source_side.InFlight.{InFlight}
pub use Rattle.repl_records.specs.declared.source_side.SourceRow.{SourceRow}
pub use Rattle.repl_records.specs.declared.target_side.CopyRow.{CopyRow}
pub use Rattle.repl_records.specs.declared.trail.TrailEntry.{TrailEntry}
pub use Rattle.repl_records.specs.laws.Capture.{one_capture, one_change_row, one_registration_state, one_uow}
pub use Rattle.repl_records.specs.laws.Lengths.{change_storable, copy_storable, source_storable}
pub use Rattle.repl_records.specs.laws.Prune.{one_mark}
pub use Rattle.repl_records.specs.laws.RecordKeys.{one_change_key, one_in_flight_key, order_change_key, order_in_flight_key}
pub use Rattle.repl_records.specs.laws.SetState.{one_state}
pub use Rattle.repl_records.specs.laws.SourceSide.{one_head}
pub use Rattle.repl_records.specs.laws.Trail.{one_entry}
pub use Rattle.world_store.specs.Becoming.{Becomes}
pub use Rattle.world_store.specs.CaptureRows.{capture_rows, capture_state, change_rows_of, decided_rows, first_decided_rows, mark_rows, registration_state_rows, rejected_rows, uow_rows}
pub use Rattle.world_store.specs.DefinitionRows.{defined_registration, numbered_tables, registration_rows, source_set_rows, table_rows, target_set_rows}
pub use Rattle.world_store.specs.LogRows.{head_of, head_rows, in_flight_key, in_flight_rows, log_rows, source_rows}
pub use Rattle.world_store.specs.SpelledRows.{AreRows, RowFits, Spells, definition_limit}
pub use Rattle.world_store.specs.Stands.{Holds, Reveals, Stands, shown}
pub use Rattle.world_store.specs.Tables.{alone, capture_table, change_table, definition_table, member_table, no_rows, prune_table, source_table, state_table, target_table, trail_table, with_first}
unfoldable pub use Rattle.world_store.specs.Tables.{first_table, tables}
pub use Rattle.world_store.specs.TargetRows.{aggregate_rows, copy_rows, count_op, first_state_rows, has_points, history_rows, is_delete, is_insert, is_update, latest_rows, member_changes, numbered_members, numbered_target_sets, numbers_given, rows_refreshed, set_changes, set_rows_refreshed, set_state_rows, source_of, source_time, state_of, trail_entry, trail_rows}
pub use Rattle.world_store.specs.laws.BecomesHolds.{StaysShown, becomes_holds}
pub use Rattle.world_store.specs.laws.ByKey.{by_key_fits, by_key_has, spelled_cmp}
pub use Rattle.world_store.specs.laws.DefinitionRows.{are_places, head_is, name_one, registration_rows_are, set_alike, set_one, source_rows_are, table_rows_are, tail_is, target_rows_are}
pub use Rattle.world_store.specs.laws.FewChanges.{positions_rise}
pub use Rattle.world_store.specs.laws.FewRows.{between_few, changes_add, filter_few, selected_few, source_few}
pub use Rattle.world_store.specs.laws.FirstStates.{no_first}
pub use Rattle.world_store.specs.laws.MemberReads.{reach, reach_within}
pub use Rattle.world_store.specs.laws.Sides.{MemberStays, SideStays, SourceStays, is_longer, is_same, is_unread, same_sides}
pub use Rattle.world_store.specs.laws.TablesStay.{number_rows, number_rows_stay, state_stays, table_at, table_stays, tables_stay}
pub use Rattle.world_store.specs.laws.StandsNext.{stands_with_server}
pub use Rattle.world_store.specs.laws.PutTables.{KeysFit, both_pass, is_less, put_table, removed_table, sorted_rises, table_finds}
