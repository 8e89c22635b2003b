-- The words that laws and proofs of upper crates cite, passed on from one place. Declares nothing.
pub use Rattle.repl_types.specs.Area.{area_number, same_area}
pub use Rattle.repl_types.specs.Bytes.{bytes_cmp}
pub use Rattle.repl_types.specs.Name.{is_letter, is_name, name_of}
pub use Rattle.repl_types.specs.Numbers.{integer_of}
pub use Rattle.repl_types.specs.Sequence.{hex_digit, sequence_cmp}
unfoldable pub use Rattle.repl_types.specs.Sequence.{hex_digits}
pub use Rattle.repl_types.specs.Sizes.{IsKeySize, key_limit, row_limit, text_limit, time_limit, value_limit}
pub use Rattle.repl_types.specs.Value.{Values, images, key_cmp, spelled_len}
pub use Rattle.repl_types.specs.ValueText.{IsValue, backslash, quote}
pub use Rattle.repl_types.specs.declared.area.Area.{Area}
pub use Rattle.repl_types.specs.declared.call_errors.AppendError.{AppendError}
pub use Rattle.repl_types.specs.declared.call_errors.ShowError.{ShowError}
pub use Rattle.repl_types.specs.declared.change_row.CdRow.{CdRow}
pub use Rattle.repl_types.specs.declared.change_row.Op.{Op}
pub use Rattle.repl_types.specs.declared.change_row.Registration.{Registration}
pub use Rattle.repl_types.specs.declared.fault.Counts.{Counts}
pub use Rattle.repl_types.specs.declared.fault.Fault.{Fault}
pub use Rattle.repl_types.specs.declared.fault.Stepped.{Stepped}
pub use Rattle.repl_types.specs.declared.record.Change.{Change}
pub use Rattle.repl_types.specs.declared.record.LogRecord.{LogRecord}
pub use Rattle.repl_types.specs.declared.record.SetId.{SetId}
pub use Rattle.repl_types.specs.declared.refusal.GapPlace.{GapPlace}
pub use Rattle.repl_types.specs.declared.refusal.Refusal.{Refusal}
pub use Rattle.repl_types.specs.declared.sequence.Sequence.{Sequence}
pub use Rattle.repl_types.specs.declared.status.DamageCause.{DamageCause}
pub use Rattle.repl_types.specs.declared.status.Status.{Status}
pub use Rattle.repl_types.specs.declared.table.ColumnDef.{ColumnDef}
pub use Rattle.repl_types.specs.declared.table.Kind.{Kind}
pub use Rattle.repl_types.specs.declared.table.TableDef.{TableDef}
pub use Rattle.repl_types.specs.declared.unit.Placed.{Placed}
pub use Rattle.repl_types.specs.declared.unit.Unit.{Unit}
pub use Rattle.repl_types.specs.declared.unit.UnitHead.{UnitHead}
pub use Rattle.repl_types.specs.declared.value.Value.{Value}
pub use Rattle.repl_types.specs.laws.Lists.{all_append, all_filter, all_weaker, filter_alike, filter_all, filter_none}
pub use Rattle.repl_types.specs.laws.Names.{name_found}
pub use Rattle.repl_types.specs.laws.Order.{exact_key, key_cmp_total}
pub use Rattle.repl_definitions.specs.Defined.{HasDefinedRegistrationSpelling, HasDefinedTableSpelling, IsDefinedRegistration, IsDefinedTable, defined_registration_spelling, defined_table_spelling}
pub use Rattle.repl_definitions.specs.Exprs.{ExprNode, HasExprNodeSpelling, HasExprSpelling, IsExpr, IsExprNode, expr_layer_below, expr_layer_top}
unfoldable pub use Rattle.repl_definitions.specs.Exprs.{expr_nodes}
pub use Rattle.repl_definitions.specs.Forests.{NodesFit}
pub use Rattle.repl_definitions.specs.Members.{HasFilterSpelling, HasMemberSpelling, HasSourceSpelling, HasTargetColumnSpelling, IsMember, IsSource, IsTargetColumn}
pub use Rattle.repl_definitions.specs.Predicates.{HasOperandSpelling, HasPredicateNodeSpelling, HasPredicateSpelling, PredicateNode, predicate_layer_below, predicate_layer_top}
unfoldable pub use Rattle.repl_definitions.specs.Predicates.{predicate_nodes}
pub use Rattle.repl_definitions.specs.Sets.{HasSetDefSpelling, HasSourceSetSpelling, HasTargetSetSpelling, IsSetDef, IsSourceSet, IsTargetSet, set_def_spelling, source_set_spelling, target_set_spelling}
pub use Rattle.repl_definitions.specs.declared.defined.DefinedRegistration.{DefinedRegistration}
pub use Rattle.repl_definitions.specs.declared.defined.DefinedTable.{DefinedTable}
pub use Rattle.repl_definitions.specs.declared.expr.Expr.{Expr, Expr-F, fold-roll-Expr, ind-Expr, map-Expr, roll-Expr}
pub use Rattle.repl_definitions.specs.declared.member.ColumnFrom.{ColumnFrom}
pub use Rattle.repl_definitions.specs.declared.member.Member.{Member}
pub use Rattle.repl_definitions.specs.declared.member.TargetColumn.{TargetColumn}
pub use Rattle.repl_definitions.specs.declared.member.TargetKind.{TargetKind}
pub use Rattle.repl_definitions.specs.declared.predicate.CompareOp.{CompareOp}
pub use Rattle.repl_definitions.specs.declared.predicate.Operand.{Operand}
pub use Rattle.repl_definitions.specs.declared.predicate.Predicate.{Predicate, Predicate-F, fold-roll-Predicate, ind-Predicate, map-Predicate, roll-Predicate}
pub use Rattle.repl_definitions.specs.declared.set.SetDef.{SetDef}
pub use Rattle.repl_definitions.specs.declared.set.SourceSet.{SourceSet}
pub use Rattle.repl_definitions.specs.declared.set.TargetSet.{TargetSet}
pub use Rattle.repl_definitions.specs.laws.Defined.{again_defined_registration, again_defined_table, one_defined_registration, one_defined_table}
pub use Rattle.repl_definitions.specs.laws.Sets.{again_source_set, again_target_set, one_set_def, one_source_set, one_target_set}
pub use Rattle.lists.specs.Lists.{all_differ, are_among, is_among, places_rise}
pub use Rattle.lists.specs.laws.Embedded.{Embeds, embeds_any, embeds_before, embeds_differ, embeds_filter, embeds_filter_map, embeds_flat_map, embeds_in, embeds_none, embeds_zip}
pub use Rattle.lists.specs.laws.Images.{differ_images, filter_images, found_alone, given_images, image_stands, listed_images}
pub use Rattle.lists.specs.laws.Members.{In, all_parts, all_pass_from, any_from, any_image, at_each, at_one, beside_images, beside_itself, beside_more, beside_weaker, each_beside, each_given, each_image, find_alone, find_image, first_alone, found_first, found_in, given_each, given_in, image_in, in_either, in_filter, in_filter_map, in_first, in_flat_map, in_map, in_second, kept_by, listed_in, only_one, passes_at, some_passes}
pub use Rattle.lists.specs.laws.Numbered.{at_place_in, in_numbered, numbered_alike, numbered_in, numbered_lists_alike, numbered_place, place_alike}
pub use Rattle.lists.specs.laws.Options.{chosen_none, map_none, none_pass, not_not, or_none}
pub use Rattle.lists.specs.laws.Places.{above_zero, alike, all_numbered, all_pass, among_below, among_first, at_within, distinct_few, filter_map_few, one_first, rising_few}
pub use Rattle.repl_model.specs.AfterActions.{after_action, base_point, block_entry, is_base_aggregate, refresh_entry, refreshed, reported, signal_records, signalled, source_tables, with_entry, with_server, with_source_side, with_target_side}
pub use Rattle.repl_model.specs.Aggregates.{SummaryRow, summary_rows}
unfoldable pub use Rattle.repl_model.specs.Aggregates.{base_aggregate, change_aggregate}
pub use Rattle.repl_model.specs.Applicable.{fits, fits_column, fits_columns, is_change_applicable, is_signal, is_signal_applicable, table_named}
unfoldable pub use Rattle.repl_model.specs.Applicable.{change_fits, is_applicable}
pub use Rattle.repl_model.specs.ChangeRows.{delete_row, insert_row, rows_of, rows_of_placed, shows_nothing, update_row}
unfoldable pub use Rattle.repl_model.specs.ChangeRows.{change_rows, changes_between}
pub use Rattle.repl_model.specs.Expressions.{compares, has_64_bits, integer, is_null, layer_truth, layer_value, of_integers, of_texts, operand_value}
unfoldable pub use Rattle.repl_model.specs.Expressions.{is_true_of, value_of}
pub use Rattle.repl_model.specs.History.{HistoryEntry, change_entry, interval_entries}
unfoldable pub use Rattle.repl_model.specs.History.{condensed, history}
pub use Rattle.repl_model.specs.Longer.{EndsWithin, NoneFrom, grown, grown_server, grown_set, lengthened, new_units, points_of, with_more}
pub use Rattle.repl_model.specs.MemberCopies.{MarkedRow, change_time}
unfoldable pub use Rattle.repl_model.specs.MemberCopies.{point_in_time_copy, user_copy}
pub use Rattle.repl_model.specs.NextActions.{Action, Gap, at_rest, blocks, by_gap, first_cut, gap_of, idles, is_disabled, is_new, is_within, member_gap, next_action, next_action_within, next_units, place_of_gap, refresh_by_signal, refreshes, refuses, registration_of, reports, signals, units_until, uow_gap}
pub use Rattle.repl_model.specs.Replicas.{comes_from, is_of_set, keys_changed, meets}
unfoldable pub use Rattle.repl_model.specs.Replicas.{part_of}
pub use Rattle.repl_model.specs.Rules.{KeepsAllImages, MemberKeepsRules, RegistrationKeepsRules, ReplicaKeepsRules, TableKeepsRules, all_places, columns_from, condensed_may_move, copy_may_move, filter_columns, from_fits, is_copy, is_int, is_replica, is_replica_set, is_text, keys_stand, layer_columns, layer_fits, layer_tested, may_be_key, operand_columns, operand_kind, sums_fit}
unfoldable pub use Rattle.repl_model.specs.Rules.{columns_read, columns_tested, kind_of, kinds_fit}
pub use Rattle.repl_model.specs.Selection.{SourceTable, imaged_row, is_selected, plain_value, selected_changes, selected_rows, target_row}
pub use Rattle.repl_model.specs.Sound.{AreServerNames, GoesOn, IsSound, NumbersAreSound, SignalsAreSound, TrailIsSound, is_base, is_seq, is_seq_or_zero}
pub use Rattle.repl_model.specs.SoundDefinitions.{DefinitionsAreSound, IsFresh, KeepsReadOnlyRules, KeepsReplicaRules, KeepsTable, KnownSetKeepsRules, MemberIsSound, ReplicaMemberIsSound, ServerKeepsRules, SetKeepsLimits, UnknownSource, UnknownTarget, column_limit, has_origin, has_replicas, has_sources, loaded_sets, member_limit, read_only_sets, replica_sets, same_place, server_limit, set_limit, sources_of, stands_at_target, table_limit, targets_of, waits_for_load}
pub use Rattle.repl_model.specs.SoundLogs.{LogIsSound, begins_with_tx, is_of_tx, is_own_abort, is_own_change, log_limit, own_units_are_whole, record_fits, signals_stand_alone, times_rise}
pub use Rattle.repl_model.specs.SoundReplicas.{DecisionsAreCaptured, IsExactlyOnce, IsIndependent, IsReplicaTrail, ReplicaMarksAreSound, SettlesFrom, accepted_after, master_point, others_before, rejected_before, sent_after, settled_point}
pub use Rattle.repl_model.specs.SourceAt.{after_units, table_after, units_between, units_up_to, unplaced}
unfoldable pub use Rattle.repl_model.specs.SourceAt.{source_at, time_at}
pub use Rattle.repl_model.specs.Summaries.{group_value}
unfoldable pub use Rattle.repl_model.specs.Summaries.{by_key, groups_of}
pub use Rattle.repl_model.specs.Tables.{Rows, after_changes, all_apply, applies_here, effect, holds, inverse, is_row, key_of, same_values, table_of}
unfoldable pub use Rattle.repl_model.specs.Tables.{after_change, applies}
pub use Rattle.repl_model.specs.Trails.{Entry, Trail, base_after, base_of, block, load, point_after, refresh, replica_after, replica_point, settle, synchpoint}
pub use Rattle.repl_model.specs.Units.{At, change_of, changes_up_to, ends, last_commit, last_end, last_seq, last_time, open_changes, positions, unit_at, unit_of}
unfoldable pub use Rattle.repl_model.specs.Units.{units}
pub use Rattle.repl_model.specs.WorkedOrders.{order, orders_insert, user_commit}
pub use Rattle.repl_model.specs.World.{KnownSet, Registered, Server, ServerTable, SourceSide, TargetSide, World, as_source, code_in, empty_server, empty_world, is_known, is_open_at, known_from, known_set, registered_of, same_set, server_in, server_named, server_table, source_named, source_side, tables_of, target_side}
unfoldable pub use Rattle.repl_model.specs.World.{known_sets, restart_after}
pub use Rattle.repl_model.specs.laws.Applicable.{columns_length}
pub use Rattle.repl_model.specs.laws.EmptyWorld.{empty_is_sound}
pub use Rattle.repl_model.specs.laws.Entries.{entry_has_row, row_is_entry}
pub use Rattle.repl_model.specs.laws.Evaluate.{entries_empty, entries_remove}
pub use Rattle.repl_model.specs.laws.GrowingServers.{IsBetween, IsNewRegistration, IsNewSource, IsNewTable, IsNewTarget, ServerGrows, TableGrows, WorldGrows, holds_after, id_itself, literal, log_stays, name_itself, name_stays, no_table, same_id, same_name, same_source, server_stays, source_found, with_lists}
pub use Rattle.repl_model.specs.laws.GrowingWorlds.{HaveSameNames, limits_stay, names_stay, origin_stays, unknown_sources, unknown_targets}
pub use Rattle.repl_model.specs.laws.Inverse.{none_is, row_is}
pub use Rattle.repl_model.specs.laws.Kinds.{fits_and, fits_compare, fits_not_null, fits_null, fits_or, kind_add, kind_column, kind_concat, kind_int, kind_mul, kind_sub, kind_text}
pub use Rattle.repl_model.specs.laws.KnownSets.{IsNewSet, SetGrows, StandsIn, UnknownHasNoStep, at_source_in, known_before, known_in, known_side, known_stands, known_stay, same_ids, source_in}
pub use Rattle.repl_model.specs.laws.Longer.{changes_stay_longer, restart_stays_longer, time_stays_longer, units_between_stay_longer}
pub use Rattle.repl_model.specs.laws.LongerCopies.{base_aggregate_stays, change_aggregate_stays, history_stays, point_in_time_copy_stays, selected_rows_stay, user_copy_stays}
pub use Rattle.repl_model.specs.laws.LongerLists.{all_flat_map, all_of, flat_map_alike, list_all_weaker, map_alike}
pub use Rattle.repl_model.specs.laws.LongerSets.{trail_within}
pub use Rattle.repl_model.specs.laws.LongerUnits.{is_seq_or_zero_within, is_seq_within, last_commit_within, units_longer}
pub use Rattle.repl_model.specs.laws.LongerWorlds.{captured_grow, exactly_once_grows, grown_nothing, independence_grows, known_sets_grow, loaded_sets_grow, marks_grow, new_units_later, numbers_grow, read_only_sets_grow, signals_grow, trail_grows}
pub use Rattle.repl_model.specs.laws.Rows.{same_values_exact}
pub use Rattle.repl_model.specs.laws.ShortTrails.{goes_within}
pub use Rattle.repl_model.specs.laws.Source.{source_abort, source_at_last, source_change, source_commit}
pub use Rattle.repl_model.specs.laws.Trees.{read_column, tested_compare}
pub use Rattle.repl_model.specs.laws.Units.{changes_join, enumerate_within, last_commit_commit, last_time_commit, open_changes_abort, open_changes_change, open_changes_commit, positions_push, positions_within, seqs_at_most, seqs_within, units_abort, units_change, units_commit, units_few, units_up_to_zero}
