-- What a member of a set takes of its source: the rows, the change rows, and the values of its columns.
use Rattle.std.specs.Prelude.{ℕ, Bool, true, ◌==◌, List, length, map, filter, slice_index_or, Option, Some, None}
use Rattle.std.specs.List.{filter_map, position_or_len, range_with_len}
use Rattle.std.specs.Option.{option_map_or}
use Rattle.std.specs.FinMap.{entries}
use Rattle.repl_types.specs.Value.{Values}
use Rattle.repl_types.specs.declared.value.Value.{Value}
use Rattle.repl_types.specs.declared.value.Value.TheVariants.{Null}
use Rattle.repl_types.specs.declared.table.TableDef.{TableDef}
use Rattle.repl_types.specs.declared.record.LogRecord.{LogRecord}
use Rattle.repl_types.specs.declared.change_row.Registration.{Registration}
use Rattle.repl_types.specs.declared.change_row.CdRow.{CdRow}
use Rattle.repl_definitions.specs.declared.member.ColumnFrom.{ColumnFrom}
use Rattle.repl_definitions.specs.declared.member.ColumnFrom.TheVariants.{Plain, Count, CountOf, Sum, Min, Max}
use Rattle.repl_definitions.specs.declared.member.Member.{Member}
use Rattle.repl_model.specs.Expressions.{value_of, is_true_of}
use Rattle.repl_model.specs.SourceAt.{source_at}
use Rattle.repl_model.specs.ChangeRows.{changes_between}

-- A registered table of a server, with the server's log.
pub record SourceTable : Type 0 where
  pub def : TableDef
  pub reg : Registration
  pub log : List LogRecord

-- the member's predicate is true of the row, or it has none
abbrev pub is_selected : Member → Values → Bool
is_selected member row = option_map_or (is_true_of row) member.filter true

-- the rows of the source at a point that a member selects, each with its key, in the order of the keys
abbrev pub selected_rows : SourceTable → Member → ℕ → List (Values × Values)
selected_rows source member point = filter (λ r. is_selected member r.1) (entries (source_at source.def source.log point))

-- the after-images of a change row, as a row of the table; a column that isn't registered is NULL
abbrev pub imaged_row : SourceTable → CdRow → Values
imaged_row source change = map (λ column. slice_index_or change.after (position_or_len (λ place. place == column) source.reg.after) Null) (range_with_len 0 (length source.def.columns))

-- the change rows after one point and up to another that a member selects, by their after-images
abbrev pub selected_changes : SourceTable → Member → ℕ → ℕ → List CdRow
selected_changes source member low high = filter (λ change. is_selected member (imaged_row source change)) (changes_between source.log source.reg low high)

-- the value of a column for a row, if the column sums nothing up
abbrev pub plain_value : Values → ColumnFrom → Option Value
plain_value row (Plain e) = Some (value_of row e)
plain_value row Count = None
plain_value row (CountOf place) = None
plain_value row (Sum place) = None
plain_value row (Min place) = None
plain_value row (Max place) = None

-- the values of a member's columns for a row, those that sum up left out
abbrev pub target_row : Member → Values → Values
target_row member row = filter_map (λ column. plain_value row column.from) member.columns
