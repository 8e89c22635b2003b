-- Groups of rows, and what is summed up of each.
use Rattle.std.specs.Prelude.{ℕ, pos, ◌+ℤ◌, ℤ, not, if◌then◌else◌, List, [], ◌∷◌, length, map, filter, fold, slice_index_or, Option, Some, None}
use Rattle.std.specs.List.{filter_map, reduce}
use Rattle.std.specs.Option.{unwrap_or}
use Rattle.std.specs.Ordering.{is_lt}
use Rattle.std.specs.declared.cmp.Ordering.{Ordering}
use Rattle.std.specs.FinMap.{put}
use Rattle.repl_types.specs.Value.{Values, value_cmp, key_cmp}
use Rattle.repl_types.specs.declared.value.Value.{Value}
use Rattle.repl_types.specs.declared.value.Value.TheVariants.{Null, Int, Text}
use Rattle.repl_definitions.specs.declared.member.ColumnFrom.{ColumnFrom}
use Rattle.repl_definitions.specs.declared.member.ColumnFrom.TheVariants.{Plain, Count, CountOf, Sum, Min, Max}
use Rattle.repl_definitions.specs.declared.member.Member.{Member}
use Rattle.repl_model.specs.Expressions.{is_null, integer, value_of}
use Rattle.repl_model.specs.Tables.{same_values}
use Rattle.repl_model.specs.Selection.{target_row}

-- ---- the values of a column

-- the values of a column in some rows, without NULL
abbrev pub values_in : ℕ → List Values → List Value
values_in place rows = filter (λ v. not (is_null v)) (map (λ row. slice_index_or row place Null) rows)

-- the integer that a value is, if it is one
abbrev pub integer_in : Value → Option ℤ
integer_in Null = None
integer_in (Int n) = Some n
integer_in (Text t) = None

-- the lesser of two values
abbrev pub lesser : Value → Value → Value
lesser v w = if is_lt (value_cmp w v) then w else v

-- the greater of two values
abbrev pub greater : Value → Value → Value
greater v w = if is_lt (value_cmp v w) then w else v

-- the sum of integers, NULL if there is none, or if 64 bits don't hold the exact sum
abbrev pub sum_of : List ℤ → Value
sum_of [] = Null
sum_of (n ∷ ns) = integer (fold ◌+ℤ◌ n ns)

-- ---- groups

-- entries in the order of their keys; of those with one key the last
unfoldable pub by_key : {K X : Type 0} → (K → K → Ordering) → List (K × X) → List (K × X)
by_key cmp entries = fold (λ sorted e. put cmp e.0 e.1 sorted) [] entries

-- what a column has of a group, given a row of it and all of them. Of no values the sum, the least and the
-- greatest are NULL.
abbrev pub group_value : Values → List Values → ColumnFrom → Value
group_value row rows (Plain e) = value_of row e
group_value row rows Count = Int (pos (length rows))
group_value row rows (CountOf place) = Int (pos (length (values_in place rows)))
group_value row rows (Sum place) = sum_of (filter_map integer_in (values_in place rows))
group_value row rows (Min place) = unwrap_or (reduce lesser (values_in place rows)) Null
group_value row rows (Max place) = unwrap_or (reduce greater (values_in place rows)) Null

-- The groups of rows: for each list of values that rows have in the columns that sum nothing up, in the
-- order of these lists, the values of all columns for the rows that have it.
unfoldable pub groups_of : Member → List Values → List Values
groups_of member rows = map (λ g. map (λ column. group_value g.1 (filter (λ row. same_values (target_row member row) g.0) rows) column.from) member.columns) (by_key key_cmp (map (λ row. (target_row member row, row)) rows))
