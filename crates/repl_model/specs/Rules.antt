-- The rules that definitions keep: what must hold of a table, of a registration, and of a member over its
-- source.
use Rattle.std.specs.Prelude.{◌≡◌, ℕ, Bool, true, false, IsTrue, ◌&&◌, ◌||◌, not, ◌==◌, nat_lt, if◌then◌else◌, List, [], ◌∷◌, ◌++◌, length, count_by, Option, Some, None, is_some, slice_get}
use Rattle.std.specs.List.{list_all, list_any, range_with_len}
use Rattle.std.specs.Option.{option_map, option_map_or}
use Rattle.std.specs.Str.{bytes_eq}
use Rattle.lists.specs.Lists.{all_differ, are_among, places_rise}
use Rattle.repl_types.specs.Name.{is_name}
use Rattle.repl_types.specs.declared.table.Kind.{Kind}
use Rattle.repl_types.specs.declared.table.Kind.TheVariants as kinds
use Rattle.repl_types.specs.declared.table.ColumnDef.{ColumnDef}
use Rattle.repl_types.specs.declared.table.TableDef.{TableDef}
use Rattle.repl_types.specs.declared.change_row.Registration.{Registration}
use Rattle.repl_types.specs.declared.value.Value.{Value}
use Rattle.repl_types.specs.declared.value.Value.TheVariants as values
use Rattle.repl_definitions.specs.declared.expr.Expr.{Expr, Expr-F, fold-Expr, out-Expr}
use Rattle.repl_definitions.specs.declared.expr.Expr.TheOpen as layer
use Rattle.repl_definitions.specs.declared.predicate.Operand.{Operand}
use Rattle.repl_definitions.specs.declared.predicate.Operand.TheVariants as operands
use Rattle.repl_definitions.specs.declared.predicate.Predicate.{Predicate, Predicate-F, fold-Predicate}
use Rattle.repl_definitions.specs.declared.predicate.Predicate.TheOpen as test
use Rattle.repl_definitions.specs.declared.member.ColumnFrom.{ColumnFrom}
use Rattle.repl_definitions.specs.declared.member.ColumnFrom.TheVariants.{Plain, Count, CountOf, Sum, Min, Max}
use Rattle.repl_definitions.specs.declared.member.Member.{Member}
use Rattle.repl_definitions.specs.declared.member.TargetKind.{TargetKind}
use Rattle.repl_definitions.specs.declared.member.TargetKind.TheVariants.{UserCopy, PointInTime, BaseAggregate, ChangeAggregate, Ccd, Replica}
use Rattle.repl_definitions.specs.declared.set.SetDef.{SetDef}
use Rattle.repl_model.specs.Selection.{SourceTable}

-- ---- tables

-- the places of all columns of a table
abbrev pub all_places : TableDef → List ℕ
all_places def = range_with_len 0 (length def.columns)

-- the name of a table and those of its columns are names
abbrev pub table_names_are_names : TableDef → Bool
table_names_are_names def = is_name def.name && list_all (λ column. is_name column.name) def.columns

-- no column stands twice, not in the key and not among the fixed ones either
abbrev pub columns_differ : TableDef → Bool
columns_differ def = all_differ (λ a b. bytes_eq a.name b.name) def.columns && all_differ ◌==◌ def.key && all_differ ◌==◌ def.fixed

-- there is a column
abbrev pub has_columns : TableDef → Bool
has_columns def = nat_lt 0 (length def.columns)

-- the column at a place may be in a key: there is one, and NULL may not stand there
abbrev pub may_be_key : TableDef → ℕ → Bool
may_be_key def place = option_map_or (λ column. not column.nullable) (slice_get def.columns place) false

-- the key has columns, none of them nullable, and the fixed columns are columns
abbrev pub has_key : TableDef → Bool
has_key def = nat_lt 0 (length def.key) && list_all (may_be_key def) def.key && are_among (all_places def) def.fixed

-- ---- registrations

-- the after-images are columns in the table's order, and those of the key are among them
abbrev pub after_images_fit : TableDef → Registration → Bool
after_images_fit def reg = places_rise reg.after && are_among (all_places def) reg.after && are_among reg.after def.key

-- the before-images are among the after-images, in the table's order
abbrev pub before_images_fit : Registration → Bool
before_images_fit reg = places_rise reg.before && are_among reg.after reg.before

-- ---- expressions and predicates

-- the columns that an expression reads, given those that the expressions below it read
abbrev pub layer_columns : Expr-F (List ℕ) → List ℕ
layer_columns (layer.Column place) = place ∷ []
layer_columns (layer.Int n) = []
layer_columns (layer.Text t) = []
layer_columns (layer.Add left right) = left ++ right
layer_columns (layer.Sub left right) = left ++ right
layer_columns (layer.Mul left right) = left ++ right
layer_columns (layer.Concat left right) = left ++ right

-- the columns that an expression reads
unfoldable pub columns_read : Expr → List ℕ
columns_read = fold-Expr (List ℕ) layer_columns

-- the kind of a column, if there is one at the place
abbrev pub column_kind : List ColumnDef → ℕ → Option Kind
column_kind columns place = option_map (λ column. column.kind) (slice_get columns place)

-- the kind is that of integers
abbrev pub is_int : Option Kind → Bool
is_int None = false
is_int (Some kinds.Int) = true
is_int (Some kinds.Text) = false

-- the kind is that of texts
abbrev pub is_text : Option Kind → Bool
is_text None = false
is_text (Some kinds.Int) = false
is_text (Some kinds.Text) = true

-- the kind of an expression, given the kinds of those below it, if its operation has operands of its kind
abbrev pub layer_kind : List ColumnDef → Expr-F (Option Kind) → Option Kind
layer_kind columns (layer.Column place) = column_kind columns place
layer_kind columns (layer.Int n) = Some kinds.Int
layer_kind columns (layer.Text t) = Some kinds.Text
layer_kind columns (layer.Add left right) = if is_int left && is_int right then Some kinds.Int else None
layer_kind columns (layer.Sub left right) = if is_int left && is_int right then Some kinds.Int else None
layer_kind columns (layer.Mul left right) = if is_int left && is_int right then Some kinds.Int else None
layer_kind columns (layer.Concat left right) = if is_text left && is_text right then Some kinds.Text else None

-- the kind of an expression, if its operations have operands of their kinds
unfoldable pub kind_of : List ColumnDef → Expr → Option Kind
kind_of columns = fold-Expr (Option Kind) (layer_kind columns)

-- the column that an operand reads, if it reads one
abbrev pub operand_columns : Operand → List ℕ
operand_columns (operands.Column place) = place ∷ []
operand_columns (operands.Value v) = []

-- the columns that a predicate reads, given those that the predicates below it read
abbrev pub layer_tested : Predicate-F (List ℕ) → List ℕ
layer_tested (test.Compare left op right) = operand_columns left ++ operand_columns right
layer_tested (test.IsNull place) = place ∷ []
layer_tested (test.IsNotNull place) = place ∷ []
layer_tested (test.And left right) = left ++ right
layer_tested (test.Or left right) = left ++ right

-- the columns that a predicate reads
unfoldable pub columns_tested : Predicate → List ℕ
columns_tested = fold-Predicate (List ℕ) layer_tested

-- the kind of a value, if it isn't NULL
abbrev pub value_kind : Value → Option Kind
value_kind values.Null = None
value_kind (values.Int n) = Some kinds.Int
value_kind (values.Text t) = Some kinds.Text

-- the kind of an operand, if it has one
abbrev pub operand_kind : List ColumnDef → Operand → Option Kind
operand_kind columns (operands.Column place) = column_kind columns place
operand_kind columns (operands.Value v) = value_kind v

-- the two sides of a comparison have one kind, and what is below fits
abbrev pub layer_fits : List ColumnDef → Predicate-F Bool → Bool
layer_fits columns (test.Compare left op right) = is_int (operand_kind columns left) && is_int (operand_kind columns right)
    || is_text (operand_kind columns left) && is_text (operand_kind columns right)
layer_fits columns (test.IsNull place) = true
layer_fits columns (test.IsNotNull place) = true
layer_fits columns (test.And left right) = left && right
layer_fits columns (test.Or left right) = left && right

-- the two sides of each comparison of a predicate have one kind
unfoldable pub kinds_fit : List ColumnDef → Predicate → Bool
kinds_fit columns = fold-Predicate Bool (layer_fits columns)

-- ---- members

-- the column that an expression is, if it is nothing more
abbrev pub column_of_layer : Expr-F Expr → Option ℕ
column_of_layer (layer.Column place) = Some place
column_of_layer (layer.Int n) = None
column_of_layer (layer.Text t) = None
column_of_layer (layer.Add left right) = None
column_of_layer (layer.Sub left right) = None
column_of_layer (layer.Mul left right) = None
column_of_layer (layer.Concat left right) = None

-- the column that a target's column is, if it is nothing more
abbrev pub just_column : ColumnFrom → Option ℕ
just_column (Plain e) = column_of_layer (out-Expr e)
just_column Count = None
just_column (CountOf place) = None
just_column (Sum place) = None
just_column (Min place) = None
just_column (Max place) = None

-- the columns that a target's column reads
abbrev pub columns_from : ColumnFrom → List ℕ
columns_from (Plain e) = columns_read e
columns_from Count = []
columns_from (CountOf place) = place ∷ []
columns_from (Sum place) = place ∷ []
columns_from (Min place) = place ∷ []
columns_from (Max place) = place ∷ []

-- the operations of a target's column have operands of their kinds
abbrev pub from_fits : List ColumnDef → ColumnFrom → Bool
from_fits columns (Plain e) = is_some (kind_of columns e)
from_fits columns Count = true
from_fits columns (CountOf place) = true
from_fits columns (Sum place) = true
from_fits columns (Min place) = true
from_fits columns (Max place) = true

-- a target's column sums up rows
abbrev pub sums_up : ColumnFrom → Bool
sums_up (Plain e) = false
sums_up Count = true
sums_up (CountOf place) = true
sums_up (Sum place) = true
sums_up (Min place) = true
sums_up (Max place) = true

-- a target's column is the sum of a text column
abbrev pub sums_texts : List ColumnDef → ColumnFrom → Bool
sums_texts columns (Plain e) = false
sums_texts columns Count = false
sums_texts columns (CountOf place) = false
sums_texts columns (Sum place) = is_text (column_kind columns place)
sums_texts columns (Min place) = false
sums_texts columns (Max place) = false

-- the columns that a member's predicate reads
abbrev pub filter_columns : Member → List ℕ
filter_columns member = option_map_or columns_tested member.filter []

-- a replica
abbrev pub is_replica : TargetKind → Bool
is_replica UserCopy = false
is_replica PointInTime = false
is_replica BaseAggregate = false
is_replica ChangeAggregate = false
is_replica (Ccd complete condensed) = false
is_replica Replica = true

-- the members of a set are replicas
abbrev pub is_replica_set : SetDef → Bool
is_replica_set def = list_any (λ member. is_replica member.kind) def.members

-- an aggregate of either kind
abbrev pub is_aggregate : TargetKind → Bool
is_aggregate UserCopy = false
is_aggregate PointInTime = false
is_aggregate BaseAggregate = true
is_aggregate ChangeAggregate = true
is_aggregate (Ccd complete condensed) = false
is_aggregate Replica = false

-- a user copy or a point-in-time copy
abbrev pub is_copy : TargetKind → Bool
is_copy UserCopy = true
is_copy PointInTime = true
is_copy BaseAggregate = false
is_copy ChangeAggregate = false
is_copy (Ccd complete condensed) = false
is_copy Replica = false

-- a condensed consistent-change-data table
abbrev pub is_condensed : TargetKind → Bool
is_condensed UserCopy = false
is_condensed PointInTime = false
is_condensed BaseAggregate = false
is_condensed ChangeAggregate = false
is_condensed (Ccd complete condensed) = condensed
is_condensed Replica = false

-- the name of a member's target and those of its columns are names
abbrev pub member_names_are_names : Member → Bool
member_names_are_names member = is_name member.source && is_name member.target && list_all (λ column. is_name column.name) member.columns

-- no column of the target stands twice
abbrev pub target_columns_differ : Member → Bool
target_columns_differ member = all_differ (λ a b. bytes_eq a.name b.name) member.columns

-- there are columns; they and the predicate read only registered columns, with operands of their kinds
abbrev pub columns_fit : SourceTable → Member → Bool
columns_fit source member = nat_lt 0 (length member.columns)
    && list_all (λ column. are_among source.reg.after (columns_from column.from) && from_fits source.def.columns column.from) member.columns
    && are_among source.reg.after (filter_columns member)
    && option_map_or (kinds_fit source.def.columns) member.filter true

-- a target whose rows stand under their keys has each column of the key as exactly one of its columns
abbrev pub keys_stand : SourceTable → Member → Bool
keys_stand source member = not (is_copy member.kind || is_condensed member.kind)
    || list_all (λ k. count_by (λ column. option_map_or (λ place. place == k) (just_column column.from) false) member.columns == 1) source.def.key

-- Of a copy, the columns of the key and of the predicate are fixed or have before-images, or updates are
-- taken apart: else a change row wouldn't say which row to remove.
abbrev pub copy_may_move : SourceTable → Member → Bool
copy_may_move source member = not (is_copy member.kind) || source.reg.del_ins
    || are_among (source.def.fixed ++ source.reg.before) (source.def.key ++ filter_columns member)

-- Of a condensed table, these columns are fixed, or updates are taken apart: else a row that moves would
-- leave no trace of its old key.
abbrev pub condensed_may_move : SourceTable → Member → Bool
condensed_may_move source member = not (is_condensed member.kind) || source.reg.del_ins
    || are_among source.def.fixed (source.def.key ++ filter_columns member)

-- Each column of an aggregate is a column of the source or sums up, and some column sums up, none of them
-- texts. No column of another target sums up.
abbrev pub sums_fit : SourceTable → Member → Bool
sums_fit source member = if is_aggregate member.kind
    then list_all (λ column. sums_up column.from || is_some (just_column column.from)) member.columns
    && list_any (λ column. sums_up column.from) member.columns
    && not (list_any (λ column. sums_texts source.def.columns column.from) member.columns)
    else not (list_any (λ column. sums_up column.from) member.columns)

-- A member of a read-only set keeps the rules over its source.
pub record MemberKeepsRules (source : SourceTable) (member : Member) : Type 0 where
  pub names : IsTrue (member_names_are_names member)
  pub differ : IsTrue (target_columns_differ member)
  pub columns : IsTrue (columns_fit source member)
  pub keys : IsTrue (keys_stand source member)
  pub copies : IsTrue (copy_may_move source member)
  pub condensed : IsTrue (condensed_may_move source member)
  pub sums : IsTrue (sums_fit source member)

-- all columns are captured as they were before and after a change, each change by one change row
pub record KeepsAllImages (source : SourceTable) : Type 0 where
  pub after : source.reg.after ≡ all_places source.def
  pub before : source.reg.before ≡ all_places source.def
  pub del_ins : source.reg.del_ins ≡ false
  pub changes_only : source.reg.changes_only ≡ false

-- A member of a replica set keeps the rules over its table at the master and at the replica: the table is
-- alike at both, with all images captured, and the member says nothing of columns and rows.
pub record ReplicaKeepsRules (master replica : SourceTable) (member : Member) : Type 0 where
  pub name : member.target ≡ member.source
  pub columns : member.columns ≡ []
  pub filter : member.filter ≡ None
  pub same_columns : replica.def.columns ≡ master.def.columns
  pub same_key : replica.def.key ≡ master.def.key
  pub same_fixed : replica.def.fixed ≡ master.def.fixed
  pub master_images : KeepsAllImages master
  pub replica_images : KeepsAllImages replica

-- A table keeps the rules.
pub record TableKeepsRules (def : TableDef) : Type 0 where
  pub names : IsTrue (table_names_are_names def)
  pub differ : IsTrue (columns_differ def)
  pub columns : IsTrue (has_columns def)
  pub key : IsTrue (has_key def)

-- A registration of a table keeps the rules.
pub record RegistrationKeepsRules (def : TableDef) (reg : Registration) : Type 0 where
  pub table : reg.table ≡ def.name
  pub after : IsTrue (after_images_fit def reg)
  pub before : IsTrue (before_images_fit reg)
