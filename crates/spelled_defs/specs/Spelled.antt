-- Which definitions the items of a text spell. An entry that spells nothing is left out here: whether there is
-- one is a matter of the rules.
use Rattle.std.specs.Prelude.{ℕ, ◌+◌, Bool, false, ◌&&◌, if◌then◌else◌, codes, List, [], ◌∷◌, length, Option, Some, None, is_some, option_and_then, unwrap_or, find}
use Rattle.std.specs.List.{filter_map, list_any, position, range_with_len}
use Rattle.std.specs.Option.{option_map_or}
use Rattle.std.specs.Str.{bytes_eq}
use Rattle.repl_types.specs.Name.{name_of}
use Rattle.repl_types.specs.declared.table.ColumnDef.{ColumnDef}
use Rattle.repl_types.specs.declared.table.TableDef.{TableDef}
use Rattle.repl_types.specs.declared.change_row.Registration.{Registration}
use Rattle.repl_definitions.specs.declared.member.Member.{Member}
use Rattle.repl_definitions.specs.declared.member.TargetColumn.{TargetColumn}
use Rattle.repl_definitions.specs.declared.member.TargetKind.{TargetKind}
use Rattle.repl_definitions.specs.declared.member.TargetKind.TheVariants.{UserCopy, PointInTime, BaseAggregate, ChangeAggregate, Ccd, Replica}
use Rattle.repl_definitions.specs.declared.set.SetDef.{SetDef}
use Rattle.repl_commands.specs.declared.written.RawTable.{RawTable}
use Rattle.repl_commands.specs.declared.written.RawRegistration.{RawRegistration}
use Rattle.repl_commands.specs.declared.written.RawMember.{RawMember}
use Rattle.repl_commands.specs.declared.written.RawSet.{RawSet}
use Rattle.repl_defs.specs.Entries.{column_name, column_form, target_name, source_part}
use Rattle.repl_defs.specs.Trees.{source_tree, predicate_tree}
use Rattle.spelled_defs.specs.declared.defs.TableAt.{TableAt}
use Rattle.spelled_defs.specs.declared.defs.RegistrationAt.{RegistrationAt}

-- a step that needs what the step before gave
infixl 10 ◌>>=◌
abbrev ◌>>=◌ : {A B : Type 0} → Option A → (A → Option B) → Option B
o >>= f = option_and_then f o

-- ---- tables

-- the column that an entry of a table spells: a name and a form
unfoldable pub spelled_column : List ℕ → Option ColumnDef
spelled_column entry = do
  word ← column_name entry
  name ← name_of word
  form ← column_form entry
  Some (record { name = name; kind = form.0; nullable = form.1 })

-- the place of the column of a name
abbrev pub column_place : List ColumnDef → List ℕ → Option ℕ
column_place columns name = position (λ column. bytes_eq name column.name) columns

-- a name is that of a column
abbrev pub is_column : List ColumnDef → List ℕ → Bool
is_column columns name = is_some (column_place columns name)

-- the places of the columns that these names name, in the order of the names
abbrev pub column_places : List ColumnDef → List (List ℕ) → List ℕ
column_places columns names = filter_map (column_place columns) names

-- the definition of a table, with this name
abbrev pub table_def : List ℕ → List ColumnDef → RawTable → TableDef
table_def name columns table = record {
  name = name;
  columns = columns;
  key = column_places columns table.key;
  fixed = column_places columns (unwrap_or table.fixed []);
}

-- the table that an item spells, if its names are names
unfoldable pub spelled_table : RawTable → Option TableAt
spelled_table table = do
  server ← name_of table.server
  name ← name_of table.name
  Some (record { server = server; def = table_def name (filter_map spelled_column table.columns) table })

-- the table is the one of this server and name
abbrev pub is_table : List ℕ → List ℕ → TableAt → Bool
is_table server name table = bytes_eq server table.server && bytes_eq name table.def.name

-- the columns of the table of this server and name, none if there is no such table
abbrev pub columns_at : List TableAt → List ℕ → List ℕ → List ColumnDef
columns_at tables server name = option_map_or (λ table. table.def.columns) (find (is_table server name) tables) []

-- ---- registrations

-- one of these names is the name of the column
abbrev pub names_column : List (List ℕ) → ColumnDef → Bool
names_column names column = list_any (λ name. bytes_eq name column.name) names

-- the places, counted from one on, of the columns that the names name, in the order of the columns
abbrev pub named_places : List (List ℕ) → ℕ → List ColumnDef → List ℕ
named_places names place [] = []
named_places names place (column ∷ columns) = if names_column names column then place ∷ named_places names (place + 1) columns else named_places names (place + 1) columns

-- the places of the columns whose after-images are kept: all, if no names are given
abbrev pub after_places : List ColumnDef → Option (List (List ℕ)) → List ℕ
after_places columns None = range_with_len 0 (length columns)
after_places columns (Some names) = named_places names 0 columns

-- the registration that an item spells over the columns of its table, with this table's name
abbrev pub registration_def : List ℕ → List ColumnDef → RawRegistration → Registration
registration_def table columns registration = record {
  table = table;
  after = after_places columns registration.after;
  before = named_places (unwrap_or registration.before []) 0 columns;
  del_ins = unwrap_or registration.del_ins false;
  changes_only = unwrap_or registration.changes_only false;
  disable_refresh = unwrap_or registration.disable_refresh false;
}

-- the registration that an item spells, given the tables, if its names are names
unfoldable pub spelled_registration : List TableAt → RawRegistration → Option RegistrationAt
spelled_registration tables registration = do
  server ← name_of registration.server
  table ← name_of registration.table
  Some (record { server = server; def = registration_def table (columns_at tables registration.server registration.table) registration })

-- the registration is the one of this server and table
abbrev pub is_registration : List ℕ → List ℕ → RegistrationAt → Bool
is_registration server table registration = bytes_eq server registration.server && bytes_eq table registration.def.table

-- ---- sets and their members

-- the kind of target that a member's type says, with its two flags
unfoldable pub target_kind : RawMember → Option TargetKind
target_kind member =
    if bytes_eq member.kind (codes "user_copy") then Some UserCopy
    else (if bytes_eq member.kind (codes "point_in_time") then Some PointInTime
    else (if bytes_eq member.kind (codes "base_aggregate") then Some BaseAggregate
    else (if bytes_eq member.kind (codes "change_aggregate") then Some ChangeAggregate
    else (if bytes_eq member.kind (codes "ccd") then Some (Ccd (unwrap_or member.complete false) (unwrap_or member.condensed false))
    else (if bytes_eq member.kind (codes "replica") then Some Replica else None)))))

-- the column of a target that an entry spells over the columns of the source: a name and a source
unfoldable pub target_column : List ColumnDef → List ℕ → Option TargetColumn
target_column columns entry = do
  word ← target_name entry
  name ← name_of word
  text ← source_part entry
  from ← source_tree columns text
  Some (record { name = name; from = from })

-- the member that an item spells over the columns of its source, if its names are names
unfoldable pub spelled_member : List ColumnDef → RawMember → Option Member
spelled_member columns member = do
  source ← name_of member.source
  target ← name_of member.target
  kind ← target_kind member
  Some (record {
    source = source;
    target = target;
    kind = kind;
    columns = filter_map (target_column columns) (unwrap_or member.columns []);
    filter = option_and_then (predicate_tree columns) member.filter;
  })

-- the member of a set that an item spells, given the tables
abbrev pub spelled_member_at : List TableAt → List ℕ → RawMember → Option Member
spelled_member_at tables source member = spelled_member (columns_at tables source member.source) member

-- the set that an item spells, given the tables, if its names are names
unfoldable pub spelled_set : List TableAt → RawSet → Option SetDef
spelled_set tables set = do
  qual ← name_of set.qual
  name ← name_of set.name
  source ← name_of set.source
  target ← name_of set.target
  Some (record {
    id = record { qual = qual; name = name };
    source = source;
    target = target;
    commit_count = unwrap_or set.commit_count 0;
    max_minutes = unwrap_or set.max_minutes 0;
    members = filter_map (spelled_member_at tables set.source) set.members;
  })
