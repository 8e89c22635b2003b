-- The rules of definitions, one after the other. Each definition says when an item keeps the rule, and gives no
-- answer of use for an item that breaks a rule before it.
use Rattle.std.specs.Prelude.{ℕ, Bool, true, false, ◌&&◌, ◌||◌, not, ◌==◌, nat_le, if◌then◌else◌, List, [], length, count_by, find, Option, Some, None, is_some, is_none, unwrap_or}
use Rattle.std.specs.List.{filter_map, list_all, list_any}
use Rattle.std.specs.Option.{option_map, option_map_or, option_and_then}
use Rattle.std.specs.Cmp.Lexicographic.{pointwise}
use Rattle.std.specs.Str.{bytes_eq}
use Rattle.repl_types.specs.Name.{is_name}
use Rattle.repl_types.specs.declared.table.Kind.{Kind}
use Rattle.repl_types.specs.declared.table.Kind.TheVariants.{Int, Text}
use Rattle.repl_types.specs.declared.table.ColumnDef.{ColumnDef}
use Rattle.repl_types.specs.declared.table.TableDef.{TableDef}
use Rattle.repl_types.specs.declared.change_row.Registration.{Registration}
use Rattle.repl_definitions.specs.declared.member.Member.{Member}
use Rattle.repl_commands.specs.declared.written.RawDefs.{RawDefs}
use Rattle.repl_commands.specs.declared.written.RawTable.{RawTable}
use Rattle.repl_commands.specs.declared.written.RawRegistration.{RawRegistration}
use Rattle.repl_commands.specs.declared.written.RawMember.{RawMember}
use Rattle.repl_commands.specs.declared.written.RawSet.{RawSet}
use Rattle.repl_model.specs.Selection.{SourceTable}
use Rattle.repl_model.specs.Rules.{all_places, columns_from, filter_columns, keys_stand, copy_may_move, condensed_may_move, sums_fit}
use Rattle.lists.specs.Lists.{all_differ, is_among, are_among}
use Rattle.repl_defs.specs.Entries.{column_name, column_form, target_name}
use Rattle.repl_defs.specs.Texts.{definition_text_limit}
use Rattle.repl_defs.specs.Trees.{predicate_tree}
use Rattle.spelled_defs.specs.Spelled.{spelled_column, column_place, is_column, is_table, is_registration, after_places, target_column, spelled_member_at}
use Rattle.spelled_defs.specs.Context.{is_replica_item}
use Rattle.spelled_defs.specs.declared.context.Context.{Context}
use Rattle.spelled_defs.specs.declared.context.Link.{Link}

-- the entries of a member's columns, none if it has no columns
abbrev pub entries_of : RawMember → List (List ℕ)
entries_of member = unwrap_or member.columns []

-- ---- rule 2: each name is a name

-- that of an entry of a table, if the entry can be split
abbrev pub has_column_name : List ℕ → Bool
has_column_name entry = option_map_or is_name (column_name entry) true

-- that of an entry of a member, if the entry can be split
abbrev pub has_target_name : List ℕ → Bool
has_target_name entry = option_map_or is_name (target_name entry) true

-- those of a table, of its columns, of its key and its fixed columns
abbrev pub table_has_names : RawTable → Bool
table_has_names table = is_name table.server && is_name table.name && list_all has_column_name table.columns && list_all is_name table.key && list_all is_name (unwrap_or table.fixed [])

-- those of a registration and of its columns
abbrev pub registration_has_names : RawRegistration → Bool
registration_has_names registration = is_name registration.server && is_name registration.table && list_all is_name (unwrap_or registration.after []) && list_all is_name (unwrap_or registration.before [])

-- those of a set and of its servers
abbrev pub set_has_names : RawSet → Bool
set_has_names set = is_name set.qual && is_name set.name && is_name set.source && is_name set.target

-- those of a member and of its columns
abbrev pub member_has_names : RawMember → Bool
member_has_names member = is_name member.source && is_name member.target && list_all has_target_name (entries_of member)

-- ---- rule 3: nothing stands twice

-- no two of these texts are the same
abbrev pub texts_differ : List (List ℕ) → Bool
texts_differ texts = all_differ bytes_eq texts

-- the item is a table of this server and name
abbrev pub names_table : List ℕ → List ℕ → RawTable → Bool
names_table server name table = bytes_eq server table.server && bytes_eq name table.name

-- the item is a registration of this server and table
abbrev pub names_registration : List ℕ → List ℕ → RawRegistration → Bool
names_registration server table registration = bytes_eq server registration.server && bytes_eq table registration.table

-- the item is a set of this name
abbrev pub names_raw_set : List ℕ → List ℕ → RawSet → Bool
names_raw_set qual name set = bytes_eq qual set.qual && bytes_eq name set.name

-- the link comes from this table
abbrev pub copies_from : List ℕ → List ℕ → Link → Bool
copies_from server table link = bytes_eq server link.source_server && bytes_eq table link.source

-- the link goes to this target
abbrev pub copies_to : List ℕ → List ℕ → Link → Bool
copies_to server target link = bytes_eq server link.target_server && bytes_eq target link.target

-- at most one of these is so
abbrev pub at_most_one : {X : Type 0} → (X → Bool) → List X → Bool
at_most_one is xs = nat_le (count_by is xs) 1

-- a table of the text has its name alone; its columns differ, and those of its key and its fixed ones; and no
-- read-only target has its name
abbrev pub table_stands_once : RawDefs → Context → RawTable → Bool
table_stands_once raw context table = at_most_one (names_table table.server table.name) raw.tables
    && texts_differ (filter_map column_name table.columns) && texts_differ table.key && texts_differ (unwrap_or table.fixed [])
    && not (list_any (λ link. not link.is_replica && copies_to table.server table.name link) context.links)

-- a registration of the text is the only one of its table, and its columns differ
abbrev pub registration_stands_once : RawDefs → RawRegistration → Bool
registration_stands_once raw registration = at_most_one (names_registration registration.server registration.table) raw.registrations
    && texts_differ (unwrap_or registration.after []) && texts_differ (unwrap_or registration.before [])

-- a set of the text has its name alone
abbrev pub set_stands_once : RawDefs → RawSet → Bool
set_stands_once raw set = at_most_one (names_raw_set set.qual set.name) raw.sets

-- a member's columns differ, it has its target alone, and the target of a read-only one isn't named as a table
abbrev pub member_stands_once : Context → RawSet → RawMember → Bool
member_stands_once context set member = texts_differ (filter_map target_name (entries_of member))
    && at_most_one (copies_to set.target member.target) context.links
    && (is_replica_item member || not (list_any (is_table set.target member.target) context.tables))

-- ---- rule 4: the columns of a table

-- an entry is of one of the four forms, and not too long
abbrev pub is_column_entry : List ℕ → Bool
is_column_entry entry = nat_le (length entry) definition_text_limit && is_some (column_form entry)

-- there are columns, and each entry is one
abbrev pub has_column_entries : RawTable → Bool
has_column_entries table = not (length table.columns == 0) && list_all is_column_entry table.columns

-- ---- rule 5: the key and the fixed columns

-- a name is that of a column that can't be NULL
abbrev pub is_key_column : List ColumnDef → List ℕ → Bool
is_key_column columns name = option_map_or (λ column. not column.nullable) (find (λ column. bytes_eq name column.name) columns) false

-- there is a key; its columns are columns that can't be NULL, and the fixed ones are columns
abbrev pub has_key_columns : RawTable → Bool
has_key_columns table = not (length table.key == 0)
    && list_all (is_key_column (filter_map spelled_column table.columns)) table.key
    && list_all (is_column (filter_map spelled_column table.columns)) (unwrap_or table.fixed [])

-- ---- rules 6, 7 and 8: registrations

-- the table of a registration
abbrev pub table_of_registration : Context → RawRegistration → Option TableDef
table_of_registration context registration = option_map (λ table. table.def) (find (is_table registration.server registration.table) context.tables)

-- rule 6: the table is defined
abbrev pub has_table : Context → RawRegistration → Bool
has_table context registration = is_some (table_of_registration context registration)

-- the names are those of columns, and all columns of the key are among them
abbrev pub after_fits : TableDef → Option (List (List ℕ)) → Bool
after_fits def None = true
after_fits def (Some names) = list_all (is_column def.columns) names && are_among (after_places def.columns (Some names)) def.key

-- rule 7: the after-images fit the table
abbrev pub has_after_images : Context → RawRegistration → Bool
has_after_images context registration = option_map_or (λ def. after_fits def registration.after) (table_of_registration context registration) true

-- a name is that of a column whose after-image is kept
abbrev pub is_after_image : TableDef → Option (List (List ℕ)) → List ℕ → Bool
is_after_image def after name = option_map_or (is_among (after_places def.columns after)) (column_place def.columns name) false

-- rule 8: the before-images are among the after-images
abbrev pub has_before_images : Context → RawRegistration → Bool
has_before_images context registration = option_map_or (λ def. list_all (is_after_image def registration.after) (unwrap_or registration.before [])) (table_of_registration context registration) true

-- ---- rules 9 to 13: members and their sources

-- rule 9: a set has two servers
abbrev pub has_two_servers : RawSet → Bool
has_two_servers set = not (bytes_eq set.source set.target)

-- a table with its registration as a source; its log is no matter of definitions
abbrev pub as_source_table : TableDef → Registration → SourceTable
as_source_table def reg = record { def = def; reg = reg; log = [] }

-- the registered table of this server and name, as a source
abbrev pub registered_source : Context → List ℕ → List ℕ → Option SourceTable
registered_source context server name = option_and_then (λ table. option_map (λ registration. as_source_table table.def registration.def) (find (is_registration server name) context.registrations)) (find (is_table server name) context.tables)

-- rule 9: a member's source is a table that is registered
abbrev pub is_source_registered : Context → RawSet → RawMember → Bool
is_source_registered context set member = is_some (registered_source context set.source member.source)

-- a member with its source, if both are there
abbrev pub member_over_source : Context → RawSet → RawMember → Option (SourceTable × Member)
member_over_source context set member = option_and_then (λ source. option_map (λ spelled. (source, spelled)) (spelled_member_at context.tables set.source member)) (registered_source context set.source member.source)

-- a member with its source passes a test, if both are there
abbrev pub member_passes : (SourceTable → Member → Bool) → Context → RawSet → RawMember → Bool
member_passes test context set member = option_map_or (λ over. test over.0 over.1) (member_over_source context set member) true

-- an entry is a name and a source, and not too long
abbrev pub is_target_entry : List ColumnDef → List ℕ → Bool
is_target_entry columns entry = nat_le (length entry) definition_text_limit && is_some (target_column columns entry)

-- the texts of a member are read over the columns of its source, and there are columns if it is no replica
abbrev pub texts_are_read : List ColumnDef → RawMember → Bool
texts_are_read columns member = list_all (is_target_entry columns) (entries_of member)
    && option_map_or (λ text. is_some (predicate_tree columns text)) member.filter true
    && (is_replica_item member || not (length (entries_of member) == 0))

-- columns and predicate of a member read only columns whose after-images are kept
abbrev pub reads_registered : Registration → Member → Bool
reads_registered reg member = list_all (λ column. are_among reg.after (columns_from column.from)) member.columns && are_among reg.after (filter_columns member)

-- the texts of a member are read, name registered columns, and copy the key if the target's rows stand under it
abbrev pub texts_fit : RawMember → SourceTable → Member → Bool
texts_fit member source spelled = texts_are_read source.def.columns member && reads_registered source.reg spelled && keys_stand source spelled

-- rule 10: the texts fit
abbrev pub has_texts : Context → RawSet → RawMember → Bool
has_texts context set member = member_passes (texts_fit member) context set member

-- rule 11: of a copy, what decides where its rows stand is fixed or has before-images, or updates are taken apart
abbrev pub copies_may_move : Context → RawSet → RawMember → Bool
copies_may_move context set member = member_passes copy_may_move context set member

-- rule 12: of a condensed table, that is fixed, or updates are taken apart
abbrev pub condensed_rows_may_move : Context → RawSet → RawMember → Bool
condensed_rows_may_move context set member = member_passes condensed_may_move context set member

-- rule 13: aggregates sum up, and others don't
abbrev pub sums_stand_in_aggregates : Context → RawSet → RawMember → Bool
sums_stand_in_aggregates context set member = member_passes sums_fit context set member

-- ---- rule 14: replica sets

-- the set has replicas only, and its steps have no limits, if it has one
abbrev pub replicas_stand_alone : RawSet → Bool
replicas_stand_alone set = not (list_any is_replica_item set.members)
    || list_all is_replica_item set.members && unwrap_or set.commit_count 0 == 0 && unwrap_or set.max_minutes 0 == 0

-- two kinds of columns are one
abbrev pub same_kind : Kind → Kind → Bool
same_kind Int Int = true
same_kind Int Text = false
same_kind Text Int = false
same_kind Text Text = true

-- two columns are alike
abbrev pub same_column : ColumnDef → ColumnDef → Bool
same_column a b = bytes_eq a.name b.name && same_kind a.kind b.kind && (if a.nullable then b.nullable else not b.nullable)

-- all columns are captured as they were before and after a change, each change by one change row
abbrev pub keeps_all_images : SourceTable → Bool
keeps_all_images source = are_among source.reg.after (all_places source.def) && are_among source.reg.before (all_places source.def)
    && not source.reg.del_ins && not source.reg.changes_only

-- the two tables have the same columns, keys and fixed columns
abbrev pub same_tables : TableDef → TableDef → Bool
same_tables master replica = pointwise same_column master.columns replica.columns
    && pointwise ◌==◌ master.key replica.key && pointwise ◌==◌ master.fixed replica.fixed

-- the two tables are alike, and both keep all images
abbrev pub are_twins : SourceTable → SourceTable → Bool
are_twins master replica = same_tables master.def replica.def && keeps_all_images master && keeps_all_images replica

-- the table at the replica is registered and alike to that at the master
abbrev pub has_twin : Context → RawSet → RawMember → Bool
has_twin context set member = option_map_or (λ master. option_map_or (are_twins master) (registered_source context set.target member.target) false) (registered_source context set.source member.source) true

-- a table is the target of one replica and the source of another
abbrev pub makes_chain : Context → RawSet → RawMember → Bool
makes_chain context set member = list_any (λ link. link.is_replica && copies_from set.target member.target link) context.links
    || list_any (λ link. link.is_replica && copies_to set.source member.source link) context.links

-- a replica has the name of its source, says nothing of columns and rows, has a table like its own at the
-- replica, and is no part of a chain
abbrev pub is_replica_apart : Context → RawSet → RawMember → Bool
is_replica_apart context set member = not (is_replica_item member)
    || is_none member.columns && is_none member.filter && bytes_eq member.source member.target && has_twin context set member && not (makes_chain context set member)
