-- Nothing of a text is left out of the definitions that it spells: each item, each entry and each name of a
-- column spells something.
use Rattle.std.specs.Prelude.{Bool, true, ◌&&◌, IsTrue, List, [], is_some, unwrap_or}
use Rattle.std.specs.List.{filter_map, list_all}
use Rattle.std.specs.Option.{option_map_or}
use Rattle.repl_commands.specs.declared.written.RawDefs.{RawDefs}
use Rattle.repl_commands.specs.declared.written.RawTable.{RawTable}
use Rattle.repl_commands.specs.declared.written.RawRegistration.{RawRegistration}
use Rattle.repl_commands.specs.declared.written.RawMember.{RawMember}
use Rattle.repl_commands.specs.declared.written.RawSet.{RawSet}
use Rattle.repl_types.specs.declared.table.ColumnDef.{ColumnDef}
use Rattle.repl_defs.specs.Trees.{predicate_tree}
use Rattle.spelled_defs.specs.Spelled.{is_column, spelled_column, spelled_table, columns_at, spelled_registration, target_kind, target_column, spelled_member_at, spelled_set}
use Rattle.checked_defs.specs.Rules.{entries_of}
use Rattle.spelled_defs.specs.declared.defs.TableAt.{TableAt}

-- each member of a text has one of the types that there are
abbrev pub have_kinds : RawDefs → Bool
have_kinds raw = list_all (λ set. list_all (λ member. is_some (target_kind member)) set.members) raw.sets

-- a table, its columns, and those of its key and its fixed ones
abbrev pub is_whole_table : RawTable → Bool
is_whole_table table = is_some (spelled_table table) && list_all (λ entry. is_some (spelled_column entry)) table.columns
    && list_all (is_column (filter_map spelled_column table.columns)) table.key
    && list_all (is_column (filter_map spelled_column table.columns)) (unwrap_or table.fixed [])

-- a registration, and the columns that it names, which are some of its table
abbrev pub is_whole_registration : List TableAt → RawRegistration → Bool
is_whole_registration tables registration = is_some (spelled_registration tables registration)
    && list_all (is_column (columns_at tables registration.server registration.table)) (unwrap_or registration.after [])
    && list_all (is_column (columns_at tables registration.server registration.table)) (unwrap_or registration.before [])

-- the texts of a member over the columns of its source
abbrev pub has_whole_texts : List ColumnDef → RawMember → Bool
has_whole_texts columns member = list_all (λ entry. is_some (target_column columns entry)) (entries_of member)
    && option_map_or (λ text. is_some (predicate_tree columns text)) member.filter true

-- a member, and its texts
abbrev pub is_whole_member : List TableAt → RawSet → RawMember → Bool
is_whole_member tables set member = is_some (spelled_member_at tables set.source member) && has_whole_texts (columns_at tables set.source member.source) member

-- a set, and its members
abbrev pub is_whole_set : List TableAt → RawSet → Bool
is_whole_set tables set = is_some (spelled_set tables set) && list_all (is_whole_member tables set) set.members

-- Nothing of the text is left out.
pub record LeavesNothingOut (raw : RawDefs) (beside : List TableAt) : Type 0 where
  pub tables : IsTrue (list_all is_whole_table raw.tables)
  pub registrations : IsTrue (list_all (is_whole_registration beside) raw.registrations)
  pub sets : IsTrue (list_all (is_whole_set beside) raw.sets)
