-- What the items of a text are asked together with: the definitions that stand beside it, those of the text
-- and the known ones whose names don't stand in it.
use Rattle.std.specs.Prelude.{Bool, ◌&&◌, not, codes, List, ◌++◌, map, filter}
use Rattle.std.specs.List.{filter_map, flat_map, list_any}
use Rattle.std.specs.Str.{bytes_eq}
use Rattle.repl_definitions.specs.declared.member.Member.{Member}
use Rattle.repl_definitions.specs.declared.set.SetDef.{SetDef}
use Rattle.repl_commands.specs.declared.written.RawDefs.{RawDefs}
use Rattle.repl_commands.specs.declared.written.RawTable.{RawTable}
use Rattle.repl_commands.specs.declared.written.RawRegistration.{RawRegistration}
use Rattle.repl_commands.specs.declared.written.RawMember.{RawMember}
use Rattle.repl_commands.specs.declared.written.RawSet.{RawSet}
use Rattle.repl_model.specs.Rules.{is_replica}
use Rattle.spelled_defs.specs.Spelled.{spelled_table, is_table, spelled_registration, is_registration, spelled_set}
use Rattle.spelled_defs.specs.declared.context.Context.{Context}
use Rattle.spelled_defs.specs.declared.context.Link.{Link}
use Rattle.spelled_defs.specs.declared.defs.Defs.{Defs}
use Rattle.spelled_defs.specs.declared.defs.TableAt.{TableAt}
use Rattle.spelled_defs.specs.declared.defs.RegistrationAt.{RegistrationAt}

-- the table's name doesn't stand among these items
abbrev pub is_other_table : List RawTable → TableAt → Bool
is_other_table items table = not (list_any (λ item. is_table item.server item.name table) items)

-- the registration's name doesn't stand among these items
abbrev pub is_other_registration : List RawRegistration → RegistrationAt → Bool
is_other_registration items registration = not (list_any (λ item. is_registration item.server item.table registration) items)

-- the item has the name of the set
abbrev pub names_set : SetDef → RawSet → Bool
names_set set item = bytes_eq item.qual set.id.qual && bytes_eq item.name set.id.name

-- the set's name doesn't stand among these items
abbrev pub is_other_set : List RawSet → SetDef → Bool
is_other_set items set = not (list_any (names_set set) items)

-- the type of a member is that of replicas
abbrev pub is_replica_item : RawMember → Bool
is_replica_item member = bytes_eq member.kind (codes "replica")

-- a member of a text as a link between its source and its target
abbrev pub link_of_item : RawSet → RawMember → Link
link_of_item set member = record {
  source_server = set.source;
  source = member.source;
  target_server = set.target;
  target = member.target;
  is_replica = is_replica_item member;
}

-- a known member as such a link
abbrev pub link_of_member : SetDef → Member → Link
link_of_member set member = record {
  source_server = set.source;
  source = member.source;
  target_server = set.target;
  target = member.target;
  is_replica = is_replica member.kind;
}

-- the links of a set of a text
abbrev pub links_of_item : RawSet → List Link
links_of_item set = map (link_of_item set) set.members

-- the links of a known set
abbrev pub links_of_set : SetDef → List Link
links_of_set set = map (link_of_member set) set.members

-- the tables that stand beside a text
abbrev pub all_tables : RawDefs → Defs → List TableAt
all_tables raw known = filter_map spelled_table raw.tables ++ filter (is_other_table raw.tables) known.tables

-- the registrations that stand beside a text, given the tables
abbrev pub all_registrations : RawDefs → Defs → List TableAt → List RegistrationAt
all_registrations raw known tables = filter_map (spelled_registration tables) raw.registrations ++ filter (is_other_registration raw.registrations) known.registrations

-- the links of all sets that stand beside a text
abbrev pub all_links : RawDefs → Defs → List Link
all_links raw known = flat_map links_of_item raw.sets ++ flat_map links_of_set (filter (is_other_set raw.sets) known.sets)

-- all that stands beside a text
unfoldable pub context_of : RawDefs → Defs → Context
context_of raw known = record {
  tables = all_tables raw known;
  registrations = all_registrations raw known (all_tables raw known);
  links = all_links raw known;
}

-- the definitions of a text, given the tables that stand beside it
abbrev pub defs_of : RawDefs → List TableAt → Defs
defs_of raw tables = record {
  tables = filter_map spelled_table raw.tables;
  registrations = filter_map (spelled_registration tables) raw.registrations;
  sets = filter_map (spelled_set tables) raw.sets;
}
