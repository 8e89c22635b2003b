-- Which limit a load of definitions passes.
use Rattle.std.specs.Prelude.{◌+◌, Bool, ◌&&◌, ◌||◌, nat_lt, if◌then◌else◌, List, length, count_by, Option, Some, None, is_none}
use Rattle.std.specs.List.{list_any}
use Rattle.std.specs.Str.{bytes_eq}
use Rattle.repl_types.specs.declared.refusal.LimitKind.{LimitKind}
use Rattle.repl_types.specs.declared.refusal.LimitKind.TheVariants as limits
use Rattle.repl_definitions.specs.declared.set.SetDef.{SetDef}
use Rattle.repl_model.specs.SoundDefinitions.{table_limit, set_limit, column_limit, member_limit}
use Rattle.spelled_defs.specs.declared.defs.Defs.{Defs}
use Rattle.spelled_defs.specs.declared.defs.TableAt.{TableAt}
use Rattle.load_plan.specs.Stored.{table_at, source_at, target_at}
use Rattle.load_plan.specs.declared.stored.StoredServer.{StoredServer}

-- ---- what a server gets

-- a server gets a table of a text: it is for this server, and doesn't stand there
abbrev pub gets_table : StoredServer → TableAt → Bool
gets_table server t = bytes_eq t.server server.name && is_none (table_at t.def.name server)

-- a server gets a set of a text as its source
abbrev pub gets_source : StoredServer → SetDef → Bool
gets_source server def = bytes_eq def.source server.name && is_none (source_at def.id server)

-- a server gets a set of a text as its target
abbrev pub gets_target : StoredServer → SetDef → Bool
gets_target server def = bytes_eq def.target server.name && is_none (target_at def.id server)

-- ---- limits

-- a server would have more tables than it may
abbrev pub has_many_tables : Defs → StoredServer → Bool
has_many_tables defs server = nat_lt table_limit (length server.tables + count_by (gets_table server) defs.tables)

-- a server would be the source, or the target, of more sets than it may
abbrev pub has_many_sets : Defs → StoredServer → Bool
has_many_sets defs server = nat_lt set_limit (length server.sources + count_by (gets_source server) defs.sets)
    || nat_lt set_limit (length server.targets + count_by (gets_target server) defs.sets)

-- a target of a set has more columns than it may
abbrev pub has_wide_target : SetDef → Bool
has_wide_target def = list_any (λ member. nat_lt column_limit (length member.columns)) def.members

-- a table or a target of a text has more columns than it may
abbrev pub has_many_columns : Defs → Bool
has_many_columns defs = list_any (λ t. nat_lt column_limit (length t.def.columns)) defs.tables || list_any has_wide_target defs.sets

-- a set of a text has more members than it may
abbrev pub has_many_members : Defs → Bool
has_many_members defs = list_any (λ def. nat_lt member_limit (length def.members)) defs.sets

-- The first limit that a load passes, but for that on the bytes of a set. The limit on registrations isn't asked: each
-- is of a table of its server, so a server with no more tables than it may have has no more of them either.
unfoldable pub passed_limit : Defs → List StoredServer → Option LimitKind
passed_limit defs stored = if list_any (has_many_tables defs) stored then Some limits.Tables
    else if list_any (has_many_sets defs) stored then Some limits.Sets
    else if has_many_columns defs then Some limits.Columns
    else if has_many_members defs then Some limits.Members
    else None
