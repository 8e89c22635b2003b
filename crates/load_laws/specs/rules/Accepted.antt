-- What is known of the definitions of a text that a load accepts.
use Rattle.std.specs.Prelude.{◌≡◌, ◌+◌, ◌≤◌, IsTrue, nat_lt, length, Some, None, is_some}
use Rattle.std.specs.List.{AllByRecursion, list_all}
use Rattle.std.specs.Str.{bytes_eq}
use Rattle.repl_types.specs.Sizes.{value_limit}
use Rattle.row_codec.specs.Definitions.{IsTable, IsRegistration}
use Rattle.repl_definitions.specs.Sets.{IsSetDef, set_def_spelling}
use Rattle.repl_definitions.specs.declared.set.SetDef.{SetDef}
use Rattle.repl_commands.specs.declared.written.RawDefs.{RawDefs}
use Rattle.repl_model.specs.World.{Registered, ServerTable, SourceSide, TargetSide, Server, World, server_named, server_table, source_side, target_side}
use Rattle.repl_model.specs.SoundDefinitions.{table_limit, set_limit, column_limit, member_limit}
use Rattle.spelled_defs.specs.Context.{context_of, defs_of}
use Rattle.spelled_defs.specs.declared.context.Context.{Context}
use Rattle.spelled_defs.specs.declared.defs.Defs.{Defs}
use Rattle.checked_defs.specs.Broken.{all_rules, first_broken}
use Rattle.checked_defs.specs.Whole.{LeavesNothingOut}
use Rattle.load_laws.specs.known.Known.{known_defs}
use Rattle.load_laws.specs.worlds.Loads.{load_all}

-- what the items of a text are asked together with in a world
abbrev pub context_in : World → RawDefs → Context
context_in world raw = context_of raw (known_defs world)

-- the tables, the registrations and the sets have spellings of their kinds
pub record AreTyped (defs : Defs) : Type 0 where
  pub tables : AllByRecursion (λ t. IsTable t.def) defs.tables
  pub registrations : AllByRecursion (λ r. IsRegistration r.def) defs.registrations
  pub sets : AllByRecursion IsSetDef defs.sets

-- each server that is named is one of the world
pub record HaveServers (world : World) (defs : Defs) : Type 0 where
  pub tables : AllByRecursion (λ t. IsTrue (is_some (server_named t.server world))) defs.tables
  pub registrations : AllByRecursion (λ r. IsTrue (is_some (server_named r.server world))) defs.registrations
  pub sets : AllByRecursion (λ def. IsTrue (is_some (server_named def.source world)) × IsTrue (is_some (server_named def.target world))) defs.sets

-- a set is within the limits. Its definition is stored after a number of four bytes
abbrev pub IsSetWithin : SetDef → Type 0
IsSetWithin def = (length (set_def_spelling def) + 4 ≤ value_limit) × (length def.members ≤ member_limit) × AllByRecursion (λ member. length member.columns ≤ column_limit) def.members

-- a server is within the limits
abbrev pub IsServerWithin : Server → Type 0
IsServerWithin server = (length server.tables ≤ table_limit) × (length server.source_sets ≤ set_limit) × (length server.target_sets ≤ set_limit)

-- the tables and the sets are within the limits, and so are the servers once all is loaded
pub record AreWithinLimits (world : World) (defs : Defs) : Type 0 where
  pub tables : AllByRecursion (λ t. length t.def.columns ≤ column_limit) defs.tables
  pub sets : AllByRecursion IsSetWithin defs.sets
  pub servers : AllByRecursion IsServerWithin (load_all defs world)

-- What stands at a server under the name of a definition has this definition.
pub record AgreesWith (defs : Defs) (server : Server) : Type 0 where
  pub tables : AllByRecursion (λ t. IsTrue (bytes_eq t.server server.name) → (standing : ServerTable) → server_table t.def.name server ≡ Some standing → standing.def ≡ t.def) defs.tables
  pub registrations : AllByRecursion (λ r. IsTrue (bytes_eq r.server server.name) → (standing : ServerTable) (registered : Registered) → server_table r.def.table server ≡ Some standing → standing.registered ≡ Some registered → registered.reg ≡ r.def) defs.registrations
  pub sources : AllByRecursion (λ def. (side : SourceSide) → source_side def.id server ≡ Some side → side.def ≡ def) defs.sets
  pub targets : AllByRecursion (λ def. (side : TargetSide) → target_side def.id server ≡ Some side → side.def ≡ def) defs.sets

-- Definitions that a load accepts: those that a text spells which breaks no rule together with what is known.
-- Nothing of the text is left out, and each of its sets has members.
pub record Accepted (raw : RawDefs) (world : World) (defs : Defs) : Type 0 where
  pub kept : first_broken raw (context_in world raw) all_rules ≡ None
  pub spelled : defs ≡ defs_of raw (context_in world raw).tables
  pub whole : LeavesNothingOut raw (context_in world raw).tables
  pub members : IsTrue (list_all (λ set. nat_lt 0 (length set.members)) raw.sets)
  pub typed : AreTyped defs
  pub servers : HaveServers world defs
  pub limits : AreWithinLimits world defs
  pub same : AllByRecursion (AgreesWith defs) world
