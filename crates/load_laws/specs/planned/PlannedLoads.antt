-- What is shown of the plan of a load in a sound world.
use Rattle.std.specs.Prelude.{◌≡◌, Bool, false, IsTrue, not, ◌&&◌, ◌==◌, List, length, None}
use Rattle.std.specs.List.{AllByRecursion, list_any}
use Rattle.row_codec.specs.Spelling.{b32, short_text, set_spelling}
use Rattle.repl_definitions.specs.Defined.{defined_table_spelling, defined_registration_spelling}
use Rattle.repl_definitions.specs.Sets.{source_set_spelling, target_set_spelling}
use Rattle.repl_commands.specs.declared.written.RawDefs.{RawDefs}
use Rattle.repl_records.specs.Capture.{registration_state_spelling}
use Rattle.repl_records.specs.Prune.{mark_spelling}
use Rattle.repl_model.specs.World.{Server, World, same_set}
use Rattle.repl_model.specs.Sound.{IsSound}
use Rattle.spelled_defs.specs.Spelled.{is_table, is_registration}
use Rattle.spelled_defs.specs.declared.defs.Defs.{Defs}
use Rattle.world_store.specs.Tables.{definition_table, capture_table, prune_table}
use Rattle.load_laws.specs.known.Known.{known_defs}
use Rattle.load_laws.specs.worlds.Loads.{load_server}
use Rattle.lists.specs.laws.Members.{In}
use Rattle.load_laws.specs.rules.Accepted.{AreTyped, HaveServers, AreWithinLimits, AgreesWith, Accepted}
use Rattle.load_plan.specs.Limits.{has_many_tables, has_many_sets}
use Rattle.load_plan.specs.Refusals.{count_refusal, content_refusal}
use Rattle.load_plan.specs.Additions.{additions_at}
use Rattle.load_plan.specs.declared.stored.StoredServer.{StoredServer}
use Rattle.load_plan.specs.declared.additions.Additions.{Additions}
use Rattle.load_laws.specs.planned.Planned.{stored_server, stored_servers, known_stored, with_rows, table_additions, registration_additions, state_additions, source_additions, mark_additions, target_additions}
use Rattle.load_laws.specs.planned.Path.{gains}

-- The tables in which a load puts rows become, with the rows that are added, those of the loaded server.
pub record AddsRows (defs : Defs) (server : Server) (added : Additions) : Type 0 where
  pub tables : with_rows short_text defined_table_spelling (table_additions added) (definition_table server 0) ≡ definition_table (load_server defs server) 0
  pub registrations : with_rows short_text defined_registration_spelling (registration_additions added) (definition_table server 1) ≡ definition_table (load_server defs server) 1
  pub sources : with_rows set_spelling source_set_spelling (source_additions added) (definition_table server 2) ≡ definition_table (load_server defs server) 2
  pub targets : with_rows set_spelling target_set_spelling (target_additions added) (definition_table server 3) ≡ definition_table (load_server defs server) 3
  pub states : with_rows b32 registration_state_spelling (state_additions added) (capture_table server 1) ≡ capture_table (load_server defs server) 1
  pub marks : with_rows b32 mark_spelling (mark_additions added) (prune_table server 0) ≡ prune_table (load_server defs server) 0

-- the rows that are planned for a server are those that the load puts there
abbrev pub AddsPlanned : Type 0
AddsPlanned = (raw : RawDefs) (world : World) (defs : Defs) (server : Server) → IsSound world → Accepted raw world defs → In server world → AddsRows defs server (additions_at defs (stored_server server))

-- no row is added
abbrev pub adds_nothing : Additions → Bool
adds_nothing added = length added.tables == 0 && length added.registrations == 0 && length added.sources == 0 && length added.targets == 0

-- rows are planned for a server exactly if it gets something new
abbrev pub PlansGains : Type 0
PlansGains = (raw : RawDefs) (world : World) (defs : Defs) (server : Server) → IsSound world → Accepted raw world defs → In server world → adds_nothing (additions_at defs (stored_server server)) ≡ not (gains defs server)

-- a server that gets nothing new is as it was
abbrev pub StaysWithoutGains : Type 0
StaysWithoutGains = (defs : Defs) (server : Server) → gains defs server ≡ false → load_server defs server ≡ server

-- All tables, registrations and sets of a text are known in a world.
pub record AreKnown (world : World) (defs : Defs) : Type 0 where
  pub tables : AllByRecursion (λ t. IsTrue (list_any (is_table t.server t.def.name) (known_defs world).tables)) defs.tables
  pub registrations : AllByRecursion (λ r. IsTrue (list_any (is_registration r.server r.def.table) (known_defs world).registrations)) defs.registrations
  pub sets : AllByRecursion (λ def. IsTrue (list_any (λ other. same_set def.id other.id) (known_defs world).sets)) defs.sets

-- if all of a text is known, no server gets something new
abbrev pub KnownTextsAddNothing : Type 0
KnownTextsAddNothing = (raw : RawDefs) (world : World) (defs : Defs) (server : Server) → IsSound world → Accepted raw world defs → AreKnown world defs → In server world → gains defs server ≡ false

-- what is known in a world is what its servers keep of it
abbrev pub KnowsStored : Type 0
KnowsStored = (world : World) → IsSound world → known_stored (stored_servers world) ≡ known_defs world

-- a server has room for what it gets, if no limit on counts is passed
abbrev pub HasRoom : Type 0
HasRoom = (defs : Defs) (stored : List StoredServer) → count_refusal defs stored ≡ None → AllByRecursion (λ server. (has_many_tables defs server ≡ false) × (has_many_sets defs server ≡ false)) stored

-- What a load has seen of definitions that it doesn't refuse.
pub record IsSeen (world : World) (defs : Defs) : Type 0 where
  pub servers : HaveServers world defs
  pub limits : AreWithinLimits world defs
  pub same : AllByRecursion (AgreesWith defs) world

-- definitions that aren't refused are within the limits, and agree with what stands
abbrev pub SeesUnrefused : Type 0
SeesUnrefused = (world : World) (defs : Defs) → IsSound world → AreTyped defs → count_refusal defs (stored_servers world) ≡ None → content_refusal defs (stored_servers world) ≡ None → IsSeen world defs
