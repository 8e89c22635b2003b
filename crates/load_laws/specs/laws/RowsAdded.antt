-- The rows that are planned for a server are those that a load puts there.
use Rattle.std.proofs.Common.{◌≡◌, true}
use Rattle.repl_model.specs.Words.{ServerKeepsRules, IsSound, Server, World, In, at_one, image_in}
use Rattle.repl_commands.specs.declared.written.RawDefs.{RawDefs}
use Rattle.spelled_defs.specs.declared.defs.Defs.{Defs}
use Rattle.load_laws.specs.worlds.Loads.{load_server, load_all}
use Rattle.load_laws.specs.rules.Accepted.{IsServerWithin, Accepted}
use Rattle.load_laws.specs.planned.PlannedLoads.{AddsPlanned}
use Rattle.load_laws.specs.laws.Registrations.{names_apart}
use Rattle.load_laws.specs.laws.RowsOfTables.{tables_put}
use Rattle.load_laws.specs.laws.RowsOfRegistrations.{registrations_put, states_put}
use Rattle.load_laws.specs.laws.RowsOfSets.{sources_put, targets_put, marks_put}
use Rattle.load_laws.specs.laws.DefinitionsStaySound.{definitions_stay_sound}

-- the names of the tables of a server differ once accepted definitions are loaded, as these stay sound
pub loaded_names_differ : (raw : RawDefs) (world : World) (defs : Defs) (server : Server) → IsSound world → Accepted raw world defs → In server world → names_apart (load_server defs server).tables ≡ true
loaded_names_differ raw world defs server sound accepted i = (at_one (ServerKeepsRules (load_all defs world)) (load_all defs world) (load_server defs server) (definitions_stay_sound raw world defs sound accepted).servers (image_in (load_server defs) world server i)).differ

-- the rows are then those of the loaded server
pub adds_planned : AddsPlanned
adds_planned raw world defs server sound accepted i =
    let keeps = at_one (ServerKeepsRules world) world server sound.definitions.servers i in
    let differ = loaded_names_differ raw world defs server sound accepted i in
    let within = at_one IsServerWithin (load_all defs world) (load_server defs server) accepted.limits.servers (image_in (load_server defs) world server i) in
    record {
      tables = tables_put world server keeps defs accepted.typed;
      registrations = registrations_put raw world defs server keeps accepted differ;
      sources = sources_put world server keeps defs accepted.typed;
      targets = targets_put world server keeps defs accepted.typed;
      states = states_put raw world defs server keeps accepted differ within.0;
      marks = marks_put world server keeps defs within.1;
    }
