-- Which servers a load changes, and which worlds it commits.
use Rattle.std.specs.Prelude.{ℕ, suc, Bool, ◌&&◌, ◌||◌, nat_lt, if◌then◌else◌, List, [], ◌∷◌, length, is_some, is_none}
use Rattle.std.specs.List.{list_any}
use Rattle.repl_model.specs.World.{ServerTable, Server, World}
use Rattle.spelled_defs.specs.declared.defs.Defs.{Defs}
use Rattle.load_laws.specs.worlds.Loads.{new_tables, registration_in, new_sources, new_targets, load_first}

-- a table of a server gets a registration
abbrev pub gains_registration : Defs → Server → ServerTable → Bool
gains_registration defs server t = is_none t.registered && is_some (registration_in defs server t)

-- a server gets something new
abbrev pub gains : Defs → Server → Bool
gains defs server = nat_lt 0 (length (new_tables defs server)) || list_any (gains_registration defs server) server.tables
    || nat_lt 0 (length (new_sources defs server)) || nat_lt 0 (length (new_targets defs server))

-- the worlds that a load commits, from the server with this number on: one for each server that gets something new
abbrev pub commits_from : Defs → World → ℕ → List Server → List World
commits_from defs world n [] = []
commits_from defs world n (server ∷ servers) = if gains defs server
    then load_first defs (suc n) world ∷ commits_from defs world (suc n) servers
    else commits_from defs world (suc n) servers

-- the worlds that a load commits
abbrev pub load_path : Defs → World → List World
load_path defs world = commits_from defs world 0 world
