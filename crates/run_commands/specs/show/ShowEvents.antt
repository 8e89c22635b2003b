-- What a run does at `show S source T`, `show S log`, `show S cd T` and `show S uow`.
use Rattle.std.specs.Prelude.{ℕ, List, map}
use Rattle.std.specs.Option.{option_map_or}
use Rattle.repl_types.specs.declared.refusal.Refusal.TheVariants as refusals
use Rattle.repl_model.specs.World.{Server, World, server_named, server_table}
use Rattle.run_core.specs.Runs.{Event, writes}
use Rattle.run_commands.specs.parts.Refusing.{refused}
use Rattle.shows.specs.tables.Replies.{source_lines, log_lines, registered_named, change_lines, unit_lines}

-- the lines of the rows of a table at a server of a name, or the refusal of the table if the server has none of its name
abbrev pub table_events : List ℕ → List ℕ → Server → List (Event World)
table_events name table server = option_map_or (λ t. map writes (source_lines server t.def)) (server_table table server) (refused (refusals.NoSuchTable name table))

-- that at the server of a name, or the refusal of the name if no server has it
abbrev pub source_events : List ℕ → List ℕ → World → List (Event World)
source_events name table w = option_map_or (table_events name table) (server_named name w) (refused (refusals.NoSuchServer name))

-- the lines of the log of the server of a name, or that refusal
abbrev pub log_events : List ℕ → World → List (Event World)
log_events name w = option_map_or (λ server. map writes (log_lines server)) (server_named name w) (refused (refusals.NoSuchServer name))

-- the lines of the change rows of a table at a server of a name, or the refusal of the table if it isn't registered there
abbrev pub registered_events : List ℕ → List ℕ → Server → List (Event World)
registered_events name table server = option_map_or (λ r. map writes (change_lines server r)) (registered_named table server) (refused (refusals.NoSuchTable name table))

-- that at the server of a name, or the refusal of the name
abbrev pub changes_events : List ℕ → List ℕ → World → List (Event World)
changes_events name table w = option_map_or (registered_events name table) (server_named name w) (refused (refusals.NoSuchServer name))

-- the lines of the captured units of the server of a name, or that refusal
abbrev pub units_events : List ℕ → World → List (Event World)
units_events name w = option_map_or (λ server. map writes (unit_lines server)) (server_named name w) (refused (refusals.NoSuchServer name))
