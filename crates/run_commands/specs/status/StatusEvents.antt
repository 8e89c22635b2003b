-- What a run does at `status S`.
use Rattle.std.specs.Prelude.{ℕ, List, map}
use Rattle.std.specs.Option.{option_map_or}
use Rattle.repl_types.specs.declared.refusal.Refusal.TheVariants as refusals
use Rattle.repl_model.specs.World.{World, server_named}
use Rattle.run_core.specs.Runs.{Event, writes}
use Rattle.shows.specs.servers.Status.{status_lines}
use Rattle.run_commands.specs.parts.Refusing.{refused}

-- it writes the lines of the server of that name, or refuses the name if no server has it
abbrev pub status_events : List ℕ → World → List (Event World)
status_events name w = option_map_or (λ server. map writes (status_lines server)) (server_named name w) (refused (refusals.NoSuchServer name))
