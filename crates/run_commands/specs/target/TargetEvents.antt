-- What a run does at `status Q N` and at `show S target T`.
use Rattle.std.specs.Prelude.{ℕ, if◌then◌else◌, List, [], ◌∷◌, map, Some}
use Rattle.std.specs.Option.{option_map_or}
use Rattle.repl_types.specs.declared.record.SetId.{SetId}
use Rattle.repl_types.specs.declared.refusal.Refusal.TheVariants as refusals
use Rattle.repl_definitions.specs.declared.member.Member.{Member}
use Rattle.repl_model.specs.Rules.{is_replica_set}
use Rattle.repl_model.specs.World.{Server, World, KnownSet, server_named, known_set}
use Rattle.run_core.specs.Runs.{Event, writes}
use Rattle.run_commands.specs.parts.Refusing.{refused}
use Rattle.shows.specs.sets.Replies.{set_line, target_named}
use Rattle.member_targets.specs.Kinds.{is_taken}
use Rattle.member_targets.specs.Showing.{target_lines}

-- how far a known set is, at a line with a number: a replica set isn't carried out yet, and is refused as an unknown command is
abbrev pub known_set_events : ℕ → KnownSet → List (Event World)
known_set_events number k = if is_replica_set k.at_target.def then refused (refusals.UnknownCommand number) else writes (set_line k) ∷ []

-- how far the set of a name is, which is refused if no set has it
abbrev pub set_events : ℕ → SetId → World → List (Event World)
set_events number id w = option_map_or (known_set_events number) (known_set w id) (refused (refusals.NoSuchSet id.qual (Some id.name)))

-- the rows of the target of a member of a set, at a line with a number: a member of a kind that isn't carried out yet is refused as an
-- unknown command is
abbrev pub member_events : ℕ → World → KnownSet → Member → List (Event World)
member_events number w k member = if is_taken member.kind then map writes (target_lines w k member) else refused (refusals.UnknownCommand number)

-- the rows of the target of a name at a server of a name, or the refusal of the target if it has none
abbrev pub server_target_events : ℕ → List ℕ → List ℕ → World → Server → List (Event World)
server_target_events number name table w server = option_map_or (λ target. member_events number w target.0 target.1.1) (target_named table w server) (refused (refusals.NoSuchTable name table))

-- that, or the refusal of the server if none has its name
abbrev pub target_events : ℕ → List ℕ → List ℕ → World → List (Event World)
target_events number name table w = option_map_or (server_target_events number name table w) (server_named name w) (refused (refusals.NoSuchServer name))
