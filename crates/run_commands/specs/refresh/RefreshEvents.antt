-- What a run does at `refresh Q N`.
use Rattle.std.specs.Prelude.{true, if◌then◌else◌, List, [], ◌∷◌, Some}
use Rattle.std.specs.Option.{option_map_or}
use Rattle.repl_types.specs.declared.record.SetId.{SetId}
use Rattle.repl_types.specs.declared.refusal.GapPlace.TheVariants as places
use Rattle.repl_types.specs.declared.refusal.Refusal.TheVariants as refusals
use Rattle.repl_model.specs.Rules.{is_replica_set}
use Rattle.repl_model.specs.World.{World, KnownSet, known_set}
use Rattle.reply_text.specs.Replies.{reply_line}
use Rattle.reply_text.specs.declared.reply.Reply.TheVariants as replies
use Rattle.run_core.specs.Runs.{Event, commits, writes}
use Rattle.world_commits.specs.actions.Flags.{with_flag}
use Rattle.run_commands.specs.parts.Refusing.{refused}

-- at a known set: its flag is set in one commit, which a line says; a replica set is refused
abbrev pub known_refresh_events : World → KnownSet → List (Event World)
known_refresh_events w k = if is_replica_set k.at_target.def then refused (refusals.RefreshDisabled (places.Replica k.at_target.def.id)) else commits (with_flag true w k) ∷ writes (reply_line replies.Flagged) ∷ []

-- at the set of a name, which is refused if no set has it
abbrev pub refresh_events : SetId → World → List (Event World)
refresh_events id w = option_map_or (known_refresh_events w) (known_set w id) (refused (refusals.NoSuchSet id.qual (Some id.name)))
