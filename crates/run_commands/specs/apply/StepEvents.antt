-- What a run does at `step Q N` and at `apply Q N`.
use Rattle.std.specs.Prelude.{ℕ, zero, suc, ◌+◌, Bool, nat_lt, if◌then◌else◌, List, [], ◌∷◌, Some}
use Rattle.std.specs.List.{list_all}
use Rattle.std.specs.Option.{option_map_or}
use Rattle.repl_types.specs.declared.record.SetId.{SetId}
use Rattle.repl_types.specs.declared.refusal.Refusal.{Refusal}
use Rattle.repl_types.specs.declared.refusal.Refusal.TheVariants as refusals
use Rattle.repl_types.specs.declared.fault.Stepped.TheVariants as steps
use Rattle.repl_definitions.specs.declared.set.SetDef.{SetDef}
use Rattle.repl_model.specs.AfterActions.{after_action}
use Rattle.repl_model.specs.NextActions.{Action, signals, idles, refuses, next_action}
use Rattle.repl_model.specs.SoundLogs.{log_limit}
use Rattle.repl_model.specs.World.{World, KnownSet, known_set}
use Rattle.reply_text.specs.Replies.{reply_line}
use Rattle.reply_text.specs.Steps.{step_line}
use Rattle.reply_text.specs.declared.reply.Reply.TheVariants as replies
use Rattle.run_core.specs.Runs.{Event, commits, writes}
use Rattle.run_commands.specs.parts.Refusing.{refused}
use Rattle.world_commits.specs.actions.StaysSound.{length_signalled}
use Rattle.member_targets.specs.Kinds.{is_taken}
use Rattle.apply_cycle.specs.Stepping.{answer_of}

-- ---- what a step comes to

-- What a step of a set comes to in a world: it is refused, or there is nothing to do, or it commits this world and
-- writes this line.
pub data Outcome : Type 0 where
  declines : Refusal → Outcome
  rests : Outcome
  makes : World → List ℕ → Outcome

-- all members of a set are of a kind that is carried out
abbrev pub is_carried_out : SetDef → Bool
is_carried_out def = list_all (λ member. is_taken member.kind) def.members

-- an action is made, and its line written, which has no number of a server
abbrev pub making : World → KnownSet → Action → Outcome
making w k a = makes (after_action w k a) (step_line k.source.name (answer_of w k 0 a))

-- what an action comes to: a signal is refused if the log of the source has no room for it
abbrev pub outcome_of : World → KnownSet → Action → Outcome
outcome_of w k signals = if nat_lt log_limit (length_signalled k) then declines (refusals.LogFull k.source.name) else making w k signals
outcome_of w k idles = rests
outcome_of w k (refuses place) = declines (refusals.RefreshDisabled place)
outcome_of w k a = making w k a

-- what the next step of a known set comes to, at a line with a number: a set that isn't carried out yet is refused as an
-- unknown command is
abbrev pub next_outcome : ℕ → World → KnownSet → Outcome
next_outcome number w k = if is_carried_out k.at_target.def then outcome_of w k (next_action k) else declines (refusals.UnknownCommand number)

-- that of the set of a name, which is refused if no set has it
abbrev pub outcome : ℕ → SetId → World → Outcome
outcome number id w = option_map_or (next_outcome number w) (known_set w id) (declines (refusals.NoSuchSet id.qual (Some id.name)))

-- ---- what is done

-- what is done at an outcome, with what is done if there is nothing to do, and from the world that is made on
abbrev pub events_of : List (Event World) → (World → List (Event World)) → Outcome → List (Event World)
events_of resting further (declines refusal) = refused refusal
events_of resting further rests = resting
events_of resting further (makes v line) = commits v ∷ writes line ∷ further v

-- at `step Q N`
abbrev pub step_events : ℕ → SetId → World → List (Event World)
step_events number id w = events_of (writes (step_line [] steps.Idle) ∷ []) (λ v. []) (outcome number id w)

-- at `apply Q N`, if so many steps were made, and so many more may be: they are made until there is nothing to do, which the
-- line that counts them says, or until one is refused
abbrev pub events_from : ℕ → ℕ → ℕ → SetId → World → List (Event World)
events_from zero made number id w = []
events_from (suc left) made number id w = events_of (writes (reply_line (replies.Applied made)) ∷ []) (events_from left (made + 1) number id) (outcome number id w)

-- how many steps may be made at most: five more than the point up to which the source is captured, and before that a
-- step is refused or there is nothing to do (`each_leaves_fewer` of `world_commits`)
abbrev pub most_steps : SetId → World → ℕ
most_steps id w = option_map_or (λ k. k.source.captured + 5) (known_set w id) 1

-- at `apply Q N`
abbrev pub apply_events : ℕ → SetId → World → List (Event World)
apply_events number id w = events_from (most_steps id w) 0 number id w
