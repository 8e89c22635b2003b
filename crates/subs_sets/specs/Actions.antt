-- What an answer about the next action of a set means.
use Rattle.std.specs.Prelude.{ℕ, nat_le, if◌then◌else◌, Option}
use Rattle.repl_model.specs.NextActions as model
use Rattle.repl_model.specs.NextActions.{signals, refreshes, blocks, reports, idles, refuses, at_rest, by_gap, gap_of}
use Rattle.repl_model.specs.Trails.{synchpoint}
use Rattle.repl_model.specs.World.{KnownSet}
use Rattle.subs_sets.specs.declared.action.Action.{Action}
use Rattle.subs_sets.specs.declared.action.Action.TheVariants.{Signal, Refresh, Block, Report, Idle, Refuse}

-- the action that an answer names
abbrev pub action_of : Action → model.Action
action_of Signal = signals
action_of Refresh = refreshes
action_of (Block upto) = blocks upto
action_of Report = reports
action_of Idle = idles
action_of (Refuse place) = refuses place

-- what a set does next whose targets were refreshed, and of which no refresh was asked for
abbrev pub once_refreshed : Option ℕ → KnownSet → model.Action
once_refreshed end k = if nat_le k.source.captured (synchpoint k.at_target.trail) then at_rest k else by_gap end k (gap_of k)
