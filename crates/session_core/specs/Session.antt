-- What the contract of `session` says of words, of statuses and of servers.
use Rattle.std.specs.Prelude.{◌≡◌, ℕ, Bool, true, false, codes, List, [], ◌∷◌, map, Option}
use Rattle.repl_types.specs.declared.status.Status.{Status}
use Rattle.repl_types.specs.declared.status.Status.TheVariants as statuses
use Rattle.keep_core.specs.Contents.{Contents}
use Rattle.run_words.specs.declared.opening.Opening.{Opening}
use Rattle.run_words.specs.declared.opening.Opening.TheVariants.{Copy, Servers}
use Rattle.run_words.specs.Openings.{AreWordsOf}
use Rattle.repl_model.specs.World.{World}
use Rattle.run_core.specs.Runs.{Event, Went, is_refused}
use Rattle.session_core.specs.copy.CopyEvents.{copy_events}
use Rattle.run_commands.specs.parts.ExitStatus.{status_of_done}
use Rattle.session_core.specs.Talk.{script_events}

-- ---- what the words ask for

-- the names of the servers that a run needs, in order: `copy` needs a source and a target
abbrev pub server_names : Opening → List (List ℕ)
server_names Copy = codes "src" ∷ codes "dst" ∷ []
server_names (Servers cells servers) = map (λ server. server.name) servers

-- the words ask for this run, and the servers are those that it needs
pub record Asks (given names : List (List ℕ)) (opening : Opening) : Type 0 where
  pub words : AreWordsOf given opening
  pub servers : server_names opening ≡ names

-- what the run does with an input, from a world on; whatever the number of cells
abbrev pub run_events : Opening → List ℕ → World → List (Event World)
run_events Copy input w = copy_events input w
run_events (Servers cells servers) input w = script_events input w

-- ---- how a run ends

-- the status of a run that came to its end
abbrev pub status_of : List (Event World) → Status
status_of events = status_of_done (is_refused events)

-- the status is that of a run that came to its end
abbrev pub is_done : Status → Bool
is_done statuses.Ok = true
is_done statuses.Refused = true
is_done statuses.Usage = false
is_done (statuses.KeeperFault server) = false
is_done statuses.InputFault = false
is_done statuses.OutputFault = false
is_done statuses.Memory = false
is_done statuses.InputTooLong = false
is_done (statuses.Damaged server area cause) = false

-- The whole run happened, and the status says whether something was refused.
pub record Ran (Means : List (Option Contents) → World → Type 0) (events : List (Event World)) (w : World) (held : List (Option Contents)) (before now : Option (List ℕ)) (answer : Status) : Type 0 where
  pub went : Went Means events w held before now
  pub status : answer ≡ status_of events
