-- What came of one step of a set, as a part of a run.
use Rattle.std.specs.Prelude.{◌≡◌, ◌+◌, ℕ, Bool, true, false, List, [], Option, Some}
use Rattle.repl_types.specs.declared.area.Area.TheVariants as areas
use Rattle.repl_types.specs.declared.record.SetId.{SetId}
use Rattle.repl_types.specs.declared.status.DamageCause.TheVariants as causes
use Rattle.repl_types.specs.declared.fault.Stepped.{Stepped}
use Rattle.repl_types.specs.declared.fault.Stepped.TheVariants as steps
use Rattle.keep_core.specs.Kept.{Kept}
use Rattle.keep_core.specs.Revealed.{Takes}
use Rattle.repl_model.specs.World.{World, KnownSet, known_set}
use Rattle.reply_text.specs.Steps.{step_line}
use Rattle.run_core.specs.Runs.{Event}
use Rattle.site_store.specs.Views.{names, held}
use Rattle.site_store.specs.declared.sites.Sites.{Sites}
use Rattle.world_store.specs.Stands.{Stands}
use Rattle.run_commands.specs.apply.StepEvents.{Outcome, declines, rests, makes, events_of}
use Rattle.run_commands.specs.declared.apply.steps.Progress.{Progress}
use Rattle.run_commands.specs.declared.parts.run_error.RunError.{RunError}
use Rattle.run_commands.specs.declared.parts.run_error.RunError.TheVariants as errors
use Rattle.run_commands.specs.declared.apply.steps.Progress.TheVariants.{Refused, Rested, Made}

-- which of the three came of a step
abbrev pub progress_of : Outcome → Progress
progress_of (declines refusal) = Refused
progress_of rests = Rested
progress_of (makes v line) = Made

-- it was refused
abbrev pub is_refusal : Progress → Bool
is_refusal Refused = true
is_refusal Rested = false
is_refusal Made = false

-- which of the three came of what a step answered
abbrev pub progress_told : Stepped → Progress
progress_told steps.Idle = Rested
progress_told other = Made

-- the line that is written of it at a set whose source has this name
abbrev pub line_told : List ℕ → Stepped → List ℕ
line_told source steps.Idle = []
line_told source other = step_line source other

-- the line of a step that was made, at a set whose source has some name
abbrev pub IsStepLine : List ℕ → Type 0
IsStepLine line = (source : List ℕ) × (stepped : Stepped) × (progress_told stepped ≡ Made) × (line ≡ step_line source stepped)

-- a sink took the line of the step, if one was made
abbrev pub TakesStep : Option (List ℕ) → Option (List ℕ) → Progress → Type 0
TakesStep before now Made = (line : List ℕ) × IsStepLine line × Takes before now line
TakesStep before now Refused = Unit {0}
TakesStep before now Rested = Unit {0}

-- A sink took the lines of so many steps, each of which was made.
pub data TakesSteps : Option (List ℕ) → Option (List ℕ) → ℕ → Type 0 where
  no_steps : (t : Option (List ℕ)) → TakesSteps t t 0
  one_more : (t u v : Option (List ℕ)) (n : ℕ) (line : List ℕ) → TakesSteps t u n → IsStepLine line → Takes u v line → TakesSteps t v (n + 1)

-- that a set doesn't come to rest is told of its source, in the area that says how far this is captured, with how many steps
-- were made
abbrev pub TellsNoRest : Option (List ℕ) → Option (List ℕ) → ℕ → RunError → Type 0
TellsNoRest before now source (errors.Damaged s area (causes.NoRest steps)) = (s ≡ source) × (area ≡ areas.Capture) × TakesSteps before now steps
TellsNoRest before now source e = Unit {0}

-- what one step does; nothing if there is nothing to do
abbrev pub step_of : Outcome → List (Event World)
step_of = events_of [] (λ v. [])

-- in each world for which servers stand, the set of a name is known, and makes at most so many steps
abbrev pub MayMake : {K : Type 0} → (K → Kept) → Sites K → SetId → ℕ → Type 0
MayMake kept sites id most = (w : World) → Stands (names sites) (held kept sites) w → (k : KnownSet) × (known_set w id ≡ Some k) × (most ≡ k.source.captured + 5)
