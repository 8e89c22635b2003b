-- The lines of steps that were made, and a set that doesn't come to rest.
use Rattle.std.proofs.Common.{◌≡◌, ℕ, List, refl, sym, subst, Option}
use Rattle.site_store.specs.Words.{Takes}
use Rattle.repl_model.specs.Words.{Stepped}
use Rattle.repl_types.specs.declared.status.DamageCause.TheVariants as causes
use Rattle.repl_types.specs.declared.fault.Stepped.TheVariants as steps
use Rattle.reply_text.specs.Steps.{step_line}
use Rattle.run_commands.specs.parts.Causes.{FoundByRead}
use Rattle.run_commands.specs.apply.Progress.{progress_told, line_told, TakesStep, TellsNoRest}
use Rattle.run_commands.specs.declared.apply.steps.Progress.{Progress}
use Rattle.run_commands.specs.declared.apply.steps.Progress.TheVariants.{Made}
use Rattle.run_commands.specs.declared.parts.run_error.RunError.{RunError}
use Rattle.run_commands.specs.declared.parts.run_error.RunError.TheVariants as errors

-- ---- one step

-- the line of what a step answered was taken
pub told_line : (t u : Option (List ℕ)) (source : List ℕ) (stepped : Stepped) (progress : Progress) → progress ≡ progress_told stepped → Takes t u (line_told source stepped) → TakesStep t u progress
told_line t u source stepped progress is took = subst (TakesStep t u) (sym is) (pick stepped took)
  where
    made : (x : Stepped) → progress_told x ≡ Made → Takes t u (step_line source x) → TakesStep t u Made
    made x is took = (step_line source x, (source, x, is, refl), took)

    pick : (x : Stepped) → Takes t u (line_told source x) → TakesStep t u (progress_told x)
    pick steps.Idle took = tt
    pick (steps.Signal server seq) took = made (steps.Signal server seq) refl took
    pick (steps.Refresh point rows) took = made (steps.Refresh point rows) refl took
    pick (steps.Block from to inserts updates deletes) took = made (steps.Block from to inserts updates deletes) refl took
    pick (steps.Report point) took = made (steps.Report point) refl took
    pick (steps.Load m f rows) took = made (steps.Load m f rows) refl took
    pick (steps.Decide x d accepted rejected) took = made (steps.Decide x d accepted rejected) refl took
    pick (steps.Settle m f rejected applied) took = made (steps.Settle m f rejected applied) refl took

-- ---- all steps

-- damage that was found by a read isn't that a set doesn't come to rest
pub tells_none : (t u : Option (List ℕ)) (source : ℕ) (e : RunError) → FoundByRead e → TellsNoRest t u source e
tells_none t u source errors.Memory h = tt
tells_none t u source errors.InputFailed h = tt
tells_none t u source errors.InputTooLong h = tt
tells_none t u source errors.OutputFailed h = tt
tells_none t u source (errors.KeeperFailed n) h = tt
tells_none t u source (errors.Damaged n a (causes.Spelling bytes)) h = tt
tells_none t u source (errors.Damaged n a (causes.Absent key)) h = tt
tells_none t u source (errors.Damaged n a (causes.Unfit bytes)) h = tt
tells_none t u source (errors.Damaged n a (causes.NoRest steps)) h = absurd h
