-- The events of one step as those of the command `step`.
use Rattle.std.proofs.Common.{◌≡◌, ◌∙◌, ℕ, List, [], ◌∷◌, ◌++◌, ap, sym, Option}
use Rattle.site_store.specs.Words.{Contents}
use Rattle.repl_model.specs.Words.{World}
use Rattle.run_core.specs.Runs.{Event, Stopped, writes}
use Rattle.run_core.specs.laws.Runs.{stopped_in_first}
use Rattle.run_commands.specs.apply.Progress.{progress_of, step_of}
use Rattle.run_commands.specs.apply.StepEvents.{Outcome, declines, rests, makes, events_of}
use Rattle.run_commands.specs.declared.apply.steps.Progress.TheVariants.{Refused, Rested, Made}
use Rattle.run_commands.proofs.Applying.{refused_some, made_some, rested_none}

module _ (line : List ℕ) where
  -- what is done at an outcome, if this line is written at rest
  abbrev done : Outcome → List (Event World)
  done = events_of (writes line ∷ []) (λ v. [])

  -- a step stopped
  pub stopped_end : (Means : List (Option Contents) → World → Type 0) (w : World) (h : List (Option Contents)) (t u : Option (List ℕ)) (o : Outcome) → Stopped Means (step_of o) w h t u → Stopped Means (done o) w h t u
  stopped_end Means w h t u (declines refusal) stopped = stopped
  stopped_end Means w h t u rests stopped = stopped_in_first Means w [] (writes line ∷ []) h t u stopped
  stopped_end Means w h t u (makes v made) stopped = stopped

  module _ (o : Outcome) where
    -- it was refused
    pub refused_end : Refused ≡ progress_of o → step_of o ≡ done o
    refused_end is = let some = refused_some o is in ap step_of some.1 ∙ sym (ap done some.1)

    -- it was made
    pub made_end : Made ≡ progress_of o → step_of o ≡ done o
    made_end is = let some = made_some o is in ap step_of some.2 ∙ sym (ap done some.2)

    -- there was nothing to do, which the line says
    pub rested_end : Rested ≡ progress_of o → step_of o ++ (writes line ∷ []) ≡ done o
    rested_end is = let none = rested_none o is in ap (λ (x : Outcome). step_of x ++ (writes line ∷ [])) none ∙ sym (ap done none)
