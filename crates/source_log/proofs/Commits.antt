-- What becomes of a commit, by what was made of its changes: proofs.
use Rattle.std.proofs.Common.{◌≡◌, ◌≢◌, ℕ, ◌+◌, ◌<◌, ◌≤◌, Bool, List, refl, sym, ap, subst, ◌∙◌, Some, nat_lt}
use Rattle.std.specs.List.{AllByRecursion}
use Rattle.world_store.specs.Words.{IsLogRecord, log_spelling, b64, Head}
use Rattle.site_store.specs.Words.{Contents, put_at}
use Rattle.repl_model.specs.Words.{LogRecord, log_limit}
use Rattle.repl_types.specs.declared.area.Area.TheVariants as areas
use Rattle.source_log.specs.Making.{StepCanBeMade, AreSteps, MakesAll}
use Rattle.source_log.specs.Reading.{ArePositions, with_dropped}
use Rattle.source_log.specs.Storing.{TakesRecord, IsCommit}
use Rattle.source_log.specs.declared.outcome.Outcome.{Outcome}
use Rattle.source_log.specs.declared.outcome.Outcome.TheVariants as outcomes
use Rattle.source_log.specs.declared.step.Step.{Step}
use Rattle.source_log.proofs.EndsTaken.{commit_fails, commit_full, commit_taken}

module _ (head : Head) (tx time : ℕ) (r : LogRecord) (is : IsCommit tx time r) (positions : List ℕ) (steps : List Step) (can : AllByRecursion StepCanBeMade steps) (in_time : head.time ≤ time) (has_room : Bool) (c : Contents) (found : ArePositions tx positions c) (are : AreSteps tx positions steps c) where
  -- its changes weren't made
  pub commit_stays : (outcome : Outcome) (d : Contents) → outcome ≢ outcomes.Taken → has_room ≡ nat_lt head.last log_limit → MakesAll steps has_room outcome c d → TakesRecord head r outcome c d
  commit_stays outcomes.Taken d ne room made = absurd (ne refl)
  commit_stays outcomes.NotApplicable d ne room made = subst (TakesRecord head r outcomes.NotApplicable c) (sym made.0) (commit_fails head tx c time r is positions steps found are in_time can made.1)
  commit_stays outcomes.Full d ne room made = subst (TakesRecord head r outcomes.Full c) (sym made.0) (commit_full head tx c time r is positions steps found are in_time can made.2 (sym room ∙ made.1))

  -- or they were, and it was put into the log
  pub commit_made : (d e : Contents) → IsLogRecord r → head.last < log_limit → MakesAll steps has_room outcomes.Taken c d → e ≡ with_dropped tx positions (put_at d areas.Log 0 (b64 (head.last + 1)) (Some (log_spelling r))) → TakesRecord head r outcomes.Taken c e
  commit_made d e typed room made puts = commit_taken head tx c time r is positions steps found are in_time e can typed made.2 room
      (puts ∙ ap (λ (x : Contents). with_dropped tx positions (put_at x areas.Log 0 (b64 (head.last + 1)) (Some (log_spelling r)))) made.0)
