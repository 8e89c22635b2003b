-- A step after others, by the names that the servers had at first.
use Rattle.std.proofs.Common.{◌≡◌, ℕ, List, sym, subst, Option, Ok}
use Rattle.world_store.specs.Words.{Stands}
use Rattle.site_store.specs.Words.{Kept, names, held}
use Rattle.site_store.specs.declared.sites.Sites.{Sites}
use Rattle.repl_model.specs.Words.{SetId, World}
use Rattle.run_core.specs.Runs.{Went, Stopped}
use Rattle.run_commands.specs.apply.Progress.{step_of, progress_of, is_refusal}
use Rattle.run_commands.specs.declared.apply.steps.Progress.{Progress}
use Rattle.run_commands.specs.parts.Parts.{IsPart}
use Rattle.run_commands.specs.apply.StepEvents.{outcome}

module _ {K : Type 0} (kept : K → Kept) (s0 s1 s2 : Sites K) (same : names s1 ≡ names s0) (number : ℕ) (id : SetId) (v : World) where
  -- the world stands by the names from before the step
  pub stands_there : Stands (names s0) (held kept s1) v → Stands (names s1) (held kept s1) v
  stands_there stands = subst (λ (l : List (List ℕ)). Stands l (held kept s1) v) (sym same) stands

  -- it stopped
  pub stopped_there : (u u2 : Option (List ℕ)) → Stopped (Stands (names s1)) (step_of (outcome number id v)) v (held kept s2) u u2 → Stopped (Stands (names s0)) (step_of (outcome number id v)) v (held kept s2) u u2
  stopped_there u u2 stopped = subst (λ (l : List (List ℕ)). Stopped (Stands l) (step_of (outcome number id v)) v (held kept s2) u u2) same stopped

  -- or it was made, and this came of it
  pub made_there : {O : Type 0} {taken : O → Option (List ℕ)} {faults : O → ℕ} {o p : O} {progress : Progress} → IsPart kept taken faults s1 s2 o p (λ w. step_of (outcome number id w)) is_refusal (Ok progress)
      → ((w : World) → Stands (names s1) (held kept s1) w → progress ≡ progress_of (outcome number id w)) → Stands (names s0) (held kept s1) v
      → Went (Stands (names s0)) (step_of (outcome number id v)) v (held kept s2) (taken o) (taken p) × (progress ≡ progress_of (outcome number id v))
  made_there {taken = taken} {o = o} {p = p} part came stands =
      let at = stands_there stands in
      (subst (λ (l : List (List ℕ)). Went (Stands l) (step_of (outcome number id v)) v (held kept s2) (taken o) (taken p)) same (part.ok v at).0, came v at)
