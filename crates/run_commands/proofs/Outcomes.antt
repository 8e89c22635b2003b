-- What a step of a set came to, as events of a run.
use Rattle.std.proofs.Common.{◌≡◌, ◌≢◌, ◌∙◌, ◌⊎◌, inl, inr, ℕ, ◌≤◌, List, [], ◌∷◌, cond, Bool, refl, sym, ap, subst, arith, Option, IsTrue, bytes_eq, length-append, append-nil, lt-ltb, le-ltb}
use Rattle.world_store.specs.Words.{Stands}
use Rattle.site_store.specs.Words.{Contents, Kept, Takes, TakesPrefix, names, held}
use Rattle.site_store.specs.declared.sites.Sites.{Sites}
use Rattle.repl_model.specs.Words.{Refusal, Fault, Stepped, signal_records, signalled, after_action, Action, signals, refreshes, blocks, reports, idles, refuses, next_action, IsSound, log_limit, LogIsSound, Server, World, KnownSet, In, at_one, image_in, name_itself}
use Rattle.repl_types.specs.declared.refusal.Refusal.TheVariants as refusals
use Rattle.repl_types.specs.declared.fault.Fault.TheVariants as faults
use Rattle.repl_types.specs.declared.fault.Stepped.TheVariants as steps
use Rattle.reply_text.specs.Steps.{step_line}
use Rattle.run_core.specs.Runs.{commits, writes, lines_of, is_refused, Went, Stopped}
use Rattle.run_core.specs.laws.Quiet.{went_quiet, stopped_quiet}
use Rattle.run_core.specs.laws.Runs.{stopped_before, stopped_after, stopped_in_line}
use Rattle.run_commands.specs.parts.Refusing.{refused}
use Rattle.world_commits.specs.actions.Resting.{commits_world}
use Rattle.set_places.specs.Steps.{HasBecome, MayHaveBecome}
use Rattle.world_commits.specs.actions.StaysSound.{length_signalled}
use Rattle.apply_cycle.specs.Stepping.{answer_of, IsAnswer, IsRefused, HasMade}
use Rattle.run_commands.specs.apply.Progress.{progress_told, line_told, progress_of, is_refusal, step_of}
use Rattle.run_commands.specs.apply.StepEvents.{Outcome, declines, rests, makes, making, outcome_of}
use Rattle.run_commands.specs.declared.apply.steps.Progress.{Progress}
use Rattle.run_commands.specs.declared.apply.steps.Progress.TheVariants.{Refused, Rested, Made}

-- ---- what came of a step

module _ {K : Type 0} (kept : K → Kept) (old new : Sites K) (before now : Option (List ℕ)) where
  -- from a world on, a step came to this: its events happened, and the answer says which it was; at rest nothing was done
  abbrev pub Progressed : World → Outcome → Progress → Type 0
  Progressed w outcome progress = Went (Stands (names old)) (step_of outcome) w (held kept new) before now × (progress ≡ progress_of outcome)

  -- it stopped on its way
  abbrev pub StoppedStep : World → Outcome → Type 0
  StoppedStep w outcome = Stopped (Stands (names old)) (step_of outcome) w (held kept new) before now

-- it refuses something if it was refused
pub refuses_step : (o : Outcome) → is_refusal (progress_of o) ≡ is_refused (step_of o)
refuses_step (declines refusal) = refl
refuses_step rests = refl
refuses_step (makes v line) = refl

-- ---- actions that commit a world

-- the action does
abbrev Commits : Action → Type 0
Commits a = IsTrue (commits_world a)

-- the world after a signal has its log
room_after : (w : World) (k : KnownSet) → In k.source w → IsSound (after_action w k signals) → length_signalled k ≤ log_limit
room_after w k i sound =
    let name = k.source.name in
    let with_one : Server → Server = λ server. cond (bytes_eq name server.name) (signalled k.at_source.def server) server in
    let here : In (signalled k.at_source.def k.source) (after_action w k signals) = subst (λ (b : Bool). In (cond b (signalled k.at_source.def k.source) k.source) (after_action w k signals)) (name_itself name) (image_in with_one w k.source i) in
    omega (arith, (at_one LogIsSound (after_action w k signals) (signalled k.at_source.def k.source) sound.logs here).short, length-append k.source.log (signal_records k.at_source.def k.source.log))

-- an action whose world is sound is made
made_if_sound : (w : World) (k : KnownSet) → In k.source w → (a : Action) → Commits a → IsSound (after_action w k a) → outcome_of w k a ≡ making w k a
made_if_sound w k i signals by sound = ap (λ (b : Bool). cond b (declines (refusals.LogFull k.source.name)) (making w k signals)) (le-ltb log_limit (length_signalled k) (room_after w k i sound))
made_if_sound w k i refreshes by sound = refl
made_if_sound w k i (blocks upto) by sound = refl
made_if_sound w k i reports by sound = refl
made_if_sound w k i idles by sound = absurd cc
made_if_sound w k i (refuses place) by sound = absurd cc

-- a refusal is what its action comes to
pub declined : (w : World) (k : KnownSet) (refusal : Refusal) → IsRefused k (next_action k) refusal → outcome_of w k (next_action k) ≡ declines refusal
declined w k (refusals.LogFull name) is =
    subst (λ (a : Action). outcome_of w k a ≡ declines (refusals.LogFull name)) (sym is.0)
    (ap (λ (b : Bool). cond b (declines (refusals.LogFull k.source.name)) (making w k signals)) (lt-ltb log_limit (length_signalled k) is.1) ∙ ap (λ (n : List ℕ). declines (refusals.LogFull n)) (sym is.2))
declined w k (refusals.RefreshDisabled place) is = ap (outcome_of w k) is
declined w k other is = absurd is

-- ---- names

-- ---- events

module _ {K : Type 0} (kept : K → Kept) (s0 s1 : Sites K) (w : World) (k : KnownSet) (i : In k.source w) where
  -- for which world servers stand, by their names at the beginning
  abbrev Means : List (Option Contents) → World → Type 0
  Means = Stands (names s0)

  -- there was nothing to do
  rested : (source : ℕ) (t u : Option (List ℕ)) → Takes t u [] → HasMade kept s0 s1 w k (next_action k) source steps.Idle → Progressed kept s0 s1 t u w (outcome_of w k (next_action k)) Rested
  rested source t u took made = by_action (next_action k) made.0 made.1
    where
      by_action : (a : Action) → HasBecome kept s0 s1 (after_action w k a) → IsAnswer w k source a steps.Idle → Progressed kept s0 s1 t u w (outcome_of w k a) Rested
      by_action signals become is = absurd cc
      by_action refreshes become is = absurd cc
      by_action (blocks upto) become is = absurd cc
      by_action reports become is = absurd cc
      by_action idles become is = (record { stands = become; bytes = took }, refl)
      by_action (refuses place) become is = absurd is

  -- the line of what was answered is that of the action
  line_is : (source : ℕ) (stepped : Stepped) (a : Action) → Commits a → IsAnswer w k source a stepped → step_line k.source.name stepped ≡ step_line k.source.name (answer_of w k 0 a)
  line_is source stepped signals by is = ap (step_line k.source.name) is
  line_is source stepped refreshes by is = ap (step_line k.source.name) is
  line_is source stepped (blocks upto) by is = ap (step_line k.source.name) is
  line_is source stepped reports by is = ap (step_line k.source.name) is
  line_is source stepped idles by is = absurd cc
  line_is source stepped (refuses place) by is = absurd cc

  module _ (source : ℕ) (stepped : Stepped) (some : stepped ≢ steps.Idle) (t u : Option (List ℕ)) where
    -- what was answered is that of an action that commits a world
    committed : (a : Action) → IsAnswer w k source a stepped → Commits a
    committed signals is = refl
    committed refreshes is = refl
    committed (blocks upto) is = refl
    committed reports is = refl
    committed idles is = absurd (some is)
    committed (refuses place) is = absurd is

    -- the world was committed, and the line written
    wrote_step : HasMade kept s0 s1 w k (next_action k) source stepped → Takes t u (step_line k.source.name stepped) → Progressed kept s0 s1 t u w (outcome_of w k (next_action k)) Made
    wrote_step made took =
        let a = next_action k in
        let by = committed a made.1 in
        subst (λ (o : Outcome). Progressed kept s0 s1 t u w o Made) (sym (made_if_sound w k i a by made.0.sound))
        (record { stands = made.0; bytes = subst (Takes t u) (line_is source stepped a by made.1 ∙ sym (append-nil (step_line k.source.name (answer_of w k 0 a)))) took }, refl)

    -- or a prefix of the line
    began_line : HasMade kept s0 s1 w k (next_action k) source stepped → TakesPrefix t u (step_line k.source.name stepped) → StoppedStep kept s0 s1 t u w (outcome_of w k (next_action k))
    began_line made took =
        let a = next_action k in
        let by = committed a made.1 in
        let v = after_action w k a in
        let line = step_line k.source.name (answer_of w k 0 a) in
        subst (λ (o : Outcome). StoppedStep kept s0 s1 t u w o) (sym (made_if_sound w k i a by made.0.sound))
        (stopped_after Means w v (writes line ∷ []) (held kept s1) t u (stopped_in_line Means v line [] (held kept s1) t u made.0 (subst (TakesPrefix t u) (line_is source stepped a by made.1) took)))

  module _ (source : ℕ) (t u : Option (List ℕ)) where
    -- what came of it was told
    pub told_step : (stepped : Stepped) → HasMade kept s0 s1 w k (next_action k) source stepped → Takes t u (line_told k.source.name stepped) → Progressed kept s0 s1 t u w (outcome_of w k (next_action k)) (progress_told stepped)
    told_step steps.Idle made took = rested source t u took made
    told_step (steps.Signal server seq) made took = wrote_step source (steps.Signal server seq) (λ is. absurd cc) t u made took
    told_step (steps.Refresh point rows) made took = wrote_step source (steps.Refresh point rows) (λ is. absurd cc) t u made took
    told_step (steps.Block from to inserts updates deletes) made took = wrote_step source (steps.Block from to inserts updates deletes) (λ is. absurd cc) t u made took
    told_step (steps.Report point) made took = wrote_step source (steps.Report point) (λ is. absurd cc) t u made took
    told_step (steps.Load m f rows) made took = wrote_step source (steps.Load m f rows) (λ is. absurd cc) t u made took
    told_step (steps.Decide x d accepted rejected) made took = wrote_step source (steps.Decide x d accepted rejected) (λ is. absurd cc) t u made took
    told_step (steps.Settle m f rejected applied) made took = wrote_step source (steps.Settle m f rejected applied) (λ is. absurd cc) t u made took

    -- or a part of it
    pub began_told : (stepped : Stepped) → HasMade kept s0 s1 w k (next_action k) source stepped → TakesPrefix t u (line_told k.source.name stepped) → StoppedStep kept s0 s1 t u w (outcome_of w k (next_action k))
    began_told steps.Idle made took = none_begun (next_action k) made.0 made.1
      where
        none_begun : (a : Action) → HasBecome kept s0 s1 (after_action w k a) → IsAnswer w k source a steps.Idle → StoppedStep kept s0 s1 t u w (outcome_of w k a)
        none_begun signals become is = absurd cc
        none_begun refreshes become is = absurd cc
        none_begun (blocks upto) become is = absurd cc
        none_begun reports become is = absurd cc
        none_begun idles become is = stopped_quiet Means w [] (held kept s1) t u tt become took
        none_begun (refuses place) become is = absurd is
    began_told (steps.Signal server seq) made took = began_line source (steps.Signal server seq) (λ is. absurd cc) t u made took
    began_told (steps.Refresh point rows) made took = began_line source (steps.Refresh point rows) (λ is. absurd cc) t u made took
    began_told (steps.Block from to inserts updates deletes) made took = began_line source (steps.Block from to inserts updates deletes) (λ is. absurd cc) t u made took
    began_told (steps.Report point) made took = began_line source (steps.Report point) (λ is. absurd cc) t u made took
    began_told (steps.Load m f rows) made took = began_line source (steps.Load m f rows) (λ is. absurd cc) t u made took
    began_told (steps.Decide x d accepted rejected) made took = began_line source (steps.Decide x d accepted rejected) (λ is. absurd cc) t u made took
    began_told (steps.Settle m f rejected applied) made took = began_line source (steps.Settle m f rejected applied) (λ is. absurd cc) t u made took

  module _ (refusal : Refusal) (t u : Option (List ℕ)) (become : HasBecome kept s0 s1 w) (is : IsRefused k (next_action k) refusal) where
    -- the step was refused, and the line of that was written
    pub wrote_refusal : Takes t u (lines_of (refused refusal)) → Progressed kept s0 s1 t u w (outcome_of w k (next_action k)) Refused
    wrote_refusal took = subst (λ (o : Outcome). Progressed kept s0 s1 t u w o Refused) (sym (declined w k refusal is))
        (went_quiet Means w (refused refusal) (held kept s1) t u tt become took, refl)

    -- or a prefix of it
    pub began_refusal : TakesPrefix t u (lines_of (refused refusal)) → StoppedStep kept s0 s1 t u w (outcome_of w k (next_action k))
    began_refusal took = subst (λ (o : Outcome). StoppedStep kept s0 s1 t u w o) (sym (declined w k refusal is))
        (stopped_quiet Means w (refused refusal) (held kept s1) t u tt become took)

  -- the step failed, before its commit or in it
  pub failed_step : (e : Fault) (t : Option (List ℕ)) → MayHaveBecome kept s0 s1 w (after_action w k (next_action k)) e → StoppedStep kept s0 s1 t t w (outcome_of w k (next_action k))
  failed_step e t may = by_world may.stands
    where
      -- nothing was committed
      before : HasBecome kept s0 s1 w → (o : Outcome) → StoppedStep kept s0 s1 t t w o
      before same (declines refusal) = stopped_before Means w (refused refusal) (held kept s1) t same
      before same rests = stopped_before Means w [] (held kept s1) t same
      before same (makes v line) = stopped_before Means w (commits v ∷ writes line ∷ []) (held kept s1) t same

      -- the world was
      after : (a : Action) → Commits a → HasBecome kept s0 s1 (after_action w k a) → StoppedStep kept s0 s1 t t w (outcome_of w k a)
      after a by become =
          let v = after_action w k a in
          let line = step_line k.source.name (answer_of w k 0 a) in
          subst (λ (o : Outcome). StoppedStep kept s0 s1 t t w o) (sym (made_if_sound w k i a by become.sound))
          (stopped_after Means w v (writes line ∷ []) (held kept s1) t t (stopped_before Means v (writes line ∷ []) (held kept s1) t become))

      by_action : (a : Action) → HasBecome kept s0 s1 (after_action w k a) → StoppedStep kept s0 s1 t t w (outcome_of w k a)
      by_action signals become = after signals refl become
      by_action refreshes become = after refreshes refl become
      by_action (blocks upto) become = after (blocks upto) refl become
      by_action reports become = after reports refl become
      by_action idles become = before become (outcome_of w k idles)
      by_action (refuses place) become = before become (outcome_of w k (refuses place))

      by_world : HasBecome kept s0 s1 w ⊎ ((s : ℕ) × (e ≡ faults.Keeper s) × HasBecome kept s0 s1 (after_action w k (next_action k))) → StoppedStep kept s0 s1 t t w (outcome_of w k (next_action k))
      by_world (inl same) = before same (outcome_of w k (next_action k))
      by_world (inr became) = by_action (next_action k) became.2
