-- The feed of the input, whose lines are kept, and what is done after it.
use Rattle.std.proofs.Common.{◌≡◌, ◌≤◌, ◌∙◌, ◌||◌, ℕ, List, [], length, Bool, sym, ap, Option, Some, Result, Ok, Err, IfOk, IfErr, IfSome, OnErr, codes}
use Rattle.world_store.specs.Words.{Stands}
use Rattle.site_store.specs.Words.{Contents, Kept, names, held}
use Rattle.site_store.specs.declared.sites.Sites.{Sites}
use Rattle.repl_model.specs.Words.{World}
use Rattle.line_input.specs.Limits.{input_limit}
use Rattle.run_core.specs.Runs.{Event, last_world, Went, Stopped, is_refused}
use Rattle.run_core.specs.laws.Runs.{refused_append, went_both, stopped_in_first, stopped_in_second}
use Rattle.run_commands.specs.parts.Causes.{PartHasCause, HasEnded}
use Rattle.run_commands.specs.parts.Parts.{Happened, StoppedIn}
use Rattle.run_commands.specs.declared.parts.run_error.RunError.{RunError}
use Rattle.run_commands.specs.parts.laws.Parts.{happened_since, stopped_since}
use Rattle.session_core.specs.copy.unwritten.Unwritten.{unwritten}
use Rattle.session_core.specs.copy.unwritten.laws.Causes.{part_blamed}
use Rattle.session_core.specs.copy.unwritten.laws.Sinks.{kept_lines}
use Rattle.session_core.specs.copy.unwritten.laws.Unwritten.{unwritten_refused, went_unwritten, stopped_unwritten}
use Rattle.session_core.specs.copy.fed.FedInput.{input_events}
use Rattle.session_core.specs.copy.fed.laws.Refusals.{input_silent}
use Rattle.session_core.specs.copy.CopyEvents.{shown_events, fed_events}
use Rattle.session_core.specs.Reading.{ReadsAll, StopsReading}
use Rattle.session_core.specs.copy.Showing.{KeepsRefusals}
use Rattle.session_core.proofs.CopyRefusals.{keeps_refusals}
use Rattle.session_core.proofs.ReadInputs.{of_input_also}

-- what is fed at the source
abbrev fed_at : List ℕ → World → List (Event World)
fed_at input w = input_events (codes "src") input w

module _ {K : Type 0} (kept : K → Kept) (s0 s1 : Sites K) (t u : Option (List ℕ)) where
  -- the feed stopped
  pub feed_stopped : (input : Option (List ℕ)) → StopsReading kept s0 s1 input (Some []) u fed_at → StopsReading kept s0 s1 input t t fed_events
  feed_stopped input stopped = λ w at.
      of_input_also input (λ bytes. Stopped (Stands (names s0)) (fed_at bytes w) w (held kept s1) (Some []) u) (λ bytes. Stopped (Stands (names s0)) (fed_events bytes w) w (held kept s1) t t)
      (λ bytes here.
      let fed = fed_at bytes w in
      stopped_in_first (Stands (names s0)) w (unwritten fed) (shown_events fed (last_world w (unwritten fed))) (held kept s1) t t
      (stopped_unwritten (Stands (names s0)) fed w (held kept s1) (Some []) u t here)) (stopped w at)

module _ {K : Type 0} (kept : K → Kept) (s0 s1 s2 : Sites K) (same : names s1 ≡ names s0) (t u : Option (List ℕ)) (lines : List ℕ) (refused : Bool) where
  -- for which world servers stand, by their names at the beginning
  abbrev Means : List (Option Contents) → World → Type 0
  Means h w = Stands (names s0) h w

  -- the feed of these bytes happened
  abbrev HasFed : World → List ℕ → Type 0
  HasFed w bytes = Went Means (fed_at bytes w) w (held kept s1) (Some []) (Some lines) × (refused ≡ is_refused (fed_at bytes w))

  -- what is known of its refusals
  known : (w : World) (bytes : List ℕ) → HasFed w bytes → KeepsRefusals (fed_at bytes w) lines refused
  known w bytes fed = keeps_refusals (fed_at bytes w) lines refused fed.1 (kept_lines Means (fed_at bytes w) w (held kept s1) lines fed.0) (input_silent (codes "src") bytes w)

  module _ (input : Option (List ℕ)) (r : Result Bool RunError) (fed : ReadsAll kept s0 s1 input (Some []) (Some lines) fed_at refused) where
    -- the feed happened, and what is done after it
    pub shown_read : ((fed : List (Event World)) → KeepsRefusals fed lines refused → IfOk r (λ any. Happened kept s1 s2 t u (shown_events fed) any)) → IfOk r (ReadsAll kept s0 s2 input t u fed_events)
    shown_read = pick r
      where
        pick : (r : Result Bool RunError) → ((fed : List (Event World)) → KeepsRefusals fed lines refused → IfOk r (λ any. Happened kept s1 s2 t u (shown_events fed) any)) → IfOk r (ReadsAll kept s0 s2 input t u fed_events)
        pick (Err e) shown = tt
        pick (Ok any) shown = λ w at.
            of_input_also input (HasFed w) (λ bytes. Went Means (fed_events bytes w) w (held kept s2) t u × (any ≡ is_refused (fed_events bytes w)))
            (λ bytes here.
            let events = fed_at bytes w in
            let first = went_unwritten Means events w (held kept s1) (Some []) (Some lines) t here.0 in
            let v = last_world w (unwritten events) in
            let later = happened_since kept s0 s1 s2 same t u (shown_events events) any (shown events (known w bytes here)) v first.stands in (
              went_both Means w (unwritten events) (shown_events events v) (held kept s1) (held kept s2) t t u first later.0,
              later.1 ∙ ap (λ (was : Bool). was || is_refused (shown_events events v)) (sym (unwritten_refused events)) ∙ sym (refused_append (unwritten events) (shown_events events v)),
            )) (fed w at)

    -- or the run stopped after it
    pub shown_unread : ((fed : List (Event World)) → KeepsRefusals fed lines refused → OnErr r (StoppedIn kept s1 s2 t u (shown_events fed))) → OnErr r (StopsReading kept s0 s2 input t u fed_events)
    shown_unread = pick r
      where
        pick : (r : Result Bool RunError) → ((fed : List (Event World)) → KeepsRefusals fed lines refused → OnErr r (StoppedIn kept s1 s2 t u (shown_events fed))) → OnErr r (StopsReading kept s0 s2 input t u fed_events)
        pick (Ok any) stopped = tt
        pick (Err e) stopped = λ w at.
            of_input_also input (HasFed w) (λ bytes. Stopped Means (fed_events bytes w) w (held kept s2) t u)
            (λ bytes here.
            let events = fed_at bytes w in
            let first = went_unwritten Means events w (held kept s1) (Some []) (Some lines) t here.0 in
            let v = last_world w (unwritten events) in
            stopped_in_second Means w (unwritten events) (shown_events events v) (held kept s1) (held kept s2) t t u first
            (stopped_since kept s0 s1 s2 same t u (shown_events events) (stopped events (known w bytes here)) v first.stands)) (fed w at)

-- how a run ended that has read its input, and then shows what was fed
pub shown_ended : {K : Type 0} (kept : K → Kept) (s1 s2 : Sites K) (input rest : Option (List ℕ)) (in_before in_now before now : ℕ) (r : Result Bool RunError) → IfSome input (λ bytes. (rest ≡ Some []) × (length bytes ≤ input_limit)) → IfErr r (PartHasCause kept s1 s2 before now) → HasEnded input rest in_before in_now before now r
shown_ended kept s1 s2 input rest in_before in_now before now (Ok any) read cause = read
shown_ended kept s1 s2 input rest in_before in_now before now (Err e) read cause = part_blamed kept s1 s2 input in_before in_now before now e cause
