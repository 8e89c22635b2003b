-- Parts of a run: what is said of them at the names that the servers had at the beginning, and parts that only write.
use Rattle.std.proofs.Common.{◌≡◌, ◌<◌, ◌≤◌, ◌∙◌, ◌||◌, ℕ, List, [], ◌∷◌, length, Bool, true, false, refl, sym, ap₂, subst, arith, Option, append-nil}
use Rattle.world_store.specs.Words.{Stands}
use Rattle.site_store.specs.Words.{Contents, Kept, Takes, TakesPrefix, takes_nothing, names, held, KeepsServers}
use Rattle.site_store.specs.declared.sites.Sites.{Sites}
use Rattle.repl_model.specs.Words.{Area, Refusal, DamageCause, World}
use Rattle.run_core.specs.Runs.{Event, writes, last_world, lines_of, is_refused, Went, Stopped}
use Rattle.run_core.specs.laws.Runs.{refused_append, stopped_before, went_both, stopped_in_first, stopped_in_second}
use Rattle.run_core.specs.laws.Quiet.{IsQuiet, went_quiet, stopped_quiet}
use Rattle.run_commands.specs.parts.Causes.{MetDamage, PartHasCause, FoundByRead, IsOfOutput}
use Rattle.run_commands.specs.parts.Parts.{then_events, Happened, StoppedIn}
use Rattle.run_commands.specs.parts.Refusing.{refused}
use Rattle.run_commands.specs.declared.parts.run_error.RunError.{RunError}
use Rattle.run_commands.specs.declared.parts.run_error.RunError.TheVariants as errors

module _ {K : Type 0} (kept : K → Kept) (s0 s1 s2 : Sites K) (same : names s1 ≡ names s0) (t u : Option (List ℕ)) (events : World → List (Event World)) where
  -- a part that happened did so by the names that the servers had before
  pub happened_since : (answer : Bool) → Happened kept s1 s2 t u events answer → (v : World) → Stands (names s0) (held kept s1) v → Went (Stands (names s0)) (events v) v (held kept s2) t u × (answer ≡ is_refused (events v))
  happened_since answer happened = subst (λ (n : List (List ℕ)). (v : World) → Stands n (held kept s1) v → Went (Stands n) (events v) v (held kept s2) t u × (answer ≡ is_refused (events v))) same happened

  -- so did one that stopped
  pub stopped_since : StoppedIn kept s1 s2 t u events → (v : World) → Stands (names s0) (held kept s1) v → Stopped (Stands (names s0)) (events v) v (held kept s2) t u
  stopped_since stopped = subst (λ (n : List (List ℕ)). (v : World) → Stands n (held kept s1) v → Stopped (Stands n) (events v) v (held kept s2) t u) same stopped

module _ {K : Type 0} (kept : K → Kept) (s0 s1 : Sites K) (t u : Option (List ℕ)) (events others : World → List (Event World)) (same : (w : World) → Stands (names s0) (held kept s0) w → events w ≡ others w) where
  -- what happened, by other words for the same events
  pub happened_as : (answer : Bool) → Happened kept s0 s1 t u events answer → Happened kept s0 s1 t u others answer
  happened_as answer happened = λ w stands. subst (λ (es : List (Event World)). Went (Stands (names s0)) es w (held kept s1) t u × (answer ≡ is_refused es)) (same w stands) (happened w stands)

  -- and where it stopped
  pub stopped_as : StoppedIn kept s0 s1 t u events → StoppedIn kept s0 s1 t u others
  stopped_as stopped = λ w stands. subst (λ (es : List (Event World)). Stopped (Stands (names s0)) es w (held kept s1) t u) (same w stands) (stopped w stands)

module _ {K : Type 0} (kept : K → Kept) (s0 s1 : Sites K) (same : held kept s1 ≡ held kept s0) (t u : Option (List ℕ)) (events : World → List (Event World)) where
  -- a part that only writes happened, if its lines were taken
  pub happened_quiet : (answer : Bool) → ((w : World) → Stands (names s0) (held kept s0) w → IsQuiet (events w) × Takes t u (lines_of (events w)) × (answer ≡ is_refused (events w))) → Happened kept s0 s1 t u events answer
  happened_quiet answer at = λ w stands.
      let here = at w stands in
      (went_quiet (Stands (names s0)) w (events w) (held kept s1) t u here.0 (subst (λ (h : List (Option Contents)). Stands (names s0) h w) (sym same) stands) here.1, here.2)

  -- it stopped on its way, if a prefix of them was taken
  pub stopped_quietly : ((w : World) → Stands (names s0) (held kept s0) w → IsQuiet (events w) × TakesPrefix t u (lines_of (events w))) → StoppedIn kept s0 s1 t u events
  stopped_quietly at = λ w stands.
      let here = at w stands in
      stopped_quiet (Stands (names s0)) w (events w) (held kept s1) t u here.0 (subst (λ (h : List (Option Contents)). Stands (names s0) h w) (sym same) stands) here.1

module _ {K : Type 0} (kept : K → Kept) (s : Sites K) where
  -- nothing was done
  pub nothing_done : (t : Option (List ℕ)) (events : World → List (Event World)) → StoppedIn kept s s t t events
  nothing_done t events = λ w stands. stopped_before (Stands (names s)) w (events w) (held kept s) t stands

  -- the line of a refusal was written
  pub refusal_written : (t u : Option (List ℕ)) (refusal : Refusal) (answer : Bool) → (answer ≡ true) × Takes t u (lines_of (refused refusal)) → Happened kept s s t u (λ w. refused refusal) answer
  refusal_written t u refusal answer wrote = happened_quiet kept s s refl t u (λ w. refused refusal) answer (λ w stands. (tt, wrote.1, wrote.0))

  -- a prefix of it was
  pub refusal_begun : (t u : Option (List ℕ)) (refusal : Refusal) → TakesPrefix t u (lines_of (refused refusal)) → StoppedIn kept s s t u (λ w. refused refusal)
  refusal_begun t u refusal wrote = stopped_quietly kept s s refl t u (λ w. refused refusal) (λ w stands. (tt, wrote))

  -- the line of a reply was written
  pub line_written : (t u : Option (List ℕ)) (line : List ℕ) (answer : Bool) → (answer ≡ false) × Takes t u line → Happened kept s s t u (λ w. writes line ∷ []) answer
  line_written t u line answer wrote = happened_quiet kept s s refl t u (λ w. writes line ∷ []) answer (λ w stands. (tt, subst (Takes t u) (sym (append-nil line)) wrote.1, wrote.0))

  -- a prefix of it was
  pub line_begun : (t u : Option (List ℕ)) (line : List ℕ) → TakesPrefix t u line → StoppedIn kept s s t u (λ w. writes line ∷ [])
  line_begun t u line wrote = stopped_quietly kept s s refl t u (λ w. writes line ∷ []) (λ w stands. (tt, subst (TakesPrefix t u) (sym (append-nil line)) wrote))

  -- nothing was to be done
  pub all_done : (t : Option (List ℕ)) → Happened kept s s t t (λ w. []) false
  all_done t = happened_quiet kept s s refl t t (λ w. []) false (λ w stands. (tt, takes_nothing t, refl))

module _ {K : Type 0} (kept : K → Kept) (s0 s1 : Sites K) where
  -- why a part failed as it wrote
  pub output_cause : (before now : ℕ) (e : RunError) → IsOfOutput before now e → PartHasCause kept s0 s1 before now e
  output_cause before now errors.Memory h = record { streams = tt; servers = tt }
  output_cause before now errors.InputFailed h = absurd h
  output_cause before now errors.InputTooLong h = absurd h
  output_cause before now errors.OutputFailed h = record { streams = h; servers = tt }
  output_cause before now (errors.KeeperFailed n) h = absurd h
  output_cause before now (errors.Damaged n a cause) h = absurd h

-- it failed as it wrote also if it wrote something else before
pub output_later : (before now later : ℕ) (e : RunError) → before ≤ now → IsOfOutput now later e → IsOfOutput before later e
output_later before now later errors.Memory le h = tt
output_later before now later errors.InputFailed le h = absurd h
output_later before now later errors.InputTooLong le h = absurd h
output_later before now later errors.OutputFailed le h = λ lt. omega (arith, h (omega (arith, lt, le)), le)
output_later before now later (errors.KeeperFailed n) le h = absurd h
output_later before now later (errors.Damaged n a cause) le h = absurd h

-- it found no damage
pub output_reads : (before now : ℕ) (e : RunError) → IsOfOutput before now e → FoundByRead e
output_reads before now errors.Memory h = tt
output_reads before now errors.InputFailed h = tt
output_reads before now errors.InputTooLong h = tt
output_reads before now errors.OutputFailed h = tt
output_reads before now (errors.KeeperFailed n) h = tt
output_reads before now (errors.Damaged n a cause) h = absurd h

-- ---- two parts in turn

module _ {K : Type 0} (kept : K → Kept) (s0 s1 s2 : Sites K) where
  -- damage that the second met, both met; if the servers stood for a world before the first, they did so after it
  pub met_later : (n : ℕ) (a : Area) (cause : DamageCause) → KeepsServers kept s0 s1 → ((w : World) → Stands (names s0) (held kept s0) w → (v : World) × Stands (names s0) (held kept s1) v) → MetDamage kept s1 s2 n a cause → MetDamage kept s0 s2 n a cause
  met_later n a cause keeps stands met = record {
    server = subst (λ (l : List (List ℕ)). n < length l) keeps.names met.server;
    read = λ is lt. let rose = met.read is lt in omega (arith, rose, keeps.reads a n (omega (arith, rose, lt)));
    shown = met.shown;
    rest = met.rest;
    unsound = λ w at. let now = stands w at in met.unsound now.0 (subst (λ (l : List (List ℕ)). Stands l (held kept s1) now.0) (sym keeps.names) now.1);
  }

  -- why the second failed
  pub later_cause : (before now later : ℕ) (e : RunError) → KeepsServers kept s0 s1 → ((w : World) → Stands (names s0) (held kept s0) w → (v : World) × Stands (names s0) (held kept s1) v) → before ≤ now → PartHasCause kept s1 s2 now later e → PartHasCause kept s0 s2 before later e
  later_cause before now later errors.Memory keeps stands le cause = record { streams = tt; servers = tt }
  later_cause before now later errors.InputFailed keeps stands le cause = record { streams = cause.streams; servers = tt }
  later_cause before now later errors.InputTooLong keeps stands le cause = record { streams = cause.streams; servers = tt }
  later_cause before now later errors.OutputFailed keeps stands le cause = record { streams = λ lt. omega (arith, cause.streams lt, le); servers = tt }
  later_cause before now later (errors.KeeperFailed n) keeps stands le cause = record { streams = tt; servers = λ lt. omega (arith, cause.servers lt, keeps.faults n) }
  later_cause before now later (errors.Damaged n a c) keeps stands le cause = record { streams = tt; servers = met_later n a c keeps stands cause.servers }

  module _ (same : names s1 ≡ names s0) (t u v : Option (List ℕ)) (first second : World → List (Event World)) where
    -- both happened
    pub happened_both : (a b : Bool) → Happened kept s0 s1 t u first a → Happened kept s1 s2 u v second b → Happened kept s0 s2 t v (then_events first second) (a || b)
    happened_both a b one two = λ w stands.
        let here = one w stands in
        let x = last_world w (first w) in
        let later = happened_since kept s0 s1 s2 same u v second b two x here.0.stands in
        (went_both (Stands (names s0)) w (first w) (second x) (held kept s1) (held kept s2) t u v here.0 later.0, ap₂ (λ (p q : Bool). p || q) here.1 later.1 ∙ sym (refused_append (first w) (second x)))

    -- the second stopped
    pub stopped_second : (a : Bool) → Happened kept s0 s1 t u first a → StoppedIn kept s1 s2 u v second → StoppedIn kept s0 s2 t v (then_events first second)
    stopped_second a one two = λ w stands.
        let here = one w stands in
        let x = last_world w (first w) in
        stopped_in_second (Stands (names s0)) w (first w) (second x) (held kept s1) (held kept s2) t u v here.0 (stopped_since kept s0 s1 s2 same u v second two x here.0.stands)

module _ {K : Type 0} (kept : K → Kept) (s0 s1 : Sites K) (t u : Option (List ℕ)) (first second : World → List (Event World)) where
  -- the first stopped
  pub stopped_first : StoppedIn kept s0 s1 t u first → StoppedIn kept s0 s1 t u (then_events first second)
  stopped_first one = λ w stands. stopped_in_first (Stands (names s0)) w (first w) (second (last_world w (first w))) (held kept s1) t u (one w stands)

  -- where the servers stand after a part that happened
  pub stands_after : (a : Bool) → Happened kept s0 s1 t u first a → (w : World) → Stands (names s0) (held kept s0) w → (v : World) × Stands (names s0) (held kept s1) v
  stands_after a happened w stands = (last_world w (first w), (happened w stands).0.stands)
