-- The transaction of a step: proofs.
use Rattle.std.proofs.Common.{◌≡◌, ◌≢◌, get_or, ℕ, zero, suc, ◌+◌, ◌-◌, ◌^◌, ◌<◌, false, cond, List, length, refl, sym, ap, subst, ◌∙◌, arith, Bool, Option, Some, None, get_or-set_other}
use Rattle.std.proofs.lemmas.Bool.{eq-eqb, eqb-false, ne_eqb, true≢false}
use Rattle.world_store.specs.Words.{b32, b64, state_spelling, entry_spelling, SetState, TrailEntry, Reveals}
use Rattle.site_store.specs.Words.{Contents, put_at, set_key, Kept, NoDamage, AllClosed, names, held, work, sees, IsOpenAt, IsClosedAt, Sets, Bounds, no_access, both, Begins, Puts, InDoubt, AtServer, Fails, IsNoDamage, at_most_itself, passes_then, blames_by, GoesOn, Stops, blames_after, stops_as, stops_after, put_fails, write_fails_on, goes_then, goes_put, goes_as}
use Rattle.site_store.specs.declared.sites.Sites.{Sites}
use Rattle.repl_model.specs.Words.{Area, DamageCause, Counts, Fault, TargetKind, TargetSet}
use Rattle.repl_types.specs.declared.area.Area.TheVariants as areas
use Rattle.stored_commits.specs.actions.ActedServers.{is_of_step}
use Rattle.stored_commits.specs.actions.StoredSteps.{PutsStep}
use Rattle.set_places.specs.declared.placed_set.PlacedSet.{PlacedSet}
use Rattle.set_places.specs.Steps.{MayCommitStep}
use Rattle.set_places.specs.laws.Commits.{begun_open, begun_sees_all, stops_step, commit_fails}
use Rattle.subs_sets.specs.Rules.{state_rules}
use Rattle.subs_sets.specs.declared.states.ReadOnlyState.{ReadOnlyState}
use Rattle.target_steps.specs.declared.step.Step.{Step}
use Rattle.target_steps.specs.Taking.{ShowsAtEnds}
use Rattle.target_steps.specs.Steps.{TakesAll, ForMembers, state_after, entry_after, PutsTargets, PutsSomeTargets}
use Rattle.target_steps.specs.laws.AtServers.{ends_as}

-- ---- what is put

-- a state and an entry were put, under the entry's number
abbrev pub with_step : ℕ → SetState → ℕ → TrailEntry → Contents → Contents
with_step number state next entry c = put_at (put_at c areas.SetState 0 (b32 number) (Some (state_spelling state))) areas.Trail number (b64 next) (Some (entry_spelling entry))

module _ (number : ℕ) (state : SetState) (next : ℕ) (entry : TrailEntry) (c : Contents) where
  -- tables of no step stay
  others_stay : (a : Area) (n : ℕ) → is_of_step number a n ≡ false → with_step number state next entry c a n ≡ c a n
  others_stay areas.Log n e = refl
  others_stay areas.Source n e = refl
  others_stay areas.Inflight n e = refl
  others_stay areas.Head n e = refl
  others_stay areas.Defs n e = refl
  others_stay areas.Cd n e = refl
  others_stay areas.Uow n e = refl
  others_stay areas.Capture n e = refl
  others_stay areas.Prune n e = refl
  others_stay areas.Spill n e = refl
  others_stay areas.Target n e = refl
  others_stay areas.SetState zero e = absurd (true≢false e)
  others_stay areas.SetState (suc zero) e = absurd (true≢false e)
  others_stay areas.SetState (suc (suc n)) e = ap (λ (b : Bool). cond b (set_key (c areas.SetState 0) (b32 number) (Some (state_spelling state))) (c areas.SetState (suc (suc n)))) (ne_eqb 0 (suc (suc n)) (λ same. absurd (omega (arith, same))))
  others_stay areas.Trail n e = ap (λ (b : Bool). cond b (set_key (c areas.Trail number) (b64 next) (Some (entry_spelling entry))) (c areas.Trail n)) (ne_eqb number n (λ same. eqb-false n number e (sym same)))

  -- both puts are those of a step
  pub puts_step : (before : ℕ) → next ≡ before + 1 → PutsStep number state before entry c (with_step number state next entry c)
  puts_step before is = record {
    state_put = refl;
    numbers = refl;
    entry_put = ap (λ (b : Bool). cond b (set_key (c areas.Trail number) (b64 next) (Some (entry_spelling entry))) (c areas.Trail number)) (eq-eqb number number refl) ∙ ap (λ (n : ℕ). set_key (c areas.Trail number) (b64 n) (Some (entry_spelling entry))) is;
    others = others_stay;
  }

module _ {K : Type 0} (kept : K → Kept) (takes : TargetKind → Bool) (shows : Option TargetSet → Area → DamageCause → Option Contents → Type 0) (s0 s1 : Sites K) (set : PlacedSet) (step : Step) (lt : set.target < length (names s0)) (closed : AllClosed (work kept s0)) where
  -- ---- the beginning

  -- it failed
  pub begin_fails : (made : Contents → Contents → Type 0) (most : Bounds) (e : Fault) → Fails kept s0 s1 most (AtServer set.target NoDamage) e → MayCommitStep kept s0 s1 set.target made (ShowsAtEnds kept shows s0 set) e
  begin_fails made most e f = stops_step kept s0 s1 set.target made (ShowsAtEnds kept shows s0 set) e f.closes.closed (stops_as kept s0 s1 (λ s a cause. ⊥) (ShowsAtEnds kept shows s0 set) e (λ s a cause h. absurd h) (put_fails kept s0 s1 set.target most e f))

  module _ (begin : Begins kept s0 s1 set.target) where
    -- each server is seen to have what it had
    begun : (s : ℕ) → sees kept s1 s ≡ sees kept s0 s
    begun = begun_sees_all kept s0 s1 set.target lt closed begin

    -- none is open at the source
    pub source_closed : set.source ≢ set.target → IsClosedAt (work kept s1) set.source
    source_closed apart = ap (λ (l : List (Option (Option Contents))). get_or l set.source None) begin.work ∙ get_or-set_other (work kept s0) set.target set.source (Some (get_or (held kept s0) set.target None)) None apart ∙ closed set.source

    -- the target's transaction is open
    open_now : IsOpenAt (work kept s1) set.target
    open_now = begun_open kept s0 s1 set.target lt closed begin

    -- what is taken after it was taken from the beginning
    takes_begun : (counts : Counts) (c d : Contents) → TakesAll kept takes s1 set step shows counts c d → TakesAll kept takes s0 set step shows counts c d
    takes_begun counts c d all = record {
      shown = all.shown;
      taken = λ w k sound placed reveals. all.taken w k sound placed (subst (λ (o : Option Contents). Reveals w k.source o) (sym (begun set.source)) reveals);
    }

    -- a call that takes members and fails after it
    pub take_fails : (made : Contents → Contents → Type 0) (s2 : Sites K) (e : Fault) → AllClosed (work kept s2) → Stops kept s1 s2 (ShowsAtEnds kept shows s1 set) e → MayCommitStep kept s0 s2 set.target made (ShowsAtEnds kept shows s0 set) e
    take_fails made s2 e after f = stops_step kept s0 s2 set.target made (ShowsAtEnds kept shows s0 set) e after (stops_after kept s0 s1 s2 no_access (ShowsAtEnds kept shows s0 set) e begin.passes begin.held
        (stops_as kept s1 s2 (ShowsAtEnds kept shows s1 set) (ShowsAtEnds kept shows s0 set) e (ends_as kept shows set s0 s1 begun) f))

    -- finds no damage
    pub take_undamaged : (e : Fault) → ForMembers kept takes s1 set step (IsNoDamage e) → ForMembers kept takes s0 set step (IsNoDamage e)
    take_undamaged e none = λ c saw w k sound placed reveals. none c (begun set.target ∙ saw) w k sound placed (subst (λ (o : Option Contents). Reveals w k.source o) (sym (begun set.source)) reveals)

    -- a put that fails after steps
    pub write_fails : (made P : Contents → Contents → Type 0) (s2 s3 : Sites K) (most : Bounds) (e : Fault) → GoesOn kept s1 s2 set.target P → Fails kept s2 s3 most (AtServer set.target NoDamage) e → MayCommitStep kept s0 s3 set.target made (ShowsAtEnds kept shows s0 set) e
    write_fails made P s2 s3 most e goes f = stops_step kept s0 s3 set.target made (ShowsAtEnds kept shows s0 set) e f.closes.closed (stops_as kept s0 s3 (λ s a cause. ⊥) (ShowsAtEnds kept shows s0 set) e (λ s a cause h. absurd h)
        (stops_after kept s0 s1 s3 no_access (λ s a cause. ⊥) e begin.passes begin.held (write_fails_on kept s1 s2 s3 set.target P e goes (put_fails kept s2 s3 set.target most e f))))

    -- ---- the puts

    module _ (known : ReadOnlyState) (next : ℕ) (counts : Counts) (state : SetState) (state_is : known.entries < 2 ^ 64 - 1 → state ≡ state_after step known) (next_is : known.entries < 2 ^ 64 - 1 → next ≡ known.entries + 1) (entry : TrailEntry) (entry_is : entry ≡ entry_after step set.at_source.def counts) (s2 s3 s4 : Sites K) (taken : GoesOn kept s1 s2 set.target (TakesAll kept takes s1 set step shows counts)) where
      module _ (state_put : Puts kept s2 s3 set.target areas.SetState 0 (b32 set.at_target.number) (Some (state_spelling state))) where
        -- after the first
        abbrev pub StatePut : Contents → Contents → Type 0
        StatePut c d = (m : Contents) × TakesAll kept takes s1 set step shows counts c m × (d ≡ put_at m areas.SetState 0 (b32 set.at_target.number) (Some (state_spelling state)))

        pub goes_state : GoesOn kept s1 s3 set.target StatePut
        goes_state = goes_then kept s1 s2 s3 set.target (TakesAll kept takes s1 set step shows counts) (Sets areas.SetState 0 (b32 set.at_target.number) (Some (state_spelling state))) StatePut open_now taken (goes_put kept s2 s3 set.target areas.SetState 0 (b32 set.at_target.number) (Some (state_spelling state)) state_put) (λ c m d a p. (m, a, p))

        module _ (entry_put : Puts kept s3 s4 set.target areas.Trail set.at_target.number (b64 next) (Some (entry_spelling entry))) where
          -- after both
          pub goes_step : GoesOn kept s1 s4 set.target (PutsTargets kept takes shows s0 set step known counts)
          goes_step = goes_then kept s1 s3 s4 set.target StatePut (Sets areas.Trail set.at_target.number (b64 next) (Some (entry_spelling entry))) (PutsTargets kept takes shows s0 set step known counts) open_now goes_state (goes_put kept s3 s4 set.target areas.Trail set.at_target.number (b64 next) (Some (entry_spelling entry)) entry_put)
              (λ c m d p q.
              let all : d ≡ with_step set.at_target.number state next entry p.0 = q ∙ ap (λ (x : Contents). put_at x areas.Trail set.at_target.number (b64 next) (Some (entry_spelling entry))) p.2 in
              record {
                between = p.0;
                taken = takes_begun counts c p.0 p.1;
                puts = λ short. subst (λ (x : SetState × TrailEntry × Contents). PutsStep set.at_target.number x.0 known.entries x.1 p.0 x.2) (λ i. (state_is short i, entry_is i, sym all i))
                    (puts_step set.at_target.number state next entry p.0 known.entries (next_is short));
                targets = λ n. ap (λ (x : Contents). x areas.Target n) all;
              })

          pub goes_some : GoesOn kept s1 s4 set.target (PutsSomeTargets kept takes shows s0 set step known)
          goes_some = goes_as kept s1 s4 set.target (PutsTargets kept takes shows s0 set step known counts) (PutsSomeTargets kept takes shows s0 set step known) open_now goes_step (λ c d p. (counts, p))

    -- ---- the commit

    -- it failed
    pub commit_may : (made : Contents → Contents → Type 0) (s2 s3 : Sites K) (e : Fault) → GoesOn kept s1 s2 set.target made → InDoubt kept s2 s3 set.target e → MayCommitStep kept s0 s3 set.target made (ShowsAtEnds kept shows s0 set) e
    commit_may made s2 s3 e goes doubt =
        let may = commit_fails kept s0 s1 set.target lt closed made begin s2 goes s3 state_rules e doubt in
        let before = both no_access goes.most in
        let here = passes_then kept s0 s1 s2 no_access goes.most before begin.passes goes.works.passes (at_most_itself before) in
        record {
          most = may.most;
          passes = may.passes;
          stepped = may.stepped;
          closed = may.closed;
          blames = record {
            blames = blames_by kept s0 s3 (λ s a cause. ⊥) (ShowsAtEnds kept shows s0 set) e (blames_after kept s0 s2 s3 before (λ s a cause. ⊥) e here doubt.blames) (λ s a cause h. absurd h);
            holds = may.blames.holds;
          };
        }
