-- The steps of a set one after another, and why one failed: proofs.
use Rattle.std.proofs.Common.{◌≡◌, ◌∙◌, ◌⊎◌, inl, inr, ℕ, ◌+◌, ◌-◌, ◌^◌, ◌<◌, ◌≤◌, List, [], ◌∷◌, ◌++◌, length, Bool, not, min, refl, sym, ap, subst, append_assoc, arith, Option, Some, None, IsTrue, slice_get, length-append}
use Rattle.std.proofs.Math.Nat.{min-eq_left}
use Rattle.world_store.specs.Words.{Stands}
use Rattle.site_store.specs.Words.{Contents, Kept, KeepsServers, IsRead, Blames, keeps_passed, Looks, Rules, Shows, IsNoDamage, AllClosed, names, held, work, sees}
use Rattle.site_store.specs.declared.sites.Sites.{Sites}
use Rattle.repl_model.specs.Words.{Area, SetId, DamageCause, Fault, Stepped, after_action, Action, signals, refreshes, blocks, reports, idles, refuses, next_action, is_replica_set, log_limit, World, KnownSet, known_set, at_place_in, TargetKind, SetDef, TargetSet}
use Rattle.repl_types.specs.declared.status.DamageCause.TheVariants as causes
use Rattle.repl_types.specs.declared.fault.Fault.TheVariants as faults
use Rattle.repl_types.specs.declared.fault.Stepped.TheVariants as steps
use Rattle.world_commits.specs.actions.Resting.{commits_world, steps_left}
use Rattle.world_commits.specs.actions.laws.Resting.{few_steps}
use Rattle.target_steps.specs.Steps.{TakesEach}
use Rattle.target_steps.specs.Taking.{ShowsAtEnds}
use Rattle.set_places.specs.Members.{ForSource}
use Rattle.set_places.specs.Places.{IsPlacedAs, IsKnownAs, IsReadOnly}
use Rattle.set_places.specs.Steps.{HasBecome, MayHaveBecome}
use Rattle.set_places.specs.declared.placed_set.PlacedSet.{PlacedSet}
use Rattle.subs_sets.specs.laws.Captured.{captured_within}
use Rattle.target_steps.specs.laws.AtServers.{revealed}
use Rattle.apply_cycle.proofs.StepCases.{stands_on, closed_on}
use Rattle.apply_cycle.specs.Cycling.{MakesStep, MakesSteps, Rests, ForCycle, MakesAtMost, MayMake, HasStepped, HasBroken, HasRested, HasBrokenAfter, IsCaused, TellsNoRest, made_of}
use Rattle.apply_cycle.specs.Stepping.{answer_of, IsAnswer, IsBlamed, ShowsDamage, HasMade, HasFailed}
use Rattle.world_commits.specs.laws.Resting.{each_leaves_fewer}

-- ---- in a world

-- one more step after others
pub steps_then : (id : SetId) (w u v : World) (answers : List Stepped) (stepped : Stepped) → MakesSteps id w u answers → MakesStep id u v stepped → MakesSteps id w v (answers ++ stepped ∷ [])
steps_then id w u v [] stepped made one = (v, subst (λ (x : World). MakesStep id x v stepped) made one, refl)
steps_then id w u v (answer ∷ answers) stepped made one = (made.0, made.1, steps_then id made.0 u v answers stepped made.2 one)

-- an answer that was added to a list after others
pub added_one : (before now later answers : List Stepped) (stepped : Stepped) → now ≡ before ++ answers → later ≡ now ++ stepped ∷ [] → later ≡ before ++ (answers ++ stepped ∷ [])
added_one before now later answers stepped so_far is = is ∙ ap (λ (l : List Stepped). l ++ stepped ∷ []) so_far ∙ append_assoc before answers (stepped ∷ [])

-- so many steps as there are answers
pub counted_one : (answers : List Stepped) (stepped : Stepped) (n : ℕ) → length answers ≡ n → length (answers ++ stepped ∷ []) ≡ n + 1
counted_one answers stepped n is = length-append answers (stepped ∷ []) ∙ ap (λ (m : ℕ). m + 1) is

pub counted_all : (before now answers : List Stepped) (n : ℕ) → now ≡ before ++ answers → length answers ≡ n → length now ≡ length before + n
counted_all before now answers n is count = ap length is ∙ length-append before answers ∙ ap (λ (m : ℕ). length before + m) count

-- the next action of a known set is a step, unless it is nothing or a refusal
makes_next : (id : SetId) (w : World) (k : KnownSet) (source : ℕ) → known_set w id ≡ Some k → slice_get w source ≡ Some k.source → IsTrue (commits_world (next_action k)) → MakesStep id w (after_action w k (next_action k)) (answer_of w k source (next_action k))
makes_next id w k source known at commits = record { k = k; known = known; commits = commits; after = refl; source = source; at_source = at; answer = refl }

-- ---- at servers

module _ {K : Type 0} (kept : K → Kept) (s0 s1 : Sites K) (id : SetId) (w : World) where
  -- nothing changed at a fault that is no damage
  pub broken_unchanged : (e : Fault) → HasBecome kept s0 s1 w → IsNoDamage e → HasBroken kept s0 s1 id w e
  broken_unchanged faults.Memory become none = (inl become, none)
  broken_unchanged (faults.Keeper s) become none = (inl become, none)
  broken_unchanged (faults.Damaged s a cause) become none = absurd none
  broken_unchanged (faults.Refused refusal) become none = absurd none

  module _ (k : KnownSet) (source : ℕ) (known : known_set w id ≡ Some k) (at : slice_get w source ≡ Some k.source) where
    -- what was answered of its next action is what came of a step
    pub stepped_made : (stepped : Stepped) → HasMade kept s0 s1 w k (next_action k) source stepped → HasStepped kept s0 s1 id w stepped
    stepped_made stepped made = by_action (next_action k) refl made
      where
        acted : (a : Action) → next_action k ≡ a → IsTrue (commits_world a) → (answer : Stepped) → HasBecome kept s0 s1 (after_action w k a) → answer ≡ answer_of w k source a → (v : World) × MakesStep id w v answer × HasBecome kept s0 s1 v
        acted a is commits answer become same = (after_action w k a, record { k = k; known = known; commits = subst (λ (b : Action). IsTrue (commits_world b)) (sym is) commits; after = ap (after_action w k) (sym is); source = source; at_source = at; answer = same ∙ ap (answer_of w k source) (sym is) }, become)

        by_action : (a : Action) → next_action k ≡ a → HasBecome kept s0 s1 (after_action w k a) × IsAnswer w k source a stepped → HasStepped kept s0 s1 id w stepped
        by_action signals is made = subst (HasStepped kept s0 s1 id w) (sym made.1) (acted signals is refl (answer_of w k source signals) made.0 refl)
        by_action refreshes is made = subst (HasStepped kept s0 s1 id w) (sym made.1) (acted refreshes is refl (answer_of w k source refreshes) made.0 refl)
        by_action (blocks upto) is made = subst (HasStepped kept s0 s1 id w) (sym made.1) (acted (blocks upto) is refl (answer_of w k source (blocks upto)) made.0 refl)
        by_action reports is made = subst (HasStepped kept s0 s1 id w) (sym made.1) (acted reports is refl (answer_of w k source reports) made.0 refl)
        by_action idles is made = subst (HasStepped kept s0 s1 id w) (sym made.1) (made.0, (k, known, is))
        by_action (refuses place) is made = absurd made.1

    -- one that failed may have been made
    may_have : (e : Fault) → MayHaveBecome kept s0 s1 w (after_action w k (next_action k)) e → HasBecome kept s0 s1 w ⊎ ((v : World) × (stepped : Stepped) × MakesStep id w v stepped × HasBecome kept s0 s1 v)
    may_have e may = elim may.stands [
      | inl same ↦ inl same
      | inr next ↦ by_action (next_action k) refl next.2
    ]
      where
        made : (a : Action) → next_action k ≡ a → IsTrue (commits_world a) → HasBecome kept s0 s1 (after_action w k a) → HasBecome kept s0 s1 w ⊎ ((v : World) × (stepped : Stepped) × MakesStep id w v stepped × HasBecome kept s0 s1 v)
        made a is commits become = inr (after_action w k (next_action k), answer_of w k source (next_action k), makes_next id w k source known at (subst (λ (b : Action). IsTrue (commits_world b)) (sym is) commits), subst (λ (b : Action). HasBecome kept s0 s1 (after_action w k b)) (sym is) become)

        by_action : (a : Action) → next_action k ≡ a → HasBecome kept s0 s1 (after_action w k a) → HasBecome kept s0 s1 w ⊎ ((v : World) × (stepped : Stepped) × MakesStep id w v stepped × HasBecome kept s0 s1 v)
        by_action signals is become = made signals is refl become
        by_action refreshes is become = made refreshes is refl become
        by_action (blocks upto) is become = made (blocks upto) is refl become
        by_action reports is become = made reports is refl become
        by_action idles is become = inl become
        by_action (refuses place) is become = inl become

    pub broken_failed : (e : Fault) → HasFailed kept s0 s1 w k (next_action k) e → HasBroken kept s0 s1 id w e
    broken_failed faults.Memory failed = (may_have faults.Memory failed, failed.undamaged)
    broken_failed (faults.Keeper s) failed = (may_have (faults.Keeper s) failed, failed.undamaged)
    broken_failed (faults.Damaged s a cause) failed = absurd failed.undamaged
    broken_failed (faults.Refused refusal) failed = (failed.0, inr (k, known, failed.1))

-- what was made by a step is a step
pub some_made : {K : Type 0} (kept : K → Kept) (s0 s1 : Sites K) (id : SetId) (w : World) (answer stepped : Stepped) → made_of answer ≡ Some stepped → HasStepped kept s0 s1 id w answer → (v : World) × MakesStep id w v stepped × HasBecome kept s0 s1 v
some_made kept s0 s1 id w answer stepped is = pick answer is
  where
    one : (x : Stepped) → ◌≡◌ {A = Option Stepped} (Some x) (Some stepped) → ((v : World) × MakesStep id w v x × HasBecome kept s0 s1 v) → (v : World) × MakesStep id w v stepped × HasBecome kept s0 s1 v
    one x is h = let same : x ≡ stepped = cc in subst (λ (y : Stepped). (v : World) × MakesStep id w v y × HasBecome kept s0 s1 v) same h

    pick : (x : Stepped) → made_of x ≡ Some stepped → HasStepped kept s0 s1 id w x → (v : World) × MakesStep id w v stepped × HasBecome kept s0 s1 v
    pick steps.Idle is h = absurd cc
    pick (steps.Signal server seq) is h = one (steps.Signal server seq) is h
    pick (steps.Refresh point rows) is h = one (steps.Refresh point rows) is h
    pick (steps.Block from to inserts updates deletes) is h = one (steps.Block from to inserts updates deletes) is h
    pick (steps.Report point) is h = one (steps.Report point) is h
    pick (steps.Load m f rows) is h = one (steps.Load m f rows) is h
    pick (steps.Decide t d accepted rejected) is h = one (steps.Decide t d accepted rejected) is h
    pick (steps.Settle m f rejected applied) is h = one (steps.Settle m f rejected applied) is h

-- and if nothing was, there was nothing to do
pub none_made : {K : Type 0} (kept : K → Kept) (s0 s1 : Sites K) (id : SetId) (w : World) (answer : Stepped) → made_of answer ≡ None → HasStepped kept s0 s1 id w answer → HasBecome kept s0 s1 w × Rests id w
none_made kept s0 s1 id w steps.Idle is h = h
none_made kept s0 s1 id w (steps.Signal server seq) is h = absurd cc
none_made kept s0 s1 id w (steps.Refresh point rows) is h = absurd cc
none_made kept s0 s1 id w (steps.Block from to inserts updates deletes) is h = absurd cc
none_made kept s0 s1 id w (steps.Report point) is h = absurd cc
none_made kept s0 s1 id w (steps.Load m f rows) is h = absurd cc
none_made kept s0 s1 id w (steps.Decide t d accepted rejected) is h = absurd cc
none_made kept s0 s1 id w (steps.Settle m f rejected applied) is h = absurd cc

-- ---- by the names that the servers had at first

module _ {K : Type 0} (kept : K → Kept) (s0 s1 s2 : Sites K) (same : names s1 ≡ names s0) where
  -- a world stands there
  pub stands_there : (v : World) → HasBecome kept s0 s1 v → Stands (names s1) (held kept s1) v
  stands_there v become = subst (λ (l : List (List ℕ)). Stands l (held kept s1) v) (sym same) become

  -- what servers become later
  pub become_since : (v : World) → HasBecome kept s1 s2 v → HasBecome kept s0 s2 v
  become_since v become = subst (λ (l : List (List ℕ)). Stands l (held kept s2) v) same become

  pub broken_since : (id : SetId) (v : World) (e : Fault) → HasBroken kept s1 s2 id v e → HasBroken kept s0 s2 id v e
  broken_since id v faults.Memory broken = subst (λ (l : List (List ℕ)). (Stands l (held kept s2) v ⊎ ((x : World) × (stepped : Stepped) × MakesStep id v x stepped × Stands l (held kept s2) x)) × IsNoDamage faults.Memory) same broken
  broken_since id v (faults.Keeper s) broken = subst (λ (l : List (List ℕ)). (Stands l (held kept s2) v ⊎ ((x : World) × (stepped : Stepped) × MakesStep id v x stepped × Stands l (held kept s2) x)) × IsNoDamage (faults.Keeper s)) same broken
  broken_since id v (faults.Damaged s a cause) broken = absurd broken.1
  broken_since id v (faults.Refused refusal) broken = (become_since v broken.0, broken.1)

-- ---- why a call failed

module _ {K : Type 0} (kept : K → Kept) (s0 s1 : Sites K) (D E : ℕ → Area → DamageCause → Type 0) (weaker : (s : ℕ) (a : Area) (cause : DamageCause) → D s a cause → E s a cause) where
  -- somebody is to blame
  pub caused_blames : (e : Fault) → Blames kept s0 s1 D e → IsCaused kept s0 s1 E e
  caused_blames faults.Memory h = tt
  caused_blames (faults.Keeper s) h = h
  caused_blames (faults.Damaged s a cause) h = (h.0, weaker s a cause h.1)
  caused_blames (faults.Refused refusal) h = tt

  -- by damage of a wider kind
  pub caused_by : (e : Fault) → IsCaused kept s0 s1 D e → IsCaused kept s0 s1 E e
  caused_by faults.Memory h = tt
  caused_by (faults.Keeper s) h = h
  caused_by (faults.Damaged s a cause) h = (h.0, weaker s a cause h.1)
  caused_by (faults.Refused refusal) h = tt

  -- of a step
  pub caused_step : (e : Fault) → IsBlamed kept s0 s1 D e → IsCaused kept s0 s1 E e
  caused_step faults.Memory h = caused_blames faults.Memory h.blames
  caused_step (faults.Keeper s) h = caused_blames (faults.Keeper s) h.blames
  caused_step (faults.Damaged s a cause) h = caused_blames (faults.Damaged s a cause) h.blames
  caused_step (faults.Refused refusal) h = tt

-- of a call after others
pub caused_later : {K : Type 0} (kept : K → Kept) (s0 s1 s2 : Sites K) (D : ℕ → Area → DamageCause → Type 0) (e : Fault) → KeepsServers kept s0 s1 → IsCaused kept s1 s2 D e → IsCaused kept s0 s2 D e
caused_later kept s0 s1 s2 D faults.Memory keeps h = tt
caused_later kept s0 s1 s2 D (faults.Keeper s) keeps h = λ lt. omega (arith, keeps.faults s, h lt)
caused_later kept s0 s1 s2 D (faults.Damaged s a cause) keeps h = ((λ read lt. let rose = h.0 read lt in let le = keeps.reads a s (omega (arith, rose, lt)) in omega (arith, rose, le)), h.1)
caused_later kept s0 s1 s2 D (faults.Refused refusal) keeps h = tt

-- what is shown of what a server was seen to have was found by a read
pub shown_read : (rules : Rules) (a : Area) (cause : DamageCause) (saw : Option Contents) → Shows rules a cause saw → IsRead cause
shown_read rules a (causes.Spelling bytes) saw h = tt
shown_read rules a (causes.Absent key) saw h = tt
shown_read rules a (causes.Unfit bytes) saw h = tt
shown_read rules a (causes.NoRest n) saw h = absurd h

-- that a set doesn't come to rest is shown at none of its ends
none_at_ends : {K : Type 0} (kept : K → Kept) (shows : Option TargetSet → Area → DamageCause → Option Contents → Type 0) → ((row : Option TargetSet) (a : Area) (n : ℕ) (saw : Option Contents) → shows row a (causes.NoRest n) saw → ⊥) → (s0 : Sites K) (set : PlacedSet) (s : ℕ) (a : Area) (n : ℕ) → ShowsAtEnds kept shows s0 set s a (causes.NoRest n) → IsRead (causes.NoRest n)
none_at_ends kept shows no_rest s0 set s a n (inl h) = absurd (no_rest None a n (sees kept s0 s) h.1)
none_at_ends kept shows no_rest s0 set s a n (inr h) = absurd (no_rest (Some set.at_target) a n (sees kept s0 s) h.1)

-- so it is with what a step finds
pub step_read : {K : Type 0} (kept : K → Kept) (shows : Option TargetSet → Area → DamageCause → Option Contents → Type 0) → ((row : Option TargetSet) (a : Area) (n : ℕ) (saw : Option Contents) → shows row a (causes.NoRest n) saw → ⊥) → (s0 : Sites K) (set : PlacedSet) (s : ℕ) (a : Area) (cause : DamageCause) → ShowsDamage kept shows s0 set s a cause → IsRead cause
step_read kept shows no_rest s0 set s a (causes.Spelling bytes) h = tt
step_read kept shows no_rest s0 set s a (causes.Absent key) h = tt
step_read kept shows no_rest s0 set s a (causes.Unfit bytes) h = tt
step_read kept shows no_rest s0 set s a (causes.NoRest n) (inl next) = absurd next.1
step_read kept shows no_rest s0 set s a (causes.NoRest n) (inr (inl signal)) = absurd signal.1
step_read kept shows no_rest s0 set s a (causes.NoRest n) (inr (inr (inl (inl (inl end))))) = absurd end.1
step_read kept shows no_rest s0 set s a (causes.NoRest n) (inr (inr (inl (inl (inr state))))) = absurd state.1
step_read kept shows no_rest s0 set s a (causes.NoRest n) (inr (inr (inl (inr rows)))) = none_at_ends kept shows no_rest s0 set s a n rows
step_read kept shows no_rest s0 set s a (causes.NoRest n) (inr (inr (inr (inl (inl (inl captured)))))) = absurd captured.1
step_read kept shows no_rest s0 set s a (causes.NoRest n) (inr (inr (inr (inl (inl (inr state)))))) = absurd state.1
step_read kept shows no_rest s0 set s a (causes.NoRest n) (inr (inr (inr (inl (inr rows))))) = none_at_ends kept shows no_rest s0 set s a n rows
step_read kept shows no_rest s0 set s a (causes.NoRest n) (inr (inr (inr (inr (inl state))))) = absurd state.1
step_read kept shows no_rest s0 set s a (causes.NoRest n) (inr (inr (inr (inr (inr mark))))) = absurd mark.1

-- ---- how many steps

-- a sum that is small is that which is kept within 64 bits
small_sum : (n m : ℕ) → n ≤ log_limit → m ≡ min (n + 5) (2 ^ 64 - 1) → m ≡ n + 5
small_sum n m few is = is ∙ min-eq_left (omega (arith, few))

-- by the point up to which the source has captured
pub most_is : {K : Type 0} (kept : K → Kept) (s0 : Sites K) (set : PlacedSet) → AllClosed (work kept s0) → (point most : ℕ) → ForSource kept s0 set (λ w k. point ≡ k.source.captured) → most ≡ min (point + 5) (2 ^ 64 - 1) → MakesAtMost kept s0 set most
most_is kept s0 set closed point most read is = λ w k stands placed.
    let at = read w k stands.sound placed (revealed kept set s0 s0 closed w k stands placed) in
    small_sum k.source.captured most (captured_within w k.source stands.sound (at_place_in w set.source k.source placed.source)) (subst (λ (n : ℕ). most ≡ min (n + 5) (2 ^ 64 - 1)) at is)

-- ---- a set that isn't read-only

-- so with a read-only one
pub read_only_known : (w : World) (set : PlacedSet) (k : KnownSet) → IsTrue (not (is_replica_set set.at_target.def)) → IsPlacedAs w k set → IsReadOnly k
read_only_known w set k is placed = rw (sym placed.target_def) is

-- ---- steps, and those that are left

-- Steps were made, and the set is known, with not too many left.
pub record Goes {K : Type 0} (kept : K → Kept) (takes : TargetKind → Bool) (s0 s1 : Sites K) (id : SetId) (answers : List Stepped) (made most : ℕ) (w : World) : Type 0 where
  pub v : World
  pub makes : MakesSteps id w v answers
  pub become : HasBecome kept s0 s1 v
  pub k : KnownSet
  pub known : known_set v id ≡ Some k
  pub read_only : IsReadOnly k
  pub takes_each : TakesEach takes k.at_target.def
  pub few : made + steps_left k ≤ most

module _ {K : Type 0} (kept : K → Kept) (takes : TargetKind → Bool) (s0 : Sites K) (id : SetId) (most : ℕ) (w : World) where
  -- none was made
  pub goes_first : Stands (names s0) (held kept s0) w → ((k : KnownSet) → known_set w id ≡ Some k → TakesEach takes k.at_target.def) → ((k : KnownSet) × (known_set w id ≡ Some k) × IsReadOnly k × (most ≡ k.source.captured + 5)) → Goes kept takes s0 s0 id [] 0 most w
  goes_first stands each may = record {
    v = w;
    makes = refl;
    become = stands;
    k = may.0;
    known = may.1;
    read_only = may.2;
    takes_each = each may.0 may.1;
    few = omega (arith, (few_steps may.0).1, may.3);
  }

  module _ (s1 : Sites K) (answers : List Stepped) (made : ℕ) (goes : Goes kept takes s0 s1 id answers made most w) where
    -- whichever set has the name there, its members are taken
    pub takes_there : (k : KnownSet) → known_set goes.v id ≡ Some k → TakesEach takes k.at_target.def
    takes_there k known = let same : goes.k ≡ k = cc in subst (λ (l : KnownSet). TakesEach takes l.at_target.def) same goes.takes_each

    module _ (v : World) (stepped : Stepped) (step : MakesStep id goes.v v stepped) (is : step.k ≡ goes.k) where
      -- the set that made one more is read-only
      one_read_only : IsReadOnly step.k
      one_read_only = subst IsReadOnly (sym is) goes.read_only

      -- and is known after it
      one_known : (l : KnownSet) × (known_set (after_action goes.v step.k (next_action step.k)) id ≡ Some l) × (steps_left l < steps_left step.k) × (l.at_target.def ≡ step.k.at_target.def)
      one_known = each_leaves_fewer goes.v step.k id goes.become.sound step.known one_read_only step.commits

      -- one more was made
      pub goes_on : (s2 : Sites K) → names s1 ≡ names s0 → HasBecome kept s1 s2 v → Goes kept takes s0 s2 id (answers ++ stepped ∷ []) (made + 1) most w
      goes_on s2 same become = record {
        v = v;
        makes = steps_then id w goes.v v answers stepped goes.makes step;
        become = become_since kept s0 s1 s2 same v become;
        k = one_known.0;
        known = ap (λ (x : World). known_set x id) step.after ∙ one_known.1;
        read_only = subst (λ (d : SetDef). IsTrue (not (is_replica_set d))) (sym one_known.3) one_read_only;
        takes_each = subst (TakesEach takes) (sym one_known.3) (subst (λ (x : KnownSet). TakesEach takes x.at_target.def) (sym is) goes.takes_each);
        few = omega (arith, goes.few, one_known.2, ap steps_left is);
      }

    -- it is the set that is known there
    pub same_set : (v : World) (stepped : Stepped) (step : MakesStep id goes.v v stepped) → step.k ≡ goes.k
    same_set v stepped step = let a = step.known in let b = goes.known in cc

  -- so many as may be made at most weren't made
  pub goes_never : (s1 : Sites K) (answers : List Stepped) (made : ℕ) → most ≤ made → Goes kept takes s0 s1 id answers made most w → ⊥
  goes_never s1 answers made le goes = omega (arith, le, goes.few, (few_steps goes.k).0)

-- ---- a cycle after reads

module _ {K : Type 0} (kept : K → Kept) (takes : TargetKind → Bool) (s0 s1 : Sites K) (looks : Looks kept s0 s1) (s2 : Sites K) (id : SetId) where
  -- what follows after them follows from the beginning
  pub cycle_looked : (P Q : World → Type 0) → ((w : World) → P w → Q w) → ForCycle kept takes s1 id P → ForCycle kept takes s0 id Q
  cycle_looked P Q back follows = λ w stands each. back w (follows w (stands_on kept s0 s1 looks w stands) each)

  -- steps that came to rest
  pub rested_looked : (answers : List Stepped) → ForCycle kept takes s1 id (HasRested kept s1 s2 id answers) → ForCycle kept takes s0 id (HasRested kept s0 s2 id answers)
  rested_looked answers = cycle_looked (HasRested kept s1 s2 id answers) (HasRested kept s0 s2 id answers) (λ w h. (h.0, h.1, become_since kept s0 s1 s2 looks.stays.passes.names h.0 h.2, h.3))

  -- and steps of which one failed
  pub broken_looked : (answers : List Stepped) (e : Fault) → ForCycle kept takes s1 id (HasBrokenAfter kept s1 s2 id answers e) → ForCycle kept takes s0 id (HasBrokenAfter kept s0 s2 id answers e)
  broken_looked answers e = cycle_looked (HasBrokenAfter kept s1 s2 id answers e) (HasBrokenAfter kept s0 s2 id answers e) (λ w h. (h.0, h.1, broken_since kept s0 s1 s2 looks.stays.passes.names id h.0 e h.2))

-- reads keep the servers
pub looked_keeps : {K : Type 0} (kept : K → Kept) (s0 s1 : Sites K) → Looks kept s0 s1 → AllClosed (work kept s0) → KeepsServers kept s0 s1
looked_keeps kept s0 s1 looks closed = keeps_passed kept s0 s1 looks.most looks.stays.passes (closed_on kept s0 s1 looks closed)

-- the number of steps that was found is that of the set of the name
pub may_make : {K : Type 0} (kept : K → Kept) (s0 s1 : Sites K) → Looks kept s0 s1 → (id : SetId) (set : PlacedSet) → IsTrue (not (is_replica_set set.at_target.def)) → ((w : World) → Stands (names s0) (held kept s0) w → IsKnownAs w id (Some set)) → (s2 : Sites K) → Looks kept s1 s2 → (most : ℕ) → MakesAtMost kept s1 set most → MayMake kept s2 id most
may_make kept s0 s1 first id set is known s2 then most at = λ w stands.
    let between = stood_before kept s1 s2 then w stands in
    let k = known w (stood_before kept s0 s1 first w between) in
    (k.0, k.1, read_only_known w set k.0 is k.2, at w k.0 between k.2)
  where
    stood_before : {K : Type 0} (kept : K → Kept) (a b : Sites K) → Looks kept a b → (w : World) → Stands (names b) (held kept b) w → Stands (names a) (held kept a) w
    stood_before kept a b looks w stands = subst (λ (h : List (Option Contents)). Stands (names a) h w) looks.stays.held (subst (λ (l : List (List ℕ)). Stands l (held kept b) w) looks.stays.passes.names stands)

-- ---- a set that doesn't come to rest

-- this isn't found by a read
pub unread : (n : ℕ) (P : Type 0) → IsRead (causes.NoRest n) → P
unread n P read = absurd read

module _ (before now : List Stepped) (s : ℕ) (a : Area) where
  -- what was found by a read tells nothing of it
  pub tells_read : (P : ℕ → Type 0) (cause : DamageCause) → IsRead cause → TellsNoRest P before now s a cause
  tells_read P (causes.Spelling bytes) read = tt
  tells_read P (causes.Absent key) read = tt
  tells_read P (causes.Unfit bytes) read = tt
  tells_read P (causes.NoRest n) read = absurd read

  -- it is told of a source, if it is told of one of its kind
  pub tells_of : (P Q : ℕ → Type 0) → (P s → Q s) → (cause : DamageCause) → TellsNoRest P before now s a cause → TellsNoRest Q before now s a cause
  tells_of P Q also (causes.Spelling bytes) tells = tt
  tells_of P Q also (causes.Absent key) tells = tt
  tells_of P Q also (causes.Unfit bytes) tells = tt
  tells_of P Q also (causes.NoRest n) tells = (also tells.0, tells.1, tells.2)
