-- What a step that was put makes of a target in a sound world.
use Rattle.std.proofs.Common.{◌≡◌, ℕ, ◌+◌, ◌-◌, ◌*◌, ◌^◌, ◌<◌, Bool, false, true, List, [], ◌∷◌, length, refl, ap, subst, ◌∙◌, arith, Option, Some}
use Rattle.std.specs.List.{AllByRecursion}
use Rattle.world_store.specs.Words.{b32, b64, state_spelling, entry_spelling, SetState, TrailEntry, Holds, Reveals}
use Rattle.site_store.specs.Words.{Contents, Table, set_key, Kept, sees}
use Rattle.site_store.specs.declared.sites.Sites.{Sites}
use Rattle.repl_model.specs.Words.{Area, DamageCause, Counts, Member, TargetKind, SetDef, IsSound, World, KnownSet, known_sets, In, TargetSet}
use Rattle.repl_types.specs.declared.area.Area.TheVariants as areas
use Rattle.stored_commits.specs.actions.ActedServers.{is_of_step}
use Rattle.stored_commits.specs.actions.StoredSteps.{is_numbered, NoneNumbered, PutsStep, HasTargets}
use Rattle.subs_sets.specs.States.{state_in}
use Rattle.subs_sets.specs.declared.states.ReadOnlyState.{ReadOnlyState}
use Rattle.set_places.specs.declared.placed_set.PlacedSet.{PlacedSet}
use Rattle.set_places.specs.Places.{IsPlacedAs, IsReadOnly}
use Rattle.set_places.specs.laws.Known.{same_def}
use Rattle.set_places.specs.laws.Points.{trail_reaches}
use Rattle.target_steps.specs.declared.step.Step.{Step}
use Rattle.target_steps.specs.Taking.{CanStep, entry_of}
use Rattle.target_steps.specs.Steps.{TakesEach, is_target_of, all_counted, state_after, entry_after, PutsTargets}

-- ---- tables

-- a table of no step is no target of the set
no_target_of : (number : ℕ) (a : Area) (n : ℕ) → is_of_step number a n ≡ false → is_target_of number a n ≡ false
no_target_of number areas.Log n e = refl
no_target_of number areas.Source n e = refl
no_target_of number areas.Inflight n e = refl
no_target_of number areas.Head n e = refl
no_target_of number areas.Defs n e = refl
no_target_of number areas.Cd n e = refl
no_target_of number areas.Uow n e = refl
no_target_of number areas.Capture n e = refl
no_target_of number areas.Prune n e = refl
no_target_of number areas.Spill n e = refl
no_target_of number areas.Target n e = e
no_target_of number areas.SetState n e = refl
no_target_of number areas.Trail n e = refl

-- puts after the targets were taken are puts before it
puts_before : (number : ℕ) (state : SetState) (count : ℕ) (entry : TrailEntry) (c m d : Contents) → ((a : Area) (n : ℕ) → is_target_of number a n ≡ false → m a n ≡ c a n) → PutsStep number state count entry m d → PutsStep number state count entry c d
puts_before number state count entry c m d same puts = record {
  state_put = puts.state_put ∙ ap (λ (t : Table). set_key t (b32 number) (Some (state_spelling state))) (same areas.SetState 0 refl);
  numbers = puts.numbers ∙ same areas.SetState 1 refl;
  entry_put = puts.entry_put ∙ ap (λ (t : Table). set_key t (b64 (count + 1)) (Some (entry_spelling entry))) (same areas.Trail number refl);
  others = λ a n e. puts.others a n e ∙ same a n (no_target_of number a n e);
}

-- kinds that are taken aren't numbered
plain_members : (takes : TargetKind → Bool) → ((kind : TargetKind) → takes kind ≡ true → is_numbered kind ≡ false) → (members : List Member) → AllByRecursion (λ member. takes member.kind ≡ true) members → AllByRecursion (λ member. is_numbered member.kind ≡ false) members
plain_members takes un [] all = tt
plain_members takes un (m ∷ ms) all = (un m.kind all.0, plain_members takes un ms all.1)

-- so no target of a set all of whose members are of such kinds has rows that are numbered
pub none_numbered : (takes : TargetKind → Bool) → ((kind : TargetKind) → takes kind ≡ true → is_numbered kind ≡ false) → (w : World) (k : KnownSet) → IsSound w → In k (known_sets w) → TakesEach takes k.at_source.def → NoneNumbered k.at_target.def
none_numbered takes unnumbered w k sound known each = plain_members takes unnumbered k.at_target.def.members (subst (λ (def : SetDef). TakesEach takes def) (same_def w k sound known) each)

-- ---- in a world

module _ (takes : TargetKind → Bool) (w : World) (k : KnownSet) (set : PlacedSet) (sound : IsSound w) (placed : IsPlacedAs w k set) (read_only : IsReadOnly k) (step : Step) (can : CanStep k step) (each : TakesEach takes k.at_source.def) where
  -- the number of the entries has eight bytes
  entries_short : length k.at_target.trail < 2 ^ 64 - 1
  entries_short = omega (arith, (trail_reaches w k sound placed.known).entries)

  module _ {K : Type 0} (kept : K → Kept) (shows : Option TargetSet → Area → DamageCause → Option Contents → Type 0) (sites : Sites K) (reveals : Reveals w k.source (sees kept sites set.source)) (known : ReadOnlyState) (known_is : known ≡ state_in w k) (counts : Counts) (c d : Contents) (holds : Holds w k.target c) (puts : PutsTargets kept takes shows sites set step known counts c d) where
    -- what was counted is what the set counts
    pub counts_are : counts ≡ all_counted w k step
    counts_are = (puts.taken.taken w k sound placed reveals read_only can each holds).2

    -- the state and the entry of the step were put
    pub step_put : PutsStep set.at_target.number (state_after step (state_in w k)) (length k.at_target.trail) (entry_after step k.at_source.def (all_counted w k step)) c d
    step_put =
        let frame = (puts.taken.taken w k sound placed reveals read_only can each holds).0 in
        let short : known.entries < 2 ^ 64 - 1 = omega (arith, ap (λ (s : ReadOnlyState). s.entries) known_is, entries_short) in
        let put = puts_before set.at_target.number (state_after step known) known.entries (entry_after step set.at_source.def counts) c puts.between d frame (puts.puts short) in
        subst (λ (p : SetState × ℕ × TrailEntry). PutsStep set.at_target.number p.0 p.1 p.2 c d) (λ i. (state_after step (known_is i), (known_is i).entries, entry_after step (placed.source_def i) (counts_are i))) put

    -- and the targets are those after it
    pub has_targets : HasTargets k set.at_target.number (entry_of k.at_source.def step) d
    has_targets =
        let has = (puts.taken.taken w k sound placed reveals read_only can each holds).1 in
        record {
          members = λ place member source at named. puts.targets (64 * set.at_target.number + place) ∙ has.members place member source at named;
          none = λ place lt past. puts.targets (64 * set.at_target.number + place) ∙ has.none place lt past;
        }
