-- The members of a set are taken through a step, one after another in one transaction: proofs.
use Rattle.std.proofs.Common.{◌≡◌, ◌≢◌, ℕ, ◌+◌, ◌*◌, ◌<◌, Bool, true, false, List, [], ◌∷◌, ◌++◌, length, get_or, inl, inr, refl, sym, ap, subst, ◌∙◌, arith, take, Option, Some, None, IsSome, is_some, IfSome, slice_get, get_or-set_same}
use Rattle.std.proofs.Math.Seq.{take-length}
use Rattle.std.proofs.lemmas.Option.{slice_get_within}
use Rattle.repl_model.specs.Words.{Area, DamageCause, Counts, Fault, Member, TargetKind, SetDef, SourceTable, World, KnownSet, source_named, IsSound, at_place_in, In, at_within, TargetSet}
use Rattle.world_store.specs.Words.{Holds, Reveals, member_table}
use Rattle.site_store.specs.Words.{Contents, Kept, seen_of, IsNoDamage, names, held, work, sees, IsOpenAt, IsClosedAt, open_below, other_work, GoesOn, Stops, stops_as, stops_after, goes_none, goes_then, goes_as, goes_open}
use Rattle.site_store.specs.declared.sites.Sites.{Sites}
use Rattle.repl_types.specs.declared.area.Area.TheVariants as areas
use Rattle.stored_commits.specs.actions.StoredSteps.{is_numbered}
use Rattle.set_places.specs.declared.placed_set.PlacedSet.{PlacedSet}
use Rattle.set_places.specs.Places.{IsPlacedAtSource, HasSourceRow, IsPlacedAs, IsReadOnly}
use Rattle.set_places.specs.laws.Known.{is_among, same_def, members_few}
use Rattle.target_steps.specs.declared.step.Step.{Step}
use Rattle.target_steps.specs.Taking.{CanStep, entry_of, counted, no_counts, sum_of, TakesMember, ShowsAtEnds, ForMember}
use Rattle.target_steps.specs.Steps.{TakesEach, ForAllTaken, TakesAll, ForMembers}
use Rattle.target_steps.proofs.FirstMembers.{SumsTo, FirstTaken, none_taken, next_taken, counts_at, counts_are, sums_more, all_are, source_is, kind_takes}
use Rattle.stored_commits.specs.laws.ActedTargets.{targets_stand}

-- The first of a set's members were taken through a step, and no damage is shown that wasn't shown before.
pub record TakesFirst {K : Type 0} (kept : K → Kept) (takes : TargetKind → Bool) (shows : Option TargetSet → Area → DamageCause → Option Contents → Type 0) (sites : Sites K) (set : PlacedSet) (step : Step) (count : ℕ) (counts : Counts) (c d : Contents) : Type 0 where
  pub shown : (a : Area) (cause : DamageCause) → shows (Some set.at_target) a cause (Some d) → shows (Some set.at_target) a cause (Some c)
  pub taken : ForAllTaken kept takes sites set step c (λ w k. FirstTaken w k set.at_target.number step count counts c d)

-- what an open transaction is seen to have
open_sees : (h : Option Contents) (o : Option (Option Contents)) (c : Contents) → IsSome o → seen_of h o ≡ Some c → o ≡ Some (Some c)
open_sees h None c is saw = absurd cc
open_sees h (Some x) c is saw = ap (λ (y : Option Contents). Some y) saw

module _ {K : Type 0} (kept : K → Kept) (takes : TargetKind → Bool) (shows : Option TargetSet → Area → DamageCause → Option Contents → Type 0) (s0 : Sites K) (set : PlacedSet) (step : Step) (open_at : IsOpenAt (work kept s0) set.target) (closed : IsClosedAt (work kept s0) set.source) where
  -- no member is taken at first
  pub starts : GoesOn kept s0 s0 set.target (TakesFirst kept takes shows s0 set step 0 no_counts)
  starts = goes_none kept s0 set.target (TakesFirst kept takes shows s0 set step 0 no_counts) open_at (λ c. record { shown = λ a cause h. h; taken = λ w k sound placed reveals read_only can each holds. none_taken w k set.at_target.number step c })

  -- the source is another server than the target
  apart : set.source ≢ set.target
  apart same = absurd (none_some (sym (ap is_some closed) ∙ subst (λ (n : ℕ). IsOpenAt (work kept s0) n) (sym same) open_at))
    where
      none_some : false ≡ true → ⊥
      none_some e = cc

  module _ (s1 : Sites K) (count : ℕ) (counts : Counts) (goes : GoesOn kept s0 s1 set.target (TakesFirst kept takes shows s0 set step count counts)) where
    -- ---- between two members

    -- the target's transaction is open
    pub open_on : IsOpenAt (work kept s1) set.target
    open_on = goes_open kept s0 s1 set.target (TakesFirst kept takes shows s0 set step count counts) open_at goes

    -- the source's transaction is as it was
    source_work : get_or (work kept s1) set.source None ≡ get_or (work kept s0) set.source None
    source_work = other_work (work kept s0) (work kept s1) set.target set.source (TakesFirst kept takes shows s0 set step count counts) goes.works.works apart

    -- none is open there
    pub closed_on : IsClosedAt (work kept s1) set.source
    closed_on = source_work ∙ closed

    -- the source is seen to have what it had
    source_sees : sees kept s1 set.source ≡ sees kept s0 set.source
    source_sees = λ i. seen_of (get_or (goes.works.held i) set.source None) (source_work i)

    -- the set is still placed there
    pub placed_on : IsPlacedAtSource kept s0 set → IsPlacedAtSource kept s1 set
    placed_on placed = record {
      within = subst (λ (l : List (List ℕ)). set.source < length l) (sym goes.works.passes.names) placed.within;
      row = subst (λ (o : Option Contents). IfSome o (HasSourceRow set.at_source)) (sym source_sees) placed.row;
      fits = placed.fits;
    }

    -- and the target is one of the servers
    pub within_on : set.target < length (names s0) → set.target < length (names s1)
    within_on lt = subst (λ (l : List (List ℕ)). set.target < length l) (sym goes.works.passes.names) lt

    -- what the target's transaction sees after this, if it is known what it saw
    target_sees : (c : Contents) → sees kept s0 set.target ≡ Some c → (d : Contents) × (sees kept s1 set.target ≡ Some d) × TakesFirst kept takes shows s0 set step count counts c d
    target_sees c saw =
        let works = goes.works.works in
        let d = works.does c (open_sees (get_or (held kept s0) set.target None) (get_or (work kept s0) set.target None) c open_at saw) in
        let now : get_or (work kept s1) set.target None ≡ Some works.now = ap (λ (l : List (Option (Option Contents))). get_or l set.target None) works.is ∙ get_or-set_same (work kept s0) set.target (Some works.now) None (open_below (work kept s0) set.target open_at) in
        (d.0, ap (seen_of (get_or (held kept s1) set.target None)) now ∙ d.1, d.2)

    -- ---- the next member fails

    module _ (s2 : Sites K) (e : Fault) where
      -- what is shown then was shown before
      pub take_stops : ((row : Option TargetSet) (a : Area) (cause : DamageCause) (saw : Option Contents) → shows row a cause saw → shows row a cause None) → Stops kept s1 s2 (ShowsAtEnds kept shows s1 set) e → Stops kept s0 s2 (ShowsAtEnds kept shows s0 set) e
      take_stops unseen f = stops_after kept s0 s1 s2 goes.most (ShowsAtEnds kept shows s0 set) e goes.works.passes goes.works.held (stops_as kept s1 s2 (ShowsAtEnds kept shows s1 set) (ShowsAtEnds kept shows s0 set) e
          before f)
        where
          at_target : (a : Area) (cause : DamageCause) (o : Option Contents) → sees kept s0 set.target ≡ o → shows (Some set.at_target) a cause (sees kept s1 set.target) → shows (Some set.at_target) a cause o
          at_target a cause None is h = unseen (Some set.at_target) a cause (sees kept s1 set.target) h
          at_target a cause (Some c) is h = let d = target_sees c is in d.2.shown a cause (subst (shows (Some set.at_target) a cause) d.1 h)

          before : (s : ℕ) (a : Area) (cause : DamageCause) → ShowsAtEnds kept shows s1 set s a cause → ShowsAtEnds kept shows s0 set s a cause
          before s a cause (inl h) = inl (h.0, subst (λ (n : ℕ). shows None a cause (sees kept s0 n)) (sym h.0) (subst (shows None a cause) source_sees (subst (λ (n : ℕ). shows None a cause (sees kept s1 n)) h.0 h.1)))
          before s a cause (inr h) = inr (h.0, subst (λ (n : ℕ). shows (Some set.at_target) a cause (sees kept s0 n)) (sym h.0) (at_target a cause (sees kept s0 set.target) refl (subst (λ (n : ℕ). shows (Some set.at_target) a cause (sees kept s1 n)) h.0 h.1)))

    -- ---- in a world

    module _ (unnumbered : (kind : TargetKind) → takes kind ≡ true → is_numbered kind ≡ false) (within : count < length set.at_source.def.members) where
      module _ (w : World) (k : KnownSet) (sound : IsSound w) (placed : IsPlacedAs w k set) (reveals : Reveals w k.source (sees kept s0 set.source)) (read_only : IsReadOnly k) (can : CanStep k step) (each : TakesEach takes k.at_source.def) (c d : Contents) (holds : Holds w k.target c) (first : TakesFirst kept takes shows s0 set step count counts c d) where
        -- both rows of the set have one definition
        same : k.at_source.def ≡ k.at_target.def
        same = same_def w k sound placed.known

        -- the next member
        own : (member : Member) × (slice_get k.at_target.def.members count ≡ Some member)
        own = at_within k.at_target.def.members count (subst (λ (def : SetDef). count < length def.members) (placed.source_def ∙ same) within)

        own_in : In own.0 k.at_target.def.members
        own_in = at_place_in k.at_target.def.members count own.0 own.1

        at_source : slice_get k.at_source.def.members count ≡ Some own.0
        at_source = ap (λ (def : SetDef). slice_get def.members count) same ∙ own.1

        -- there are 64 at most
        place_few : count < 64
        place_few = omega (arith, slice_get_within k.at_target.def.members count own.0 own.1, members_few w k sound placed.known)

        -- the source is still seen to have what the world calls for
        still : Reveals w k.source (sees kept s1 set.source)
        still = subst (λ (o : Option Contents). Reveals w k.source o) (sym source_sees) reveals

        -- the first members are taken
        taken : FirstTaken w k set.at_target.number step count counts c d
        taken = first.taken w k sound placed reveals read_only can each holds

        -- the target of the next one is what the trail makes of it
        before : (source : SourceTable) → source_named own.0.source k.source ≡ Some source → d areas.Target (64 * set.at_target.number + count) ≡ member_table source own.0 k.at_target.trail
        before source named = taken.later count place_few (omega arith) ∙ (targets_stand w k set.at_target.number c sound (is_among w k set placed read_only) placed.at_target holds).0 count own.0 source own.1 named

        own_takes : takes own.0.kind ≡ true
        own_takes = kind_takes w k sound placed.known takes unnumbered each own.0 own_in

        -- once it is taken too, one more is
        pub one_more : (more : Counts) (e : Contents) → TakesMember kept takes s1 set count step shows more d e → FirstTaken w k set.at_target.number step (count + 1) (sum_of counts more) c e
        one_more more e next =
            let s = source_is w k sound placed.known own.0 own_in in
            let made : (source : SourceTable) → source_named own.0.source k.source ≡ Some source → (e areas.Target (64 * set.at_target.number + count) ≡ member_table source own.0 (k.at_target.trail ++ entry_of k.at_source.def step ∷ [])) × (more ≡ counted k.at_source.def step source own.0) = λ source named. next.taken w k sound placed still own.0 source read_only can at_source named own_takes (before source named) in
            next_taken w k set.at_target.number step count counts c d e taken own.0 own.1 place_few (sum_of counts more) (next.others w k sound placed)
            (λ source named. (made source named).0)
            (sums_more w k sound placed.known takes unnumbered each step count own.0 counts more own.1 taken.sums ((made s.0 s.1).1 ∙ sym (counts_are w k sound placed.known step own.0 s.0 s.1)))

      -- one more member is taken
      pub goes_more : (s2 : Sites K) (more sum : Counts) → sum ≡ sum_of counts more → GoesOn kept s1 s2 set.target (TakesMember kept takes s1 set count step shows more) → GoesOn kept s0 s2 set.target (TakesFirst kept takes shows s0 set step (count + 1) sum)
      goes_more s2 more sum is next = goes_then kept s0 s1 s2 set.target (TakesFirst kept takes shows s0 set step count counts) (TakesMember kept takes s1 set count step shows more) (TakesFirst kept takes shows s0 set step (count + 1) sum) open_at goes next
          (λ c d e p q. record {
            shown = λ a cause h. p.shown a cause (q.shown a cause h);
            taken = λ w k sound placed reveals read_only can each holds. subst (λ (n : Counts). FirstTaken w k set.at_target.number step (count + 1) n c e) (sym is) (one_more w k sound placed reveals read_only can each c d holds p more e q);
          })

      -- if it fails, no damage is found
      pub take_undamaged : (e : Fault) → ForMember kept takes s1 set count step (IsNoDamage e) → ForMembers kept takes s0 set step (IsNoDamage e)
      take_undamaged e none = λ c saw w k sound placed reveals read_only can each holds.
          let d = target_sees c saw in
          let it = own w k sound placed reveals read_only can each c d.0 holds d.2 in
          let i = own_in w k sound placed reveals read_only can each c d.0 holds d.2 in
          let s = source_is w k sound placed.known it.0 i in
          none d.0 d.1 w k sound placed (still w k sound placed reveals read_only can each c d.0 holds d.2) it.0 s.0 read_only can (at_source w k sound placed reveals read_only can each c d.0 holds d.2) s.1 (own_takes w k sound placed reveals read_only can each c d.0 holds d.2) (before w k sound placed reveals read_only can each c d.0 holds d.2 s.0 s.1)

  -- once all are taken, the targets are those after the step
  module _ (s1 : Sites K) (counts : Counts) where
    pub goes_all : (count : ℕ) → count ≡ length set.at_source.def.members → GoesOn kept s0 s1 set.target (TakesFirst kept takes shows s0 set step count counts) → GoesOn kept s0 s1 set.target (TakesAll kept takes s0 set step shows counts)
    goes_all count all goes = goes_as kept s0 s1 set.target (TakesFirst kept takes shows s0 set step count counts) (TakesAll kept takes s0 set step shows counts) open_at goes (λ c d p. record {
      shown = p.shown;
      taken = λ w k sound placed reveals read_only can each holds.
          let first : FirstTaken w k set.at_target.number step count counts c d = p.taken w k sound placed reveals read_only can each holds in
          let every : count ≡ length k.at_target.def.members = all ∙ ap (λ (def : SetDef). length def.members) (placed.source_def ∙ same_def w k sound placed.known) in
          let stood = (targets_stand w k set.at_target.number c sound (is_among w k set placed read_only) placed.at_target holds).1 in (
            first.others,
            record {
              members = λ place member source at named. first.members place member source (omega (arith, every, slice_get_within k.at_target.def.members place member at)) at named;
              none = λ place lt past. first.later place lt (omega (arith, every, past)) ∙ stood place lt past;
            },
            all_are w k step counts (subst (λ (ms : List Member). SumsTo (counts_at w k step) ms counts) (ap (λ (n : ℕ). take n k.at_target.def.members) every ∙ take-length k.at_target.def.members) first.sums),
          );
    })
