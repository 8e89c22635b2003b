-- A text is loaded: what servers keep is read, the load is planned, and the servers are loaded.
use Rattle.std.proofs.Common.{◌≡◌, ℕ, false, List, [], sym, ap, subst, ◌∙◌, Option, None}
use Rattle.std.specs.List.{AllByRecursion}
use Rattle.std.specs.Option.{option_map_or}
use Rattle.world_store.specs.Words.{Stands}
use Rattle.site_store.specs.Words.{Kept, names, held, fault_counts, Bounds, NoneFell, Blames, Stays, Fails}
use Rattle.site_store.specs.declared.sites.Sites.{Sites}
use Rattle.repl_model.specs.Words.{Area, Refusal, DamageCause, Fault, IsSetDef, IsSound, World, In, at_one, at_each}
use Rattle.repl_types.specs.declared.fault.Fault.TheVariants as faults
use Rattle.repl_commands.specs.declared.written.RawDefs.{RawDefs}
use Rattle.run_core.specs.Runs.{Event, Went, Stopped}
use Rattle.run_core.specs.laws.Runs.{stopped_before}
use Rattle.spelled_defs.specs.Context.{context_of}
use Rattle.spelled_defs.specs.declared.defs.Defs.{Defs}
use Rattle.checked_defs.specs.Broken.{all_rules, first_broken}
use Rattle.checked_defs.specs.Whole.{LeavesNothingOut}
use Rattle.stored_defs.specs.laws.Standing.{stands_on}
use Rattle.load_laws.specs.known.Known.{known_defs}
use Rattle.load_plan.specs.Limits.{has_many_tables, has_many_sets}
use Rattle.load_plan.specs.Refusals.{count_refusal, content_refusal}
use Rattle.load_plan.specs.Additions.{additions_at}
use Rattle.load_plan.specs.declared.stored.StoredServer.{StoredServer}
use Rattle.load_laws.specs.rules.Accepted.{AreTyped, Accepted}
use Rattle.load_laws.specs.planned.Planned.{stored_servers, known_stored}
use Rattle.load_laws.specs.planned.PlannedLoads.{IsSeen}
use Rattle.load_laws.specs.texts.AcceptedTexts.{AreStorable}
use Rattle.load_laws.specs.texts.Texts.{text_defs, defs_beside, KeepsRules}
use Rattle.load_defs.specs.Counts.{loaded_counts}
use Rattle.load_defs.specs.Loading.{MayLoad, HasLoaded, HasNotLoaded, AllHappened, SomeHappened, BlamesOrRefuses, load_commits, load_events, defs_in, refusal_in}
use Rattle.load_defs.specs.Planning.{load_refusal, IsRefusedBy}
use Rattle.load_defs.specs.Putting.{CanBeLoaded}
use Rattle.load_defs.specs.declared.counts.Loaded.{Loaded}
use Rattle.load_defs.proofs.AllServers.{InEach}
use Rattle.load_defs.proofs.Faults.{blames_after}
use Rattle.load_defs.proofs.Standing.{stands_held}
use Rattle.load_laws.specs.laws.Room.{has_room}
use Rattle.load_laws.specs.laws.Storable.{stores_additions}
use Rattle.load_laws.specs.laws.Known.{knows_stored}
use Rattle.load_laws.specs.laws.Typed.{types_items}
use Rattle.load_laws.specs.laws.Seen.{sees_unrefused}
use Rattle.load_laws.specs.laws.DefinitionsStaySound.{definitions_stay_sound}

-- The load of a text is planned: it isn't refused, and its definitions have spellings.
pub record IsPlanned (raw : RawDefs) (stored : List StoredServer) : Type 0 where
  pub accepted : load_refusal raw stored ≡ None
  pub keeps : KeepsRules raw stored
  pub contents : content_refusal (defs_beside raw stored) stored ≡ None
  pub sets : AllByRecursion IsSetDef (defs_beside raw stored).sets

-- servers have room for what they get, and can store it
pub can_be_loaded : (raw : RawDefs) (stored : List StoredServer) → KeepsRules raw stored → content_refusal (defs_beside raw stored) stored ≡ None → AllByRecursion (CanBeLoaded (defs_beside raw stored)) stored
can_be_loaded raw stored keeps contents = at_each (CanBeLoaded (defs_beside raw stored)) stored can
  where
    defs : Defs
    defs = defs_beside raw stored

    can : (server : StoredServer) → In server stored → CanBeLoaded (defs_beside raw stored) server
    can server there =
        let fits = at_one (λ s. (has_many_tables defs s ≡ false) × (has_many_sets defs s ≡ false)) stored server (has_room defs stored keeps.counts) there in
        record { tables = fits.0; sets = fits.1; rows = at_one (λ s. AreStorable (additions_at defs s)) stored server (stores_additions raw stored keeps contents) there }

-- definitions that were planned may be loaded into the world
may_load : (raw : RawDefs) (stored : List StoredServer) (w : World) → IsSound w → stored ≡ stored_servers w → IsPlanned raw stored → MayLoad raw w (defs_beside raw stored)
may_load raw stored w sound is plan = record { sound = sound; accepted = accepted; after = definitions_stay_sound raw w defs sound accepted }
  where
    defs : Defs
    defs = defs_beside raw stored

    known : known_stored stored ≡ known_defs w
    known = ap known_stored is ∙ knows_stored w sound

    typed : AreTyped defs
    typed = let items = types_items raw stored plan.keeps in record { tables = items.0; registrations = items.1; sets = plan.sets }

    seen : IsSeen w defs
    seen = sees_unrefused w defs sound typed (subst (λ (l : List StoredServer). count_refusal defs l ≡ None) is plan.keeps.counts) (subst (λ (l : List StoredServer). content_refusal defs l ≡ None) is plan.contents)

    accepted : Accepted raw w defs
    accepted = record {
      kept = subst (λ (k : Defs). first_broken raw (context_of raw k) all_rules ≡ None) known plan.keeps.kept;
      spelled = ap (text_defs raw) known;
      whole = subst (λ (k : Defs). LeavesNothingOut raw (context_of raw k).tables) known plan.keeps.all;
      members = plan.keeps.whole.members;
      typed = typed;
      servers = seen.servers;
      limits = seen.limits;
      same = seen.same;
    }

module _ {K : Type 0} (kept : K → Kept) (s0 : Sites K) where
  -- who is to blame, if what servers keep can't be read
  pub blames_reading : (s1 : Sites K) (x : Bounds) (damage : ℕ → Area → DamageCause → Type 0) (e : Fault) → Fails kept s0 s1 x damage e → BlamesOrRefuses kept s0 s1 damage e
  blames_reading s1 x damage faults.Memory f = tt
  blames_reading s1 x damage (faults.Keeper s) f = f.blames
  blames_reading s1 x damage (faults.Damaged s a cause) f = (f.blames, f.closes.held)
  blames_reading s1 x damage (faults.Refused refusal) f = tt

  -- or if the load stopped at a server
  pub blames_loading : (s1 s2 : Sites K) (damage : ℕ → Area → DamageCause → Type 0) (e : Fault) → NoneFell (fault_counts kept s0) (fault_counts kept s1) → Blames kept s1 s2 (λ s a cause. ⊥) e → BlamesOrRefuses kept s0 s2 damage e
  blames_loading s1 s2 damage faults.Memory rose h = tt
  blames_loading s1 s2 damage (faults.Keeper s) rose h = blames_after kept s0 s1 s2 (λ s a cause. ⊥) damage (faults.Keeper s) (λ s a cause h. h) rose h
  blames_loading s1 s2 damage (faults.Damaged s a cause) rose h = absurd h.1
  blames_loading s1 s2 damage (faults.Refused refusal) rose h = tt

  module _ (raw : RawDefs) where
    -- the load stopped before its first commit
    stops_before : (s1 : Sites K) → held kept s1 ≡ held kept s0 → (w : World) → Stands (names s0) (held kept s0) w → SomeHappened kept s0 s1 (load_events raw) w
    stops_before s1 same w stands t = stopped_before (Stands (names s0)) w (load_events raw w) (held kept s1) t (stands_held (names s0) (held kept s0) (held kept s1) w same stands)

    -- what servers keep can't be read
    pub reading_fails : (s1 : Sites K) (x : Bounds) (damage : ℕ → Area → DamageCause → Type 0) (e : Fault) → Fails kept s0 s1 x damage e → (w : World) → Stands (names s0) (held kept s0) w → HasNotLoaded kept s0 s1 raw w e
    reading_fails s1 x damage faults.Memory f = stops_before s1 f.closes.held
    reading_fails s1 x damage (faults.Keeper s) f = stops_before s1 f.closes.held
    reading_fails s1 x damage (faults.Damaged s a cause) f = stops_before s1 f.closes.held
    reading_fails s1 x damage (faults.Refused refusal) f = absurd f.blames

    module _ (stored : List StoredServer) (read : (w : World) → Stands (names s0) (held kept s0) w → stored ≡ stored_servers w) where
      -- the load is refused in the world if and only if it is refused beside what was read
      refusal_is : (w : World) → Stands (names s0) (held kept s0) w → refusal_in raw w ≡ load_refusal raw stored
      refusal_is w stands = ap (load_refusal raw) (sym (read w stands))

      -- the plan fails
      pub planning_fails : (s1 : Sites K) (e : Fault) → held kept s1 ≡ held kept s0 → IsRefusedBy (load_refusal raw stored) e → (w : World) → Stands (names s0) (held kept s0) w → HasNotLoaded kept s0 s1 raw w e
      planning_fails s1 faults.Memory same h = stops_before s1 same
      planning_fails s1 (faults.Keeper s) same h = absurd h
      planning_fails s1 (faults.Damaged s a cause) same h = absurd h
      planning_fails s1 (faults.Refused refusal) same h = λ w stands. (refusal_is w stands ∙ h, same)

      module _ (plan : IsPlanned raw stored) where
        -- what was known is what is known in the world
        known_is : (w : World) → Stands (names s0) (held kept s0) w → known_stored stored ≡ known_defs w
        known_is w stands = ap known_stored (read w stands) ∙ knows_stored w stands.sound

        -- the load of the text commits what the load of its definitions does
        events_are : (w : World) → Stands (names s0) (held kept s0) w → load_events raw w ≡ load_commits (defs_beside raw stored) w
        events_are w stands =
            ap (λ (o : Option Refusal). option_map_or (λ refusal. []) o (load_commits (defs_in raw w) w)) (refusal_is w stands ∙ plan.accepted)
            ∙ ap (λ (k : Defs). load_commits (text_defs raw k) w) (sym (known_is w stands))

        module _ (s1 s2 : Sites K) (x : Bounds) (stays : Stays kept s0 s1 x) where
          -- what follows for each world for which the servers stand once they were read follows for each for which they stood
          from_each : (P : World → Type 0) → InEach kept s1 (defs_beside raw stored) stored P → (w : World) → Stands (names s0) (held kept s0) w → P w
          from_each P each w stands = each raw w (may_load raw stored w stands.sound (read w stands) plan) (read w stands) (stands_on kept s0 s1 x w stays stands)

          -- the first commits of the definitions are the first of the text
          some_happened : InEach kept s1 (defs_beside raw stored) stored (SomeHappened kept s1 s2 (load_commits (defs_beside raw stored))) → (w : World) → Stands (names s0) (held kept s0) w → SomeHappened kept s0 s2 (load_events raw) w
          some_happened each w stands t = subst (λ (p : List (List ℕ) × List (Event World)). Stopped (Stands p.0) p.1 w (held kept s2) t t) (λ i. (stays.passes.names i, sym (events_are w stands) i)) (from_each (SomeHappened kept s1 s2 (load_commits (defs_beside raw stored))) each w stands t)

          -- the load stopped at a server
          pub loading_fails : (e : Fault) → Blames kept s1 s2 (λ s a cause. ⊥) e → InEach kept s1 (defs_beside raw stored) stored (SomeHappened kept s1 s2 (load_commits (defs_beside raw stored))) → (w : World) → Stands (names s0) (held kept s0) w → HasNotLoaded kept s0 s2 raw w e
          loading_fails faults.Memory h = some_happened
          loading_fails (faults.Keeper s) h = some_happened
          loading_fails (faults.Damaged s a cause) h = some_happened
          loading_fails (faults.Refused refusal) h = absurd h

          -- the load came to its end
          pub has_loaded : (loaded : Loaded) → loaded ≡ loaded_counts (known_stored stored) (defs_beside raw stored) → InEach kept s1 (defs_beside raw stored) stored (AllHappened kept s1 s2 (load_commits (defs_beside raw stored))) → (w : World) → Stands (names s0) (held kept s0) w → HasLoaded kept s0 s2 raw w loaded
          has_loaded loaded counts each w stands = record {
            accepted = refusal_is w stands ∙ plan.accepted;
            went = λ t. subst (λ (p : List (List ℕ) × List (Event World)). Went (Stands p.0) p.1 w (held kept s2) t t) (λ i. (stays.passes.names i, sym (events_are w stands) i)) (from_each (AllHappened kept s1 s2 (load_commits (defs_beside raw stored))) each w stands t);
            counts = counts ∙ ap (λ (k : Defs). loaded_counts k (text_defs raw k)) (known_is w stands);
          }
