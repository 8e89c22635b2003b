-- What is known of the servers of a set between the calls of one of its steps.
use Rattle.std.proofs.Common.{◌≡◌, ℕ, List, inl, inr, get_or, sym, subst, Option, Some, None}
use Rattle.std.proofs.Math.ListN.{set as set_at}
use Rattle.world_store.specs.Words.{Reveals, Stands}
use Rattle.site_store.specs.Words.{Contents, Kept, AllClosed, names, held, work, sees, IsUndamaged, IsNoDamage, no_damage, Looks, Breaks, looks_sees}
use Rattle.site_store.specs.declared.sites.Sites.{Sites}
use Rattle.repl_model.specs.Words.{Area, DamageCause, Fault, World, KnownSet, at_place_in, TargetSet}
use Rattle.subs_sets.specs.Rules.{source_rules, state_rules}
use Rattle.subs_sets.specs.laws.Undamaged.{source_undamaged, states_undamaged}
use Rattle.set_places.specs.declared.placed_set.PlacedSet.{PlacedSet}
use Rattle.set_places.specs.Places.{IsPlacedAs}
use Rattle.set_places.specs.Steps.{HasStepped, MayHaveBecome}
use Rattle.set_places.specs.laws.Standing.{source_revealed, target_revealed}
use Rattle.target_steps.specs.Taking.{ShowsAtEnds}

-- damage of the targets of a set is shown wherever the same is seen
pub ends_as : {K : Type 0} (kept : K → Kept) (shows : Option TargetSet → Area → DamageCause → Option Contents → Type 0) (set : PlacedSet) (s0 s1 : Sites K) → ((s : ℕ) → sees kept s1 s ≡ sees kept s0 s) → (s : ℕ) (a : Area) (cause : DamageCause) → ShowsAtEnds kept shows s1 set s a cause → ShowsAtEnds kept shows s0 set s a cause
ends_as kept shows set s0 s1 same s a cause (inl h) = inl (h.0, subst (shows None a cause) (same s) h.1)
ends_as kept shows set s0 s1 same s a cause (inr h) = inr (h.0, subst (shows (Some set.at_target) a cause) (same s) h.1)

module _ {K : Type 0} (kept : K → Kept) (set : PlacedSet) where
  -- nothing changed
  pub unchanged : (s0 s1 : Sites K) (w v : World) (e : Fault) → held kept s1 ≡ held kept s0 → Stands (names s0) (held kept s0) w → IsNoDamage e → MayHaveBecome kept s0 s1 w v e
  unchanged s0 s1 w v e same stands undamaged = record { stands = inl (subst (λ (h : List (Option Contents)). Stands (names s0) h w) (sym same) stands); undamaged = undamaged }

  -- a step after reads is one from the beginning
  pub stepped_after : (s0 s1 s2 : Sites K) (server : ℕ) (step : Contents → Contents → Type 0) → held kept s1 ≡ held kept s0 → HasStepped kept s1 s2 server step → HasStepped kept s0 s2 server step
  stepped_after s0 s1 s2 server step same stepped = subst (λ (h : List (Option Contents)). (c : Contents) → get_or h server None ≡ Some c → (d : Contents) × (held kept s2 ≡ set_at h server (Some d)) × step c d) same stepped

  module _ (s0 s1 : Sites K) (closed : AllClosed (work kept s0)) (w : World) (k : KnownSet) (stands : Stands (names s0) (held kept s0) w) (placed : IsPlacedAs w k set) where
    -- the source is seen to have what the world calls for
    pub revealed : Reveals w k.source (sees kept s0 set.source)
    revealed = source_revealed kept s0 w k set stands (closed set.source) placed

    module _ (looks : Looks kept s0 s1) where
      -- after reads too
      pub revealed_after : Reveals w k.source (sees kept s1 set.source)
      revealed_after = subst (λ (o : Option Contents). Reveals w k.source o) (sym (looks_sees kept s0 s1 looks set.source)) revealed

      -- and so is the target
      pub target_after : Reveals w k.target (sees kept s1 set.target)
      target_after = subst (λ (o : Option Contents). Reveals w k.target o) (sym (looks_sees kept s0 s1 looks set.target)) (target_revealed kept s0 w k set stands (closed set.target) placed)

      -- no damage is found of what is captured
      pub captured_undamaged : (s2 : Sites K) (e : Fault) → Breaks source_rules kept s1 s2 set.source e → IsNoDamage e
      captured_undamaged s2 e f = no_damage kept s1 s2 (λ s. s ≡ set.source) source_rules e
          (λ s is. subst (λ (q : ℕ). (c : Contents) × (sees kept s1 q ≡ Some c) × IsUndamaged source_rules c) (sym is) (revealed_after.0, revealed_after.1, source_undamaged w k.source revealed_after.0 stands.sound (at_place_in w set.source k.source placed.source) revealed_after.2)) f.blames

      -- no damage is found of the state of the targets
      pub state_undamaged : (s2 : Sites K) (e : Fault) → Breaks state_rules kept s1 s2 set.target e → IsNoDamage e
      state_undamaged s2 e f = no_damage kept s1 s2 (λ s. s ≡ set.target) state_rules e
          (λ s is. subst (λ (q : ℕ). (c : Contents) × (sees kept s1 q ≡ Some c) × IsUndamaged state_rules c) (sym is) (target_after.0, target_after.1, states_undamaged w k.target target_after.0 stands.sound (at_place_in w set.target k.target placed.target) target_after.2)) f.blames
