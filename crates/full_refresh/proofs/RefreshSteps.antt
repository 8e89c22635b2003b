-- The steps of a refresh, one after another, and who is to blame if one fails: proofs.
use Rattle.std.proofs.Common.{◌≡◌, inl, inr, subst, Option}
use Rattle.site_store.specs.Words.{Contents, Kept, Shows, Damages, Looks, Breaks, stops_as, stops_after, looks_sees}
use Rattle.site_store.specs.declared.sites.Sites.{Sites}
use Rattle.repl_model.specs.Words.{Area, DamageCause, Fault, TargetSet}
use Rattle.source_log.specs.Rules.{all_rules}
use Rattle.subs_sets.specs.Rules.{state_rules}
use Rattle.set_places.specs.declared.placed_set.PlacedSet.{PlacedSet}
use Rattle.set_places.specs.Steps.{BlamesUnchanged}
use Rattle.set_places.specs.laws.Commits.{stops_unchanged, unchanged_after}
use Rattle.target_steps.specs.Taking.{ShowsAtEnds}
use Rattle.target_steps.specs.laws.AtServers.{ends_as}
use Rattle.full_refresh.specs.Refreshes.{ShowsDamage}

module _ {K : Type 0} (kept : K → Kept) (shows : Option TargetSet → Area → DamageCause → Option Contents → Type 0) (set : PlacedSet) where
  -- ---- who is to blame

  module _ (s0 s1 : Sites K) where
    -- if the end of the log wasn't read
    pub end_blames : (e : Fault) → Breaks all_rules kept s0 s1 set.source e → BlamesUnchanged kept s0 s1 (ShowsDamage kept shows s0 set) e
    end_blames e f = stops_unchanged kept s0 s1 (ShowsDamage kept shows s0 set) e (stops_as kept s0 s1 (Damages (λ q. q ≡ set.source) all_rules kept s0) (ShowsDamage kept shows s0 set) e (λ s a cause h. inl (inl h)) f)

    module _ (looks : Looks kept s0 s1) (s2 : Sites K) (e : Fault) where
      -- or the state wasn't
      pub state_blames : Breaks state_rules kept s1 s2 set.target e → BlamesUnchanged kept s0 s2 (ShowsDamage kept shows s0 set) e
      state_blames f = stops_unchanged kept s0 s2 (ShowsDamage kept shows s0 set) e (stops_after kept s0 s1 s2 looks.most (ShowsDamage kept shows s0 set) e looks.stays.passes looks.stays.held (stops_as kept s1 s2 (Damages (λ q. q ≡ set.target) state_rules kept s1) (ShowsDamage kept shows s0 set) e
          (λ s a cause h. inl (inr (h.0, subst (Shows state_rules a cause) (looks_sees kept s0 s1 looks s) h.1))) f))

      -- or the refresh wasn't put
      pub put_blames : BlamesUnchanged kept s1 s2 (ShowsAtEnds kept shows s1 set) e → BlamesUnchanged kept s0 s2 (ShowsDamage kept shows s0 set) e
      put_blames h = unchanged_after kept s0 s1 s2 (ShowsAtEnds kept shows s1 set) (ShowsDamage kept shows s0 set) e looks
          (λ s a cause d. inr (ends_as kept shows set s0 s1 (looks_sees kept s0 s1 looks) s a cause d)) h
