-- What asking for a refresh makes of a world.
use Rattle.std.proofs.Common.{◌≡◌, ℕ, true, refl, sym, subst, Some}
use Rattle.world_store.specs.Words.{Holds, Stands}
use Rattle.site_store.specs.Words.{Contents, Kept, IsUndamaged, AllClosed, names, held, work, sees, no_damage}
use Rattle.site_store.specs.declared.sites.Sites.{Sites}
use Rattle.repl_model.specs.Words.{Fault, IsSound, read_only_sets, World, KnownSet, known_sets, at_place_in, In}
use Rattle.world_commits.specs.actions.Flags.{with_flag}
use Rattle.world_commits.specs.laws.ActionsStaySound.{flags_sound}
use Rattle.set_places.specs.declared.placed_set.PlacedSet.{PlacedSet}
use Rattle.set_places.specs.Places.{IsPlacedAs, IsReadOnly}
use Rattle.set_places.specs.Steps.{HasBecome, MayHaveBecome, HasStepped, MayCommitStep}
use Rattle.set_places.specs.laws.Commits.{has_become, may_have_become}
use Rattle.set_places.specs.laws.Known.{is_among}
use Rattle.set_places.specs.laws.Standing.{target_revealed}
use Rattle.stored_commits.specs.actions.FlaggedServers.{flagged}
use Rattle.stored_commits.specs.laws.Flags.{others_hold_flag, flag_holds}
use Rattle.subs_sets.specs.Flagging.{PutsFlag, ShowsStateDamage}
use Rattle.subs_sets.specs.Rules.{state_rules}
use Rattle.subs_sets.specs.laws.Undamaged.{states_undamaged}

module _ (w : World) (k : KnownSet) (set : PlacedSet) (sound : IsSound w) (placed : IsPlacedAs w k set) (read_only : IsReadOnly k) where
  -- the set is one of the read-only sets
  among : In k (read_only_sets (known_sets w))
  among = is_among w k set placed read_only

  -- the world with the flag is sound
  sound_after : IsSound (with_flag true w k)
  sound_after = flags_sound w k true sound among

  -- the target holds what it calls for once the flag is put
  target_after : (c d : Contents) → Holds w k.target c → PutsFlag set c d → Holds (with_flag true w k) (flagged k.at_target.def true k.target) d
  target_after c d holds puts = subst (Holds (with_flag true w k) (flagged k.at_target.def true k.target)) (sym (puts w k sound placed holds)) (flag_holds w k set.at_target.number true c sound among placed.at_target holds)

  module _ {K : Type 0} (kept : K → Kept) (s0 s1 : Sites K) (stands : Stands (names s0) (held kept s0) w) where
    -- once the flag was put the servers stand for it
    pub flagged_there : HasStepped kept s0 s1 set.target (PutsFlag set) → HasBecome kept s0 s1 (with_flag true w k)
    flagged_there = has_become kept s0 s1 w set.target k.target (flagged k.at_target.def true) (PutsFlag set) stands placed.target (λ s. refl) sound_after target_after (λ other c i differs holds. others_hold_flag w k true other c holds)

    -- if this failed they may stand for the world before it
    pub maybe_flagged : (e : Fault) → AllClosed (work kept s0) → MayCommitStep kept s0 s1 set.target (PutsFlag set) (ShowsStateDamage kept s0 set.target) e → MayHaveBecome kept s0 s1 w (with_flag true w k) e
    maybe_flagged e closed may = record {
      stands = may_have_become kept s0 s1 w set.target k.target (flagged k.at_target.def true) (PutsFlag set) stands placed.target (λ s. refl) sound_after target_after (λ other c i differs holds. others_hold_flag w k true other c holds) e may.stepped;
      undamaged = no_damage kept s0 s1 (λ s. s ≡ set.target) state_rules e (λ s is. subst (λ (n : ℕ). (c : Contents) × (sees kept s0 n ≡ Some c) × IsUndamaged state_rules c) (sym is) seen) may.blames.blames;
    }
      where
        seen : (c : Contents) × (sees kept s0 set.target ≡ Some c) × IsUndamaged state_rules c
        seen = let r = target_revealed kept s0 w k set stands (closed set.target) placed in (r.0, r.1, states_undamaged w k.target r.0 sound (at_place_in w set.target k.target placed.target) r.2)
