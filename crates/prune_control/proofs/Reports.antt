-- What noting a point makes of a world.
use Rattle.std.proofs.Common.{◌≡◌, ℕ, refl, sym, ap, subst, ◌∙◌, Some}
use Rattle.world_store.specs.Words.{Holds, Stands}
use Rattle.site_store.specs.Words.{Contents, Kept, IsUndamaged, AllClosed, names, held, work, sees, no_damage}
use Rattle.site_store.specs.declared.sites.Sites.{Sites}
use Rattle.repl_model.specs.Words.{Fault, reported, after_action, reports, IsSound, read_only_sets, synchpoint, World, KnownSet, known_sets, at_place_in, In}
use Rattle.set_places.specs.declared.placed_set.PlacedSet.{PlacedSet}
use Rattle.set_places.specs.Places.{IsPlacedAs, IsReadOnly}
use Rattle.set_places.specs.Steps.{HasBecome, MayHaveBecome, HasStepped, MayCommitStep}
use Rattle.set_places.specs.laws.Commits.{has_become, may_have_become}
use Rattle.set_places.specs.laws.Known.{is_among}
use Rattle.set_places.specs.laws.Standing.{source_revealed}
use Rattle.stored_commits.specs.actions.ActedServers.{with_mark}
use Rattle.prune_control.specs.Noting.{IsReport, mark_rules, ShowsDamage}
use Rattle.prune_control.specs.Putting.{PutsPoint}
use Rattle.prune_control.specs.laws.Marks.{marks_undamaged}
use Rattle.world_commits.specs.laws.ActionsStaySound.{actions_sound}
use Rattle.stored_commits.specs.laws.Reports.{others_hold_report, report_holds}

module _ (w : World) (k : KnownSet) (set : PlacedSet) (point : ℕ) (sound : IsSound w) (placed : IsPlacedAs w k set) (read_only : IsReadOnly k) (report : IsReport k point) where
  -- the set is one of the read-only sets
  among : In k (read_only_sets (known_sets w))
  among = is_among w k set placed read_only

  -- the world after the report is sound
  sound_after : IsSound (after_action w k reports)
  sound_after = actions_sound w k reports sound among tt

  -- the source holds what it calls for once the point is put
  source_after : (c d : Contents) → Holds w k.source c → PutsPoint set point c d → Holds (after_action w k reports) (reported k.at_source.def (synchpoint k.at_target.trail) k.source) d
  source_after c d holds puts = subst (Holds (after_action w k reports) (reported k.at_source.def (synchpoint k.at_target.trail) k.source))
      (ap (λ (n : ℕ). with_mark set.at_source.number (record { mark = n; signal = k.at_source.signal }) c) (sym report) ∙ sym (puts w k sound placed holds))
      (report_holds w k set.at_source.number c sound among placed.at_source holds)

  module _ {K : Type 0} (kept : K → Kept) (s0 s1 : Sites K) (stands : Stands (names s0) (held kept s0) w) where
    -- once the point was put the servers stand for it
    pub reported_there : HasStepped kept s0 s1 set.source (PutsPoint set point) → HasBecome kept s0 s1 (after_action w k reports)
    reported_there = has_become kept s0 s1 w set.source k.source (reported k.at_source.def (synchpoint k.at_target.trail)) (PutsPoint set point) stands placed.source (λ s. refl) sound_after source_after (λ other c i differs holds. others_hold_report w k other c holds)

    -- if this failed they may stand for the world before it
    pub maybe_reported : (e : Fault) → AllClosed (work kept s0) → MayCommitStep kept s0 s1 set.source (PutsPoint set point) (ShowsDamage kept s0 set.source) e → MayHaveBecome kept s0 s1 w (after_action w k reports) e
    maybe_reported e closed may = record {
      stands = may_have_become kept s0 s1 w set.source k.source (reported k.at_source.def (synchpoint k.at_target.trail)) (PutsPoint set point) stands placed.source (λ s. refl) sound_after source_after (λ other c i differs holds. others_hold_report w k other c holds) e may.stepped;
      undamaged = no_damage kept s0 s1 (λ s. s ≡ set.source) mark_rules e (λ s is. subst (λ (n : ℕ). (c : Contents) × (sees kept s0 n ≡ Some c) × IsUndamaged mark_rules c) (sym is) seen) may.blames.blames;
    }
      where
        seen : (c : Contents) × (sees kept s0 set.source ≡ Some c) × IsUndamaged mark_rules c
        seen = let r = source_revealed kept s0 w k set stands (closed set.source) placed in (r.0, r.1, marks_undamaged w k.source r.0 sound (at_place_in w set.source k.source placed.source) r.2)
