-- How parts that begin with reads are carried out.
use Rattle.std.proofs.Common.{◌≡◌, ◌↔◌, ℕ, List, [], ◌∷◌, map, Bool, true, false, not, refl, sym, ap, subst, Option, Some, IsTrue, slice_get, append-nil}
use Rattle.world_store.specs.Words.{Stands}
use Rattle.site_store.specs.Words.{Contents, Kept, Takes, TakesPrefix, names, held}
use Rattle.site_store.specs.declared.sites.Sites.{Sites}
use Rattle.repl_model.specs.Words.{Member, SetDef, is_replica_set, World, KnownSet}
use Rattle.run_core.specs.Runs.{Event, Went, Stopped, writes, is_refused}
use Rattle.run_core.specs.laws.Quiet.{went_quiet, stopped_quiet}
use Rattle.run_commands.specs.parts.laws.Lines.{lines_quiet, lines_in_turn, none_refused}
use Rattle.set_places.specs.Places.{IsPlacedAs, IsReadOnly, ForSet}
use Rattle.set_places.specs.declared.placed_set.PlacedSet.{PlacedSet}
use Rattle.shows.specs.sets.Replies.{set_line}
use Rattle.shows.specs.sets.Targets.{ForMemberAt}
use Rattle.shows.specs.declared.targets.PlacedTarget.{PlacedTarget}
use Rattle.member_targets.specs.Showing.{IsTakenAt, target_lines, target_text}
use Rattle.run_commands.specs.target.TargetEvents.{known_set_events, member_events}
use Rattle.run_commands.proofs.TargetEvents.{set_shown, target_shown}

-- a set that was found and isn't a replica set is read-only in the world
pub read_only : (w : World) (k : KnownSet) (set : PlacedSet) → IsPlacedAs w k set → IsTrue (not (is_replica_set set.at_target.def)) → IsReadOnly k
read_only w k set placed = subst (λ (def : SetDef). IsTrue (not (is_replica_set def))) placed.target_def

-- what a test that fails tests for doesn't hold
pub fails_test : {P : Type 0} (b : Bool) → (IsTrue b ↔ P) → b ≡ false → P → ⊥
fails_test true says is p = cc
fails_test false says is p = let e : IsTrue false = says.1 p in cc

-- ---- what is shown

module _ {K : Type 0} (kept : K → Kept) (s0 s1 : Sites K) (same : held kept s1 ≡ held kept s0) (t u : Option (List ℕ)) (number : ℕ) where
  -- of a set that isn't a replica set

  module _ (set : PlacedSet) (is : is_replica_set set.at_target.def ≡ false) where
    -- its line was written
    pub set_written : ForSet kept s0 set (λ w k. Takes t u (set_line k)) → (w : World) (k : KnownSet) → Stands (names s0) (held kept s0) w → IsPlacedAs w k set → Went (Stands (names s0)) (known_set_events number k) w (held kept s1) t u × (false ≡ is_refused (known_set_events number k))
    set_written took w k stands placed = subst (λ (es : List (Event World)). Went (Stands (names s0)) es w (held kept s1) t u × (false ≡ is_refused es)) (set_shown number w k set placed is)
        (went_quiet (Stands (names s0)) w (writes (set_line k) ∷ []) (held kept s1) t u tt (subst (λ (h : List (Option Contents)). Stands (names s0) h w) (sym same) stands) (subst (Takes t u) (sym (append-nil (set_line k))) (took w k stands placed (read_only w k set placed (ap not is)))), refl)

    -- a prefix of it was
    pub set_begun : ForSet kept s0 set (λ w k. TakesPrefix t u (set_line k)) → (w : World) (k : KnownSet) → Stands (names s0) (held kept s0) w → IsPlacedAs w k set → Stopped (Stands (names s0)) (known_set_events number k) w (held kept s1) t u
    set_begun took w k stands placed = subst (λ (es : List (Event World)). Stopped (Stands (names s0)) es w (held kept s1) t u) (set_shown number w k set placed is)
        (stopped_quiet (Stands (names s0)) w (writes (set_line k) ∷ []) (held kept s1) t u tt (subst (λ (h : List (Option Contents)). Stands (names s0) h w) (sym same) stands) (subst (TakesPrefix t u) (sym (append-nil (set_line k))) (took w k stands placed (read_only w k set placed (ap not is)))))

  -- of a target whose kind is carried out

  module _ (target : PlacedTarget) (is : IsTrue (not (is_replica_set target.set.at_target.def))) (taken : IsTakenAt target.set.at_target.def target.member) where
    -- its rows were written
    pub target_written : ForMemberAt kept s0 target (λ w k member. Takes t u (target_text w k member)) → (w : World) (k : KnownSet) (member : Member) → Stands (names s0) (held kept s0) w → IsPlacedAs w k target.set → slice_get k.at_target.def.members target.member ≡ Some member → Went (Stands (names s0)) (member_events number w k member) w (held kept s1) t u × (false ≡ is_refused (member_events number w k member))
    target_written took w k member stands placed at =
        let lines = target_lines w k member in
        subst (λ (es : List (Event World)). Went (Stands (names s0)) es w (held kept s1) t u × (false ≡ is_refused es)) (target_shown number w k member target placed at taken)
        (went_quiet (Stands (names s0)) w (map writes lines) (held kept s1) t u (lines_quiet lines) (subst (λ (h : List (Option Contents)). Stands (names s0) h w) (sym same) stands) (subst (Takes t u) (sym (lines_in_turn lines)) (took w k stands placed (read_only w k target.set placed is) member at)), none_refused lines)

    -- a part of them was
    pub target_begun : ForMemberAt kept s0 target (λ w k member. TakesPrefix t u (target_text w k member)) → (w : World) (k : KnownSet) (member : Member) → Stands (names s0) (held kept s0) w → IsPlacedAs w k target.set → slice_get k.at_target.def.members target.member ≡ Some member → Stopped (Stands (names s0)) (member_events number w k member) w (held kept s1) t u
    target_begun took w k member stands placed at =
        let lines = target_lines w k member in
        subst (λ (es : List (Event World)). Stopped (Stands (names s0)) es w (held kept s1) t u) (target_shown number w k member target placed at taken)
        (stopped_quiet (Stands (names s0)) w (map writes lines) (held kept s1) t u (lines_quiet lines) (subst (λ (h : List (Option Contents)). Stands (names s0) h w) (sym same) stands) (subst (TakesPrefix t u) (sym (lines_in_turn lines)) (took w k stands placed (read_only w k target.set placed is) member at)))
