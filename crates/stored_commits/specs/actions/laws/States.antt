-- The state of a read-only set after a refresh, and after a block.
use Rattle.std.proofs.Common.{◌≡◌, ℕ, ◌+◌, Bool, true, false, cond, not, [], ◌∷◌, ◌++◌, length, Option, ap, ◌∙◌, arith, length-append}
use Rattle.std.proofs.lemmas.Bool.{lt-ltb, not-true}
use Rattle.std.proofs.lemmas.List.Sums.{fold-append}
use Rattle.world_store.specs.Words.{has_points, source_time, state_of}
use Rattle.repl_model.specs.Words.{Entry, Trail, refresh, block, point_after, synchpoint, base_after, base_of, replica_point, TargetSide, World, KnownSet, known_sets, is_replica_set, read_only_sets, with_entry, refreshed, In, in_filter}
use Rattle.repl_records.specs.declared.set_state.SetState.TheVariants as states
use Rattle.stored_commits.specs.actions.ActedServers.{with_step, with_refresh}
use Rattle.stored_commits.specs.actions.StoredSteps.{refreshed_state, block_state}
use Rattle.stored_commits.specs.actions.laws.Sources.{time_stays}

-- a read-only set is no replica set
pub not_replica : (world : World) (k : KnownSet) → In k (read_only_sets (known_sets world)) → is_replica_set k.at_target.def ≡ false
not_replica world k i = not-true (is_replica_set k.at_target.def) (in_filter (λ (l : KnownSet). not (is_replica_set l.at_target.def)) (known_sets world) k i).1

-- a read-only set with one more entry of its trail has reached that entry's point, in whatever world
pub longer_state_is : (world : World) (side : TargetSide) (flag : Bool) (entry : Entry) → is_replica_set side.def ≡ false
    → state_of world (record side { flag = flag; trail = side.trail ++ entry ∷ [] }) ≡ states.ReadOnly true (point_after entry) (source_time world side.def (point_after entry)) (base_after (base_of side.trail) entry) flag (length side.trail + 1)
longer_state_is world side flag entry read_only =
    ap (λ (b : Bool). cond b (states.Replica (has_points trail) (synchpoint trail) (replica_point trail) side.signal (length trail)) (states.ReadOnly (has_points trail) (synchpoint trail) (source_time world side.def (synchpoint trail)) (base_of trail) flag (length trail))) read_only
    ∙ (λ i. states.ReadOnly (points i) (reached i) (source_time world side.def (reached i)) (base i) flag (entries i))
  where
    trail : Trail
    trail = side.trail ++ entry ∷ []

    entries : length trail ≡ length side.trail + 1
    entries = length-append side.trail (entry ∷ [])

    points : has_points trail ≡ true
    points = lt-ltb 0 (length trail) (omega (arith, entries))

    reached : synchpoint trail ≡ point_after entry
    reached = fold-append (λ (before : ℕ) (e : Entry). point_after e) 0 side.trail (entry ∷ [])

    base : base_of trail ≡ base_after (base_of side.trail) entry
    base = fold-append base_after 0 side.trail (entry ∷ [])

-- the row of a set at its target, with this flag and one more entry of its trail
abbrev pub side_after : KnownSet → Bool → Entry → TargetSide
side_after k flag entry = record k.at_target { flag = flag; trail = k.at_target.trail ++ entry ∷ [] }

module _ (world : World) (k : KnownSet) (i : In k (read_only_sets (known_sets world))) where
  -- the state of a set after a refresh, in the world after it
  pub refreshed_state_is : (p : ℕ) (q : Option ℕ) → state_of (with_refresh world k (refresh p q)) (side_after k false (refresh p q)) ≡ refreshed_state p (source_time world k.at_target.def p) (length k.at_target.trail)
  refreshed_state_is p q =
      longer_state_is (with_refresh world k (refresh p q)) k.at_target false (refresh p q) (not_replica world k i)
      ∙ ap (λ (time : ℕ). refreshed_state p time (length k.at_target.trail)) (time_stays (λ server. server.source_sets) (λ server. (refreshed k.at_target.def (refresh p q) server).target_sets) k.target.name world k.at_target.def p)

  -- and after a block, in the world after it
  pub block_state_is : (low high : ℕ) (q : Option ℕ) → state_of (with_step world k (block low high q)) (side_after k k.at_target.flag (block low high q)) ≡ block_state high (source_time world k.at_target.def high) (base_of k.at_target.trail) k.at_target.flag (length k.at_target.trail)
  block_state_is low high q =
      longer_state_is (with_step world k (block low high q)) k.at_target k.at_target.flag (block low high q) (not_replica world k i)
      ∙ ap (λ (time : ℕ). block_state high time (base_of k.at_target.trail) k.at_target.flag (length k.at_target.trail)) (time_stays (λ server. server.source_sets) (λ server. (with_entry k.at_target.def (block low high q) server).target_sets) k.target.name world k.at_target.def high)
