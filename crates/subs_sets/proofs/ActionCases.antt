-- What a set does next, case by case.
use Rattle.std.proofs.Common.{◌≡◌, ℕ, ◌<◌, ◌≤◌, Bool, true, false, not, ◌||◌, cond, [], ◌∷◌, length, Option, refl, sym, ap, ap₂, ◌∙◌, arith, nat_le, nat_lt, le-leb, lt-ltb, leb-true}
use Rattle.world_store.specs.Words.{has_points}
use Rattle.repl_model.specs.Words.{reports, idles, at_rest, by_gap, gap_of, is_new, refresh_by_signal, next_action_within, Trail, synchpoint, KnownSet}
use Rattle.subs_sets.specs.Actions.{once_refreshed}

-- a number isn't above another that is above it
not_above : (a b : ℕ) → b < a → nat_le a b ≡ false
not_above a b lt = pick (nat_le a b) refl
  where
    pick : (t : Bool) → nat_le a b ≡ t → t ≡ false
    pick true e = absurd (omega (arith, lt, leb-true a b e))
    pick false e = refl

module _ (end : Option ℕ) (k : KnownSet) (captured point : ℕ) (captured_is : captured ≡ k.source.captured) (point_is : point ≡ synchpoint k.at_target.trail) where
  -- the test of whether all captured units were taken
  all_taken : (b : Bool) → nat_le captured point ≡ b → nat_le k.source.captured (synchpoint k.at_target.trail) ≡ b
  all_taken b e = ap₂ nat_le (sym captured_is) (sym point_is) ∙ e

  -- what is done at rest is a report or nothing
  rests_at : cond (nat_lt k.at_source.mark point) reports idles ≡ at_rest k
  rests_at = ap (λ (p : ℕ). cond (nat_lt k.at_source.mark p) reports idles) point_is

  -- if they were, the set reports or idles
  pub reports_or_idles : captured ≤ point → cond (nat_lt k.at_source.mark point) reports idles ≡ once_refreshed end k
  reports_or_idles le =
      rests_at
      ∙ ap (λ (b : Bool). cond b (at_rest k) (by_gap end k (gap_of k))) (sym (all_taken true (le-leb captured point le)))

  -- if they weren't, it is as its gap says
  pub as_gap_says : point < captured → by_gap end k (gap_of k) ≡ once_refreshed end k
  as_gap_says lt = ap (λ (b : Bool). cond b (at_rest k) (by_gap end k (gap_of k))) (sym (all_taken false (not_above captured point lt)))

-- a set is new if its trail has no points
new_without_points : (trail : Trail) → is_new trail ≡ not (has_points trail)
new_without_points [] = refl
new_without_points (e ∷ trail) = ap not (sym (lt-ltb 0 (length (e ∷ trail)) (omega arith)))

-- a set that is new, or of which a refresh was asked for, is refreshed
pub is_refreshed : (end : Option ℕ) (k : KnownSet) (points flag : Bool) → points ≡ has_points k.at_target.trail → flag ≡ k.at_target.flag → (not points || flag) ≡ true → refresh_by_signal k ≡ next_action_within end k
is_refreshed end k points flag points_are flag_is due = ap (λ (b : Bool). cond b (refresh_by_signal k) (once_refreshed end k)) (sym (ap₂ (λ (a b : Bool). a || b) (new_without_points k.at_target.trail ∙ ap not (sym points_are)) (sym flag_is) ∙ due))

-- any other goes on from where it is
pub goes_on : (end : Option ℕ) (k : KnownSet) (points flag : Bool) → points ≡ has_points k.at_target.trail → flag ≡ k.at_target.flag → (not points || flag) ≡ false → once_refreshed end k ≡ next_action_within end k
goes_on end k points flag points_are flag_is due = ap (λ (b : Bool). cond b (refresh_by_signal k) (once_refreshed end k)) (sym (ap₂ (λ (a b : Bool). a || b) (new_without_points k.at_target.trail ∙ ap not (sym points_are)) (sym flag_is) ∙ due))
