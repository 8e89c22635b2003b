-- A found set stays where it is placed.
use Rattle.std.proofs.Common.{ℕ, ◌<◌, List, length, sym, subst, Option, IfSome}
use Rattle.site_store.specs.Words.{Contents, Kept, Begins, AllClosed, names, work, Looks, looks_sees, sees_on}
use Rattle.site_store.specs.declared.sites.Sites.{Sites}
use Rattle.set_places.specs.declared.placed_set.PlacedSet.{PlacedSet}
use Rattle.set_places.specs.Places.{HasSourceRow, HasTargetRow, IsPlacedAtSource, IsPlacedAtTarget, IsPlaced}
use Rattle.set_places.specs.laws.Commits.{begun_sees_all}

-- ---- after reads

module _ {K : Type 0} (kept : K → Kept) (s0 s1 : Sites K) (set : PlacedSet) where
  -- its source is seen to have its row after reads too
  pub placed_at_source_stays : IsPlacedAtSource kept s0 set → Looks kept s0 s1 → IsPlacedAtSource kept s1 set
  placed_at_source_stays placed look = record {
    within = subst (λ (l : List (List ℕ)). set.source < length l) (sym look.stays.passes.names) placed.within;
    row = sees_on kept s0 s1 set.source (HasSourceRow set.at_source) look placed.row;
    fits = placed.fits;
  }

  -- and so is its target
  pub placed_at_target_stays : IsPlacedAtTarget kept s0 set → Looks kept s0 s1 → IsPlacedAtTarget kept s1 set
  placed_at_target_stays placed look = record {
    within = subst (λ (l : List (List ℕ)). set.target < length l) (sym look.stays.passes.names) placed.within;
    row = sees_on kept s0 s1 set.target (HasTargetRow set.at_target) look placed.row;
    fits = placed.fits;
  }

  -- both are
  pub placed_stays : IsPlaced kept s0 set → Looks kept s0 s1 → IsPlaced kept s1 set
  placed_stays placed look = record { source = placed_at_source_stays placed.source look; target = placed_at_target_stays placed.target look; apart = placed.apart }

-- a set that is placed after reads was placed before them
pub placed_before : {K : Type 0} (kept : K → Kept) (s0 s1 : Sites K) → Looks kept s0 s1 → (set : PlacedSet) → IsPlaced kept s1 set → IsPlaced kept s0 set
placed_before kept s0 s1 looks set placed = record {
  source = record {
    within = subst (λ (l : List (List ℕ)). set.source < length l) looks.stays.passes.names placed.source.within;
    row = subst (λ (saw : Option Contents). IfSome saw (HasSourceRow set.at_source)) (looks_sees kept s0 s1 looks set.source) placed.source.row;
    fits = placed.source.fits;
  };
  target = record {
    within = subst (λ (l : List (List ℕ)). set.target < length l) looks.stays.passes.names placed.target.within;
    row = subst (λ (saw : Option Contents). IfSome saw (HasTargetRow set.at_target)) (looks_sees kept s0 s1 looks set.target) placed.target.row;
    fits = placed.target.fits;
  };
  apart = placed.apart;
}

-- ---- after a transaction was begun at a server

module _ {K : Type 0} (kept : K → Kept) (s0 s1 : Sites K) (set : PlacedSet) (server : ℕ) (lt : server < length (names s0)) (closed : AllClosed (work kept s0)) (begin : Begins kept s0 s1 server) where
  -- the source of a found set is seen to have its row
  pub placed_at_source_begun : IsPlacedAtSource kept s0 set → IsPlacedAtSource kept s1 set
  placed_at_source_begun placed = record {
    within = subst (λ (l : List (List ℕ)). set.source < length l) (sym begin.passes.names) placed.within;
    row = subst (λ (o : Option Contents). IfSome o (HasSourceRow set.at_source)) (sym (begun_sees_all kept s0 s1 server lt closed begin set.source)) placed.row;
    fits = placed.fits;
  }

  -- and so is its target
  pub placed_at_target_begun : IsPlacedAtTarget kept s0 set → IsPlacedAtTarget kept s1 set
  placed_at_target_begun placed = record {
    within = subst (λ (l : List (List ℕ)). set.target < length l) (sym begin.passes.names) placed.within;
    row = subst (λ (o : Option Contents). IfSome o (HasTargetRow set.at_target)) (sym (begun_sees_all kept s0 s1 server lt closed begin set.target)) placed.row;
    fits = placed.fits;
  }

  -- both are
  pub placed_begun : IsPlaced kept s0 set → IsPlaced kept s1 set
  placed_begun placed = record { source = placed_at_source_begun placed.source; target = placed_at_target_begun placed.target; apart = placed.apart }
