-- The transaction in which a point is put as the mark of a set.
use Rattle.std.proofs.Common.{◌≡◌, ℕ, ap, ◌∙◌, Some}
use Rattle.world_store.specs.Words.{b32, mark_spelling, SyncMark, Holds}
use Rattle.site_store.specs.Words.{Kept, Puts, work, sees, IsOpenAt, Sets, Looks, GoesOn, goes_saw, goes_put, saw_then, any_seen}
use Rattle.site_store.specs.declared.sites.Sites.{Sites}
use Rattle.repl_model.specs.Words.{IsSound, World, KnownSet}
use Rattle.repl_types.specs.declared.area.Area.TheVariants as areas
use Rattle.set_places.specs.declared.placed_set.PlacedSet.{PlacedSet}
use Rattle.set_places.specs.Members.{ForSource}
use Rattle.set_places.specs.Places.{IsPlacedAs}
use Rattle.set_places.specs.laws.Standing.{source_seen}
use Rattle.stored_commits.specs.actions.ActedServers.{with_mark}
use Rattle.prune_control.specs.Putting.{PutsPoint}
use Rattle.prune_control.specs.laws.Marks.{mark_of}

module _ {K : Type 0} (kept : K → Kept) (s1 s2 : Sites K) (set : PlacedSet) (open_at : IsOpenAt (work kept s1) set.source) (looks : Looks kept s1 s2) where
  -- whatever was read, the transaction went on
  pub went_on : GoesOn kept s1 s2 set.source (λ c d. Unit {0})
  went_on = goes_saw kept s1 s2 set.source (λ c. Unit {0}) (λ c d. Unit {0}) open_at looks (any_seen (sees kept s1 set.source)) (λ c n. tt)

  -- the mark is read, and then the new one is put
  pub point_put : (s3 : Sites K) (point : ℕ) (known : SyncMark) → ForSource kept s1 set (λ w k. known ≡ mark_of k.at_source) → Puts kept s2 s3 set.source areas.Prune 0 (b32 set.at_source.number) (Some (mark_spelling (record { mark = point; signal = known.signal }))) → GoesOn kept s1 s3 set.source (PutsPoint set point)
  point_put s3 point known read put =
      let number = set.at_source.number in
      let new = Some (mark_spelling (record { mark = point; signal = known.signal })) in
      saw_then kept s1 s2 s3 set.source (λ c. (w : World) (k : KnownSet) → IsSound w → IsPlacedAs w k set → Holds w k.source c → known ≡ mark_of k.at_source) (Sets areas.Prune 0 (b32 number) new) (PutsPoint set point) open_at looks (source_seen set (λ w k. known ≡ mark_of k.at_source) kept s1 read) (goes_put kept s2 s3 set.source areas.Prune 0 (b32 number) new put)
      (λ c d known_is puts w k sound placed holds. puts ∙ ap (λ (m : SyncMark). with_mark number (record { mark = point; signal = m.signal }) c) (known_is w k sound placed holds))
