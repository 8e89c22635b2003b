-- The mark that is read of a found set.
use Rattle.std.proofs.Common.{◌≡◌, refl, subst, Option, Some, IfSome}
use Rattle.world_store.specs.Words.{b32, mark_spelling, IsMark, SyncMark}
use Rattle.site_store.specs.Words.{Contents, Kept, RowIs, sees, if_seen}
use Rattle.site_store.specs.declared.sites.Sites.{Sites}
use Rattle.repl_types.specs.declared.area.Area.TheVariants as areas
use Rattle.set_places.specs.declared.placed_set.PlacedSet.{PlacedSet}
use Rattle.set_places.specs.Members.{ForSource}
use Rattle.set_places.specs.Places.{HasSourceRow, IsPlacedAtSource}
use Rattle.prune_control.specs.Noting.{calls_for_mark}
use Rattle.prune_control.specs.laws.Marks.{mark_of, mark_is}

module _ {K : Type 0} (kept : K → Kept) (s0 : Sites K) (set : PlacedSet) where
  -- the set's row calls for it
  pub called_for : IsPlacedAtSource kept s0 set → IfSome (sees kept s0 set.source) (calls_for_mark areas.Prune 0 (b32 set.at_source.number))
  called_for placed = if_seen (sees kept s0 set.source) (HasSourceRow set.at_source) (calls_for_mark areas.Prune 0 (b32 set.at_source.number)) (λ c has. (set.at_source.number, refl, (has.0, set.at_source, placed.fits, has.1, refl))) placed.row

  -- it is the world's
  pub mark_read : (known : SyncMark) → IsMark known → IfSome (sees kept s0 set.source) (RowIs mark_spelling areas.Prune 0 (b32 set.at_source.number) (Some known)) → ForSource kept s0 set (λ w k. known ≡ mark_of k.at_source)
  mark_read known fits saw w k sound placed reveals = mark_is w k set.at_source.number known reveals.0 sound placed.known placed.at_source reveals.2 fits (subst (λ (o : Option Contents). IfSome o (RowIs mark_spelling areas.Prune 0 (b32 set.at_source.number) (Some known))) reveals.1 saw)
