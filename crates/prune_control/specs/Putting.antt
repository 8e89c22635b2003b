-- What noting a point makes of what the source of a set holds.
use Rattle.std.specs.Prelude.{◌≡◌, ℕ}
use Rattle.keep_core.specs.Contents.{Contents}
use Rattle.repl_model.specs.World.{World, KnownSet}
use Rattle.repl_model.specs.Sound.{IsSound}
use Rattle.world_store.specs.Stands.{Holds}
use Rattle.set_places.specs.declared.placed_set.PlacedSet.{PlacedSet}
use Rattle.set_places.specs.Places.{IsPlacedAs}
use Rattle.stored_commits.specs.actions.ActedServers.{with_mark}

-- in each sound world in which a set stands as it was found, and whose source holds what the world calls for, the point
-- is put as the set's mark, with the signal of before
abbrev pub PutsPoint : PlacedSet → ℕ → Contents → Contents → Type 0
PutsPoint set point c d = (w : World) (k : KnownSet) → IsSound w → IsPlacedAs w k set → Holds w k.source c → d ≡ with_mark set.at_source.number (record { mark = point; signal = k.at_source.signal }) c
