-- What holds after reads: no transaction is open, and the servers stand for the same worlds.
use Rattle.std.proofs.Common.{◌∙◌}
use Rattle.world_store.specs.Words.{Stands}
use Rattle.site_store.specs.Words.{Kept, AllClosed, names, held, work, Looks, looks_sees, stays_closed}
use Rattle.site_store.specs.declared.sites.Sites.{Sites}
use Rattle.repl_model.specs.Words.{World, KnownSet}
use Rattle.stored_defs.specs.laws.Standing.{stands_on}
use Rattle.set_places.specs.declared.placed_set.PlacedSet.{PlacedSet}
use Rattle.set_places.specs.Members.{ForSource}

module _ {K : Type 0} (kept : K → Kept) (s0 s1 : Sites K) (look : Looks kept s0 s1) where
  -- no transaction is open if none was
  pub closed_on : AllClosed (work kept s0) → AllClosed (work kept s1)
  closed_on closed = stays_closed kept s0 s1 look.most closed look.stays

  -- the servers stand for a world for which they stood
  pub still_stands : (w : World) → Stands (names s0) (held kept s0) w → Stands (names s1) (held kept s1) w
  still_stands w stands = stands_on kept s0 s1 look.most w look.stays stands

  -- what follows from what is seen of a set's source follows from what was seen before
  pub source_before : (set : PlacedSet) (P : World → KnownSet → Type 0) → ForSource kept s1 set P → ForSource kept s0 set P
  source_before set P follows w k sound placed reveals = follows w k sound placed (reveals.0, looks_sees kept s0 s1 look set.source ∙ reveals.1, reveals.2)
