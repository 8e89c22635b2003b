-- Reads, and what is seen after them.
use Rattle.std.proofs.Common.{◌≡◌, ℕ, false, arith, ◌∙◌}
use Rattle.site_store.specs.Words.{Kept, Reads, reads_of_one, Looks, looks_sees}
use Rattle.site_store.specs.declared.sites.Sites.{Sites}
use Rattle.repl_model.specs.Words.{Area, World, KnownSet}
use Rattle.repl_types.specs.declared.area.Area.TheVariants as areas
use Rattle.set_places.specs.declared.placed_set.PlacedSet.{PlacedSet}
use Rattle.set_places.specs.Members.{ForSource}
use Rattle.set_places.specs.Reading.{is_of_definitions, ReadsOnly}
use Rattle.subs_sets.specs.Rules.{is_read}

-- the area of definitions is one of those that are read
other_than_definitions : (a : Area) → is_read a ≡ false → is_of_definitions a ≡ false
other_than_definitions areas.Defs e = absurd cc
other_than_definitions areas.Uow e = absurd cc
other_than_definitions areas.Capture e = absurd cc
other_than_definitions areas.Prune e = absurd cc
other_than_definitions areas.SetState e = absurd cc
other_than_definitions areas.Trail e = absurd cc
other_than_definitions a e = e

module _ {K : Type 0} (kept : K → Kept) (s0 s1 : Sites K) where
  -- one record was read
  pub looked : (server : ℕ) (a : Area) → Reads kept s0 s1 server a → Looks kept s0 s1
  looked server a read = record { most = reads_of_one 1 server a; stays = read.stays }

  -- what follows from what is seen of a set's source after reads follows from what was seen before
  pub for_source_back : (set : PlacedSet) (P : World → KnownSet → Type 0) → Looks kept s0 s1 → ForSource kept s1 set P → ForSource kept s0 set P
  for_source_back set P look follows w k sound placed reveals = follows w k sound placed (reveals.0, looks_sees kept s0 s1 look set.source ∙ reveals.1, reveals.2)

  -- only definitions were read
  pub reads_definitions : ReadsOnly is_of_definitions kept s0 s1 → ReadsOnly is_read kept s0 s1
  reads_definitions reads s a other = reads s a (other_than_definitions a other)

  -- reads one after another
  pub reads_then : (s2 : Sites K) → ReadsOnly is_read kept s0 s1 → ReadsOnly is_read kept s1 s2 → ReadsOnly is_read kept s0 s2
  reads_then s2 first second s a other = omega (arith, first s a other, second s a other)
