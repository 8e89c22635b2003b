use Rattle.std.proofs.Common.{◌≡◌, drop}
use Rattle.toml.specs.View.{items_view, members_view}
use Rattle.raw_defs.specs.Shape.{fits_each, fits_keys, keys_of}
use Rattle.raw_defs.proofs.fit.+fit.Given as goal

abbrev pub invariant-fits_each-items : goal.invariant-fits_each-items
invariant-fits_each-items l =
    fits_each l.shape (items_view (drop l.item-index l.item-items)) ≡ fits_each l.shape (items_view l.item-items)

abbrev pub invariant-fits_keys-members : goal.invariant-fits_keys-members
invariant-fits_keys-members l =
    (goal.iterator-fits_keys-members).can_next l.name-iterator × (goal.iterator-fits_keys-members).is_finite l.name-iterator
    × (fits_keys (keys_of l.kind) (members_view l.name-iterator) ≡ fits_keys (keys_of l.kind) (members_view l.table.entries))
