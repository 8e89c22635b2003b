use Rattle.std.proofs.Common.{◌≡◌, ◌++◌, drop, map}
use Rattle.toml.specs.View.{items_view}
use Rattle.raw_defs.specs.Raw.{tables_of}
use Rattle.raw_defs.proofs.read.read_items.Given as goal

abbrev pub invariant-items : goal.invariant-items
invariant-items g l =
    l.list ++ map g.T.Item.item_of (tables_of (items_view (drop l.item-index l.item-items))) ≡ map g.T.Item.item_of (tables_of (items_view l.item-items))
