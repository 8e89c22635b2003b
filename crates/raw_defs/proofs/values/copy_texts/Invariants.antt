use Rattle.std.proofs.Common.{◌≡◌, ◌++◌, drop}
use Rattle.toml.specs.View.{items_view}
use Rattle.raw_defs.specs.Raw.{texts_of}
use Rattle.raw_defs.proofs.values.copy_texts.Given as goal

abbrev pub invariant-items : goal.invariant-items
invariant-items l = l.texts ++ texts_of (items_view (drop l.item-index l.item-items)) ≡ texts_of (items_view l.item-items)
