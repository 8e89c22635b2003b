use Rattle.std.proofs.Common.{◌≡◌, ◌++◌, drop, flat_map}
use Rattle.spelled_defs.specs.Context.{links_of_item}
use Rattle.spelled_defs.proofs.links.push_text_links.Given as goal

abbrev pub invariant-sets : goal.invariant-sets
invariant-sets l =
    l.links ++ flat_map links_of_item (drop l.set-index l.sets) ≡ l.fn.links ++ flat_map links_of_item l.sets
