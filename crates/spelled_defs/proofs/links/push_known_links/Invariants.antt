use Rattle.std.proofs.Common.{◌≡◌, ◌++◌, drop, filter, flat_map}
use Rattle.spelled_defs.specs.Context.{links_of_set, is_other_set}
use Rattle.spelled_defs.proofs.links.push_known_links.Given as goal

abbrev pub invariant-sets : goal.invariant-sets
invariant-sets l =
    l.links ++ flat_map links_of_set (filter (is_other_set l.items) (drop l.set-index l.sets)) ≡ l.fn.links ++ flat_map links_of_set (filter (is_other_set l.items) l.sets)
