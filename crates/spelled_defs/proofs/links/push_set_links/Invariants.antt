use Rattle.std.proofs.Common.{◌≡◌, ◌++◌, drop, map}
use Rattle.spelled_defs.specs.Context.{link_of_member}
use Rattle.spelled_defs.proofs.links.push_set_links.Given as goal

abbrev pub invariant-members : goal.invariant-members
invariant-members l =
    l.links ++ map (link_of_member l.set) (drop l.member-index l.member-items) ≡ l.fn.links ++ map (link_of_member l.set) l.member-items
