use Rattle.std.proofs.Common.{◌≡◌, ◌++◌, drop, filter_map}
use Rattle.spelled_defs.specs.Spelled.{spelled_member_at}
use Rattle.spelled_defs.proofs.spelled.spelled_members.Given as goal

abbrev pub invariant-members : goal.invariant-members
invariant-members l =
    l.spelled ++ filter_map (spelled_member_at l.tables l.source) (drop l.member-index l.members) ≡ filter_map (spelled_member_at l.tables l.source) l.members
