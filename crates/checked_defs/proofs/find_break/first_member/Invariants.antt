use Rattle.std.proofs.Common.{◌≡◌, ◌+◌, drop}
use Rattle.std.specs.List.{position_from}
use Rattle.checked_defs.specs.Broken.{member_breaks}
use Rattle.checked_defs.proofs.find_break.first_member.Given as goal

abbrev pub invariant-members : goal.invariant-members
invariant-members l =
    position_from (member_breaks l.context l.rule l.set) (l.place + 1) (drop l.place l.member-items) ≡ position_from (member_breaks l.context l.rule l.set) 1 l.member-items
