use Rattle.shows.proofs.NamedMembers.{NoneNamedBefore}
use Rattle.shows.proofs.targets.place_of.Given as goal

abbrev pub invariant-loop-member : goal.invariant-loop-member
invariant-loop-member l = NoneNamedBefore l.name l.def l.member
