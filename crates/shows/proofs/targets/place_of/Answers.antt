use Rattle.std.proofs.Common.{sym, ◌∙◌}
use Rattle.shows.proofs.NamedMembers.{named_here, not_named_on, none_named}
use Rattle.shows.proofs.targets.place_of.Goals as goal

pub returns-then-eq : goal.returns-then-eq
returns-then-eq c = named_here c.args.name.now c.args.def.now c.as_slice-members.result.now c.as_slice-members.ensures c.loop-member.member c.index-members-member.result c.loop-member-test.true c.index-members-member.is (sym c.eq.ensures ∙ c.if-eq.true)

pub loop-member-preserved : goal.loop-member-preserved
loop-member-preserved c = not_named_on c.args.name.now c.args.def.now c.as_slice-members.result.now c.as_slice-members.ensures c.loop-member.member c.index-members-member.result c.loop-member-test.true c.index-members-member.is (sym c.eq.ensures ∙ c.if-eq.false) c.loop-member.invariant

pub returns : goal.returns
returns c = none_named c.args.name.now c.args.def.now c.as_slice-members.result.now c.as_slice-members.ensures c.loop-member.member c.loop-member-test.false c.loop-member.invariant
