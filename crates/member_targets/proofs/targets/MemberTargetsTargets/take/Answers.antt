use Rattle.member_targets.proofs.ByKind.{goes_past, none_read, none_counted}
use Rattle.member_targets.proofs.targets.MemberTargetsTargets.take.Goals as goal

-- it is a user copy
pub take_copy-requires-clause-own : goal.take_copy-requires-clause-own
take_copy-requires-clause-own g c = c.is_copy_at.ensures.0 c.if-is_copy_at.true

-- it is of a kind that isn't taken
pub returns-clause-ok : goal.returns-clause-ok
returns-clause-ok g c = goes_past g.K.Keeper.kept c.args.sites.now c.args.set.now c.args.member (λ copy. let e = c.is_copy_at.ensures.1 copy in cc) c.args.step c.requires.open

pub returns-clause-reads : goal.returns-clause-reads
returns-clause-reads g c = none_read g.K.Keeper.kept c.args.sites.now c.args.step

pub returns-clause-counted : goal.returns-clause-counted
returns-clause-counted g c = none_counted g.K.Keeper.kept c.args.sites.now c.args.step
