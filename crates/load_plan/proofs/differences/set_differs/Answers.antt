use Rattle.std.proofs.Common.{rules, ◌<◌, length}
use Rattle.repl_model.specs.Words.{HasSetDefSpelling, same_set}
use Rattle.load_plan.specs.Differences.{IsSpelledServer}
use Rattle.load_plan.proofs.Found.{head_holds, part_holds}
use Rattle.load_plan.proofs.differences.set_differs.Goals as goal

pub differs-requires-clause-stored : goal.differs-requires-clause-stored
differs-requires-clause-stored c =
    let within : c.servers.server-index < length c.args.stored.now = search rules in
    let spelled = head_holds IsSpelledServer c.args.stored.now c.servers.server-index c.server-item.result within c.server-item.is c.servers.invariant.spelled in
    part_holds (λ d. d.now) (λ row. row.def) HasSetDefSpelling (λ row. same_set c.args.set.now.id row.def.id) c.server-item.result.sources c.source_at.result c.source_at.ensures spelled.sources

pub differs-requires-else-branch-clause-stored : goal.differs-requires-else-branch-clause-stored
differs-requires-else-branch-clause-stored c =
    let within : c.servers.server-index < length c.args.stored.now = search rules in
    let spelled = head_holds IsSpelledServer c.args.stored.now c.servers.server-index c.server-item.result within c.server-item.is c.servers.invariant.spelled in
    part_holds (λ d. d.now) (λ row. row.def) HasSetDefSpelling (λ row. same_set c.args.set.now.id row.def.id) c.server-item.result.targets c.target_at.result c.target_at.ensures spelled.targets
