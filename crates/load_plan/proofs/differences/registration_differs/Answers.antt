use Rattle.std.proofs.Common.{rules, ◌<◌, length, bytes_eq}
use Rattle.row_codec.specs.Definitions.{HasRegistrationSpelling}
use Rattle.load_plan.specs.Differences.{IsSpelledServer}
use Rattle.load_plan.proofs.Found.{head_holds, part_holds}
use Rattle.load_plan.proofs.differences.registration_differs.Goals as goal

pub differs-requires-clause-stored : goal.differs-requires-clause-stored
differs-requires-clause-stored c =
    let within : c.servers.server-index < length c.args.stored.now = search rules in
    let spelled = head_holds IsSpelledServer c.args.stored.now c.servers.server-index c.server-item.result within c.server-item.is c.servers.invariant.spelled in
    part_holds (λ d. d.now) (λ row. row.registration) HasRegistrationSpelling (λ row. bytes_eq c.args.registration.now.def.table row.registration.table) c.server-item.result.registrations c.registration_at-standing.result c.registration_at-standing.ensures spelled.registrations
