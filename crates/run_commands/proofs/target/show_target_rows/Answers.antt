use Rattle.std.proofs.Common.{refl}
use Rattle.run_commands.specs.parts.laws.Composing.{part_as, part_refused}
use Rattle.run_commands.specs.target.TargetEvents.{target_events}
use Rattle.run_commands.proofs.TargetEvents.{no_such_server}
use Rattle.run_commands.proofs.target.show_target_rows.Goals as goal

-- no server has the name
pub returns-in_default : goal.returns-in_default
returns-in_default g c =
    let number = c.args.number in
    let name = c.args.name in
    let table = c.args.table in
    part_as (target_events number name table) (no_such_server g.K.Keeper.kept c.args.sites.now c.requires number name table c.in_default.ensures) (part_refused (λ refused. refused) c.requires refl c.refuse.ensures)

-- a server has it
pub show_rows_at-requires : goal.show_rows_at-requires
show_rows_at-requires g c = record { server = c.in-Some.ensures; closed = c.requires }

pub returns : goal.returns
returns g c = c.show_rows_at.ensures
