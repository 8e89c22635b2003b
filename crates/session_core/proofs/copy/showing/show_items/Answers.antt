use Rattle.std.specs.Prelude.{codes}
use Rattle.run_commands.specs.parts.laws.Composing.{no_memory, part_err}
use Rattle.run_commands.specs.target.TargetEvents.{target_events}
use Rattle.session_core.proofs.copy.showing.show_items.Goals as goal

pub returns-in_err-target : goal.returns-in_err-target
returns-in_err-target g c = part_err c.from_residual.result c.from_residual.ensures.1 (no_memory (target_events 0 (codes "dst") (codes "items_copy")) c.requires)

pub returns-in_err-copy : goal.returns-in_err-copy
returns-in_err-copy g c = part_err c.from_residual-in_err-copy.result c.from_residual-in_err-copy.ensures.1 (no_memory (target_events 0 (codes "dst") (codes "items_copy")) c.requires)

pub show_target_rows-requires : goal.show_target_rows-requires
show_target_rows-requires g c = c.requires

pub returns : goal.returns
returns g c = rw (c.in_ok-target.ensures, c.in_ok-copy.ensures) at c.show_target_rows.ensures
