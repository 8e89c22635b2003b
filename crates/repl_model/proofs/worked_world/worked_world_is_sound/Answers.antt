use Rattle.repl_model.specs.laws.WorkedWorld.{one_known, world_sound}
use Rattle.repl_model.proofs.worked_world.worked_world_is_sound.Goals as goal

pub returns-clause-sound : goal.returns-clause-sound
returns-clause-sound c = world_sound

pub returns-clause-known : goal.returns-clause-known
returns-clause-known c = one_known
