use Rattle.repl_model.specs.Words.{empty_world, empty_is_sound}
use Rattle.world_store.proofs.EmptyServers.{all_reveal, named}
use Rattle.world_store.proofs.empty_servers_stand.Goals as goal

pub returns : goal.returns
returns c names h = record { sound = empty_is_sound names h; named = named names; servers = all_reveal (empty_world names) names }
