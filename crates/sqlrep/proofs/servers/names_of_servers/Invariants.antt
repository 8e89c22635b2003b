use Rattle.std.proofs.Common.{◌≡◌, map, take}
use Rattle.sqlrep.proofs.servers.names_of_servers.Given as goal

abbrev pub invariant-loop-word : goal.invariant-loop-word
invariant-loop-word l = l.names ≡ map (λ server. server.name) (take l.word-index l.words)
