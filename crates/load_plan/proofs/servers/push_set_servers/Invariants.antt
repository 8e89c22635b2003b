use Rattle.std.proofs.Common.{◌≡◌, ◌∷◌, [], ◌++◌, drop, flat_map}
use Rattle.load_plan.proofs.servers.push_set_servers.Given as goal

abbrev pub invariant-sets : goal.invariant-sets
invariant-sets l = l.names ++ flat_map (λ def. def.source ∷ def.target ∷ []) (drop l.set-index l.sets) ≡ l.initial.names ++ flat_map (λ def. def.source ∷ def.target ∷ []) l.sets
