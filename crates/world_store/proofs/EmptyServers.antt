-- Servers that hold nothing stand for the empty world.
use Rattle.std.proofs.Common.{◌≡◌, ℕ, zero, suc, List, [], ◌∷◌, map, Some, refl, ap}
use Rattle.std.specs.List.{AllZip}
use Rattle.repl_model.specs.Words.{World, restart_after, empty_server, empty_world, units, by_key}
use Rattle.repl_types.specs.declared.area.Area.TheVariants as areas
use Rattle.rows_in_order.specs.Contents.{nothing}
use Rattle.world_store.specs.Tables.{tables, first_table}
use Rattle.world_store.specs.Stands.{Holds, Reveals}

-- an empty server holds what an empty server is to hold
empty_holds : (world : World) (name : List ℕ) → Holds world (empty_server name) nothing
unfolding tables first_table units by_key restart_after
empty_holds world name areas.Log zero = refl
empty_holds world name areas.Log (suc n) = refl
empty_holds world name areas.Source n = refl
empty_holds world name areas.Inflight zero = refl
empty_holds world name areas.Inflight (suc n) = refl
empty_holds world name areas.Head zero = refl
empty_holds world name areas.Head (suc n) = refl
empty_holds world name areas.Defs zero = refl
empty_holds world name areas.Defs (suc zero) = refl
empty_holds world name areas.Defs (suc (suc zero)) = refl
empty_holds world name areas.Defs (suc (suc (suc zero))) = refl
empty_holds world name areas.Defs (suc (suc (suc (suc n)))) = refl
empty_holds world name areas.Cd n = refl
empty_holds world name areas.Uow zero = refl
empty_holds world name areas.Uow (suc n) = refl
empty_holds world name areas.Capture zero = refl
empty_holds world name areas.Capture (suc zero) = refl
empty_holds world name areas.Capture (suc (suc n)) = refl
empty_holds world name areas.Prune zero = refl
empty_holds world name areas.Prune (suc zero) = refl
empty_holds world name areas.Prune (suc (suc zero)) = refl
empty_holds world name areas.Prune (suc (suc (suc n))) = refl
empty_holds world name areas.Spill n = refl
empty_holds world name areas.Target n = refl
empty_holds world name areas.SetState zero = refl
empty_holds world name areas.SetState (suc zero) = refl
empty_holds world name areas.SetState (suc (suc n)) = refl
empty_holds world name areas.Trail n = refl

-- each server reveals what it is to hold
pub all_reveal : (world : World) (names : List (List ℕ)) → AllZip (Reveals world) (empty_world names) (map (λ name. Some nothing) names)
all_reveal world [] = tt
all_reveal world (name ∷ names) = ((nothing, refl, empty_holds world name), all_reveal world names)

-- the servers have these names
pub named : (names : List (List ℕ)) → map (λ server. server.name) (empty_world names) ≡ names
named [] = refl
named (name ∷ names) = ap (λ (rest : List (List ℕ)). name ∷ rest) (named names)
