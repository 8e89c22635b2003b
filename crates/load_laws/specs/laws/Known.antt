-- What is known in a world is what its servers keep of it.
use Rattle.std.proofs.Common.{◌≡◌, ℕ, false, List, map, Option, Some, None, refl, ap, ◌∙◌, filter, is_some, flat_map, bytes_eq}
use Rattle.std.specs.Option.{option_map, option_map_or}
use Rattle.std.proofs.lemmas.Simd.{map-map}
use Rattle.std.proofs.lemmas.List.Folds.{flat_map-map}
use Rattle.world_store.specs.Words.{table_rows, registration_rows, target_set_rows}
use Rattle.repl_model.specs.Words.{SetId, DefinedTable, DefinedRegistration, SetDef, TargetSet, IsSound, ServerKeepsRules, SourceSide, Server, World, server_named, source_side, at_one, found_in, find_image, image_stands}
use Rattle.load_laws.specs.known.Known.{stands_at_source}
use Rattle.load_plan.specs.Stored.{source_at}
use Rattle.load_plan.specs.declared.stored.StoredServer.{StoredServer}
use Rattle.load_laws.specs.planned.Planned.{stored_server, stored_servers, stands_stored}
use Rattle.load_laws.specs.planned.PlannedLoads.{KnowsStored}
use Rattle.load_laws.specs.laws.StoredPlans.{source_stored}

-- a set stands at its source exactly if that keeps it
stands_is : (world : World) → IsSound world → (def : SetDef) → stands_stored (stored_servers world) def ≡ stands_at_source world def
stands_is world sound def =
    ap (λ (o : Option StoredServer). option_map_or (λ source. is_some (source_at def.id source)) o false) (find_image stored_server (λ (source : StoredServer). bytes_eq def.source source.name) world)
    ∙ by_server (server_named def.source world) refl
  where
    by_server : (o : Option Server) → server_named def.source world ≡ o → option_map_or (λ source. is_some (source_at def.id source)) (option_map stored_server o) false ≡ option_map_or (λ source. is_some (source_side def.id source)) o false
    by_server None e = refl
    by_server (Some s) e =
        ap is_some (source_stored world s (at_one (ServerKeepsRules world) world s sound.definitions.servers (found_in (λ (server : Server). bytes_eq def.source server.name) world s e).0) def.id)
        ∙ image_stands (λ (side : SourceSide). side.def) (source_side def.id s)

-- what is known in a sound world is what its servers keep
pub knows_stored : KnowsStored
knows_stored world sound =
    let tables =
    flat_map-map (λ (server : StoredServer). map (λ (row : DefinedTable). record { server = server.name; def = row.def }) server.tables) stored_server world
    ∙ (λ i. flat_map (λ (server : Server). map-map (λ (row : DefinedTable). record { server = server.name; def = row.def }) (λ (r : List ℕ × DefinedTable). r.1) (table_rows server) i) world) in
    let registrations =
    flat_map-map (λ (server : StoredServer). map (λ (row : DefinedRegistration). record { server = server.name; def = row.registration }) server.registrations) stored_server world
    ∙ (λ i. flat_map (λ (server : Server). map-map (λ (row : DefinedRegistration). record { server = server.name; def = row.registration }) (λ (r : List ℕ × DefinedRegistration). r.1) (registration_rows server) i) world) in
    let sets =
    flat_map-map (λ (server : StoredServer). filter (stands_stored (stored_servers world)) (map (λ (row : TargetSet). row.def) server.targets)) stored_server world
    ∙ (λ i. flat_map (λ (server : Server). filter (λ def. stands_is world sound def i) (map-map (λ (row : TargetSet). row.def) (λ (r : SetId × TargetSet). r.1) (target_set_rows server) i)) world) in
    λ i. record { tables = tables i; registrations = registrations i; sets = sets i }
