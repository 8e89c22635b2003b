-- What loaded servers hold, and the others.
use Rattle.std.proofs.Common.{[], sym, ◌∙◌, IsTrue}
use Rattle.std.specs.List.{AllByRecursion}
use Rattle.repl_model.specs.Words.{all_weaker, empty_server, LogIsSound, record_fits}
use Rattle.world_store.specs.Words.{becomes_holds, tables_stay}
use Rattle.load_laws.specs.worlds.Loads.{load_server, server_at, load_at}
use Rattle.load_laws.specs.stored.LoadedServers.{is_loaded, LoadedHolds, OthersHold}
use Rattle.load_laws.specs.laws.StoredLists.{all_read}
use Rattle.load_laws.specs.laws.StoredWorlds.{all_sources_stay}
use Rattle.load_laws.specs.laws.Loaded.{loaded_stay}

-- the servers hold what the world after a load calls for at them as they are
pub others_hold_load : OthersHold
others_hold_load defs world n m held sound holds a t = holds a t ∙ sym (tables_stay world (load_at defs n world) (server_at world m) (all_sources_stay defs world n m sound) a t)

-- and the loaded one what it calls for there
pub loaded_server_holds : LoadedHolds
loaded_server_holds defs world n before now sound holds becomes =
    let server = server_at world n in
    let fits = all_read (λ s. AllByRecursion (λ r. IsTrue (record_fits s r)) s.log) world n (empty_server []) (all_weaker LogIsSound (λ s. AllByRecursion (λ r. IsTrue (record_fits s r)) s.log) world (λ s log. log.fits) sound.logs) tt in
    becomes_holds is_loaded (load_at defs n world) server (load_server defs server) (loaded_stay defs server (load_at defs n world) fits) before now (others_hold_load defs world n n before sound holds) becomes
