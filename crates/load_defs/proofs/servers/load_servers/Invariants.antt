use Rattle.site_store.specs.Words.{KeepsServers}
use Rattle.load_defs.proofs.AllServers.{FirstLoaded}
use Rattle.load_defs.proofs.servers.load_servers.Given as goal

abbrev pub invariant-loop-server : goal.invariant-loop-server
invariant-loop-server g l = record {
  leaves : KeepsServers g.K.Keeper.kept l.fn.sites l.sites;
  loaded : FirstLoaded g.K.Keeper.kept l.fn.sites l.defs l.stored l.sites l.server;
}
