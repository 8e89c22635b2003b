use Rattle.std.proofs.Common.{◌<◌, length, sym, ap, subst, arith}
use Rattle.std.proofs.lemmas.List.{length-map}
use Rattle.std.proofs.lemmas.Result.{err_from_is_err_and}
use Rattle.site_store.specs.Words.{keeps_itself, keeps_then}
use Rattle.load_plan.specs.declared.stored.StoredServer.{StoredServer}
use Rattle.stored_defs.specs.laws.Standing.{all_at_place}
use Rattle.load_defs.specs.Putting.{CanBeLoaded}
use Rattle.load_defs.proofs.AllServers.{loads_start, loads_all, loads_on, loads_stop}
use Rattle.load_defs.proofs.servers.load_servers.Goals as goal

pub loop-server-init : goal.loop-server-init
loop-server-init g c = record {
  leaves = keeps_itself g.K.Keeper.kept c.args.sites.now c.requires.closed;
  loaded = loads_start g.K.Keeper.kept c.args.sites.now c.args.defs.now c.args.stored.now;
}

pub load_server-requires-clause-loads : goal.load_server-requires-clause-loads
load_server-requires-clause-loads g c =
    let below : c.loop-server.server < length c.args.stored.now = omega (arith, c.loop-server-test.true, c.len-server-end.ensures.count, ap length c.requires.servers, length-map c.args.stored.now (λ (s : StoredServer). s.name)) in
    subst (CanBeLoaded c.args.defs.now) (sym c.index-stored-server.is) (all_at_place (CanBeLoaded c.args.defs.now) c.args.stored.now c.loop-server.server c.index-stored-server.result c.requires.loads below)

pub returns-in_err-load_server-clause-stopped : goal.returns-in_err-load_server-clause-stopped
returns-in_err-load_server-clause-stopped g c =
    let p = err_from_is_err_and c.from_residual.result c.from_residual.ensures.1 in
    rw p.1 (loads_stop g.K.Keeper.kept c.args.sites.now c.args.defs.now c.args.stored.now c.loop-server.sites c.load_server.new.sites c.loop-server.server c.loop-server.invariant.leaves.names c.loop-server.invariant.loaded (omega (arith, c.loop-server-test.true, c.len-server-end.ensures.count)) c.index-stored-server.result c.index-stored-server.is c.in_err-load_server.field-0.0 c.in_err-load_server.ensures.fault)

pub loop-server-preserved : goal.loop-server-preserved
loop-server-preserved g c = record {
  leaves = keeps_then g.K.Keeper.kept c.args.sites.now c.loop-server.sites c.load_server.new.sites c.loop-server.invariant.leaves c.in_ok-load_server.ensures.servers;
  loaded = loads_on g.K.Keeper.kept c.args.sites.now c.args.defs.now c.args.stored.now c.loop-server.sites c.load_server.new.sites c.loop-server.server c.loop-server.invariant.leaves.names c.loop-server.invariant.loaded (omega (arith, c.loop-server-test.true, c.len-server-end.ensures.count)) c.index-stored-server.result c.index-stored-server.is c.in_ok-load_server.ensures.ok;
}

pub returns-clause-ok : goal.returns-clause-ok
returns-clause-ok g c = loads_all g.K.Keeper.kept c.args.sites.now c.args.defs.now c.args.stored.now c.loop-server.sites c.loop-server.server (omega (arith, c.loop-server-test.false, c.len-server-end.ensures.count, c.loop-server.auto.server-end)) c.loop-server.invariant.loaded

pub returns-in_err-load_server-clause-servers : goal.returns-in_err-load_server-clause-servers
returns-in_err-load_server-clause-servers g c = keeps_then g.K.Keeper.kept c.args.sites.now c.loop-server.sites c.load_server.new.sites c.loop-server.invariant.leaves c.load_server.ensures.servers
