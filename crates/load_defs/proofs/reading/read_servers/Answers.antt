use Rattle.std.proofs.Common.{◌≡◌, ◌*◌, ◌<◌, ◌≤◌, ◌+◌, ◌++◌, ◌∷◌, ℕ, [], List, length, map, take, get_or, ap, sym, subst, ◌∙◌, arith}
use Rattle.std.proofs.lemmas.List.{map_more, take_more, map-append}
use Rattle.std.proofs.lemmas.Result.{err_from_is_err_and}
use Rattle.site_store.specs.Words.{names, stays_then}
use Rattle.repl_model.specs.Words.{all_append, empty_server, server_in}
use Rattle.stored_defs.specs.DefinitionReads.{in_defs, server_reads, known_reads}
use Rattle.stored_defs.specs.laws.Blaming.{fails_later}
use Rattle.stored_defs.specs.laws.DefinitionReads.{defs_more}
use Rattle.stored_defs.specs.laws.Standing.{same_count, stands_on}
use Rattle.load_plan.specs.Differences.{IsSpelledServer}
use Rattle.load_plan.specs.declared.stored.StoredServer.{StoredServer}
use Rattle.load_laws.specs.planned.Planned.{stored_server, stored_servers}
use Rattle.load_defs.proofs.reading.read_servers.Goals as goal

pub returns-in_err-read_server-clause-fault : goal.returns-in_err-read_server-clause-fault
returns-in_err-read_server-clause-fault g c =
    let few : c.loop-server.server * server_reads + server_reads ≤ known_reads = omega (arith, c.loop-server-test.true, c.len-server-end.ensures.count, c.len-server-end.ensures.servers.few) in
    let p = err_from_is_err_and c.from_residual.result c.from_residual.ensures.1 in
    rw (p.1, p.2) (fails_later g.K.Keeper.kept c.args.sites.now c.loop-server.sites c.read_server.new.sites (in_defs (c.loop-server.server * server_reads)) (in_defs server_reads) (in_defs known_reads) c.in_err-read_server.field-0.0 (defs_more (c.loop-server.server * server_reads) server_reads known_reads few) c.loop-server.invariant.stays c.in_err-read_server.ensures.fault)

pub loop-server-preserved : goal.loop-server-preserved
loop-server-preserved g c =
    let kept = g.K.Keeper.kept in
    let s0 = c.args.sites.now in
    let n = c.loop-server.server in
    let server = c.in_ok-read_server.field-0 in
    let within : n < length (names s0) = omega (arith, c.loop-server-test.true, c.len-server-end.ensures.count) in
    record {
      stays = stays_then kept s0 c.loop-server.sites c.read_server.new.sites (in_defs (n * server_reads)) (in_defs server_reads) (in_defs ((n + 1) * server_reads)) c.loop-server.invariant.stays c.in_ok-read_server.ensures.ok (defs_more (n * server_reads) server_reads ((n + 1) * server_reads) (omega arith));
      stored = λ w stands.
          let before : c.loop-server.stored ≡ stored_servers (take n w) = c.loop-server.invariant.stored w stands in
          let this : server ≡ stored_server (server_in w n) = c.in_ok-read_server.ensures.stored w (stands_on kept s0 c.loop-server.sites (in_defs (n * server_reads)) w c.loop-server.invariant.stays stands) in
          c.in_ok-push.ensures.items
          ∙ (λ i. before i ++ this i ∷ [])
          ∙ sym (map_more stored_server w n (empty_server []) (omega (arith, within, same_count kept s0 c.requires.closed w stands)));
      names =
          let this : server.name ≡ get_or (names s0) n [] = subst (λ (l : List (List ℕ)). server.name ≡ get_or l n []) c.loop-server.invariant.stays.passes.names c.in_ok-read_server.ensures.name in
          let before : map (λ (s : StoredServer). s.name) c.loop-server.stored ≡ take n (names s0) = c.loop-server.invariant.names in
          ap (map (λ (s : StoredServer). s.name)) c.in_ok-push.ensures.items
          ∙ map-append (λ (s : StoredServer). s.name) c.loop-server.stored (server ∷ [])
          ∙ (λ i. before i ++ this i ∷ [])
          ∙ sym (take_more (names s0) n [] within);
      spelled = rw c.in_ok-push.ensures.items (all_append IsSpelledServer c.loop-server.stored (server ∷ []) c.loop-server.invariant.spelled (c.in_ok-read_server.ensures.spelled, tt));
    }
