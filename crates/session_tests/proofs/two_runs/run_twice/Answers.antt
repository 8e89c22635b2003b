use Rattle.std.proofs.Common.{List, ℕ, map, sym, subst, string_bytes}
use Rattle.world_store.specs.Words.{Stands}
use Rattle.site_store.specs.Words.{names, held, keeps_then}
use Rattle.session_core.specs.Inputs.{OfInput}
use Rattle.session_core.specs.Session.{Asks, run_events}
use Rattle.session_tests.specs.TwoRuns.{HasBegun}
use Rattle.session_tests.proofs.Begun.{begun, both_begun}
use Rattle.session_tests.proofs.two_runs.run_twice.Goals as goal

pub session-two-requires : goal.session-two-requires
session-two-requires g c = c.session-one.ensures.servers.closed

pub returns : goal.returns
returns g c =
    let kept = g.K.Keeper.kept in
    let s0 = c.args.sites.now in
    let s1 = c.session-one.new.sites in
    let s2 = c.session-two.new.sites in
    let given = names s0 in
    let same = c.session-one.ensures.servers.names in
    record {
      goes_on = λ opening w asks stands. both_begun (Stands given) (run_events opening) (run_events opening) w (held kept s1) (held kept s2) (g.I.Source.left c.args.first.now) (g.I.Source.left c.args.second.now)
          (begun (Stands given) (λ bytes. run_events opening bytes w) w (held kept s1) (g.I.Source.left c.args.first.now) (g.O.Sink.taken c.args.output.now) (g.O.Sink.taken c.session-one.new.output) c.session-one.result (λ done. c.session-one.ensures.done done opening w asks stands) (λ stopped. c.session-one.ensures.stopped stopped opening w asks stands))
          (λ v at. let asks_on = subst (λ (l : List (List ℕ)). Asks (map string_bytes c.args.words.now) l opening) (sym same) asks in
          subst (λ (l : List (List ℕ)). OfInput (g.I.Source.left c.args.second.now) (λ bytes. HasBegun (Stands l) (run_events opening bytes v) v (held kept s2))) same
          (begun (Stands (names s1)) (λ bytes. run_events opening bytes v) v (held kept s2) (g.I.Source.left c.args.second.now) (g.O.Sink.taken c.session-one.new.output) (g.O.Sink.taken c.session-two.new.output) c.session-two.result (λ done. c.session-two.ensures.done done opening v asks_on (subst (λ (l : List (List ℕ)). Stands l (held kept s1) v) (sym same) at)) (λ stopped. c.session-two.ensures.stopped stopped opening v asks_on (subst (λ (l : List (List ℕ)). Stands l (held kept s1) v) (sym same) at))));
      servers = keeps_then kept s0 s1 s2 c.session-one.ensures.servers c.session-two.ensures.servers;
    }
