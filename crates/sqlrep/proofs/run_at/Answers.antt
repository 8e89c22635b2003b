use Rattle.std.proofs.Common.{◌≡◌, ◌≤◌, ◌∙◌, ℕ, List, sym, subst, ◌≢◌, IsTrue}
use Rattle.std.proofs.lemmas.Result.{IfOk-weaker}
use Rattle.site_store.specs.Words.{list_of, names, held}
use Rattle.keep_sqlite.specs.AnyKeepers.{any_kept}
use Rattle.run_words.specs.declared.opening.ServerWord.{ServerWord}
use Rattle.session_core.specs.Inputs.{OfInput}
use Rattle.sqlrep.specs.Endings.{code_of, done_code, usage_code}
use Rattle.sqlrep.specs.Opened.{AreOpened, all_in_memory}
use Rattle.sqlrep.specs.Runs.{RanWhole}
use Rattle.sqlrep.proofs.NewServers.{all_closed}
use Rattle.sqlrep.proofs.RunEnds.{asks_here, stands_empty, done_by_code, usage_by_code, ran_whole}
use Rattle.sqlrep.proofs.run_at.Goals as goal

pub session-status-requires : goal.session-status-requires
session-status-requires g c = all_closed c.args.servers.now (list_of c.args.sites.now) c.requires.opened

pub returns : goal.returns
returns g c =
    let opening = c.args.opening.now in
    let sites = c.args.sites.now in
    let opened = subst (λ (words : List ServerWord). AreOpened words (list_of sites)) c.requires.servers c.requires.opened in
    let asks = asks_here opening _ sites c.requires.words opened in
    let status = c.session-status.result in
    record {
      runs = IfOk-weaker c.ending_of.result (λ ending. ending.code ≡ code_of status) (λ ending. ending.code ≢ usage_code) (λ ending is usage. c.session-status.ensures.usage (usage_by_code status (sym is ∙ usage)) opening asks) c.ending_of.ensures.code;
      whole = λ in_memory.
          let stands = stands_empty opening _ sites c.requires.words opened (subst (λ (words : List ServerWord). IsTrue (all_in_memory words)) c.requires.servers in_memory) c.empty_servers_stand.ensures in
          IfOk-weaker c.ending_of.result (λ ending. ending.code ≡ code_of status) (λ ending. ending.code ≤ done_code → OfInput (g.I.Source.left c.args.input.now) (RanWhole opening (g.O.Sink.taken c.args.output.now) (g.O.Sink.taken c.session-status.new.output) ending.code)) (λ ending is le. ran_whole opening (names sites) (held any_kept c.session-status.new.sites) (g.I.Source.left c.args.input.now) (g.O.Sink.taken c.args.output.now) (g.O.Sink.taken c.session-status.new.output) status ending.code is
          (c.session-status.ensures.done (done_by_code status (subst (λ (n : ℕ). n ≤ done_code) is le)) opening _ asks stands)) c.ending_of.ensures.code;
    }
