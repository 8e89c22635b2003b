use Rattle.std.proofs.Common.{◌≡◌, ◌∙◌, sym, ap, true}
use Rattle.std.proofs.lemmas.Bool.{false≢true}
use Rattle.site_store.specs.Words.{names}
use Rattle.session_core.specs.Session.{server_names}
use Rattle.session_core.proofs.words.asked_opening.Goals as goal

pub returns-then-not-are_asked-clause-usage : goal.returns-then-not-are_asked-clause-usage
returns-then-not-are_asked-clause-usage g c = λ e other asks.
    let same = c.one_opening_of_words.ensures _ other c.in_ok-opening.opening asks.words c.in_ok-opening.ensures.ok in
    let at : server_names c.in_ok-opening.opening ≡ names c.args.sites.now = ap server_names (sym same) ∙ asks.servers in
    let asked : c.are_asked.result ≡ true = c.are_asked.ensures.1 at in
    false≢true (sym c.if-not-are_asked.true ∙ asked)
