use Rattle.std.proofs.Common.{sym, subst, ◌∙◌}
use Rattle.std.specs.List.{AllPairs}
use Rattle.std.proofs.lemmas.Bool.{true≢false}
use Rattle.run_words.specs.Openings.{GoTogether}
use Rattle.run_words.proofs.OneServer.{same_servers}
use Rattle.run_words.proofs.servers.read_servers.Goals as goal

pub returns-then-not-all_go_together-clause-usage : goal.returns-then-not-all_go_together-clause-usage
returns-then-not-all_go_together-clause-usage c = λ usage servers right same.
    let found = c.in_ok-servers.ensures.ok in
    let these = same_servers servers c.in_ok-servers.servers right.each found.0 (sym same ∙ found.1) in
    true≢false (sym (c.all_go_together.ensures.1 (subst (AllPairs GoTogether) (these ∙ sym c.as_slice.ensures) right.together)) ∙ c.if-not-all_go_together.true)
