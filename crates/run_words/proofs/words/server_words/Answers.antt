use Rattle.std.proofs.Common.{codes, map, string_bytes, subst, sym, ap, ◌∙◌, rules, Option, List, ℕ, Some}
use Rattle.std.proofs.lemmas.Bool.{false≢true}
use Rattle.std.proofs.lemmas.Option.{same_Some, none-some}
use Rattle.clap.specs.Walk.{texts}
use Rattle.clap.specs.Words.{all_of, fault_of, first_of}
use Rattle.run_words.specs.Command.{server_app}
use Rattle.run_words.specs.Openings.{SaysCells}
use Rattle.run_words.proofs.OneOpening.{rows_read, no_cells, no_servers}
use Rattle.run_words.proofs.words.server_words.Goals as goal

pub returns-in_default-clause-usage : goal.returns-in_default-clause-usage
returns-in_default-clause-usage c = λ usage opening.
    let words = map string_bytes c.args.words.now in
    let read = rows_read _ _ words c.in_ok-matches.ensures.rows (ap texts c.as_slice.ensures.value ∙ c.in_ok-all.ensures) in
    no_cells words opening (λ copy. false≢true (c.if-asks_copy.ensures.1 copy))
    (λ cells fits says. c.in_default.ensures cells fits (subst (λ (t : Option (List ℕ)). SaysCells t cells) (sym (c.cells_text.ensures ∙ ap (first_of (codes "cells")) read)) says))

pub returns-in_default-server_texts-clause-usage : goal.returns-in_default-server_texts-clause-usage
returns-in_default-server_texts-clause-usage c = λ usage opening.
    let words = map string_bytes c.args.words.now in
    let read = rows_read _ _ words c.in_ok-matches.ensures.rows (ap texts c.as_slice.ensures.value ∙ c.in_ok-all.ensures) in
    no_servers words opening (λ copy. false≢true (c.if-asks_copy.ensures.1 copy))
    (λ servers right are. none-some _ (c.in_default-server_texts.ensures ∙ ap (all_of (codes "servers")) read ∙ are))

pub returns-in_err-servers-clause-usage : goal.returns-in_err-servers-clause-usage
returns-in_err-servers-clause-usage c = λ usage opening.
    let words = map string_bytes c.args.words.now in
    let read = rows_read _ _ words c.in_ok-matches.ensures.rows (ap texts c.as_slice.ensures.value ∙ c.in_ok-all.ensures) in
    no_servers words opening (λ copy. false≢true (c.if-asks_copy.ensures.1 copy))
    (λ servers right are. c.read_servers.ensures.usage (search rules) servers right (same_Some _ _ (c.in-Some-server_texts.ensures ∙ ap (all_of (codes "servers")) read ∙ are)))

pub returns-clause-ok : goal.returns-clause-ok
returns-clause-ok c =
    let words_are = ap texts c.as_slice.ensures.value ∙ c.in_ok-all.ensures in
    let read = rows_read _ _ (map string_bytes c.args.words.now) c.in_ok-matches.ensures.rows words_are in
    let servers = c.in_ok-servers.ensures.ok in
    record {
      right = (c.in-Some.ensures.0, servers.0);
      spelled = record {
        taken = ap (fault_of server_app) (sym words_are) ∙ c.in_ok-matches.ensures.ok;
        option = subst (λ (t : Option (List ℕ)). SaysCells t c.in-Some.cells) (c.cells_text.ensures ∙ ap (first_of (codes "cells")) read) c.in-Some.ensures.1;
        values = ap (all_of (codes "servers")) (sym read) ∙ sym c.in-Some-server_texts.ensures ∙ ap Some servers.1;
      };
    }
