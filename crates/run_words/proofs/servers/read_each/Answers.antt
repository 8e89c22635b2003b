use Rattle.std.proofs.Common.{[], sym, rules}
use Rattle.std.proofs.lemmas.List.{length-map, get_or-map}
use Rattle.std.proofs.lemmas.List.Elements.{All-push}
use Rattle.clap.specs.Walk.{texts}
use Rattle.run_words.specs.Openings.{word_of, IsServerWord}
use Rattle.run_words.proofs.OneServer.{one_word_more, no_server_at}
use Rattle.run_words.proofs.servers.read_each.Goals as goal

pub returns-in_err-read_server-clause-usage : goal.returns-in_err-read_server-clause-usage
returns-in_err-read_server-clause-usage c = λ usage servers.
    no_server_at (texts c.args.words.now) servers c.loop-word.word-index _ (rw length-map c.loop-word-test.true)
    (sym (get_or-map (λ word. word.now) c.args.words.now c.loop-word.word-index _ [] c.loop-word-test.true))
    (c.read_server.ensures.usage (search rules))

pub loop-word-preserved : goal.loop-word-preserved
loop-word-preserved c =
    let server = c.in_ok-read_server.field-0 in
    record {
      each = rw c.in_ok-push.ensures.items (All-push IsServerWord c.loop-word.servers server c.loop-word.invariant.each c.in_ok-read_server.ensures.ok.0);
      spelled = rw c.in_ok-push.ensures.items (
          one_word_more (λ word. word.now) word_of c.args.words.now c.loop-word.word-index _ c.loop-word.servers server c.loop-word-test.true c.in_ok-read_server.ensures.ok.1 c.loop-word.invariant.spelled
          );
    }
