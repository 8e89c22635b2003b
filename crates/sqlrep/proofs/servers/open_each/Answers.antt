use Rattle.sqlrep.proofs.NewServers.{opened_more}
use Rattle.sqlrep.proofs.servers.open_each.Goals as goal

pub loop-word-preserved : goal.loop-word-preserved
loop-word-preserved c = rw c.in_ok-push.ensures.items (opened_more c.args.words.now c.loop-word.word-index c.word-item.result c.loop-word.list c.in_ok-open_server.field-0 c.loop-word-test.true c.word-item.is c.loop-word.invariant c.in_ok-open_server.ensures.named c.in_ok-open_server.ensures.opened)
