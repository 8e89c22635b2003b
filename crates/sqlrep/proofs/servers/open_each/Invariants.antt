use Rattle.std.proofs.Common.{take}
use Rattle.sqlrep.specs.Opened.{AreOpened}
use Rattle.sqlrep.proofs.servers.open_each.Given as goal

abbrev pub invariant-loop-word : goal.invariant-loop-word
invariant-loop-word l = AreOpened (take l.word-index l.words) l.list
