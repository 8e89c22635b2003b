use Rattle.load_laws.specs.laws.Read.{reads_whole}
use Rattle.set_tests.proofs.servers.load_text.Goals as goal

pub load-requires-clause-raw : goal.load-requires-clause-raw
load-requires-clause-raw c = reads_whole _ c.in_ok-raw.raw c.in_ok-raw.ensures.ok
