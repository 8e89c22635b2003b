use Rattle.site_store.specs.Words.{looks_none}
use Rattle.source_log.proofs.source.change_applies.Goals as goal

pub returns-in-Start-clause-ok : goal.returns-in-Start-clause-ok
returns-in-Start-clause-ok g c = looks_none g.K.Keeper.kept c.args.sites.now
