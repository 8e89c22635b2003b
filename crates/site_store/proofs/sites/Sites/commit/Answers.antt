use Rattle.site_store.proofs.Called.{servers_stay, commits, in_doubt}
use Rattle.site_store.proofs.sites.Sites.commit.Goals as goal

pub invariant_of-self : goal.invariant_of-self
invariant_of-self g c = record { servers = servers_stay g.K.Keeper.kept c.args.self.now c.args.server c.index_mut-site.result.now c.requires.server c.index_mut-site.ensures.value c.commit_at.new.keeper }

pub returns-in-Ok-clause-ok : goal.returns-in-Ok-clause-ok
returns-in-Ok-clause-ok g c = commits g.K.Keeper.kept c.args.self.now c.args.server c.index_mut-site.result.now c.requires.server c.index_mut-site.ensures.value c.commit_at.new.keeper c.args.self.now.buffers _ c.in-Ok.ensures.ok

pub returns-in-Err-clause-fault : goal.returns-in-Err-clause-fault
returns-in-Err-clause-fault g c = in_doubt g.K.Keeper.kept c.args.self.now c.args.server c.index_mut-site.result.now c.requires.server c.index_mut-site.ensures.value c.commit_at.new.keeper c.args.self.now.buffers _ c.rollback_all.new.self c.rollback_all.ensures c.in-Err.e c.in-Err.ensures.fault
