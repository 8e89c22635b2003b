use Rattle.site_store.proofs.Called.{servers_stay, closes_one}
use Rattle.site_store.proofs.sites.Sites.rollback.Goals as goal

pub invariant_of-self : goal.invariant_of-self
invariant_of-self g c = record { servers = servers_stay g.K.Keeper.kept c.args.self.now c.args.server c.index_mut-site.result.now c.requires c.index_mut-site.ensures.value c.rollback.new.self }

pub returns : goal.returns
returns g c = closes_one g.K.Keeper.kept c.args.self.now c.args.server c.index_mut-site.result.now c.requires c.index_mut-site.ensures.value c.rollback.new.self c.args.self.now.buffers _ c.rollback.ensures
