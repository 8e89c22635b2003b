use Rattle.repl_types.specs.declared.area.Area.TheVariants as areas
use Rattle.site_store.specs.Records.{NoDamage}
use Rattle.site_store.proofs.Called.{servers_stay, reads, read_fails}
use Rattle.site_store.proofs.sites.Sites.next_spill.Goals as goal

pub invariant_of-self : goal.invariant_of-self
invariant_of-self g c = record { servers = servers_stay g.K.Keeper.kept c.args.self.now c.args.server c.index_mut-site.result.now c.requires c.index_mut-site.ensures.value c.next_spill_at.new.keeper }

pub returns-in-Ok-clause-ok : goal.returns-in-Ok-clause-ok
returns-in-Ok-clause-ok g c = reads g.K.Keeper.kept c.args.self.now c.args.server c.index_mut-site.result.now c.requires c.index_mut-site.ensures.value c.next_spill_at.new.keeper c.args.self.now.buffers _ areas.Spill c.in-Ok.ensures.ok

pub returns-in-Err-clause-fault : goal.returns-in-Err-clause-fault
returns-in-Err-clause-fault g c = read_fails g.K.Keeper.kept c.args.self.now c.args.server c.index_mut-site.result.now c.requires c.index_mut-site.ensures.value c.next_spill_at.new.keeper c.args.self.now.buffers _ c.rollback_all.new.self c.rollback_all.ensures areas.Spill (λ saw. NoDamage) c.in-Err.e c.in-Err.ensures.fault
