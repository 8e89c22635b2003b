use Rattle.std.specs.Prelude.{None}
use Rattle.site_store.proofs.Called.{servers_stay, puts, write_fails}
use Rattle.site_store.proofs.sites.Sites.remove.Goals as goal

pub invariant_of-self : goal.invariant_of-self
invariant_of-self g c = record { servers = servers_stay g.K.Keeper.kept c.args.self.now c.args.server c.index_mut-site.result.now c.requires.server c.index_mut-site.ensures.value c.remove_record.new.keeper }

pub returns-in-Ok-clause-ok : goal.returns-in-Ok-clause-ok
returns-in-Ok-clause-ok g c = puts g.K.Keeper.kept c.args.self.now c.args.server c.index_mut-site.result.now c.requires.server c.index_mut-site.ensures.value c.remove_record.new.keeper c.remove_record.new.buffers _ g.R.Stored.AREA (g.R.Table.TableNumber.number c.args.table) (g.R.Key.Key.spelling c.args.key.now) None c.requires.open c.in-Ok.ensures.ok

pub returns-in-Err-clause-fault : goal.returns-in-Err-clause-fault
returns-in-Err-clause-fault g c = write_fails g.K.Keeper.kept c.args.self.now c.args.server c.index_mut-site.result.now c.requires.server c.index_mut-site.ensures.value c.remove_record.new.keeper c.remove_record.new.buffers _ c.rollback_all.new.self c.rollback_all.ensures g.R.Stored.AREA c.in-Err.e c.in-Err.ensures.fault
