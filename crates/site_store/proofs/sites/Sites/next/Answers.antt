use Rattle.std.specs.Option.{option_copied}
use Rattle.site_store.specs.Records.{after_key, Misread, MisspeltNext}
use Rattle.site_store.proofs.Called.{servers_stay, reads, read_fails}
use Rattle.site_store.proofs.sites.Sites.next.Goals as goal

pub invariant_of-self : goal.invariant_of-self
invariant_of-self g c = record { servers = servers_stay g.K.Keeper.kept c.args.self.now c.args.server c.index_mut-site.result.now c.requires c.index_mut-site.ensures.value c.next_record.new.keeper }

pub returns-in-Ok-clause-ok : goal.returns-in-Ok-clause-ok
returns-in-Ok-clause-ok g c = reads g.K.Keeper.kept c.args.self.now c.args.server c.index_mut-site.result.now c.requires c.index_mut-site.ensures.value c.next_record.new.keeper c.next_record.new.buffers _ g.R.Stored.AREA c.in-Ok.ensures.ok

pub returns-in-Err-clause-fault : goal.returns-in-Err-clause-fault
returns-in-Err-clause-fault g c = read_fails g.K.Keeper.kept c.args.self.now c.args.server c.index_mut-site.result.now c.requires c.index_mut-site.ensures.value c.next_record.new.keeper c.next_record.new.buffers _ c.rollback_all.new.self c.rollback_all.ensures g.R.Stored.AREA (λ saw. Misread g.R.Stored.AREA (MisspeltNext g.R.Key.Key.fits g.R.Key.Key.spelling g.R.Part.fits g.R.Part.spelling g.R.Stored.AREA (g.R.Table.TableNumber.number c.args.table) (after_key g.R.Key.Key.spelling (option_copied c.args.after)) saw)) c.in-Err.e c.in-Err.ensures.fault
