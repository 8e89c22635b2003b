use Rattle.site_store.specs.Records.{IsMissing, MissesOrMisreads, Misspelt}
use Rattle.site_store.proofs.Called.{servers_stay, reads, read_fails}
use Rattle.site_store.proofs.sites.Sites.get_needed.Goals as goal

pub invariant_of-self : goal.invariant_of-self
invariant_of-self g c = record { servers = servers_stay g.K.Keeper.kept c.args.self.now c.args.server c.index_mut-site.result.now c.requires c.index_mut-site.ensures.value c.get_needed_record.new.keeper }

pub returns-in-Ok-clause-ok : goal.returns-in-Ok-clause-ok
returns-in-Ok-clause-ok g c = reads g.K.Keeper.kept c.args.self.now c.args.server c.index_mut-site.result.now c.requires c.index_mut-site.ensures.value c.get_needed_record.new.keeper c.get_needed_record.new.buffers _ g.R.Stored.AREA c.in-Ok.ensures.ok

pub returns-in-Err-clause-fault : goal.returns-in-Err-clause-fault
returns-in-Err-clause-fault g c =
    let a = g.R.Stored.AREA in
    let number = g.R.Table.TableNumber.number c.args.table in
    let key = g.R.Key.Key.spelling c.args.key.now in
    read_fails g.K.Keeper.kept c.args.self.now c.args.server c.index_mut-site.result.now c.requires c.index_mut-site.ensures.value c.get_needed_record.new.keeper c.get_needed_record.new.buffers _ c.rollback_all.new.self c.rollback_all.ensures a (λ saw. MissesOrMisreads a (IsMissing a number key saw) (Misspelt g.R.Part.fits g.R.Part.spelling a number key saw)) c.in-Err.e c.in-Err.ensures.fault
