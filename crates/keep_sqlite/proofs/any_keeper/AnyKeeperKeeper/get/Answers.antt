use Rattle.keep_sqlite.proofs.any_keeper.AnyKeeperKeeper.get.Goals as goal

pub returns-in-Map-clause-ok : goal.returns-in-Map-clause-ok
returns-in-Map-clause-ok g c = rw c.in-Map.is c.get.ensures.ok

pub returns-in-Map-clause-err : goal.returns-in-Map-clause-err
returns-in-Map-clause-err g c = rw c.in-Map.is c.get.ensures.err
