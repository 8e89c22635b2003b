use Rattle.keep_sqlite.proofs.any_keeper.AnyKeeperKeeper.rollback.Goals as goal

pub returns-in-Map : goal.returns-in-Map
returns-in-Map g c = rw c.in-Map.is c.rollback.ensures.closes
