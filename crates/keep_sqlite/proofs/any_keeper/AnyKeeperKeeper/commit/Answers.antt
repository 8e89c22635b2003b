use Rattle.keep_sqlite.proofs.any_keeper.AnyKeeperKeeper.commit.Goals as goal

pub returns-in-Map-clause-err : goal.returns-in-Map-clause-err
returns-in-Map-clause-err g c = rw c.in-Map.is c.commit.ensures.err
