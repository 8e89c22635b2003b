use Rattle.world_store.specs.Words.{b64}
use Rattle.site_store.specs.Words.{IsLastKey, GoesOn}
use Rattle.repl_types.specs.declared.area.Area.TheVariants as areas
use Rattle.source_log.specs.Rules.{IsKnown}
use Rattle.source_log.proofs.TakenFirst.{TookSome}
use Rattle.source_log.proofs.appending.take_first.Given as goal

abbrev pub invariant-records : goal.invariant-records
invariant-records g l = GoesOn g.K.Keeper.kept l.fn.sites l.sites l.server (λ c d. IsLastKey (c areas.Log 0) (b64 l.fn.head.last) × TookSome l.fn.head l.records l.taken l.end c d × IsKnown l.known d)
