use Rattle.std.proofs.Common.{◌≡◌, take}
use Rattle.site_store.specs.Words.{GoesOn}
use Rattle.source_log.specs.Reading.{with_dropped}
use Rattle.source_log.proofs.in_flight.drop_changes.Given as goal

abbrev pub invariant-positions : goal.invariant-positions
invariant-positions g l = GoesOn g.K.Keeper.kept l.fn.sites l.sites l.server (λ c d. d ≡ with_dropped l.tx (take l.pos-index l.positions) c)
