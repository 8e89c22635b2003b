use Rattle.site_store.specs.Words.{GoesOn}
use Rattle.stored_commits.specs.units.StoredChanges.{with_change_rows}
use Rattle.cd_tables.specs.Appending.{Becomes}
use Rattle.cd_tables.specs.Reading.{ReadsNoLog}
use Rattle.cd_tables.proofs.changes.put_change_rows.Given as goal

abbrev pub invariant-loop-row : goal.invariant-loop-row
invariant-loop-row g l = record {
  reads : ReadsNoLog g.K.Keeper.kept l.fn.sites l.sites;
  goes : GoesOn g.K.Keeper.kept l.fn.sites l.sites l.server (Becomes (with_change_rows l.number l.yielded));
}
