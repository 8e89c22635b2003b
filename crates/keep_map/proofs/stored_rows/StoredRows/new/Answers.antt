use Rattle.keep_map.specs.Merged.{both}
use Rattle.keep_map.specs.Tables.{runs_seen, runs_held}
use Rattle.keep_map.proofs.Disjoint.{none_apart}
use Rattle.keep_map.proofs.stored_rows.StoredRows.new.Goals as goal

pub invariant_of-result : goal.invariant_of-result
invariant_of-result c = record { disjoint = none_apart _ _ c.new-runs.ensures c.new-others.ensures.seen c.new-others.ensures.held }

pub returns-clause-seen : goal.returns-clause-seen
returns-clause-seen c = λ i. both (runs_seen (c.new-runs.ensures i)) (c.new-others.ensures.seen i)

pub returns-clause-held : goal.returns-clause-held
returns-clause-held c = λ i. both (runs_held (c.new-runs.ensures i)) (c.new-others.ensures.held i)
