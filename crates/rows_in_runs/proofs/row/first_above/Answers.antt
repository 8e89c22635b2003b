use Rattle.std.proofs.Common.{rules}
use Rattle.std.proofs.lemmas.List.Sorted.{IsPartitionPoint-from_clause}
use Rattle.rows_in_runs.proofs.Search.{has_upto, upto_first, first_above_is}
use Rattle.rows_in_runs.proofs.row.first_above.Goals as goal

pub returns : goal.returns
returns c =
    let bytes = c.args.bytes.now in
    let rows = c.args.rows.now in
    let key = c.args.key.now in
    first_above_is bytes rows key c.partition_point.result c.partition_point.ensures.bound
    (IsPartitionPoint-from_clause (has_upto bytes key) rows c.partition_point.result c.partition_point.ensures.partitioned (upto_first bytes rows key c.requires) (λ a r f' k. search rules))
