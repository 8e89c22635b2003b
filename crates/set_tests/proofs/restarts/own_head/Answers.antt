use Rattle.std.proofs.Common.{rules, None}
use Rattle.repl_types.specs.declared.record.LogRecord.TheVariants as records
use Rattle.row_codec.specs.LogRecords.{IsLogRecord}
use Rattle.set_tests.proofs.restarts.own_head.Goals as goal

-- a commit has no row
pub returns : goal.returns
returns c =
    let r = records.Commit 0 100 c.in_ok-new.field-0 None in
    let typed : IsLogRecord (records.Commit 0 100 c.in_ok-new.field-0 None) = search rules in
    record { typed = typed; storable = c.rows_of_64_values_are_storable.ensures.log_record r typed tt }
