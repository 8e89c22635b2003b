use Rattle.std.proofs.Common.{rules}
use Rattle.repl_types.specs.declared.record.LogRecord.TheVariants as records
use Rattle.repl_types.specs.declared.record.Change.TheVariants.{Start}
use Rattle.row_codec.specs.LogRecords.{IsLogRecord}
use Rattle.set_tests.proofs.restarts.start_of_parts.Goals as goal

-- a start has no row
pub returns : goal.returns
returns c =
    let r = records.Change 0 (Start c.in_ok-new.field-0) in
    let typed : IsLogRecord (records.Change 0 (Start c.in_ok-new.field-0)) = search rules in
    record { typed = typed; storable = c.rows_of_64_values_are_storable.ensures.log_record r typed tt }
