-- A line that is read as a record is that of a user's.
use Rattle.std.proofs.Common.{ℕ, true, refl, arith, IsTrue, not, ◌==◌, Some, None}
use Rattle.std.proofs.lemmas.Bool.{and_from}
use Rattle.std.proofs.lemmas.Bool.Decides.{nat_tests}
use Rattle.std.proofs.lemmas.List.Elements.{recursion_from_All}
use Rattle.world_store.specs.Words.{IsChange, Is32, IsRow}
use Rattle.repl_model.specs.Words.{Values, IsValue, Change, LogRecord}
use Rattle.repl_types.specs.declared.record.Change.TheVariants.{Insert, Update, Delete, Start, Stop}
use Rattle.repl_types.specs.declared.record.LogRecord.TheVariants as records
use Rattle.log_text.specs.RecordText.{IsUserTx, IsRecordRow, IsUserChange, IsWritable}
use Rattle.source_log.specs.Storing.{MayAppend}

-- the number of a user's transaction has four bytes
tx_fits : (tx : ℕ) → IsUserTx tx → Is32 tx
tx_fits tx is = omega (arith, is.1)

-- it isn't that of the program's own
tx_users : (tx : ℕ) → IsUserTx tx → IsTrue (not (tx == 0))
tx_users tx is = let some = is.0 in grind (arith, nat_tests, some)

-- a row of a record is one that has a spelling
row_fits : (row : Values) → IsRecordRow row → IsRow row
row_fits row is = (omega (arith, is.1), recursion_from_All IsValue row is.2)

-- so is a change of a user
change_fits : (tx : ℕ) (change : Change) → IsUserTx tx → IsUserChange change → IsChange tx change
change_fits tx (Insert table row) of is = (tx_fits tx of, is.0, row_fits row is.1)
change_fits tx (Update table before after) of is = (tx_fits tx of, is.0, row_fits before is.1, row_fits after is.2)
change_fits tx (Delete table row) of is = (tx_fits tx of, is.0, row_fits row is.1)
change_fits tx (Start table) of is = absurd is
change_fits tx (Stop table) of is = absurd is

-- a record that is read from a line may be appended
pub may_append : (r : LogRecord) → IsWritable r → MayAppend r
may_append (records.Change tx change) is = record { typed = change_fits tx change is.0 is.1; users = tx_users tx is.0; early = tt }
may_append (records.Commit tx time authid None) is = record { typed = (tx_fits tx is.0, omega (arith, is.1), is.2, tt); users = and_from (not (tx == 0)) true (tx_users tx is.0) refl; early = is.1 }
may_append (records.Commit tx time authid (Some set)) is = absurd is
may_append (records.Abort tx) is = record { typed = tx_fits tx is; users = tx_users tx is; early = tt }
