-- Proofs that what is taken has a spelling, so that it can be put again. There is nothing to believe
-- here.
use Rattle.std.proofs.Common.{List, Option, Some, None}
use Rattle.repl_types.specs.laws.Lists.{all_weaker}
use Rattle.repl_types.specs.declared.record.Change.TheVariants.{Insert, Update, Delete, Start, Stop}
use Rattle.repl_types.specs.declared.record.LogRecord.{LogRecord}
use Rattle.repl_types.specs.declared.record.LogRecord.TheVariants as records
use Rattle.repl_types.specs.declared.change_row.Registration.{Registration}
use Rattle.repl_types.specs.declared.table.TableDef.{TableDef}
use Rattle.row_codec.specs.Definitions.{IsTable, HasTableSpelling, IsRegistration, HasRegistrationSpelling}
use Rattle.row_codec.specs.LogRecords.{IsLogRecord, HasLogSpelling}
use Rattle.row_codec.specs.Spelling.{ListFits, OptionFits}
use Rattle.row_codec.specs.Takes.{PairFits}

-- both parts
pub pair_again : {A B : Type 0} (fits_a : A → Type 0) (fits_b : B → Type 0) (has_a : A → Type 0) (has_b : B → Type 0) → ((x : A) → fits_a x → has_a x) → ((x : B) → fits_b x → has_b x) → (x : A × B) → PairFits fits_a fits_b x → PairFits has_a has_b x
pair_again fits_a fits_b has_a has_b again_a again_b x fits = (again_a x.0 fits.0, again_b x.1 fits.1)

-- a value that may be absent
pub option_again : {X : Type 0} (P Q : X → Type 0) → ((x : X) → P x → Q x) → (x : Option X) → OptionFits P x → OptionFits Q x
option_again P Q less None fits = tt
option_again P Q less (Some x) fits = less x fits

-- a list with its count, if less is asked of each element
pub list_again : {X : Type 0} (P Q : X → Type 0) → ((x : X) → P x → Q x) → (xs : List X) → ListFits P xs → ListFits Q xs
list_again P Q less xs fits = (fits.0, all_weaker P Q xs less fits.1)

-- records of a log
pub log_again : (x : LogRecord) → IsLogRecord x → HasLogSpelling x
log_again (records.Change tx (Insert table row)) fits = fits.2.0
log_again (records.Change tx (Update table before after)) fits = (fits.2.0, fits.3.0)
log_again (records.Change tx (Delete table row)) fits = fits.2.0
log_again (records.Change tx (Start table)) fits = tt
log_again (records.Change tx (Stop table)) fits = tt
log_again (records.Commit tx time authid from) fits = tt
log_again (records.Abort tx) fits = tt

-- tables
pub table_again : (x : TableDef) → IsTable x → HasTableSpelling x
table_again x fits = (fits.1.0, fits.2, fits.3)

-- registrations
pub registration_again : (x : Registration) → IsRegistration x → HasRegistrationSpelling x
registration_again x fits = (fits.1, fits.2)
