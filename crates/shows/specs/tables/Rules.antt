-- What may stand in the tables that are shown, and how often they are read.
use Rattle.std.specs.Prelude.{ℕ, zero, ◌<◌, List, length}
use Rattle.repl_types.specs.declared.area.Area.{Area}
use Rattle.repl_types.specs.declared.area.Area.TheVariants as areas
use Rattle.repl_types.specs.declared.status.DamageCause.{DamageCause}
use Rattle.keep_core.specs.Kept.{Kept}
use Rattle.keep_core.specs.Revealed.{count_max}
use Rattle.row_codec.specs.Spelling.{Is64, b64, IsKey, key_spelling}
use Rattle.row_codec.specs.LogRecords.{IsLogRecord, log_spelling}
use Rattle.repl_records.specs.Capture.{change_row_spelling, IsChangeRow, uow_spelling, IsUow}
use Rattle.repl_records.specs.RecordKeys.{change_key_spelling, IsChangeKey}
use Rattle.repl_records.specs.SourceSide.{source_row_spelling, IsSourceRow}
use Rattle.site_store.specs.declared.sites.Sites.{Sites}
use Rattle.site_store.specs.Views.{names}
use Rattle.site_store.specs.Calls.{Bounds, both, reads_of_one}
use Rattle.site_store.specs.Damage.{Rules, Damages}
use Rattle.world_store.specs.SpelledRows.{Spells}
use Rattle.stored_defs.specs.Rules.{may_be_key as may_be_definition_key, may_be_value as may_be_definition}

-- ---- how often is read

-- the log of a server is read, as often as can be counted at most, and nothing else is
abbrev pub log_reads : ℕ → Bounds
log_reads server = reads_of_one count_max server areas.Log

-- the definitions of a server are read once, and its source as often as can be counted at most
abbrev pub source_reads : ℕ → Bounds
source_reads server = both (reads_of_one 1 server areas.Defs) (reads_of_one count_max server areas.Source)

-- the definitions of a server are read once, and its change-data tables as often as can be counted at most
abbrev pub change_reads : ℕ → Bounds
change_reads server = both (reads_of_one 1 server areas.Defs) (reads_of_one count_max server areas.Cd)

-- the unit-of-work table of a server is read, as often as can be counted at most, and nothing else is
abbrev pub unit_reads : ℕ → Bounds
unit_reads server = reads_of_one count_max server areas.Uow

-- ---- what may stand there

-- keys of definitions, of rows of the source, of log records, of change rows, and of units
abbrev pub may_be_key : Area → ℕ → List ℕ → Type 0
may_be_key areas.Defs t bytes = may_be_definition_key areas.Defs t bytes
may_be_key areas.Source t bytes = Spells IsKey key_spelling bytes
may_be_key areas.Log zero bytes = Spells Is64 b64 bytes
may_be_key areas.Cd t bytes = Spells IsChangeKey change_key_spelling bytes
may_be_key areas.Uow zero bytes = Spells Is64 b64 bytes
may_be_key a t bytes = Unit {0}

-- and their values
abbrev pub may_be_value : Area → ℕ → List ℕ → Type 0
may_be_value areas.Defs t bytes = may_be_definition areas.Defs t bytes
may_be_value areas.Source t bytes = Spells IsSourceRow source_row_spelling bytes
may_be_value areas.Log zero bytes = Spells IsLogRecord log_spelling bytes
may_be_value areas.Cd t bytes = Spells IsChangeRow change_row_spelling bytes
may_be_value areas.Uow zero bytes = Spells IsUow uow_spelling bytes
may_be_value a t bytes = Unit {0}

-- no record is called for, and each fits
abbrev pub rules : Rules
rules = record {
  is_key = may_be_key;
  is_value = may_be_value;
  is_needed = λ a t key c. ⊥;
  is_unfit = λ a t key value c. ⊥;
}

-- what one of the servers was seen to have shows damage by these rules
abbrev pub ShowsDamage : {K : Type 0} → (K → Kept) → Sites K → ℕ → Area → DamageCause → Type 0
ShowsDamage kept sites = Damages (λ s. s < length (names sites)) rules kept sites
