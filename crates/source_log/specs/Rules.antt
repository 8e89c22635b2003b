-- What may stand in the tables that an append reads, and what shows that a server is damaged.
use Rattle.std.specs.Prelude.{◌≡◌, ◌⊎◌, ℕ, zero, true, List, Option, Some, None, IfSome}
use Rattle.std.specs.Option.{option_map}
use Rattle.std.specs.declared.cmp.Ordering.TheVariants.{Less}
use Rattle.repl_types.specs.Bytes.{bytes_cmp}
use Rattle.repl_types.specs.declared.area.Area.{Area}
use Rattle.repl_types.specs.declared.area.Area.TheVariants as areas
use Rattle.repl_types.specs.declared.record.Change.{Change}
use Rattle.repl_types.specs.declared.record.LogRecord.TheVariants as records
use Rattle.repl_types.specs.declared.status.DamageCause.{DamageCause}
use Rattle.repl_types.specs.declared.fault.Fault.{Fault}
use Rattle.keep_core.specs.Contents.{Contents}
use Rattle.keep_core.specs.Kept.{Kept}
use Rattle.row_codec.specs.LogRecords.{IsLogRecord, log_spelling}
use Rattle.row_codec.specs.Spelling.{Any, Is64, b64, short_text}
use Rattle.repl_definitions.specs.Defined.{defined_table_spelling, IsDefinedTable}
use Rattle.repl_definitions.specs.declared.defined.DefinedTable.{DefinedTable}
use Rattle.repl_records.specs.declared.source_side.InFlight.{InFlight}
use Rattle.repl_records.specs.declared.source_side.Head.{Head}
use Rattle.repl_records.specs.FirstStates.{first_head}
use Rattle.repl_records.specs.RecordKeys.{in_flight_key_spelling, IsInFlightKey, single_spelling}
use Rattle.repl_records.specs.SourceSide.{in_flight_spelling, head_spelling, IsHead, source_row_spelling, IsSourceRow}
use Rattle.repl_model.specs.Tables.{table_of}
use Rattle.site_store.specs.declared.sites.Sites.{Sites}
use Rattle.site_store.specs.Damage.{Rules, Damages}
use Rattle.site_store.specs.Records.{StateIs}
use Rattle.site_store.specs.one_server.Calls.{Breaks}
use Rattle.world_store.specs.SpelledRows.{Spells}
use Rattle.source_log.specs.Fitting.{may_stand}

-- ---- what may stand there

-- keys of log records and of changes in flight
abbrev pub may_be_key : Area → ℕ → List ℕ → Type 0
may_be_key areas.Log zero bytes = Spells Is64 b64 bytes
may_be_key areas.Inflight zero bytes = Spells IsInFlightKey in_flight_key_spelling bytes
may_be_key a t bytes = Unit {0}

-- and values: log records, rows of the source, changes in flight, the end of the log, and tables
abbrev pub may_be_value : Area → ℕ → List ℕ → Type 0
may_be_value areas.Log zero bytes = Spells IsLogRecord log_spelling bytes
may_be_value areas.Source t bytes = Spells IsSourceRow source_row_spelling bytes
may_be_value areas.Inflight zero bytes = Spells {X = InFlight} Any in_flight_spelling bytes
may_be_value areas.Head zero bytes = Spells IsHead head_spelling bytes
may_be_value areas.Defs zero bytes = Spells IsDefinedTable defined_table_spelling bytes
may_be_value a t bytes = Unit {0}

-- ---- changes in flight

-- the key of a change in flight
abbrev pub flight_key : ℕ → ℕ → List ℕ
flight_key tx pos = in_flight_key_spelling (record { tx = tx; pos = pos })

-- A transaction has a change in flight at a position.
pub record IsInFlight (tx : ℕ) (c : Contents) (pos : ℕ) : Type 0 where
  pub fits : IsInFlightKey (record { tx = tx; pos = pos })
  pub value : List ℕ
  pub stands : c areas.Inflight 0 (flight_key tx pos) ≡ Some value

-- the log has this change of a transaction at a position
abbrev pub IsLogged : ℕ → Contents → ℕ → Change → Type 0
IsLogged tx c pos change = c areas.Log 0 (b64 pos) ≡ Some (log_spelling (records.Change tx change))

-- A table of these contents is one at which a change may stand.
pub record HasTable (c : Contents) (change : Change) (table : DefinedTable) : Type 0 where
  pub stands : c areas.Defs 0 (short_text (table_of change)) ≡ Some (defined_table_spelling table)
  pub fits : IsDefinedTable table
  pub may : may_stand table.def change ≡ true

-- these contents have this table under a name, or none
abbrev pub IsTableAt : List ℕ → Option DefinedTable → Contents → Type 0
IsTableAt name found c = (c areas.Defs 0 (short_text name) ≡ option_map defined_table_spelling found) × IfSome found IsDefinedTable

-- they have the table that is known, if one is
abbrev pub IsKnown : Option DefinedTable → Contents → Type 0
IsKnown None c = Unit {0}
IsKnown (Some table) c = IsTableAt table.def.name (Some table) c

-- The log has a change of a transaction at a position, which may stand at its table.
pub record IsKeptChange (tx : ℕ) (c : Contents) (pos : ℕ) (change : Change) : Type 0 where
  pub typed : IsLogRecord (records.Change tx change)
  pub logged : IsLogged tx c pos change
  pub table : DefinedTable
  pub has : HasTable c change table

-- A change in flight calls for its record in the log, and this for its table.
abbrev pub is_called_for : Area → ℕ → List ℕ → Contents → Type 0
is_called_for areas.Log zero key c = (tx pos : ℕ) × (key ≡ b64 pos) × IsInFlight tx c pos
is_called_for areas.Defs zero key c = (tx pos : ℕ) × (change : Change) × (key ≡ short_text (table_of change)) × IsInFlight tx c pos × IsLogRecord (records.Change tx change) × IsLogged tx c pos change
is_called_for a t key c = ⊥

-- A change in flight is unfit if the log has no change of its transaction at its position that may stand at
-- its table.
abbrev pub is_stray : Area → ℕ → List ℕ → List ℕ → Contents → Type 0
is_stray areas.Inflight zero key value c = (tx pos : ℕ) × (key ≡ flight_key tx pos) × IsInFlight tx c pos × ((change : Change) → IsKeptChange tx c pos change → ⊥)
is_stray a t key value c = ⊥

-- what an append finds after it read the end of the log
abbrev pub rules : Rules
rules = record { is_key = may_be_key; is_value = may_be_value; is_needed = is_called_for; is_unfit = is_stray }

-- ---- the end of the log

-- the end of the log of these contents
abbrev pub EndIs : Head → Contents → Type 0
EndIs head c = StateIs head_spelling areas.Head 0 (single_spelling (record {})) first_head head c

-- a record of the log after its end is unfit
abbrev pub is_past_end : Area → ℕ → List ℕ → List ℕ → Contents → Type 0
is_past_end areas.Log zero key value c = (head : Head) × IsHead head × EndIs head c × (bytes_cmp (b64 head.last) key ≡ Less)
is_past_end a t key value c = ⊥

-- what an append finds
abbrev pub all_rules : Rules
all_rules = record { is_key = may_be_key; is_value = may_be_value; is_needed = is_called_for; is_unfit = λ a t key value c. is_stray a t key value c ⊎ is_past_end a t key value c }

-- what the server was seen to have shows damage by these rules
abbrev pub ShowsDamage : {K : Type 0} → (K → Kept) → Sites K → ℕ → ℕ → Area → DamageCause → Type 0
ShowsDamage kept sites server = Damages (λ s. s ≡ server) all_rules kept sites

-- a call that reads the end of the log first failed: if damage is reported, these rules show it
abbrev pub BreaksFirst : {K : Type 0} → (K → Kept) → Sites K → Sites K → ℕ → Fault → Type 0
BreaksFirst kept old new server e = Breaks all_rules kept old new server e
