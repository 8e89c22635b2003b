-- One more unit of the program's own at the log of a server: its records, and what they make of contents.
use Rattle.std.specs.Prelude.{◌≡◌, ◌⊎◌, ℕ, zero, ◌+◌, ◌<◌, ◌≤◌, ◌||◌, false, IsTrue, List, [], ◌∷◌, ◌++◌, length, map, Option, Some, None, ⊤}
use Rattle.std.specs.List.{AllByRecursion}
use Rattle.repl_types.specs.declared.area.Area.{Area}
use Rattle.repl_types.specs.declared.area.Area.TheVariants as areas
use Rattle.repl_types.specs.declared.record.Change.{Change}
use Rattle.repl_types.specs.declared.record.LogRecord.{LogRecord}
use Rattle.repl_types.specs.declared.record.LogRecord.TheVariants as records
use Rattle.repl_types.specs.declared.status.DamageCause.{DamageCause}
use Rattle.repl_types.specs.declared.table.TableDef.{TableDef}
use Rattle.repl_types.specs.declared.unit.Placed.{Placed}
use Rattle.repl_types.specs.declared.unit.Unit.{Unit}
use Rattle.repl_types.specs.declared.unit.UnitHead.{UnitHead}
use Rattle.repl_types.specs.declared.call_errors.AppendError.{AppendError}
use Rattle.repl_types.specs.declared.call_errors.AppendError.TheVariants as errors
use Rattle.keep_core.specs.Contents.{Contents, set_key, put_at}
use Rattle.keep_core.specs.Kept.{Kept}
use Rattle.row_codec.specs.LogRecords.{IsLogRecord, HasLogSpelling, log_spelling}
use Rattle.row_codec.specs.Spelling.{b64, short_text}
use Rattle.row_codec.specs.Storable.{IsStorable}
use Rattle.repl_definitions.specs.Defined.{defined_table_spelling, IsDefinedTable}
use Rattle.repl_definitions.specs.declared.defined.DefinedTable.{DefinedTable}
use Rattle.repl_records.specs.RecordKeys.{single_spelling}
use Rattle.repl_records.specs.SourceSide.{head_spelling}
use Rattle.repl_model.specs.Applicable.{is_signal, is_change_applicable}
use Rattle.repl_model.specs.Longer.{with_more}
use Rattle.repl_model.specs.SoundLogs.{log_limit}
use Rattle.repl_model.specs.SourceAt.{unplaced, source_at}
use Rattle.repl_model.specs.Tables.{Rows, table_of, after_changes}
use Rattle.repl_model.specs.Units.{last_commit}
use Rattle.repl_model.specs.World.{Server, tables_of}
use Rattle.lists.specs.laws.Members.{In}
use Rattle.world_store.specs.LogRows.{head_of}
use Rattle.stored_commits.specs.records.LongerTables.{log_table}
use Rattle.stored_commits.specs.logs.LongerServers.{is_of_log}
use Rattle.site_store.specs.declared.sites.Sites.{Sites}
use Rattle.site_store.specs.Damage.{Rules, joined, Damages, IsNoDamage}
use Rattle.site_store.specs.Servers.{AllClosed}
use Rattle.site_store.specs.Views.{work}
use Rattle.site_store.specs.one_server.Calls.{GoesOn, Stops}
use Rattle.world_store.specs.SpelledRows.{Spells}
use Rattle.source_log.specs.Fitting.{may_stand}
use Rattle.source_log.specs.Making.{HasSource, SourceStands, with_made}
use Rattle.source_log.specs.Rules.{all_rules, EndIs, HasTable}
use Rattle.source_log.specs.Storing.{IsKept, Stores}

-- ---- records

-- a change as a record of the program's own transaction, which is 0
abbrev pub own_change : Placed → LogRecord
own_change placed = records.Change 0 placed.change

-- the record that ends a unit of the program's own
abbrev pub own_commit : UnitHead → LogRecord
own_commit head = records.Commit 0 head.time head.authid head.origin

-- the records of a unit of the program's own, wherever its changes and its commit stood
abbrev pub unit_records : Unit → List LogRecord
unit_records unit = map own_change unit.changes ++ own_commit unit.head ∷ []

-- A record that can be put into a log: its names are names, its numbers and values are in their ranges, and its
-- spelling has the size of a value.
pub record MayBePut (r : LogRecord) : Type 0 where
  pub typed : IsLogRecord r
  pub storable : IsStorable HasLogSpelling log_spelling r

-- each record of a unit can be
abbrev pub MayAppendUnit : Unit → Type 0
MayAppendUnit unit = AllByRecursion MayBePut (unit_records unit)

-- ---- logs

-- the committed rows of a table
abbrev pub committed : List LogRecord → TableDef → Rows
committed log def = source_at def log (last_commit log)

-- ---- what is put

-- A change is made in the source at its table, and nothing is done for a start or a stop.
abbrev pub MakesOwn : Change → Contents → Contents → Type 0
MakesOwn change c d = (IsTrue (is_signal change) × (d ≡ c)) ⊎ ((table : DefinedTable) × HasTable c change table × (d ≡ with_made table change c))

-- a change is put into the log at a position, and made
abbrev pub PutsOwn : ℕ → Placed → Contents → Contents → Type 0
PutsOwn pos placed c d = MakesOwn placed.change (put_at c areas.Log 0 (b64 pos) (Some (log_spelling (own_change placed)))) d

-- The log is that of a server with changes of the program's own, and the source has these made.
pub record HasChanges (server : Server) (changes : List Placed) (d : Contents) : Type 0 where
  pub log : d areas.Log 0 ≡ log_table (with_more (map own_change changes) server)
  pub source : HasSource server (λ def. after_changes def (unplaced changes) (committed server.log def)) d
  pub stand : SourceStands server (λ def. after_changes def (unplaced changes) (committed server.log def))

-- Changes are put after the last position of a log, one after another, and made.
pub record PutsChanges (last : ℕ) (changes : List Placed) (c d : Contents) : Type 0 where
  pub others : (a : Area) (n : ℕ) → is_of_log a n ≡ false → d a n ≡ c a n
  pub end : d areas.Head 0 ≡ c areas.Head 0
  pub in_flight : d areas.Inflight 0 ≡ c areas.Inflight 0
  pub has : (server : Server) → IsKept server → last ≡ length server.log → Stores server c → HasChanges server changes d

-- the commit is put at a position, and as the end of the log
abbrev pub PutsCommit : ℕ → UnitHead → Contents → Contents → Type 0
PutsCommit pos head c d = d ≡ put_at (put_at c areas.Log 0 (b64 pos) (Some (log_spelling (own_commit head)))) areas.Head 0 (single_spelling (record {})) (Some (head_spelling (record { last = pos; commit = pos; time = head.time })))

-- ---- a unit

-- each change of a unit is applicable at a server, or it is a start or a stop
abbrev pub ChangesFit : Server → Unit → Type 0
ChangesFit server unit = AllByRecursion (λ placed. IsTrue (is_signal placed.change || is_change_applicable (tables_of server) placed.change)) unit.changes

-- The stored tables are those of a server's log with a unit, the end of the log is the end of that one, and this
-- is its last position.
pub record HasUnit (server : Server) (unit : Unit) (seq : ℕ) (c d : Contents) : Type 0 where
  pub stores : Stores (with_more (unit_records unit) server) d
  pub end : EndIs (head_of (with_more (unit_records unit) server)) d
  pub put : d areas.Head 0 ≡ set_key (c areas.Head 0) (single_spelling (record {})) (Some (head_spelling (head_of (with_more (unit_records unit) server))))
  pub last : seq ≡ length (with_more (unit_records unit) server).log

-- A unit was appended, with a seq that a log may have. Tables that aren't of the log are as they were. If the others
-- were those of a server's log, and its end was the stored one, they are those of its log with the unit.
pub record AppendsUnit (unit : Unit) (seq : ℕ) (c d : Contents) : Type 0 where
  pub room : seq ≤ log_limit
  pub others : (a : Area) (n : ℕ) → is_of_log a n ≡ false → d a n ≡ c a n
  pub stores : (server : Server) → IsKept server → EndIs (head_of server) c → Stores server c → HasUnit server unit seq c d

-- the log of a server whose tables these are has no room for a unit
abbrev pub HasNoRoomFor : Unit → Contents → Type 0
HasNoRoomFor unit c = (server : Server) → IsKept server → EndIs (head_of server) c → Stores server c → log_limit < length server.log + length unit.changes + 1

-- a unit was appended with this seq, or the log has no room for it and nothing was put
abbrev pub AppendsIfRoom : Unit → Option ℕ → Contents → Contents → Type 0
AppendsIfRoom unit None c d = (d ≡ c) × HasNoRoomFor unit c
AppendsIfRoom unit (Some seq) c d = AppendsUnit unit seq c d

-- ---- damage

-- definitions of tables
abbrev pub may_be_table : Area → ℕ → List ℕ → Type 0
may_be_table areas.Defs zero bytes = Spells IsDefinedTable defined_table_spelling bytes
may_be_table a t bytes = ⊤

-- a change that isn't a start or a stop calls for its table
abbrev pub calls_for_table : List Placed → Area → ℕ → List ℕ → Type 0
calls_for_table changes areas.Defs zero key = (placed : Placed) × In placed changes × (is_signal placed.change ≡ false) × (key ≡ short_text (table_of placed.change))
calls_for_table changes a t key = ⊥

-- and a table is unfit if such a change may not stand there
abbrev pub is_unfit_table : List Placed → Area → ℕ → List ℕ → List ℕ → Type 0
is_unfit_table changes areas.Defs zero key value = (placed : Placed) × In placed changes × (is_signal placed.change ≡ false) × (key ≡ short_text (table_of placed.change))
    × ((table : DefinedTable) × IsDefinedTable table × (value ≡ defined_table_spelling table) × (may_stand table.def placed.change ≡ false))
is_unfit_table changes a t key value = ⊥

-- what the tables of changes should have
abbrev pub table_rules : List Placed → Rules
table_rules changes = record {
  is_key = λ a t bytes. ⊤;
  is_value = may_be_table;
  is_needed = λ a t key c. calls_for_table changes a t key;
  is_unfit = λ a t key value c. is_unfit_table changes a t key value;
}

-- what a server was seen to have shows damage by these rules
abbrev pub ShowsBadTable : {K : Type 0} → (K → Kept) → Sites K → ℕ → List Placed → ℕ → Area → DamageCause → Type 0
ShowsBadTable kept sites server changes = Damages (λ s. s ≡ server) (table_rules changes) kept sites

-- or by these and those of an append
abbrev pub ShowsUnitDamage : {K : Type 0} → (K → Kept) → Sites K → ℕ → Unit → ℕ → Area → DamageCause → Type 0
ShowsUnitDamage kept sites server unit = Damages (λ s. s ≡ server) (joined all_rules (table_rules unit.changes)) kept sites

-- ---- answers

module _ {K : Type 0} (kept : K → Kept) (old new : Sites K) (server : ℕ) (unit : Unit) where
  -- if the log is full, the place is 0, and the open transaction sees what it saw; no record isn't applicable
  abbrev pub IsFullFor : AppendError → Type 0
  IsFullFor (errors.Fault e) = ⊤
  IsFullFor (errors.NotApplicable place) = ⊥
  IsFullFor (errors.LogFull place) = (place ≡ 0) × GoesOn kept old new server (λ c d. (d ≡ c) × HasNoRoomFor unit c)

  -- after a fault each server holds what it held, somebody is to blame, and no transaction is open
  abbrev pub FailsUnit : AppendError → Type 0
  FailsUnit (errors.Fault e) = Stops kept old new (ShowsUnitDamage kept old server unit) e × AllClosed (work kept new)
  FailsUnit (errors.NotApplicable place) = ⊤
  FailsUnit (errors.LogFull place) = ⊤

-- no damage is reported
abbrev pub IsUndamagedAppend : AppendError → Type 0
IsUndamagedAppend (errors.Fault e) = IsNoDamage e
IsUndamagedAppend (errors.NotApplicable place) = ⊤
IsUndamagedAppend (errors.LogFull place) = ⊤
