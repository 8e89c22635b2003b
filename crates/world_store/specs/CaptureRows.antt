-- The rows of the areas Cd, Uow, Capture and Prune, in the order of their keys.
use Rattle.std.specs.Prelude.{ℕ, max, if◌then◌else◌, List, [], ◌∷◌, map}
use Rattle.std.specs.List.{filter_map, flat_map, enumerate_from}
use Rattle.std.specs.Option.{option_map}
use Rattle.repl_records.specs.declared.record_keys.Single.{Single}
use Rattle.repl_records.specs.declared.record_keys.CdKey.{CdKey}
use Rattle.repl_records.specs.declared.record_keys.UnitKey.{UnitKey}
use Rattle.repl_records.specs.declared.capture.ChangeRow.{ChangeRow}
use Rattle.repl_records.specs.declared.capture.UowRow.{UowRow}
use Rattle.repl_records.specs.declared.capture.CaptureState.{CaptureState}
use Rattle.repl_records.specs.declared.capture.RegState.{RegState}
use Rattle.repl_records.specs.declared.prune.SyncMark.{SyncMark}
use Rattle.repl_records.specs.declared.prune.Decided.{Decided}
use Rattle.repl_records.specs.declared.prune.RejectedUnit.{RejectedUnit}
use Rattle.repl_records.specs.FirstStates.{first_decided}
use Rattle.repl_model.specs.SourceAt.{units_between}
use Rattle.repl_model.specs.ChangeRows.{changes_between}
use Rattle.repl_model.specs.World.{Registered, SourceSide, Server, restart_after, code_in}
use Rattle.world_store.specs.DefinitionRows.{numbered_tables}

-- the change-data table of a registration: if it is active, the change rows of the units that are captured and
-- stand above its start and its floor, each under its seq and its place in the log; else nothing
abbrev pub change_rows_of : Server → Registered → List (CdKey × ChangeRow)
change_rows_of server r = if r.active
    then map (λ change. (record { commitseq = change.commitseq; intentseq = change.intentseq }, record { op = change.op; after = change.after; before = change.before })) (changes_between server.log r.reg (max r.start r.floor) server.captured)
    else []

-- the unit-of-work table: the units that are captured and stand above the floor, each under its seq, with the
-- code that is shown for it
abbrev pub uow_rows : Server → List (ℕ × UowRow)
uow_rows server = map (λ u. (u.head.seq, record { time = u.head.time; authid = u.head.authid; origin = u.head.origin; code = code_in server.shown u.head.seq })) (units_between server.floor server.captured server.log)

-- how far capture is
abbrev pub capture_state : Server → CaptureState
capture_state server = record { captured = server.captured; restart = restart_after server.log server.captured; floor = server.floor }

-- its one row
abbrev pub capture_rows : Server → List (Single × CaptureState)
capture_rows server = (record {}, capture_state server) ∷ []

-- the states of the registrations, under the numbers of their tables
abbrev pub registration_state_rows : Server → List (ℕ × RegState)
registration_state_rows server = filter_map (λ t. option_map (λ r. (t.0, record { active = r.active; start = r.start; floor = r.floor })) t.1.registered) (numbered_tables server)

-- the sets whose source a server is, with their numbers
abbrev pub numbered_source_sets : Server → List (ℕ × SourceSide)
numbered_source_sets server = enumerate_from 0 server.source_sets

-- what each set has reported, and its last signal, under the set's number
abbrev pub mark_rows : Server → List (ℕ × SyncMark)
mark_rows server = map (λ s. (s.0, record { mark = s.1.mark; signal = s.1.signal })) (numbered_source_sets server)

-- how far each set has decided, under the set's number
abbrev pub decided_rows : Server → List (ℕ × Decided)
decided_rows server = map (λ s. (s.0, record { t = s.1.t; d = s.1.d })) (numbered_source_sets server)

-- what a missing record of these says
abbrev pub first_decided_rows : Server → List (ℕ × Decided)
first_decided_rows server = map (λ s. (s.0, first_decided)) (numbered_source_sets server)

-- the codes of the units that each set rejected, under the set's number and the unit's seq
abbrev pub rejected_rows : Server → List (UnitKey × RejectedUnit)
rejected_rows server = flat_map (λ s. map (λ c. (record { set = s.0; seq = c.0 }, record { code = c.1 })) s.1.codes) (numbered_source_sets server)
