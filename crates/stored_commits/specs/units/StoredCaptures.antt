-- The stored tables of a server that captures a unit, before, on the way, and after.
use Rattle.std.specs.Prelude.{◌≡◌, ℕ, ◌+◌, max, nat_lt, if◌then◌else◌, List, [], ◌∷◌, ◌++◌, map, slice_get}
use Rattle.std.specs.List.{flat_map}
use Rattle.std.specs.Option.{option_map_or, option_and_then}
use Rattle.repl_types.specs.declared.area.Area.TheVariants as areas
use Rattle.repl_types.specs.declared.unit.Placed.{Placed}
use Rattle.repl_types.specs.declared.unit.Unit.{Unit}
use Rattle.row_codec.specs.Spelling.{b32, b64}
use Rattle.repl_records.specs.RecordKeys.{change_key_spelling}
use Rattle.repl_records.specs.Capture.{change_row_spelling, uow_spelling, registration_state_spelling}
use Rattle.repl_records.specs.declared.record_keys.CdKey.{CdKey}
use Rattle.repl_records.specs.declared.capture.ChangeRow.{ChangeRow}
use Rattle.keep_core.specs.Contents.{Contents}
use Rattle.rows_in_order.specs.Rows.{table_from_rows}
use Rattle.repl_model.specs.ChangeRows.{rows_of_placed, changes_between}
use Rattle.repl_model.specs.World.{Registered, Server, World}
use Rattle.repl_model.specs.Sound.{IsSound}
use Rattle.world_store.specs.CaptureRows.{uow_rows, registration_state_rows}
use Rattle.world_store.specs.Tables.{no_rows, change_table, capture_table, definition_table}
use Rattle.lists.specs.laws.Members.{In}
use Rattle.world_commits.specs.captures.Captures.{registered_after, with_registration, with_unit, uncaptured, rows_captured}
use Rattle.stored_commits.specs.units.StoredChanges.{stored_change, with_uow_row, CapturesChange}

-- ---- between units

-- The contents have what a server has captured, and its registrations.
pub record HasCaptured (server : Server) (c : Contents) : Type 0 where
  pub changes : (n : ℕ) → c areas.Cd n ≡ change_table server n
  pub units : c areas.Uow 0 ≡ table_from_rows b64 uow_spelling (uow_rows server)
  pub states : c areas.Capture 1 ≡ capture_table server 1
  pub registrations : c areas.Defs 1 ≡ definition_table server 1

-- ---- within a unit

-- the change rows of a registration once the first changes of a unit with this seq are captured: if it is active
-- then, those of earlier units and those of these changes, each if it stands above the start and the floor
abbrev pub rows_so_far : Server → ℕ → List Placed → Registered → List (CdKey × ChangeRow)
rows_so_far server seq changes r =
    let now = registered_after seq changes r in
    let low = max now.start now.floor in
    if now.active then map stored_change (changes_between server.log r.reg low server.captured ++ (if nat_lt low seq then flat_map (rows_of_placed r.reg seq) changes else [])) else []

-- a server whose registrations are as they are after the first changes of a unit with this seq
abbrev pub after_signals : ℕ → List Placed → Server → Server
after_signals seq changes server = record server { tables = map (with_registration (registered_after seq changes)) server.tables }

-- The contents have what a server has captured once a unit stands in its unit-of-work table, and the first of the
-- unit's changes are captured.
pub record HasPart (server : Server) (u : Unit) (changes : List Placed) (c : Contents) : Type 0 where
  pub rows : (n : ℕ) → c areas.Cd n ≡ option_map_or (λ r. table_from_rows change_key_spelling change_row_spelling (rows_so_far server u.head.seq changes r)) (option_and_then (λ t. t.registered) (slice_get server.tables n)) no_rows
  pub units : c areas.Uow 0 ≡ table_from_rows b64 uow_spelling (uow_rows (with_unit u server))
  pub states : c areas.Capture 1 ≡ table_from_rows b32 registration_state_spelling (registration_state_rows (after_signals u.head.seq changes server))
  pub registrations : c areas.Defs 1 ≡ definition_table server 1

-- ---- the laws

-- the unit is the next one that a server of a sound world captures
pub record IsNextUnit (world : World) (server : Server) (u : Unit) : Type 0 where
  pub sound : IsSound world
  pub in_world : In server world
  pub rest : List Unit
  pub next : uncaptured server ≡ u ∷ rest

-- a unit is begun with its row in the unit-of-work table
abbrev pub UnitBegins : Type 0
UnitBegins = (world : World) (server : Server) (u : Unit) (c : Contents) → IsNextUnit world server u
    → HasCaptured server c → HasPart server u [] (with_uow_row u.head c)

-- one more change of it is captured, and so many change rows are put
abbrev pub UnitGoesOn : Type 0
UnitGoesOn = (world : World) (server : Server) (u : Unit) (changes : List Placed) (placed : Placed) (more : List Placed) (rows : ℕ) (c d : Contents) → IsNextUnit world server u
    → u.changes ≡ changes ++ placed ∷ more → HasPart server u changes c → CapturesChange u.head.seq placed rows c d
    → HasPart server u (changes ++ placed ∷ []) d × (rows_captured u.head.seq (changes ++ placed ∷ []) server ≡ rows_captured u.head.seq changes server + rows)

-- once all its changes are captured, the unit is
abbrev pub UnitEnds : Type 0
UnitEnds = (world : World) (server : Server) (u : Unit) (c : Contents) → IsNextUnit world server u
    → HasPart server u u.changes c → HasCaptured (with_unit u server) c
