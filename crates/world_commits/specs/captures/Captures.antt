-- What a capture of units makes of a server.
use Rattle.std.specs.Prelude.{ℕ, ◌+◌, true, false, not, ◌&&◌, nat_lt, if◌then◌else◌, List, [], ◌∷◌, length, map, filter, fold, take, sum_by, Option, Some, None}
use Rattle.std.specs.List.{flat_map}
use Rattle.std.specs.Option.{option_map}
use Rattle.std.specs.Str.{bytes_eq}
use Rattle.repl_types.specs.declared.record.Change.{Change}
use Rattle.repl_types.specs.declared.record.Change.TheVariants.{Insert, Update, Delete, Start, Stop}
use Rattle.repl_types.specs.declared.unit.Placed.{Placed}
use Rattle.repl_types.specs.declared.unit.Unit.{Unit}
use Rattle.repl_model.specs.Units.{units}
use Rattle.repl_model.specs.ChangeRows.{rows_of_placed}
use Rattle.repl_model.specs.World.{Registered, ServerTable, Server, World, registered_of}

-- ---- registrations

-- a registration after a change in a unit with this seq: a start of its table makes it active from there on,
-- unless it is active, and a stop makes it inactive
abbrev pub registered_after_change : ℕ → Registered → Change → Registered
registered_after_change seq r (Insert table row) = r
registered_after_change seq r (Update table before after) = r
registered_after_change seq r (Delete table row) = r
registered_after_change seq r (Start table) = if bytes_eq table r.reg.table && not r.active then record r { active = true; start = seq } else r
registered_after_change seq r (Stop table) = if bytes_eq table r.reg.table then record r { active = false } else r

-- a registration after changes in a unit with this seq, one after another
abbrev pub registered_after : ℕ → List Placed → Registered → Registered
registered_after seq changes r = fold (λ before placed. registered_after_change seq before placed.change) r changes

-- a table whose registration, if it has one, is made another one
abbrev pub with_registration : (Registered → Registered) → ServerTable → ServerTable
with_registration f t = record t { registered = option_map f t.registered }

-- ---- servers

-- A server after a unit is captured: it is captured up to there, and its registrations are as they are after
-- the unit's starts and stops.
abbrev pub with_unit : Unit → Server → Server
with_unit u server = record server { tables = map (with_registration (registered_after u.head.seq u.changes)) server.tables; captured = u.head.seq }

-- how many change rows are captured of some changes in a unit with this seq: those of each active registration
abbrev pub rows_captured : ℕ → List Placed → Server → ℕ
rows_captured seq changes server = sum_by (λ r. if r.active then length (flat_map (rows_of_placed r.reg seq) changes) else 0) (registered_of server)

-- a server after units are captured, one after another
abbrev pub with_units : List Unit → Server → Server
with_units [] server = server
with_units (u ∷ us) server = with_units us (with_unit u server)

-- how many change rows are captured of units, one after another
abbrev pub all_rows_captured : List Unit → Server → ℕ
all_rows_captured [] server = 0
all_rows_captured (u ∷ us) server = rows_captured u.head.seq u.changes server + all_rows_captured us (with_unit u server)

-- the units of a server's log that aren't captured, in order
unfoldable pub uncaptured : Server → List Unit
uncaptured server = filter (λ u. nat_lt server.captured u.head.seq) (units server.log)

-- the units that a capture takes: the first of those that aren't captured, as many as are asked for, or all
abbrev pub taken_units : Option ℕ → Server → List Unit
taken_units None server = uncaptured server
taken_units (Some most) server = take most (uncaptured server)

-- ---- groups of servers

-- a server after the server of this name has captured units
abbrev pub captured_server : List ℕ → List Unit → Server → Server
captured_server name us server = if bytes_eq name server.name then with_units us server else server

-- the servers after the server of this name has captured units
abbrev pub captured : List ℕ → List Unit → World → World
captured name us world = map (captured_server name us) world
