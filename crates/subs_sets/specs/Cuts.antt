-- The units that one block may take, and the limits of a set on it.
use Rattle.std.specs.Prelude.{ℕ, ◌+◌, ◌-◌, ◌*◌, Bool, true, ◌&&◌, ◌||◌, ◌==◌, nat_le, nat_lt, min, List, [], ◌∷◌, filter, Option, Some, None}
use Rattle.std.specs.Option.{option_map, option_map_or}
use Rattle.repl_types.specs.declared.unit.Unit.{Unit as LogUnit}
use Rattle.repl_definitions.specs.declared.set.SetDef.{SetDef}
use Rattle.repl_model.specs.SourceAt.{units_between}
use Rattle.repl_model.specs.World.{Server, KnownSet}
use Rattle.repl_model.specs.NextActions.{first_cut, units_until, next_units}

-- the latest time at which a unit may be in a block, by a limit in minutes: at the greatest number there is none later
abbrev pub latest : ℕ → ℕ → ℕ
latest first minutes = min (first + 60 * minutes) 18446744073709551615

-- The unit with a number, counted from 1, at a time is within the limits of a set on one block whose first unit is at
-- another time.
abbrev pub is_within_limits : SetDef → ℕ → ℕ → ℕ → Bool
is_within_limits def first number time = (def.commit_count == 0 || nat_le number def.commit_count) && (def.max_minutes == 0 || nat_le time (latest first def.max_minutes))

-- the units that a server has captured and that stand in its unit-of-work table, after a point
abbrev pub captured_after : ℕ → Server → List LogUnit
captured_after point server = filter (λ u. nat_lt point u.head.seq) (units_between server.floor server.captured server.log)

-- a time in seconds is up to an end, if there is one
abbrev pub is_until : Option ℕ → ℕ → Bool
is_until None time = true
is_until (Some end) time = nat_le time end

-- of the captured units after a point, those up to an end
abbrev pub captured_until : Option ℕ → ℕ → Server → List LogUnit
captured_until end point server = units_until end (captured_after point server)

-- the seq at which the next block of a set ends, if the units that come next are some
abbrev pub block_end : Option ℕ → KnownSet → Option ℕ
block_end end k = option_map (λ u. u.head.seq) (first_cut k.at_source.def (next_units end k))

-- the seq and the time of the first of some units, if there is one
abbrev pub first_unit : List LogUnit → Option (ℕ × ℕ)
first_unit [] = None
first_unit (u ∷ us) = Some (u.head.seq, u.head.time)

-- the time of the first captured unit of a server from a seq on, 0 if there is none
abbrev pub time_from : ℕ → Server → ℕ
time_from seq server = option_map_or (λ u. u.1) (first_unit (captured_after (seq - 1) server)) 0
