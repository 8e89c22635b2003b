-- How the program ends.
use Rattle.std.specs.Prelude.{ℕ, List, [], ◌++◌, Option, Some, None, codes, slice_index_or}
use Rattle.repl_types.specs.declared.area.Area.{Area}
use Rattle.repl_types.specs.declared.area.Area.TheVariants as areas
use Rattle.repl_types.specs.declared.status.Status.{Status}
use Rattle.repl_types.specs.declared.status.Status.TheVariants as statuses
use Rattle.sqlrep.specs.declared.servers.OpenError.{OpenError}
use Rattle.sqlrep.specs.declared.servers.OpenError.TheVariants as opening

-- the exit status
abbrev pub code_of : Status → ℕ
code_of statuses.Ok = 0
code_of statuses.Refused = 1
code_of statuses.Usage = 2
code_of (statuses.KeeperFault server) = 3
code_of statuses.InputFault = 4
code_of statuses.OutputFault = 5
code_of statuses.Memory = 6
code_of statuses.InputTooLong = 7
code_of (statuses.Damaged server area cause) = 8

-- the exit status of a run that came to its end is at most this
abbrev pub done_code : ℕ
done_code = code_of statuses.Refused

-- the exit status of words that ask for nothing
abbrev pub usage_code : ℕ
usage_code = code_of statuses.Usage

-- the name of an area
abbrev pub area_name : Area → List ℕ
area_name areas.Log = codes "Log"
area_name areas.Source = codes "Source"
area_name areas.Inflight = codes "Inflight"
area_name areas.Head = codes "Head"
area_name areas.Defs = codes "Defs"
area_name areas.Cd = codes "Cd"
area_name areas.Uow = codes "Uow"
area_name areas.Capture = codes "Capture"
area_name areas.Prune = codes "Prune"
area_name areas.Spill = codes "Spill"
area_name areas.Target = codes "Target"
area_name areas.SetState = codes "SetState"
area_name areas.Trail = codes "Trail"

-- the line if memory ran out
abbrev pub memory_line : List ℕ
memory_line = codes "sqlrep: out of memory"

-- the line of a failed keeper, at a server of this name
abbrev pub keeper_line : List ℕ → List ℕ
keeper_line name = codes "sqlrep: keeper fault at " ++ name

-- the line of damaged contents: a server's name, and that of an area
abbrev pub damaged_line : List ℕ → List ℕ → List ℕ
damaged_line name area = codes "sqlrep: damaged " ++ (name ++ (codes " " ++ area))

-- the line on standard error, given the names of the servers
abbrev pub status_line_of : List (List ℕ) → Status → Option (List ℕ)
status_line_of names statuses.Ok = None
status_line_of names statuses.Refused = None
status_line_of names statuses.Usage = Some (codes "sqlrep: usage: sqlrep [--cells N] NAME=PATH... | sqlrep copy")
status_line_of names (statuses.KeeperFault server) = Some (keeper_line (slice_index_or names server []))
status_line_of names statuses.InputFault = Some (codes "sqlrep: input fault")
status_line_of names statuses.OutputFault = Some (codes "sqlrep: output fault")
status_line_of names statuses.Memory = Some memory_line
status_line_of names statuses.InputTooLong = Some (codes "sqlrep: input too long")
status_line_of names (statuses.Damaged server area cause) = Some (damaged_line (slice_index_or names server []) (area_name area))

-- the line if a server of this name can't be opened
abbrev pub cannot_open_line : List ℕ → List ℕ
cannot_open_line name = codes "sqlrep: cannot open " ++ name

-- the line if servers can't be opened
abbrev pub unopened_line : OpenError → List ℕ
unopened_line opening.Memory = memory_line
unopened_line (opening.CannotOpen name) = cannot_open_line name
