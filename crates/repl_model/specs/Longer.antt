-- Logs made longer by further records.
use Rattle.std.specs.Prelude.{ℕ, ◌≤◌, IsTrue, not, nat_lt, if◌then◌else◌, List, [], ◌∷◌, ◌++◌, length, map, filter}
use Rattle.std.specs.List.{AllByRecursion, list_all}
use Rattle.std.specs.Option.{option_to_list}
use Rattle.std.specs.Str.{bytes_eq}
use Rattle.repl_types.specs.declared.record.LogRecord.{LogRecord}
use Rattle.repl_types.specs.declared.unit.Unit.{Unit}
use Rattle.repl_model.specs.Units.{units}
use Rattle.repl_model.specs.Selection.{SourceTable}
use Rattle.repl_model.specs.Trails.{Entry, refresh, block, load, settle, Trail}
use Rattle.repl_model.specs.World.{Server, World, KnownSet}
use Rattle.repl_model.specs.Replicas.{comes_from}

-- ---- one source

-- a source table whose server's log is made longer
abbrev pub lengthened : List LogRecord → SourceTable → SourceTable
lengthened more source = record source { log = source.log ++ more }

-- the points of the source in an entry of a trail, with that at which base aggregates were read
abbrev pub points_of : Entry → List ℕ
points_of (refresh p q) = p ∷ option_to_list q
points_of (block low high q) = low ∷ high ∷ option_to_list q
points_of (load m f rows) = m ∷ []
points_of (settle m f rejected applied) = m ∷ []

-- no point of the source in a trail is past the end of a log of this length
abbrev pub EndsWithin : ℕ → Trail → Type 0
EndsWithin len trail = AllByRecursion (λ e. AllByRecursion (λ point. point ≤ len) (points_of e)) trail

-- ---- one server of a group

-- a server whose log is made longer
abbrev pub with_more : List LogRecord → Server → Server
with_more more server = record server { log = server.log ++ more }

-- a server after the log of the server of this name is made longer
abbrev pub grown_server : List ℕ → List LogRecord → Server → Server
grown_server name more server = if bytes_eq name server.name then with_more more server else server

-- the servers after the log of the server of this name is made longer
abbrev pub grown : List ℕ → List LogRecord → World → World
grown name more world = map (grown_server name more) world

-- a known set after the log of the server of this name is made longer
abbrev pub grown_set : List ℕ → List LogRecord → KnownSet → KnownSet
grown_set name more k = record k { source = grown_server name more k.source; target = grown_server name more k.target }

-- the units that a server gets when the log of the server of this name is made longer
abbrev pub new_units : List ℕ → List LogRecord → Server → List Unit
new_units name more server = filter (λ u. nat_lt (length server.log) u.head.seq) (units (grown_server name more server).log)

-- no unit that the source of a set or its target then gets comes from the set
abbrev pub NoneFrom : List ℕ → List LogRecord → KnownSet → Type 0
NoneFrom name more k = IsTrue (list_all (λ u. not (comes_from k.at_target.def.id u)) (new_units name more k.source ++ new_units name more k.target))
