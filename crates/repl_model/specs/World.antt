-- What a group of servers is to a reader: logs, definitions and a few numbers.
use Rattle.std.specs.Prelude.{ℕ, ◌+◌, Bool, false, ◌&&◌, ◌==◌, nat_lt, nat_le, List, [], map, find, slice_index_or, Option}
use Rattle.std.specs.List.{filter_map, flat_map, list_any}
use Rattle.std.specs.Option.{option_map, option_map_or, option_and_then}
use Rattle.std.specs.Str.{bytes_eq}
use Rattle.repl_types.specs.declared.record.LogRecord.{LogRecord}
use Rattle.repl_types.specs.declared.record.LogRecord.TheVariants as records
use Rattle.repl_types.specs.declared.record.SetId.{SetId}
use Rattle.repl_types.specs.declared.table.TableDef.{TableDef}
use Rattle.repl_types.specs.declared.change_row.Registration.{Registration}
use Rattle.repl_definitions.specs.declared.set.SetDef.{SetDef}
use Rattle.repl_model.specs.Units.{At, positions, last_end}
use Rattle.repl_model.specs.SourceAt.{table_after}
use Rattle.repl_model.specs.Selection.{SourceTable}
use Rattle.repl_model.specs.Trails.{Trail}

-- ---- one server

-- A registration: whether it is active, the seq of the unit that started it last, 0 if none did, and the
-- point up to which its change rows are pruned.
pub record Registered : Type 0 where
  pub reg : Registration
  pub active : Bool
  pub start : ℕ
  pub floor : ℕ

-- A table, with its registration if it has one.
pub record ServerTable : Type 0 where
  pub def : TableDef
  pub registered : Option Registered

-- What a server knows of a set whose source it is: the point that the targets have reported, and the seq of
-- the last signal. Of a replica set it knows how far it has decided, the replica's units up to t and its
-- own up to d, and the codes of the units that it rejected, by their seqs.
pub record SourceSide : Type 0 where
  pub def : SetDef
  pub mark : ℕ
  pub signal : ℕ
  pub t : ℕ
  pub d : ℕ
  pub codes : List (ℕ × ℕ)

-- What a server knows of a set whose target it is: whether a refresh was asked for, the trail, and, of a
-- replica set, the seq of the last signal at this server.
pub record TargetSide : Type 0 where
  pub def : SetDef
  pub flag : Bool
  pub trail : Trail
  pub signal : ℕ

-- A server. Tables, and the sets at either side, are numbered from 0 in the order in which they stand. It has
-- captured the units of its log up to a point, and its unit-of-work table is pruned up to a floor. The codes
-- shown there for rejected units stand by their seqs.
pub record Server : Type 0 where
  pub name : List ℕ
  pub log : List LogRecord
  pub tables : List ServerTable
  pub captured : ℕ
  pub floor : ℕ
  pub shown : List (ℕ × ℕ)
  pub source_sets : List SourceSide
  pub target_sets : List TargetSide

-- the servers of a group
abbrev pub World : Type 0
World = List Server

-- ---- what a server has

-- the tables of a server, as they are after its log
abbrev pub tables_of : Server → List TableDef
tables_of server = map (λ t. table_after server.log t.def) server.tables

-- the registrations of a server
abbrev pub registered_of : Server → List Registered
registered_of server = filter_map (λ t. t.registered) server.tables

-- the table of a server that has a name, if there is one
abbrev pub server_table : List ℕ → Server → Option ServerTable
server_table name server = find (λ t. bytes_eq name t.def.name) server.tables

-- a table of a server as a source, if it is registered
abbrev pub as_source : Server → ServerTable → Option SourceTable
as_source server t = option_map (λ r. record { def = table_after server.log t.def; reg = r.reg; log = server.log }) t.registered

-- the registered table of a server that has a name, if there is one
abbrev pub source_named : List ℕ → Server → Option SourceTable
source_named name server = option_and_then (as_source server) (server_table name server)

-- the change is one up to a point, of a transaction that doesn't end between them
abbrev pub is_open_at : List LogRecord → ℕ → At → Bool
is_open_at log point (pos, records.Change tx change) = nat_le pos point && nat_lt (last_end tx (point + 1) log) pos
is_open_at log point (pos, records.Commit tx time authid origin) = false
is_open_at log point (pos, records.Abort tx) = false

-- where a capture after a point has to begin to read the log: at the first change up to the point whose
-- transaction is in flight there; if there is none, after the point
unfoldable pub restart_after : List LogRecord → ℕ → ℕ
restart_after log point = option_map_or (λ r. r.0) (find (is_open_at log point) (positions log)) (point + 1)

-- ---- sets

-- two names of sets are alike
abbrev pub same_set : SetId → SetId → Bool
same_set a b = bytes_eq a.qual b.qual && bytes_eq a.name b.name

-- the server of a name, if it is one of these
abbrev pub server_named : List ℕ → World → Option Server
server_named name world = find (λ server. bytes_eq name server.name) world

-- A set that stands at both its ends.
pub record KnownSet : Type 0 where
  pub source : Server
  pub at_source : SourceSide
  pub target : Server
  pub at_target : TargetSide

-- what a server has of a set whose source it is, if it has it
abbrev pub source_side : SetId → Server → Option SourceSide
source_side id server = find (λ side. same_set id side.def.id) server.source_sets

-- what a server has of a set whose target it is, if it has it
abbrev pub target_side : SetId → Server → Option TargetSide
target_side id server = find (λ side. same_set id side.def.id) server.target_sets

-- a set at its target, if it stands at its source too
abbrev pub known_from : World → Server → TargetSide → Option KnownSet
known_from world target side = option_and_then (λ source. option_map (λ at_source. record { source = source; at_source = at_source; target = target; at_target = side }) (source_side side.def.id source)) (server_named side.def.source world)

-- the sets that stand at both their ends, server by server
unfoldable pub known_sets : World → List KnownSet
known_sets world = flat_map (λ target. filter_map (known_from world target) target.target_sets) world

-- the known set of a name, if there is one
abbrev pub known_set : World → SetId → Option KnownSet
known_set world id = find (λ k. same_set id k.at_target.def.id) (known_sets world)

-- the code of a unit among codes by seqs, 0 if it has none
abbrev pub code_in : List (ℕ × ℕ) → ℕ → ℕ
code_in codes seq = option_map_or (λ c. c.1) (find (λ c. c.0 == seq) codes) 0

-- a set of this name stands at both its ends
abbrev pub is_known : World → SetId → Bool
is_known world id = list_any (λ k. same_set id k.at_target.def.id) (known_sets world)

-- ---- worlds by the places of their servers

-- a server of which nothing is known but its name
abbrev pub empty_server : List ℕ → Server
empty_server name = record { name = name; log = []; tables = []; captured = 0; floor = 0; shown = []; source_sets = []; target_sets = [] }

-- servers of these names, with nothing
abbrev pub empty_world : List (List ℕ) → World
empty_world names = map empty_server names

-- the server of a world with a number
abbrev pub server_in : World → ℕ → Server
server_in world n = slice_index_or world n (empty_server [])
