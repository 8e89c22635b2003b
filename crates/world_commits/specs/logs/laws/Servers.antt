-- Servers whose logs are made longer: what their tables are, and which server of a world gets further records.
use Rattle.std.proofs.Common.{◌≡◌, ℕ, Bool, true, false, cond, List, [], ◌++◌, map, Option, Some, None, refl, sym, ap, append-nil, option_map, option_and_then, bytes_eq}
use Rattle.std.proofs.Math.Path.{fun_ext}
use Rattle.repl_model.specs.Words.{LogRecord, TableDef, table_after, Registered, ServerTable, Server, World, tables_of, as_source, server_table, source_named, lengthened, with_more, grown_server, grown}

-- ---- tables

-- a table is the same after a longer log
table_stays : (def : TableDef) (log more : List LogRecord) → table_after (log ++ more) def ≡ table_after log def
table_stays def log more = refl

-- a server's tables stay
pub tables_stay : (more : List LogRecord) (server : Server) → tables_of (with_more more server) ≡ tables_of server
tables_stay more server = ap (λ (f : TableDef → TableDef). map (λ t. f t.def) server.tables) (fun_ext (λ def. table_stays def server.log more))

-- a registered table of a name is the same source, whose log is longer
pub source_longer : (name : List ℕ) (more : List LogRecord) (server : Server) → source_named name (with_more more server) ≡ option_map (lengthened more) (source_named name server)
source_longer name more server = by_table (server_table name server)
  where
    registered : (def : TableDef) (r : Option Registered) → option_map (λ r. record { def = table_after (server.log ++ more) def; reg = r.reg; log = server.log ++ more }) r ≡ option_map (lengthened more) (option_map (λ r. record { def = table_after server.log def; reg = r.reg; log = server.log }) r)
    registered def None = refl
    registered def (Some r) = ap (λ (d : TableDef). Some (record { def = d; reg = r.reg; log = server.log ++ more })) (table_stays def server.log more)

    by_table : (o : Option ServerTable) → option_and_then (as_source (with_more more server)) o ≡ option_map (lengthened more) (option_and_then (as_source server) o)
    by_table None = refl
    by_table (Some t) = registered t.def t.registered

-- ---- by further records of each server

-- the further records of a server, if the one of this name gets them
abbrev pub more_for : List ℕ → List LogRecord → Server → List LogRecord
more_for name more server = cond (bytes_eq name server.name) more []

-- a server with its further records
abbrev pub longer : List ℕ → List LogRecord → Server → Server
longer name more server = with_more (more_for name more server) server

-- the servers with their further records
abbrev pub longer_world : List ℕ → List LogRecord → World → World
longer_world name more world = map (longer name more) world

-- each server has its further records
pub server_grows : (name : List ℕ) (more : List LogRecord) (server : Server) → grown_server name more server ≡ longer name more server
server_grows name more server = by_name (bytes_eq name server.name)
  where
    by_name : (b : Bool) → cond b (with_more more server) server ≡ with_more (cond b more []) server
    by_name true = refl
    by_name false = ap (λ (log : List LogRecord). record server { log = log }) (sym (append-nil server.log))

-- so has each server of the world
pub world_grows : (name : List ℕ) (more : List LogRecord) (world : World) → grown name more world ≡ longer_world name more world
world_grows name more world = ap (λ (f : Server → Server). map f world) (fun_ext (server_grows name more))
