-- Which servers a text of definitions names.
use Rattle.std.specs.Prelude.{ℕ, Bool, not, List, [], ◌∷◌, ◌++◌, map, find, Option}
use Rattle.std.specs.List.{flat_map, list_any}
use Rattle.std.specs.Str.{bytes_eq}
use Rattle.spelled_defs.specs.declared.defs.Defs.{Defs}
use Rattle.load_plan.specs.declared.stored.StoredServer.{StoredServer}

-- the names of servers in a text, in its order: those of tables, of registrations, and of sets, where the source comes
-- before the target
abbrev pub server_names : Defs → List (List ℕ)
server_names defs = map (λ t. t.server) defs.tables ++ map (λ r. r.server) defs.registrations ++ flat_map (λ def. def.source ∷ def.target ∷ []) defs.sets

-- the name is that of one of these servers
abbrev pub is_server : List StoredServer → List ℕ → Bool
is_server stored name = list_any (λ server. bytes_eq name server.name) stored

-- the first name in a text that is that of none of these servers
abbrev pub missing_server : Defs → List StoredServer → Option (List ℕ)
missing_server defs stored = find (λ name. not (is_server stored name)) (server_names defs)
