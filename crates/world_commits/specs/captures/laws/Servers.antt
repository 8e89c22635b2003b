-- Servers that have captured units: what changes of them, and what stays.
use Rattle.std.proofs.Common.{◌≡◌, ℕ, Bool, true, false, cond, not, ◌&&◌, List, [], ◌∷◌, map, Option, Some, None, refl, sym, ap, subst, ◌∙◌, fold, option_map, bytes_eq}
use Rattle.std.proofs.lemmas.Simd.{map-map}
use Rattle.std.proofs.Math.Path.{fun_ext}
use Rattle.repl_model.specs.Words.{Change, Placed, Unit, Registered, ServerTable, Server, World, server_named}
use Rattle.repl_types.specs.declared.record.Change.TheVariants.{Insert, Update, Delete, Start, Stop}
use Rattle.world_commits.specs.captures.Captures.{registered_after_change, registered_after, with_registration, with_unit, with_units, captured_server, captured}
use Rattle.world_commits.specs.laws.Changed.{States, ServerChange, in_states, with_states, own_rows, own_tables, states_change, changed, named_changed}

-- ---- the states after units

-- a registration after units are captured
abbrev pub registered_after_units : List Unit → Registered → Registered
registered_after_units us r = fold (λ before u. registered_after u.head.seq u.changes before) r us

-- where a server that has captured up to a point has captured up to after units
abbrev pub captured_after : List Unit → ℕ → ℕ
captured_after us point = fold (λ last u. u.head.seq) point us

-- the states of a server after units are captured
abbrev pub states_after : List Unit → Server → States
states_after us server = record {
  active = λ r. (registered_after_units us r).active;
  start = λ r. (registered_after_units us r).start;
  pruned = λ r. r.floor;
  captured = captured_after us server.captured;
  floor = server.floor;
  shown = server.shown;
}

-- a registration becomes another only in its states
abbrev pub KeepsRest : Registered → Registered → Type 0
KeepsRest r s = s ≡ record r { active = s.active; start = s.start }

-- what changes only in its states, twice, does so
rest_kept : (r s t : Registered) → KeepsRest r s → KeepsRest s t → KeepsRest r t
rest_kept r s t first second = second ∙ ap (λ (x : Registered). record x { active = t.active; start = t.start }) first

-- a change changes a registration only in its states
change_keeps_rest : (seq : ℕ) (r : Registered) (change : Change) → KeepsRest r (registered_after_change seq r change)
change_keeps_rest seq r (Insert table row) = refl
change_keeps_rest seq r (Update table before after) = refl
change_keeps_rest seq r (Delete table row) = refl
change_keeps_rest seq r (Start table) = by_test (bytes_eq table r.reg.table && not r.active)
  where
    by_test : (b : Bool) → KeepsRest r (cond b (record r { active = true; start = seq }) r)
    by_test true = refl
    by_test false = refl
change_keeps_rest seq r (Stop table) = by_test (bytes_eq table r.reg.table)
  where
    by_test : (b : Bool) → KeepsRest r (cond b (record r { active = false }) r)
    by_test true = refl
    by_test false = refl

-- so do the changes of a unit
pub unit_keeps_rest : (seq : ℕ) (changes : List Placed) (r : Registered) → KeepsRest r (registered_after seq changes r)
unit_keeps_rest seq [] r = refl
unit_keeps_rest seq (placed ∷ changes) r =
    let next = registered_after_change seq r placed.change in
    rest_kept r next (registered_after seq changes next) (change_keeps_rest seq r placed.change) (unit_keeps_rest seq changes next)

-- a server after units are captured is the one before, in the states after them
pub by_states : (us : List Unit) (server : Server) → with_units us server ≡ with_states (states_after us server) server
by_states [] server = ap (λ (tables : List ServerTable). record server { tables = tables }) (sym (own_tables server))
by_states (u ∷ us) server =
    by_states us (with_unit u server)
    ∙ ap (λ (tables : List ServerTable). record server { tables = tables; captured = captured_after us u.head.seq }) (
    map-map (with_registration (in_states (states_after us (with_unit u server)))) (with_registration (registered_after u.head.seq u.changes)) server.tables
    ∙ ap (λ (f : ServerTable → ServerTable). map f server.tables) (fun_ext (λ t. ap (λ (r : Option Registered). record t { registered = r }) (one_more t.registered))))
  where
    one_more : (r : Option Registered) → option_map (in_states (states_after us (with_unit u server))) (option_map (registered_after u.head.seq u.changes) r) ≡ option_map (in_states (states_after (u ∷ us) server)) r
    one_more None = refl
    one_more (Some r) =
        let now = registered_after_units (u ∷ us) r in
        ap (λ (x : Registered). Some (record x { active = now.active; start = now.start })) (unit_keeps_rest u.head.seq u.changes r)

-- ---- what captured units leave of a server

-- the name stays
pub name_stays : (us : List Unit) (server : Server) → (with_units us server).name ≡ server.name
name_stays us server = ap (λ (s : Server). s.name) (by_states us server)

-- the log stays
pub log_stays : (us : List Unit) (server : Server) → (with_units us server).log ≡ server.log
log_stays us server = ap (λ (s : Server). s.log) (by_states us server)

-- ---- worlds one of whose servers has captured units

-- the units that a server captures, if the one of this name captures these
abbrev pub units_for : List ℕ → List Unit → Server → List Unit
units_for name us server = cond (bytes_eq name server.name) us []

-- the states of a server after the one of this name has captured units
abbrev pub states_captured : List ℕ → List Unit → Server → States
states_captured name us server = states_after (units_for name us server) server

-- the changes of each server when the one of this name captures units
abbrev pub capturing : List ℕ → List Unit → Server → ServerChange
capturing name us server = record { log = server.log; states = states_captured name us server; rows = own_rows }

-- each server is the one before, with its changes
pub captured_by_states : (name : List ℕ) (us : List Unit) (server : Server) → captured_server name us server ≡ changed (capturing name us) server
captured_by_states name us server =
    by_name (bytes_eq name server.name)
    ∙ by_states (units_for name us server) server
    ∙ states_change server.log (states_captured name us server) server
  where
    by_name : (b : Bool) → cond b (with_units us server) server ≡ with_units (cond b us []) server
    by_name true = refl
    by_name false = refl

-- what holds with the changes of each server holds with each server as it has captured
pub holds_captured : (P : (Server → Server) → Type 0) (name : List ℕ) (us : List Unit) → P (changed (capturing name us)) → P (captured_server name us)
holds_captured P name us = subst P (sym (fun_ext (captured_by_states name us)))

-- the server of a name is the one before, as it has captured
pub named_captured : (name : List ℕ) (us : List Unit) (of : List ℕ) (world : World) → server_named of (captured name us world) ≡ option_map (captured_server name us) (server_named of world)
named_captured name us of world = holds_captured (λ g. server_named of (map g world) ≡ option_map g (server_named of world)) name us (named_changed (capturing name us) world of)
