-- A load worked out: a table, its registration and a set, at two servers with nothing.
use Rattle.std.specs.Prelude.{codes, [], ◌∷◌, Some}
use Rattle.repl_model.specs.World.{Server, World, empty_server, empty_world}
use Rattle.repl_model.specs.WorkedOrders.{orders, with_quantity}
use Rattle.repl_model.specs.WorkedWorld.{copied_set}
use Rattle.spelled_defs.specs.declared.defs.Defs.{Defs}
use Rattle.load_laws.specs.worlds.Loads.{fresh_registration, fresh_source, fresh_target}

-- the definitions: orders at hq, its registration, and the set that copies them to shop
abbrev pub worked_defs : Defs
worked_defs = record {
  tables = record { server = codes "hq"; def = orders } ∷ [];
  registrations = record { server = codes "hq"; def = with_quantity } ∷ [];
  sets = copied_set ∷ [];
}

-- hq and shop, with nothing
abbrev pub two_servers : World
two_servers = empty_world (codes "hq" ∷ codes "shop" ∷ [])

-- hq after the load: it has the table, registered, and the set whose source it is
abbrev pub loaded_hq : Server
loaded_hq = record (empty_server (codes "hq")) {
  tables = record { def = orders; registered = Some (fresh_registration with_quantity) } ∷ [];
  source_sets = fresh_source copied_set ∷ [];
}

-- shop after the load: it has the set whose target it is
abbrev pub loaded_shop : Server
loaded_shop = record (empty_server (codes "shop")) { target_sets = fresh_target copied_set ∷ [] }
