-- A user's records worked out: the first order of a server.
use Rattle.std.specs.Prelude.{pos, List, [], ◌∷◌, codes, None}
use Rattle.repl_types.specs.declared.value.Value.TheVariants.{Int}
use Rattle.repl_types.specs.declared.record.LogRecord.{LogRecord}
use Rattle.repl_model.specs.World.{Server, empty_server}
use Rattle.repl_model.specs.WorkedOrders.{orders, orders_insert, user_commit}

-- a server with the table of orders, and nothing else
abbrev pub new_server : Server
new_server = record (empty_server (codes "hq")) { tables = record { def = orders; registered = None } ∷ [] }

-- transaction 5 inserts an order, and its user commits
abbrev pub first_order : List LogRecord
first_order = orders_insert 5 1 (codes "pen") (Int (pos 20)) ∷ user_commit 5 (codes "ann") 100 ∷ []
