-- A capture worked out: a server whose log has the start of a registration, and a user's order after it.
use Rattle.std.specs.Prelude.{pos, false, List, [], ◌∷◌, ◌++◌, Some, codes}
use Rattle.repl_types.specs.declared.value.Value.TheVariants.{Int}
use Rattle.repl_types.specs.declared.record.LogRecord.{LogRecord}
use Rattle.repl_model.specs.World.{Registered, Server}
use Rattle.repl_model.specs.WorkedOrders.{orders, with_quantity, orders_insert, user_commit, signal_of}
use Rattle.repl_model.specs.WorkedWorld.{copied_from, registered_orders, hq}

-- a log: the signal that starts the registration of orders, whose unit is at 2, and a user's order, whose unit
-- is at 4
abbrev pub first_order_log : List LogRecord
first_order_log = signal_of (codes "s") ++ orders_insert 5 1 (codes "pen") (Int (pos 20)) ∷ user_commit 5 (codes "ann") 100 ∷ []

-- the registration of orders before its start
abbrev pub unstarted_orders : Registered
unstarted_orders = record { reg = with_quantity; active = false; start = 0; floor = 0 }

-- hq with this log, of which nothing is captured
abbrev pub uncaptured_hq : Server
uncaptured_hq = record hq {
  log = first_order_log;
  tables = record { def = orders; registered = Some unstarted_orders } ∷ [];
  captured = 0;
  source_sets = record copied_from { mark = 0; signal = 0 } ∷ [];
}

-- hq after the first unit: orders are active from 2 on
abbrev pub started_hq : Server
started_hq = record uncaptured_hq { tables = registered_orders ∷ []; captured = 2 }

-- hq after both units
abbrev pub captured_hq : Server
captured_hq = record started_hq { captured = 4 }
