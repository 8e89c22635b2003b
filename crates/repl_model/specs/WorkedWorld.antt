-- A small world: a server with orders, and a server with a copy of those of many pieces.
use Rattle.std.specs.Prelude.{true, false, [], ◌∷◌, codes, Some, None}
use Rattle.repl_types.specs.declared.record.SetId.{SetId}
use Rattle.repl_definitions.specs.declared.member.Member.{Member}
use Rattle.repl_definitions.specs.declared.member.TargetKind.TheVariants.{UserCopy}
use Rattle.repl_definitions.specs.declared.set.SetDef.{SetDef}
use Rattle.repl_model.specs.Trails.{Trail, refresh, block}
use Rattle.repl_model.specs.World.{Registered, ServerTable, SourceSide, TargetSide, Server, World, KnownSet}
use Rattle.repl_model.specs.WorkedOrders.{orders, with_quantity, column}
use Rattle.repl_model.specs.WorkedCopies.{changed_log, many}

-- ---- the set

-- the member: a copy of the numbers and quantities of orders with many pieces
abbrev pub orders_copy : Member
orders_copy = record { source = codes "orders"; target = codes "orders_copy"; kind = UserCopy; columns = column (codes "id") 0 ∷ column (codes "qty") 2 ∷ []; filter = Some many }

-- the name of the set, which the signal in the log of orders names
abbrev pub copied_id : SetId
copied_id = record { qual = codes "q"; name = codes "s" }

-- the set: that one member, copied from hq to shop, with no limits on a step
abbrev pub copied_set : SetDef
copied_set = record { id = copied_id; source = codes "hq"; target = codes "shop"; commit_count = 0; max_minutes = 0; members = orders_copy ∷ [] }

-- the trail of the set: a refresh at the signal, and a block of all units after it
abbrev pub copied_trail : Trail
copied_trail = refresh 2 None ∷ block 2 8 None ∷ []

-- ---- the source

-- the registration of orders: active since the signal, and with nothing pruned
abbrev pub started_orders : Registered
started_orders = record { reg = with_quantity; active = true; start = 2; floor = 0 }

-- the table of orders, registered so
abbrev pub registered_orders : ServerTable
registered_orders = record { def = orders; registered = Some started_orders }

-- the set at its source: all that was copied is reported, and the last signal is the one in the log
abbrev pub copied_from : SourceSide
copied_from = record { def = copied_set; mark = 8; signal = 2; t = 0; d = 0; codes = [] }

-- the source: its whole log is captured, and nothing is pruned
abbrev pub hq : Server
hq = record { name = codes "hq"; log = changed_log; tables = registered_orders ∷ []; captured = 8; floor = 0; shown = []; source_sets = copied_from ∷ []; target_sets = [] }

-- ---- the target

-- the set at its target
abbrev pub copied_to : TargetSide
copied_to = record { def = copied_set; flag = false; trail = copied_trail; signal = 0 }

-- the target: nothing of its own
abbrev pub shop : Server
shop = record { name = codes "shop"; log = []; tables = []; captured = 0; floor = 0; shown = []; source_sets = []; target_sets = copied_to ∷ [] }

-- ---- the world

-- the two servers
abbrev pub worked_world : World
worked_world = hq ∷ shop ∷ []

-- the set at both its ends
abbrev pub copied : KnownSet
copied = record { source = hq; at_source = copied_from; target = shop; at_target = copied_to }
