-- When the contents of servers stand for a world.
use Rattle.std.specs.Prelude.{◌≡◌, ℕ, List, Option, Some, map}
use Rattle.std.specs.List.{AllZip}
use Rattle.repl_types.specs.declared.area.Area.{Area}
use Rattle.repl_types.specs.declared.area.Area.TheVariants as areas
use Rattle.rows_in_order.specs.Contents.{Contents, Table}
use Rattle.repl_model.specs.World.{Server, World}
use Rattle.repl_model.specs.Sound.{IsSound}
use Rattle.world_store.specs.Tables.{no_rows, tables, with_first, first_table}

-- what counts of a table: nothing of the area Spill, and of the others each record, a missing one as what it
-- stands for
abbrev pub shown : Server → Area → ℕ → Table → Table
shown server areas.Log n t = t
shown server areas.Source n t = t
shown server areas.Inflight n t = t
shown server areas.Head n t = with_first (first_table server areas.Head n) t
shown server areas.Defs n t = t
shown server areas.Cd n t = t
shown server areas.Uow n t = t
shown server areas.Capture n t = with_first (first_table server areas.Capture n) t
shown server areas.Prune n t = with_first (first_table server areas.Prune n) t
shown server areas.Spill n t = no_rows
shown server areas.Target n t = t
shown server areas.SetState n t = with_first (first_table server areas.SetState n) t
shown server areas.Trail n t = t

-- the contents of a server are the tables that the world calls for, and nothing else
abbrev pub Holds : World → Server → Contents → Type 0
Holds world server contents = (a : Area) (n : ℕ) → shown server a n (contents a n) ≡ tables world server a n

-- a server reveals its contents, and they are those
abbrev pub Reveals : World → Server → Option Contents → Type 0
Reveals world server told = (contents : Contents) × (told ≡ Some contents) × Holds world server contents

-- The servers with these names, which hold this, stand for a sound world: server by server each table is what
-- the world calls for.
pub record Stands (names : List (List ℕ)) (held : List (Option Contents)) (world : World) : Type 0 where
  pub sound : IsSound world
  pub named : map (λ server. server.name) world ≡ names
  pub servers : AllZip (Reveals world) world held
