-- What a server holds becomes what a world calls for there.
use Rattle.std.specs.Prelude.{◌≡◌, ℕ, Bool, true, false}
use Rattle.repl_types.specs.declared.area.Area.{Area}
use Rattle.rows_in_order.specs.Contents.{Contents}
use Rattle.repl_model.specs.World.{Server, World}
use Rattle.world_store.specs.Tables.{tables}
use Rattle.world_store.specs.Stands.{shown}

-- Contents after a commit at a server: in the tables that it changes stands what the world calls for at the server as it
-- then is, and the others are as they were. A record that is missing reads as what it stands for.
pub record Becomes (changes : Area → ℕ → Bool) (world : World) (server : Server) (before now : Contents) : Type 0 where
  pub has : (a : Area) (n : ℕ) → changes a n ≡ true → shown server a n (now a n) ≡ tables world server a n
  pub others : (a : Area) (n : ℕ) → changes a n ≡ false → now a n ≡ before a n
