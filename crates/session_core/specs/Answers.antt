-- What the answer to a line says of the lines after it.
use Rattle.std.specs.Prelude.{◌≡◌, ℕ}
use Rattle.keep_core.specs.Kept.{Kept}
use Rattle.repl_model.specs.World.{World}
use Rattle.site_store.specs.Views.{names, held}
use Rattle.site_store.specs.declared.sites.Sites.{Sites}
use Rattle.world_store.specs.Stands.{Stands}
use Rattle.session_core.specs.Bodies.{KeepsBodies}
use Rattle.session_core.specs.declared.bodies.Answer.{Answer}
use Rattle.session_core.specs.declared.bodies.Bodies.{Bodies}

-- The run does this with body lines after the line, of which the next has this number at least.
pub record Follows {K : Type 0} (kept : K → Kept) (old : Sites K) (after : World → Bodies) (next : ℕ) (answer : Answer) : Type 0 where
  pub bodies : (w : World) → Stands (names old) (held kept old) w → answer.bodies ≡ after w
  pub keeps : KeepsBodies next answer.bodies
