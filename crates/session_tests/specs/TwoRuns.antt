-- What two runs over the same servers come to, one after the other.
use Rattle.std.specs.Prelude.{◌≡◌, List, ◌++◌, Option}
use Rattle.keep_core.specs.Contents.{Contents}
use Rattle.repl_model.specs.World.{World}
use Rattle.run_core.specs.Runs.{Event, last_world}

-- The first of some events happened: what is held stands for the last world of these.
pub record HasBegun (Means : List (Option Contents) → World → Type 0) (events : List (Event World)) (w : World) (held : List (Option Contents)) : Type 0 where
  pub done : List (Event World)
  pub rest : List (Event World)
  pub split : events ≡ done ++ rest
  pub stands : Means held (last_world w done)

-- The first events of a first run happened, and then, in the world that these led to, the first events of a second one.
pub record GoesOnFrom (Means : List (Option Contents) → World → Type 0) (first : List (Event World)) (second : World → List (Event World)) (w : World) (held : List (Option Contents)) : Type 0 where
  pub done : List (Event World)
  pub rest : List (Event World)
  pub split : first ≡ done ++ rest
  pub then : HasBegun Means (second (last_world w done)) (last_world w done) held
