-- Tables of which no record stands for a missing one.
use Rattle.std.proofs.Common.{◌≡◌, ℕ, List, Option, Some, None, refl}
use Rattle.std.specs.Option.{option_or}
use Rattle.rows_in_order.specs.Contents.{Table}
use Rattle.world_store.specs.Tables.{no_rows, with_first}

-- if no record stands for a missing one, the table is read as it is
pub no_first : (t : Table) → with_first no_rows t ≡ t
no_first t = λ i k. none (t k) i
  where
    none : (o : Option (List ℕ)) → option_or o None ≡ o
    none None = refl
    none (Some v) = refl
