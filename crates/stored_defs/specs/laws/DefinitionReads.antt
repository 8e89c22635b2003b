-- Reads of definitions add up: proofs, and nothing to believe.
use Rattle.std.proofs.Common.{ℕ, ◌+◌, ◌≤◌, Bool, true, false, cond, arith, ◌&&◌, ◌==◌}
use Rattle.site_store.specs.Words.{both, reads_of_one, IsAtMost}
use Rattle.repl_model.specs.Words.{same_area}
use Rattle.repl_types.specs.declared.area.Area.TheVariants as areas
use Rattle.stored_defs.specs.DefinitionReads.{in_defs}

-- reads of the area Defs add up
pub defs_more : (m n k : ℕ) → m + n ≤ k → IsAtMost (both (in_defs m) (in_defs n)) (in_defs k)
defs_more m n k le = record { reads = λ q b. pick (same_area areas.Defs b); writes = λ q b. omega arith }
  where
    pick : (t : Bool) → cond t m 0 + cond t n 0 ≤ cond t k 0
    pick true = le
    pick false = omega arith

-- reads at one server are within reads at every server
pub one_in_defs : (m s : ℕ) → IsAtMost (reads_of_one m s areas.Defs) (in_defs m)
one_in_defs m s = record { reads = λ q b. pick (same_area areas.Defs b) (s == q); writes = λ q b. omega arith }
  where
    pick : (t u : Bool) → cond (t && u) m 0 ≤ cond t m 0
    pick true true = omega arith
    pick true false = omega arith
    pick false u = omega arith
