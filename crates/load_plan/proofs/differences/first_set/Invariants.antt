use Rattle.std.proofs.Common.{◌≡◌, drop, find}
use Rattle.std.specs.List.{AllByRecursion}
use Rattle.repl_model.specs.Words.{HasSetDefSpelling}
use Rattle.load_plan.specs.Differences.{set_differs}
use Rattle.load_plan.proofs.differences.first_set.Given as goal

abbrev pub invariant-sets : goal.invariant-sets
invariant-sets l = record {
  first : find (set_differs l.stored) (drop l.set-index l.defs.sets) ≡ find (set_differs l.stored) l.defs.sets;
  spelled : AllByRecursion HasSetDefSpelling (drop l.set-index l.defs.sets);
}
