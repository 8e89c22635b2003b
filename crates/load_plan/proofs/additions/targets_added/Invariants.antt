use Rattle.std.proofs.Common.{◌≡◌, ◌+◌, ◌++◌, length, drop, map, filter, count_by}
use Rattle.std.specs.List.{enumerate_from}
use Rattle.load_plan.specs.Limits.{gets_target}
use Rattle.load_plan.proofs.additions.targets_added.Given as goal

abbrev pub invariant-sets : goal.invariant-sets
invariant-sets l = record {
  rows : l.rows ++ map (λ s. record { number = s.0; def = s.1 }) (enumerate_from l.number (filter (gets_target l.server) (drop l.set-index l.defs.sets))) ≡ map (λ s. record { number = s.0; def = s.1 }) (enumerate_from (length l.server.targets) (filter (gets_target l.server) l.defs.sets));
  count : l.number + count_by (gets_target l.server) (drop l.set-index l.defs.sets) ≡ length l.server.targets + count_by (gets_target l.server) l.defs.sets;
}
