use Rattle.std.proofs.Common.{◌≡◌, ◌+◌, ◌++◌, length, drop, map, filter, count_by}
use Rattle.std.specs.List.{enumerate_from}
use Rattle.load_plan.specs.Limits.{gets_source}
use Rattle.load_plan.proofs.additions.sources_added.Given as goal

abbrev pub invariant-sets : goal.invariant-sets
invariant-sets l = record {
  rows : l.rows ++ map (λ s. record { number = s.0; def = s.1 }) (enumerate_from l.number (filter (gets_source l.server) (drop l.set-index l.defs.sets))) ≡ map (λ s. record { number = s.0; def = s.1 }) (enumerate_from (length l.server.sources) (filter (gets_source l.server) l.defs.sets));
  count : l.number + count_by (gets_source l.server) (drop l.set-index l.defs.sets) ≡ length l.server.sources + count_by (gets_source l.server) l.defs.sets;
}
