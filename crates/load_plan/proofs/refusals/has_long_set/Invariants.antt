use Rattle.std.proofs.Common.{◌≡◌, ◌+◌, length, drop, nat_lt}
use Rattle.std.specs.List.{AllByRecursion, list_any}
use Rattle.repl_model.specs.Words.{value_limit, set_def_spelling, HasSetDefSpelling, IsSetDef}
use Rattle.load_plan.proofs.refusals.has_long_set.Given as goal

abbrev pub invariant-sets : goal.invariant-sets
invariant-sets l = record {
  any : list_any (λ def. nat_lt value_limit (length (set_def_spelling def) + 4)) (drop l.set-index l.sets) ≡ list_any (λ def. nat_lt value_limit (length (set_def_spelling def) + 4)) l.sets;
  spelled : AllByRecursion HasSetDefSpelling (drop l.set-index l.sets);
  fit : AllByRecursion IsSetDef (drop l.set-index l.sets) → AllByRecursion IsSetDef l.sets;
}
