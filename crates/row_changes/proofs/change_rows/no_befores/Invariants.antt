use Rattle.std.proofs.Common.{◌≡◌, ℕ, map, take}
use Rattle.repl_types.specs.declared.value.Value.TheVariants.{Null}
use Rattle.row_changes.proofs.change_rows.no_befores.Given as goal

abbrev pub invariant-loop : goal.invariant-loop
invariant-loop l = l.befores ≡ map (λ (place : ℕ). Null) (take l.index l.items)
