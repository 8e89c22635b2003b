use Rattle.repl_types.specs.laws.Order.{key_cmp_total, exact_key, derived_key_cmp}
use Rattle.repl_types.proofs.laws.keys_in_order.Goals as goal

pub returns-clause-total : goal.returns-clause-total
returns-clause-total c = key_cmp_total

pub returns-clause-exact : goal.returns-clause-exact
returns-clause-exact c = exact_key

pub returns-clause-derived : goal.returns-clause-derived
returns-clause-derived c = derived_key_cmp
