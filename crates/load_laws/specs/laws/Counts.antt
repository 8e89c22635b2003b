-- The counts of a text that passes no limit.
use Rattle.std.proofs.Common.{◌≡◌, ◌≤◌, Bool, false, List, length, None, nat_lt}
use Rattle.std.specs.List.{AllByRecursion, list_any}
use Rattle.std.proofs.lemmas.Bool.{both_ways, false_from_ne_true, ltb-false, not-true, or_parts}
use Rattle.repl_model.specs.Words.{SetDef, column_limit, member_limit, In, any_from, at_each, or_none, map_none, chosen_none}
use Rattle.spelled_defs.specs.declared.defs.Defs.{Defs}
use Rattle.spelled_defs.specs.declared.defs.TableAt.{TableAt}
use Rattle.load_plan.specs.Limits.{has_many_tables, has_many_sets, has_wide_target, has_many_columns, has_many_members, passed_limit}
use Rattle.load_plan.specs.Refusals.{count_refusal}
use Rattle.load_plan.specs.declared.stored.StoredServer.{StoredServer}

-- if no element passes a test, each fails
pub each_fails : {X : Type 0} (p : X → Bool) (xs : List X) → list_any p xs ≡ false → (x : X) → In x xs → p x ≡ false
each_fails p xs none x i = false_from_ne_true (p x) (λ e. both_ways (list_any p xs) none (any_from p xs x i e))

-- if no limit is passed, no table and no target has more columns than it may, and no set has more members
few : (defs : Defs) (stored : List StoredServer) → passed_limit defs stored ≡ None → (has_many_columns defs ≡ false) × (has_many_members defs ≡ false)
unfolding passed_limit
few defs stored e =
    let tables = chosen_none (list_any (has_many_tables defs) stored) _ _ e in
    let sets = chosen_none (list_any (has_many_sets defs) stored) _ _ tables.1 in
    let columns = chosen_none (has_many_columns defs) _ _ sets.1 in
    let members = chosen_none (has_many_members defs) _ _ columns.1 in
    (not-true (has_many_columns defs) columns.0, not-true (has_many_members defs) members.0)

module _ (defs : Defs) (stored : List StoredServer) (none : count_refusal defs stored ≡ None) where
  -- so it is with a text that isn't refused for its counts
  few_counted : (has_many_columns defs ≡ false) × (has_many_members defs ≡ false)
  few_counted = few defs stored (map_none _ (passed_limit defs stored) (or_none _ _ none).1)

  -- no table and no target has more columns than it may
  few_columns : (list_any (λ t. nat_lt column_limit (length t.def.columns)) defs.tables ≡ false) × (list_any has_wide_target defs.sets ≡ false)
  few_columns = or_parts (list_any (λ t. nat_lt column_limit (length t.def.columns)) defs.tables) (list_any has_wide_target defs.sets) few_counted.0

  -- a table has no more columns than it may
  pub table_columns : AllByRecursion (λ t. length t.def.columns ≤ column_limit) defs.tables
  table_columns = at_each (λ (t : TableAt). length t.def.columns ≤ column_limit) defs.tables (λ t i. ltb-false column_limit (length t.def.columns) (each_fails (λ (t : TableAt). nat_lt column_limit (length t.def.columns)) defs.tables few_columns.0 t i))

  -- a target has no more columns than it may
  pub target_columns : (def : SetDef) → In def defs.sets → AllByRecursion (λ member. length member.columns ≤ column_limit) def.members
  target_columns def i = at_each _ def.members (λ member j. ltb-false column_limit (length member.columns) (each_fails _ def.members (each_fails has_wide_target defs.sets few_columns.1 def i) member j))

  -- a set has no more members than it may
  pub set_members : (def : SetDef) → In def defs.sets → length def.members ≤ member_limit
  set_members def i = ltb-false member_limit (length def.members) (each_fails (λ (def : SetDef). nat_lt member_limit (length def.members)) defs.sets few_counted.1 def i)
