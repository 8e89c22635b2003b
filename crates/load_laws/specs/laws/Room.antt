-- What is known if a load passes no limit on counts.
use Rattle.std.proofs.Common.{◌≡◌, false, List, None, option_map}
use Rattle.std.specs.List.{list_any}
use Rattle.std.proofs.lemmas.Bool.{not-true}
use Rattle.repl_model.specs.Words.{at_each, or_none, map_none, chosen_none}
use Rattle.repl_types.specs.declared.refusal.Refusal.TheVariants as refusals
use Rattle.spelled_defs.specs.declared.defs.Defs.{Defs}
use Rattle.load_plan.specs.Limits.{has_many_tables, has_many_sets, has_many_columns, has_many_members, passed_limit}
use Rattle.load_plan.specs.Refusals.{count_refusal}
use Rattle.load_plan.specs.Servers.{missing_server}
use Rattle.load_plan.specs.declared.stored.StoredServer.{StoredServer}
use Rattle.load_laws.specs.planned.PlannedLoads.{HasRoom}
use Rattle.load_laws.specs.laws.PlannedLists.{fails_at}

-- A load passes no limit on counts.
pub record HasFew (defs : Defs) (stored : List StoredServer) : Type 0 where
  pub tables : list_any (has_many_tables defs) stored ≡ false
  pub sets : list_any (has_many_sets defs) stored ≡ false
  pub columns : has_many_columns defs ≡ false
  pub members : has_many_members defs ≡ false

-- if no limit is passed, there are few of each
few_of_each : (defs : Defs) (stored : List StoredServer) → passed_limit defs stored ≡ None → HasFew defs stored
unfolding passed_limit
few_of_each defs stored none =
    let tables = chosen_none (list_any (has_many_tables defs) stored) _ _ none in
    let sets = chosen_none (list_any (has_many_sets defs) stored) _ _ tables.1 in
    let columns = chosen_none (has_many_columns defs) _ _ sets.1 in
    let members = chosen_none (has_many_members defs) _ _ columns.1 in
    record {
      tables = not-true (list_any (has_many_tables defs) stored) tables.0;
      sets = not-true (list_any (has_many_sets defs) stored) sets.0;
      columns = not-true (has_many_columns defs) columns.0;
      members = not-true (has_many_members defs) members.0;
    }

-- if counts aren't refused, no server is missing, and there are few of each
pub unrefused_counts : (defs : Defs) (stored : List StoredServer) → count_refusal defs stored ≡ None → (missing_server defs stored ≡ None) × HasFew defs stored
unrefused_counts defs stored none =
    let parts = or_none (option_map refusals.NoSuchServer (missing_server defs stored)) (option_map refusals.LimitReached (passed_limit defs stored)) none in
    (map_none refusals.NoSuchServer (missing_server defs stored) parts.0, few_of_each defs stored (map_none refusals.LimitReached (passed_limit defs stored) parts.1))

-- then each server has room for what it gets
pub has_room : HasRoom
has_room defs stored none =
    let few = (unrefused_counts defs stored none).1 in
    at_each (λ server. (has_many_tables defs server ≡ false) × (has_many_sets defs server ≡ false)) stored (λ server i. (fails_at (has_many_tables defs) stored server few.tables i, fails_at (has_many_sets defs) stored server few.sets i))
