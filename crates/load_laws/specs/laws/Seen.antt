-- Definitions that aren't refused name servers of the world, are within the limits, and agree with what stands.
use Rattle.std.proofs.Common.{◌≡◌, ℕ, ◌+◌, ◌≤◌, Bool, true, false, not, ◌&&◌, ◌||◌, nat_lt, List, [], ◌∷◌, ◌++◌, length, map, Option, Some, None, refl, sym, ap, ◌∙◌, inl, inr, arith, count_by, filter, find, is_some, option_map, option_and_then, bytes_eq}
use Rattle.std.specs.List.{AllByRecursion, flat_map, list_any}
use Rattle.std.proofs.lemmas.Bool.{or_parts, not-true, not-false, ltb-false}
use Rattle.std.proofs.lemmas.List.{length-map, length-append}
use Rattle.std.proofs.lemmas.List.Sums.{length-filter}
use Rattle.repl_model.specs.Words.{value_limit, IsSetDef, set_def_spelling, Member, SetDef, one_set_def, IsSound, table_limit, set_limit, column_limit, member_limit, ServerKeepsRules, SetKeepsLimits, UnknownSource, UnknownTarget, Registered, ServerTable, SourceSide, TargetSide, Server, World, same_set, server_named, server_table, source_side, target_side, In, at_one, at_each, in_first, in_second, image_in, listed_in, each_image, any_image, found_in, same_name, or_none, map_none, chosen_none}
use Rattle.world_store.specs.Words.{IsTable, table_spelling, IsRegistration, registration_spelling, One, one_table, one_registration, one_whole}
use Rattle.repl_types.specs.declared.refusal.ItemName.TheVariants as items
use Rattle.repl_types.specs.declared.refusal.Refusal.TheVariants as refusals
use Rattle.spelled_defs.specs.declared.defs.Defs.{Defs}
use Rattle.spelled_defs.specs.declared.defs.RegistrationAt.{RegistrationAt}
use Rattle.spelled_defs.specs.declared.defs.TableAt.{TableAt}
use Rattle.load_laws.specs.worlds.Loads.{new_tables, register, fresh_source, fresh_target, new_sources, new_targets, load_server}
use Rattle.load_laws.specs.rules.Accepted.{AreTyped, HaveServers, IsSetWithin, IsServerWithin, AreWithinLimits, AgreesWith}
use Rattle.load_plan.specs.Differences.{differs, table_differs, registration_differs, set_differs, first_difference}
use Rattle.load_plan.specs.Limits.{gets_table, gets_source, gets_target, has_many_tables, has_many_sets, has_wide_target}
use Rattle.load_plan.specs.Refusals.{has_long_set, has_long_registration}
use Rattle.load_plan.specs.Servers.{server_names, is_server, missing_server}
use Rattle.load_plan.specs.Stored.{table_at, registration_at, source_at, target_at}
use Rattle.load_plan.specs.declared.stored.StoredServer.{StoredServer}
use Rattle.load_laws.specs.planned.Planned.{stored_server, stored_servers}
use Rattle.load_laws.specs.planned.PlannedLoads.{SeesUnrefused}
use Rattle.load_laws.specs.laws.Added.{is_new_table, is_new_source, is_new_target, table_is_new, source_is_new, target_is_new}
use Rattle.load_laws.specs.laws.PlannedLists.{all_fail, some_found, fails_at}
use Rattle.load_laws.specs.laws.Room.{HasFew, unrefused_counts}
use Rattle.load_laws.specs.laws.StoredPlans.{registration_of, table_stored, tables_counted, tables_fit, source_stored, sources_counted, target_stored, targets_counted, registration_stored, registered_fits}

-- ---- servers

-- if no server is missing, each that a text names is one of the world
named_server : (world : World) (defs : Defs) → missing_server defs (stored_servers world) ≡ None → (name : List ℕ) → In name (server_names defs) → is_some (server_named name world) ≡ true
named_server world defs none name i =
    let stored = stored_servers world in
    let is : is_server stored name ≡ true = not-false (is_server stored name) (at_one (λ n. not (is_server stored n) ≡ false) (server_names defs) name (all_fail (λ n. not (is_server stored n)) (server_names defs) none) i) in
    some_found (λ (server : Server). bytes_eq name server.name) world (sym (any_image stored_server (λ (server : StoredServer). bytes_eq name server.name) world) ∙ is)

-- so are the servers of each definition
have_servers : (world : World) (defs : Defs) → missing_server defs (stored_servers world) ≡ None → HaveServers world defs
have_servers world defs none = record {
  tables = at_each (λ t. is_some (server_named t.server world) ≡ true) defs.tables (λ t i. named t.server (in_first (tables ++ registrations) sets t.server (in_first tables registrations t.server (image_in (λ (t : TableAt). t.server) defs.tables t i))));
  registrations = at_each (λ r. is_some (server_named r.server world) ≡ true) defs.registrations (λ r i. named r.server (in_first (tables ++ registrations) sets r.server (in_second tables registrations r.server (image_in (λ (r : RegistrationAt). r.server) defs.registrations r i))));
  sets = at_each (λ def. (is_some (server_named def.source world) ≡ true) × (is_some (server_named def.target world) ≡ true)) defs.sets (λ def i. (
    named def.source (in_second (tables ++ registrations) sets def.source (listed_in both defs.sets def def.source i (inl refl))),
    named def.target (in_second (tables ++ registrations) sets def.target (listed_in both defs.sets def def.target i (inr (inl refl)))),
  ));
}
  where
    named : (name : List ℕ) → In name (server_names defs) → is_some (server_named name world) ≡ true
    named = named_server world defs none

    both : SetDef → List (List ℕ)
    both def = def.source ∷ def.target ∷ []

    tables : List (List ℕ)
    tables = map (λ t. t.server) defs.tables

    registrations : List (List ℕ)
    registrations = map (λ r. r.server) defs.registrations

    sets : List (List ℕ)
    sets = flat_map both defs.sets

-- ---- limits

-- if a limit isn't passed by any element, each is within it
each_within : {X : Type 0} (limit : ℕ) (count : X → ℕ) (xs : List X) → list_any (λ x. nat_lt limit (count x)) xs ≡ false → AllByRecursion (λ x. count x ≤ limit) xs
each_within limit count xs none = at_each (λ x. count x ≤ limit) xs (λ x i. ltb-false limit (count x) (fails_at (λ x. nat_lt limit (count x)) xs x none i))

module _ (world : World) (server : Server) (keeps : ServerKeepsRules world server) (defs : Defs) where
  -- once it is loaded, it has the tables that it keeps and those that it gets
  tables_gained : length (load_server defs server).tables ≡ length (stored_server server).tables + count_by (gets_table (stored_server server)) defs.tables
  tables_gained =
      let gained : count_by (gets_table (stored_server server)) defs.tables ≡ length (new_tables defs server) =
      (λ i. count_by (λ t. table_is_new world server keeps t i) defs.tables)
      ∙ sym (length-filter (is_new_table server) defs.tables)
      ∙ sym (length-map (filter (is_new_table server) defs.tables) (λ (t : TableAt). record { def = t.def; registered = None })) in
      omega (arith, length-map (server.tables ++ new_tables defs server) (register defs server), length-append server.tables (new_tables defs server), tables_counted world server keeps, gained)

  -- it is the source of the sets that it keeps and those that it gets
  sources_gained : length (load_server defs server).source_sets ≡ length (stored_server server).sources + count_by (gets_source (stored_server server)) defs.sets
  sources_gained =
      let gained : count_by (gets_source (stored_server server)) defs.sets ≡ length (new_sources defs server) =
      (λ i. count_by (λ def. source_is_new world server keeps def i) defs.sets)
      ∙ sym (length-filter (is_new_source server) defs.sets)
      ∙ sym (length-map (filter (is_new_source server) defs.sets) fresh_source) in
      omega (arith, length-append server.source_sets (new_sources defs server), sources_counted world server keeps, gained)

  -- and so the target
  targets_gained : length (load_server defs server).target_sets ≡ length (stored_server server).targets + count_by (gets_target (stored_server server)) defs.sets
  targets_gained =
      let gained : count_by (gets_target (stored_server server)) defs.sets ≡ length (new_targets defs server) =
      (λ i. count_by (λ def. target_is_new world server keeps def i) defs.sets)
      ∙ sym (length-filter (is_new_target server) defs.sets)
      ∙ sym (length-map (filter (is_new_target server) defs.sets) fresh_target) in
      omega (arith, length-append server.target_sets (new_targets defs server), targets_counted world server keeps, gained)

  -- it is within the limits if it has room for what it gets
  server_within : has_many_tables defs (stored_server server) ≡ false → has_many_sets defs (stored_server server) ≡ false → IsServerWithin (load_server defs server)
  server_within tables sets =
      let both = or_parts (nat_lt set_limit (length (stored_server server).sources + count_by (gets_source (stored_server server)) defs.sets)) (nat_lt set_limit (length (stored_server server).targets + count_by (gets_target (stored_server server)) defs.sets)) sets in
      let few_tables = ltb-false table_limit (length (stored_server server).tables + count_by (gets_table (stored_server server)) defs.tables) tables in
      let few_sources = ltb-false set_limit (length (stored_server server).sources + count_by (gets_source (stored_server server)) defs.sets) both.0 in
      let few_targets = ltb-false set_limit (length (stored_server server).targets + count_by (gets_target (stored_server server)) defs.sets) both.1 in
      (omega (arith, tables_gained, few_tables), omega (arith, sources_gained, few_sources), omega (arith, targets_gained, few_targets))

-- the tables, the sets and the loaded servers are within the limits
within_limits : (world : World) (defs : Defs) → IsSound world → HasFew defs (stored_servers world) → has_long_set defs ≡ false → AreWithinLimits world defs
within_limits world defs sound few short = record {
  tables = each_within column_limit (λ (t : TableAt). length t.def.columns) defs.tables columns.0;
  sets = at_each IsSetWithin defs.sets (λ def i. (
    at_one (λ (def : SetDef). length (set_def_spelling def) + 4 ≤ value_limit) defs.sets def (each_within value_limit (λ (def : SetDef). length (set_def_spelling def) + 4) defs.sets short) i,
    at_one (λ (def : SetDef). length def.members ≤ member_limit) defs.sets def (each_within member_limit (λ (def : SetDef). length def.members) defs.sets few.members) i,
    each_within column_limit (λ (member : Member). length member.columns) def.members (fails_at has_wide_target defs.sets def columns.1 i),
  ));
  servers = each_image IsServerWithin (load_server defs) world (at_each (λ server. IsServerWithin (load_server defs server)) world (λ server i. server_within world server (at_one (ServerKeepsRules world) world server sound.definitions.servers i) defs
      (fails_at (has_many_tables defs) (stored_servers world) (stored_server server) few.tables (image_in stored_server world server i))
      (fails_at (has_many_sets defs) (stored_servers world) (stored_server server) few.sets (image_in stored_server world server i))));
}
  where
    columns : (list_any (λ t. nat_lt column_limit (length t.def.columns)) defs.tables ≡ false) × (list_any has_wide_target defs.sets ≡ false)
    columns = or_parts (list_any (λ t. nat_lt column_limit (length t.def.columns)) defs.tables) (list_any has_wide_target defs.sets) few.columns

-- ---- what stands

-- what stands is the definition if it doesn't differ
same_def : {X : Type 0} (fits : X → Type 0) (spelling : X → List ℕ) → One fits spelling → (def other : X) (stored : Option X) → fits def → fits other → stored ≡ Some other → differs spelling def stored ≡ false → other ≡ def
same_def {X} fits spelling one def other stored fit_def fit_other is same = sym (one_whole fits spelling one def other fit_def fit_other (same_name (spelling def) (spelling other) (not-false (bytes_eq (spelling def) (spelling other)) (sym (ap (λ (o : Option X). differs spelling def o) is) ∙ same))))

-- if nothing differs, no definition of the text does
nothing_differs : (defs : Defs) (stored : List StoredServer) → first_difference defs stored ≡ None
    → AllByRecursion (λ t. table_differs stored t ≡ false) defs.tables × AllByRecursion (λ r. registration_differs stored r ≡ false) defs.registrations × AllByRecursion (λ def. set_differs stored def ≡ false) defs.sets
nothing_differs defs stored none =
    let tables = or_none (option_map (λ t. items.Table t.server t.def.name) (find (table_differs stored) defs.tables)) _ none in
    let registrations = or_none (option_map (λ r. items.Registration r.server r.def.table) (find (registration_differs stored) defs.registrations)) _ tables.1 in (
      all_fail (table_differs stored) defs.tables (map_none _ (find (table_differs stored) defs.tables) tables.0),
      all_fail (registration_differs stored) defs.registrations (map_none _ (find (registration_differs stored) defs.registrations) registrations.0),
      all_fail (set_differs stored) defs.sets (map_none _ (find (set_differs stored) defs.sets) registrations.1),
    )

-- what stands at a server under the name of a definition is that definition
agrees : (world : World) (defs : Defs) (server : Server) → IsSound world → AreTyped defs → In server world → first_difference defs (stored_servers world) ≡ None → AgreesWith defs server
agrees world defs server sound typed i none = record {
  tables = at_each (λ t. bytes_eq t.server server.name ≡ true → (standing : ServerTable) → server_table t.def.name server ≡ Some standing → standing.def ≡ t.def) defs.tables (λ t j at standing found.
      same_def IsTable table_spelling one_table t.def standing.def (table_at t.def.name stored) (at_one (λ (t : TableAt). IsTable t.def) defs.tables t typed.tables j)
      (tables_fit world server keeps standing (found_in (λ (u : ServerTable). bytes_eq t.def.name u.def.name) server.tables standing found).0)
      (table_stored world server keeps t.def.name ∙ ap (option_map (λ (u : ServerTable). u.def)) found)
      (ap (λ (b : Bool). b && differs table_spelling t.def (table_at t.def.name stored)) (sym at)
      ∙ fails_at (λ (server : StoredServer). bytes_eq t.server server.name && differs table_spelling t.def (table_at t.def.name server)) (stored_servers world) stored (at_one (λ t. table_differs (stored_servers world) t ≡ false) defs.tables t same.0 j) place));
  registrations = at_each (λ r. bytes_eq r.server server.name ≡ true → (standing : ServerTable) (registered : Registered) → server_table r.def.table server ≡ Some standing → standing.registered ≡ Some registered → registered.reg ≡ r.def) defs.registrations (λ r j at standing registered found is.
      same_def IsRegistration registration_spelling one_registration r.def registered.reg (registration_at r.def.table stored) (at_one (λ (r : RegistrationAt). IsRegistration r.def) defs.registrations r typed.registrations j)
      (registered_fits world server keeps standing registered (found_in (λ (u : ServerTable). bytes_eq r.def.table u.def.name) server.tables standing found).0 is)
      (registration_stored world server keeps r.def.table ∙ ap (option_and_then registration_of) found ∙ ap (option_map (λ (x : Registered). x.reg)) is)
      (ap (λ (b : Bool). b && differs registration_spelling r.def (registration_at r.def.table stored)) (sym at)
      ∙ fails_at (λ (server : StoredServer). bytes_eq r.server server.name && differs registration_spelling r.def (registration_at r.def.table server)) (stored_servers world) stored (at_one (λ r. registration_differs (stored_servers world) r ≡ false) defs.registrations r same.1 j) place));
  sources = at_each (λ def. (side : SourceSide) → source_side def.id server ≡ Some side → side.def ≡ def) defs.sets (λ def j side found.
      same_def IsSetDef set_def_spelling one_set_def def side.def (source_at def.id stored) (at_one IsSetDef defs.sets def typed.sets j)
      (at_one (λ (side : SourceSide). (side.def.source ≡ server.name) × SetKeepsLimits world side.def × UnknownSource world server side) server.source_sets side keeps.sources (found_in (λ (side : SourceSide). same_set def.id side.def.id) server.source_sets side found).0).1.spelled
      (source_stored world server keeps def.id ∙ ap (option_map (λ (side : SourceSide). side.def)) found) (sides def j).0);
  targets = at_each (λ def. (side : TargetSide) → target_side def.id server ≡ Some side → side.def ≡ def) defs.sets (λ def j side found.
      same_def IsSetDef set_def_spelling one_set_def def side.def (target_at def.id stored) (at_one IsSetDef defs.sets def typed.sets j)
      (at_one (λ (side : TargetSide). (side.def.target ≡ server.name) × SetKeepsLimits world side.def × UnknownTarget world server side) server.target_sets side keeps.targets (found_in (λ (side : TargetSide). same_set def.id side.def.id) server.target_sets side found).0).1.spelled
      (target_stored world server keeps def.id ∙ ap (option_map (λ (side : TargetSide). side.def)) found) (sides def j).1);
}
  where
    keeps : ServerKeepsRules world server
    keeps = at_one (ServerKeepsRules world) world server sound.definitions.servers i

    stored : StoredServer
    stored = stored_server server

    place : In stored (stored_servers world)
    place = image_in stored_server world server i

    same : AllByRecursion (λ t. table_differs (stored_servers world) t ≡ false) defs.tables × AllByRecursion (λ r. registration_differs (stored_servers world) r ≡ false) defs.registrations × AllByRecursion (λ def. set_differs (stored_servers world) def ≡ false) defs.sets
    same = nothing_differs defs (stored_servers world) none

    sides : (def : SetDef) → In def defs.sets → (differs set_def_spelling def (source_at def.id stored) ≡ false) × (differs set_def_spelling def (target_at def.id stored) ≡ false)
    sides def j = or_parts (differs set_def_spelling def (source_at def.id stored)) (differs set_def_spelling def (target_at def.id stored))
        (fails_at (λ (server : StoredServer). differs set_def_spelling def (source_at def.id server) || differs set_def_spelling def (target_at def.id server)) (stored_servers world) stored (at_one (λ def. set_differs (stored_servers world) def ≡ false) defs.sets def same.2 j) place)

-- what is seen of definitions that aren't refused
pub sees_unrefused : SeesUnrefused
sees_unrefused world defs sound typed counts contents =
    let counted = unrefused_counts defs (stored_servers world) counts in
    let content = chosen_none (has_long_set defs || has_long_registration defs) _ (option_map refusals.DefinitionDiffers (first_difference defs (stored_servers world))) contents in
    record {
      servers = have_servers world defs counted.0;
      limits = within_limits world defs sound counted.1 (or_parts (has_long_set defs) (has_long_registration defs) (not-true (has_long_set defs || has_long_registration defs) content.0)).0;
      same = at_each (AgreesWith defs) world (λ server i. agrees world defs server sound typed i (map_none refusals.DefinitionDiffers (first_difference defs (stored_servers world)) content.1));
    }
