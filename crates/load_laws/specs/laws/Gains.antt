-- Rows are planned for a server exactly if it gets something new, and without it stays as it was.
use Rattle.std.proofs.Common.{◌≡◌, ◌⊎◌, inl, inr, ℕ, ◌≤◌, Bool, true, false, not, ◌&&◌, ◌||◌, ◌==◌, nat_lt, List, [], ◌∷◌, ◌++◌, length, map, Option, Some, None, refl, sym, ap, ap₂, subst, ◌∙◌, arith, append-nil, find, filter, is_none, is_some, bytes_eq}
use Rattle.std.specs.List.{enumerate_from, list_any}
use Rattle.std.specs.Option.{option_map, option_or}
use Rattle.std.proofs.lemmas.Bool.{and_parts, and_from, or_parts, both_ways, false_from_ne_true, not-true, not_from_false, eqb-true, ltb-false}
use Rattle.std.proofs.lemmas.Bool.Decides.{nat_tests}
use Rattle.std.proofs.lemmas.List.{length-map, nil_from_length}
use Rattle.std.proofs.lemmas.List.Elements.{All-from_recursion}
use Rattle.std.proofs.lemmas.List.Folds.{map_fixed}
use Rattle.std.proofs.lemmas.List.FromFn.{length-enumerate_from}
use Rattle.repl_model.specs.Words.{DefinedRegistration, ServerKeepsRules, Registered, ServerTable, SourceSide, TargetSide, Server, World, alike, In, at_one, at_each, any_from, some_passes, in_either}
use Rattle.repl_commands.specs.declared.written.RawDefs.{RawDefs}
use Rattle.spelled_defs.specs.declared.defs.Defs.{Defs}
use Rattle.spelled_defs.specs.declared.defs.RegistrationAt.{RegistrationAt}
use Rattle.load_laws.specs.worlds.Loads.{new_tables, fresh_registration, fresh_source, fresh_target, new_sources, new_targets, registration_in, register, load_server}
use Rattle.load_laws.specs.rules.Accepted.{Accepted}
use Rattle.load_plan.specs.Additions.{tables_added, sources_added, targets_added, registrations_added}
use Rattle.load_laws.specs.planned.Path.{gains_registration}
use Rattle.load_laws.specs.planned.Planned.{stored_server}
use Rattle.load_laws.specs.planned.PlannedLoads.{PlansGains, StaysWithoutGains}
use Rattle.load_laws.specs.laws.Added.{is_new_source, is_new_target, tables_added_is, sources_added_is, targets_added_is}
use Rattle.load_laws.specs.laws.PlannedLists.{fails_at, in_numbered, numbered_in, numbered_first}
use Rattle.load_laws.specs.laws.Registrations.{names_apart, is_planned, planned_for}
use Rattle.load_laws.specs.laws.RowsAdded.{loaded_names_differ}
use Rattle.load_laws.specs.laws.StoredPlans.{defined_table}
use Rattle.load_laws.specs.laws.Loaded.{none_there}

-- ---- what is planned

-- neither is so exactly if one of them isn't
neither : (a b : Bool) → (not a && not b) ≡ not (a || b)
neither true b = refl
neither false b = refl

-- there are none exactly if there aren't some
none_counted : (n : ℕ) → (n == 0) ≡ not (nat_lt 0 n)
none_counted n = grind (arith, nat_tests)

-- a list of which nothing is counted is empty
nothing_counted : {X : Type 0} (xs : List X) → nat_lt 0 (length xs) ≡ false → xs ≡ []
nothing_counted xs e = nil_from_length xs (let none : length xs ≤ 0 = ltb-false 0 (length xs) e in omega arith)

module _ (raw : RawDefs) (world : World) (defs : Defs) (server : Server) (keeps : ServerKeepsRules world server) (accepted : Accepted raw world defs) (differ : names_apart (load_server defs server).tables ≡ true) where
  -- the registrations that are planned
  abbrev planned : List DefinedRegistration
  planned = registrations_added defs (stored_server server)

  -- one is planned if a table of the server gets one
  some_planned : list_any (gains_registration defs server) server.tables ≡ true → planned ≡ [] → ⊥
  some_planned some empty =
      let t = some_passes (gains_registration defs server) server.tables some in
      let both = and_parts (is_none t.0.registered) (is_some (registration_in defs server t.0)) t.2 in
      let n = in_numbered 0 server.tables t.0 t.1 in
      by_text (n.0, t.0) (numbered_first server.tables (new_tables defs server) (n.0, t.0) n.1) (none_there t.0.registered both.0) (find (λ r. bytes_eq r.server server.name && bytes_eq r.def.table t.0.def.name) defs.registrations) refl both.1
    where
      by_text : (u : ℕ × ServerTable) → In u (enumerate_from 0 (server.tables ++ new_tables defs server)) → u.1.registered ≡ None → (o : Option RegistrationAt) → find (λ r. bytes_eq r.server server.name && bytes_eq r.def.table u.1.def.name) defs.registrations ≡ o → is_some (option_map (λ r. fresh_registration r.def) o) ≡ true → ⊥
      by_text u i none None found e = absurd cc
      by_text u i none (Some r) found e = subst (In (record { number = u.0; registration = r.def })) empty (is_planned raw world defs server keeps accepted differ u r (record { table = i; none = none; found = found }))

  -- if one is planned and no table is new, a table of the server gets one
  one_gains : (d : DefinedRegistration) → new_tables defs server ≡ [] → In d planned → list_any (gains_registration defs server) server.tables ≡ true
  one_gains d none i =
      let p = planned_for raw world defs server keeps accepted differ d i in
      any_from (gains_registration defs server) server.tables p.0.1 (old p.0.1 (in_either server.tables (new_tables defs server) p.0.1 (numbered_in 0 (server.tables ++ new_tables defs server) p.0 p.2.table)))
      (and_from (is_none p.0.1.registered) (is_some (registration_in defs server p.0.1)) (ap is_none p.2.none) (ap (λ (o : Option RegistrationAt). is_some (option_map (λ r. fresh_registration r.def) o)) p.2.found))
    where
      old : (t : ServerTable) → In t server.tables ⊎ In t (new_tables defs server) → In t server.tables
      old t (inl j) = j
      old t (inr j) = absurd (subst (In t) none j)

  -- without new tables, none is planned exactly if no table of the server gets one
  none_planned : new_tables defs server ≡ [] → (length planned == 0) ≡ not (list_any (gains_registration defs server) server.tables)
  none_planned none = alike (length planned == 0) (not (list_any (gains_registration defs server) server.tables))
      (λ e. not_from_false (list_any (gains_registration defs server) server.tables) (false_from_ne_true (list_any (gains_registration defs server) server.tables) (λ some. some_planned some (nil_from_length planned (eqb-true (length planned) 0 e)))))
      (λ e. by_list planned refl (not-true (list_any (gains_registration defs server) server.tables) e))
    where
      by_list : (l : List DefinedRegistration) → planned ≡ l → list_any (gains_registration defs server) server.tables ≡ false → (length planned == 0) ≡ true
      by_list [] e f = ap (λ (l : List DefinedRegistration). length l == 0) e
      by_list (d ∷ ds) e f = absurd (both_ways (list_any (gains_registration defs server) server.tables) f (one_gains d none (subst (In d) (sym e) (inl refl))))

  -- no table and no registration is planned exactly if no table is new and none gets a registration
  no_table_planned : (length (tables_added defs (stored_server server)) == 0 && length planned == 0) ≡ not (nat_lt 0 (length (new_tables defs server)) || list_any (gains_registration defs server) server.tables)
  no_table_planned =
      ap (λ (n : ℕ). n == 0 && length planned == 0) (ap length (tables_added_is world server keeps defs) ∙ length-map (enumerate_from (length server.tables) (new_tables defs server)) defined_table ∙ length-enumerate_from (length server.tables) (new_tables defs server))
      ∙ ap (λ (b : Bool). b && length planned == 0) (none_counted (length (new_tables defs server)))
      ∙ by_test (nat_lt 0 (length (new_tables defs server))) refl
    where
      by_test : (b : Bool) → nat_lt 0 (length (new_tables defs server)) ≡ b → (not b && length planned == 0) ≡ not (b || list_any (gains_registration defs server) server.tables)
      by_test true e = refl
      by_test false e = none_planned (nothing_counted (new_tables defs server) e)

  -- no set is planned at its source exactly if none is new there
  no_source_planned : (length (sources_added defs (stored_server server)) == 0) ≡ not (nat_lt 0 (length (new_sources defs server)))
  no_source_planned =
      let new = filter (is_new_source server) defs.sets in
      ap (λ (n : ℕ). n == 0) (ap length (sources_added_is world server keeps defs) ∙ length-map (enumerate_from (length server.source_sets) new) (λ s. record { number = s.0; def = s.1 }) ∙ length-enumerate_from (length server.source_sets) new ∙ sym (length-map new fresh_source))
      ∙ none_counted (length (new_sources defs server))

  -- nor at its target
  no_target_planned : (length (targets_added defs (stored_server server)) == 0) ≡ not (nat_lt 0 (length (new_targets defs server)))
  no_target_planned =
      let new = filter (is_new_target server) defs.sets in
      ap (λ (n : ℕ). n == 0) (ap length (targets_added_is world server keeps defs) ∙ length-map (enumerate_from (length server.target_sets) new) (λ s. record { number = s.0; def = s.1 }) ∙ length-enumerate_from (length server.target_sets) new ∙ sym (length-map new fresh_target))
      ∙ none_counted (length (new_targets defs server))

-- rows are planned exactly for servers that get something new, if accepted definitions stay sound
pub plans_gains : PlansGains
plans_gains raw world defs server sound accepted i =
    let keeps = at_one (ServerKeepsRules world) world server sound.definitions.servers i in
    let differ = loaded_names_differ raw world defs server sound accepted i in
    let a = nat_lt 0 (length (new_tables defs server)) || list_any (gains_registration defs server) server.tables in
    let b = nat_lt 0 (length (new_sources defs server)) in
    let c = nat_lt 0 (length (new_targets defs server)) in
    ap₂ (λ (x y : Bool). x && y) (
    ap₂ (λ (x y : Bool). x && y) (no_table_planned raw world defs server keeps accepted differ) (no_source_planned raw world defs server keeps accepted differ)
    ∙ neither a b
    ) (no_target_planned raw world defs server keeps accepted differ)
    ∙ neither (a || b) c

-- ---- what stays

-- a table that doesn't get a registration is as it was
table_stays : (defs : Defs) (server : Server) (t : ServerTable) → gains_registration defs server t ≡ false → register defs server t ≡ t
table_stays defs server t none = ap (λ (o : Option Registered). record t { registered = o }) (by_registered t.registered (registration_in defs server t) none)
  where
    by_registered : (o text : Option Registered) → (is_none o && is_some text) ≡ false → option_or o text ≡ o
    by_registered (Some r) text e = refl
    by_registered None None e = refl
    by_registered None (Some r) e = absurd cc

-- a server that gets nothing new is as it was
pub stays_without_gains : StaysWithoutGains
stays_without_gains defs server none =
    let with_targets = or_parts (nat_lt 0 (length (new_tables defs server)) || list_any (gains_registration defs server) server.tables || nat_lt 0 (length (new_sources defs server))) (nat_lt 0 (length (new_targets defs server))) none in
    let with_sources = or_parts (nat_lt 0 (length (new_tables defs server)) || list_any (gains_registration defs server) server.tables) (nat_lt 0 (length (new_sources defs server))) with_targets.0 in
    let with_tables = or_parts (nat_lt 0 (length (new_tables defs server))) (list_any (gains_registration defs server) server.tables) with_sources.0 in
    let tables : map (register defs server) (server.tables ++ new_tables defs server) ≡ server.tables =
    ap (λ (l : List ServerTable). map (register defs server) (server.tables ++ l)) (nothing_counted (new_tables defs server) with_tables.0)
    ∙ ap (map (register defs server)) (append-nil server.tables)
    ∙ map_fixed (register defs server) server.tables (All-from_recursion (λ t. register defs server t ≡ t) server.tables (at_each (λ t. register defs server t ≡ t) server.tables (λ t i. table_stays defs server t (fails_at (gains_registration defs server) server.tables t with_tables.1 i)))) in
    let sources : server.source_sets ++ new_sources defs server ≡ server.source_sets = ap (λ (l : List SourceSide). server.source_sets ++ l) (nothing_counted (new_sources defs server) with_sources.1) ∙ append-nil server.source_sets in
    let targets : server.target_sets ++ new_targets defs server ≡ server.target_sets = ap (λ (l : List TargetSide). server.target_sets ++ l) (nothing_counted (new_targets defs server) with_targets.1) ∙ append-nil server.target_sets in
    λ i. record server { tables = tables i; source_sets = sources i; target_sets = targets i }
