-- What a load makes of a server, and of the first servers of a world.
use Rattle.std.proofs.Common.{ℕ, Bool, ◌&&◌, ◌⊎◌, inl, inr, List, ◌++◌, map, take, drop, Option, Some, None, refl, sym, ap, subst, ◌∙◌, filter, find, is_none, bytes_eq}
use Rattle.std.specs.List.{AllByRecursion}
use Rattle.std.specs.Option.{IfSome, option_map, option_or}
use Rattle.std.proofs.lemmas.Bool.{and_parts}
use Rattle.std.proofs.lemmas.List.{map-append, take-append-drop}
use Rattle.repl_model.specs.Words.{Registered, ServerTable, Server, World, server_table, source_side, target_side, In, at_each, in_map, in_filter, in_either, in_first, in_second, image_in, each_image, beside_itself, beside_images, beside_more, TableGrows, IsNewTable, IsNewRegistration, IsNewSource, IsNewTarget, with_lists, ServerGrows, WorldGrows, IsBetween, server_stays}
use Rattle.spelled_defs.specs.declared.defs.Defs.{Defs}
use Rattle.spelled_defs.specs.declared.defs.TableAt.{TableAt}
use Rattle.spelled_defs.specs.declared.defs.RegistrationAt.{RegistrationAt}
use Rattle.load_laws.specs.worlds.Loads.{new_tables, fresh_registration, registration_in, register, fresh_source, fresh_target, new_sources, new_targets, load_server, load_first, load_all}
use Rattle.load_laws.specs.laws.Loaded.{none_there}

-- ---- one server

-- a text's registration says nothing yet
registration_new : (defs : Defs) (s : Server) (t : ServerTable) → IfSome (registration_in defs s t) IsNewRegistration
registration_new defs s t = by_found (find (λ r. bytes_eq r.server s.name && bytes_eq r.def.table t.def.name) defs.registrations)
  where
    by_found : (o : Option RegistrationAt) → IfSome (option_map (λ r. fresh_registration r.def) o) IsNewRegistration
    by_found None = tt
    by_found (Some r) = (refl, refl)

-- a table may get a registration
table_loads : (defs : Defs) (s : Server) (t : ServerTable) → TableGrows t (register defs s t)
table_loads defs s t = (refl, λ r e. ap (λ (o : Option Registered). option_or o (registration_in defs s t)) e, λ e. subst (λ (o : Option Registered). IfSome (option_or o (registration_in defs s t)) IsNewRegistration) (sym e) (registration_new defs s t))

-- a table of a text that a server doesn't have is new there, with its registration if it has one
tables_new : (defs : Defs) (s : Server) → AllByRecursion (IsNewTable s) (map (register defs s) (new_tables defs s))
tables_new defs s = each_image (IsNewTable s) (register defs s) (new_tables defs s)
    (each_image (λ t. IsNewTable s (register defs s t)) (λ (t : TableAt). record { def = t.def; registered = None }) (filter is_new defs.tables)
    (at_each (λ t. IsNewTable s (register defs s (record { def = t.def; registered = None }))) (filter is_new defs.tables)
    (λ t i. (none_there (server_table t.def.name s) (and_parts (bytes_eq t.server s.name) (is_none (server_table t.def.name s)) (in_filter is_new defs.tables t i).1).1, registration_new defs s (record { def = t.def; registered = None })))))
  where
    is_new : TableAt → Bool
    is_new t = bytes_eq t.server s.name && is_none (server_table t.def.name s)

-- what holds of each image holds of the images of each list
each_made : {X Y : Type 0} (P : Y → Type 0) (f : X → Y) → ((x : X) → P (f x)) → (xs : List X) → AllByRecursion P (map f xs)
each_made P f h xs = each_image P f xs (at_each (λ x. P (f x)) xs (λ x i. h x))

-- a server becomes what a load makes of it
pub server_loads : (defs : Defs) (s : Server) → ServerGrows s (load_server defs s)
server_loads defs s = record {
  kept = map (register defs s) s.tables;
  more_tables = map (register defs s) (new_tables defs s);
  more_sources = new_sources defs s;
  more_targets = new_targets defs s;
  same = ap (λ (tables : List ServerTable). with_lists tables (s.source_sets ++ new_sources defs s) (s.target_sets ++ new_targets defs s) s) (map-append (register defs s) s.tables (new_tables defs s));
  tables = beside_images TableGrows (register defs s) (table_loads defs s) s.tables;
  new_tables = tables_new defs s;
  new_sources = each_made IsNewSource fresh_source (λ def. ((refl, refl, refl, refl), refl)) (filter (λ def. bytes_eq def.source s.name && is_none (source_side def.id s)) defs.sets);
  new_targets = each_made IsNewTarget fresh_target (λ def. (refl, refl, refl)) (filter (λ def. bytes_eq def.target s.name && is_none (target_side def.id s)) defs.sets);
}

-- ---- the first servers of a world

-- each server of a world becomes one of the world whose first servers are loaded
pub first_load : (defs : Defs) (n : ℕ) (world : World) → WorldGrows world (load_first defs n world)
first_load defs n world = subst (λ (w : World). WorldGrows w (load_first defs n world)) (take-append-drop n world)
    (beside_more ServerGrows (take n world) (drop n world) (map (load_server defs) (take n world)) (drop n world)
    (beside_images ServerGrows (load_server defs) (server_loads defs) (take n world))
    (beside_itself ServerGrows server_stays (drop n world)))

-- each of these becomes one of the world whose servers are all loaded
pub others_load : (defs : Defs) (n : ℕ) (world : World) → WorldGrows (load_first defs n world) (load_all defs world)
others_load defs n world = subst (WorldGrows (load_first defs n world)) (sym (map-append (load_server defs) (take n world) (drop n world)) ∙ ap (map (load_server defs)) (take-append-drop n world))
    (beside_more ServerGrows (map (load_server defs) (take n world)) (drop n world) (map (load_server defs) (take n world)) (map (load_server defs) (drop n world))
    (beside_itself ServerGrows server_stays (map (load_server defs) (take n world)))
    (beside_images ServerGrows (load_server defs) (server_loads defs) (drop n world)))

-- the world whose first servers are loaded is between the two
pub load_is_between : (defs : Defs) (n : ℕ) (world : World) → IsBetween world (load_first defs n world) (load_all defs world)
load_is_between defs n world t i = by_place (in_either (map (load_server defs) (take n world)) (drop n world) t i)
  where
    by_place : In t (map (load_server defs) (take n world)) ⊎ In t (drop n world) → In t world ⊎ ((s : Server) × In s world × ServerGrows s t × In t (load_all defs world))
    by_place (inl loaded) =
        let r = in_map (load_server defs) (take n world) t loaded in
        let j = subst (In r.0) (take-append-drop n world) (in_first (take n world) (drop n world) r.0 r.1) in
        inr (r.0, j, subst (ServerGrows r.0) (sym r.2) (server_loads defs r.0), subst (λ (a : Server). In a (load_all defs world)) (sym r.2) (image_in (load_server defs) world r.0 j))
    by_place (inr waits) = inl (subst (In t) (take-append-drop n world) (in_second (take n world) (drop n world) t waits))
