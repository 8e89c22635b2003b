-- The names of tables and of sets differ once accepted definitions are loaded.
use Rattle.std.proofs.Common.{List, refl, map, find, ◌≡◌, ◌≤◌, Bool, not, true, ◌&&◌, ◌++◌, Option, Some, None, sym, ap, ap₂, subst, ◌∙◌, filter, is_none, is_some, count_by, filter_map, bytes_eq}
use Rattle.std.proofs.Math.Path.{fun_ext}
use Rattle.std.proofs.lemmas.Bool.{and_parts, and_from, false≢true, leb-true}
use Rattle.repl_model.specs.Words.{SetDef, ServerTable, SourceSide, TargetSide, Server, World, server_table, same_set, source_side, target_side, all_differ, In, passes_at, in_map, in_filter, embeds_differ, differ_images, same_name, name_itself, same_id, id_itself, not_not}
use Rattle.repl_commands.specs.declared.written.RawDefs.{RawDefs}
use Rattle.repl_commands.specs.declared.written.RawSet.{RawSet}
use Rattle.repl_commands.specs.declared.written.RawTable.{RawTable}
use Rattle.spelled_defs.specs.Spelled.{spelled_table, spelled_set}
use Rattle.spelled_defs.specs.declared.defs.Defs.{Defs}
use Rattle.spelled_defs.specs.declared.defs.TableAt.{TableAt}
use Rattle.checked_defs.specs.Rules.{names_table, names_raw_set, table_stands_once, set_stands_once}
use Rattle.checked_defs.specs.Broken.{table_breaks, set_breaks}
use Rattle.checked_defs.specs.declared.rule.Rule.TheVariants.{Once}
use Rattle.load_laws.specs.rules.laws.Kept.{rule_kept}
use Rattle.load_laws.specs.worlds.Loads.{new_tables, fresh_source, fresh_target, register}
use Rattle.load_laws.specs.rules.Accepted.{Accepted, context_in}
use Rattle.load_laws.specs.rules.StaysSound.{HoldsLoaded}
use Rattle.load_laws.specs.laws.PartsOfSound.{TableNamesDiffer, SourceNamesDiffer, TargetNamesDiffer}
use Rattle.load_laws.specs.rules.laws.Lists.{embeds_given, embeds_kept, counted_differ, differ_together, found_some}
use Rattle.load_laws.specs.rules.laws.Items.{table_spelled, set_spelled}
use Rattle.load_laws.specs.laws.Servers.{each_loaded, server_rules}
use Rattle.load_laws.specs.laws.Loaded.{none_there}

-- two tables have one name at one server
abbrev same_table : TableAt → TableAt → Bool
same_table a b = bytes_eq a.server b.server && bytes_eq a.def.name b.def.name

-- each table of a text has its name alone
item_once : (raw : RawDefs) (w : World) (defs : Defs) → Accepted raw w defs → (item : RawTable) → In item raw.tables → count_by (names_table item.server item.name) raw.tables ≤ 1
unfolding table_breaks
item_once raw w defs accepted item i =
    let kept = passes_at (λ (t : RawTable). not (table_breaks raw (context_in w raw) Once t)) raw.tables item (rule_kept raw (context_in w raw) accepted.kept Once).tables i in
    leb-true (count_by (names_table item.server item.name) raw.tables) 1 (and_parts _ _ (and_parts _ _ (and_parts _ _ (and_parts _ _ (not_not (table_stands_once raw (context_in w raw) item) kept)).0).0).0).0

-- no two tables of accepted definitions have one name at one server
tables_once : (raw : RawDefs) (w : World) (defs : Defs) → Accepted raw w defs → all_differ same_table defs.tables ≡ true
tables_once raw w defs accepted = subst (λ (d : Defs). all_differ same_table d.tables ≡ true) (sym accepted.spelled)
    (embeds_differ (λ t item. spelled_table item ≡ Some t) same_table (λ a b. names_table a.server a.name b)
    (λ x z y v p q e. ap₂ same_table (sym (table_spelled y x p)) (sym (table_spelled v z q)) ∙ e)
    (filter_map spelled_table raw.tables) raw.tables (embeds_given spelled_table raw.tables)
    (counted_differ (λ a b. names_table a.server a.name b) (λ item. and_from (bytes_eq item.server item.server) (bytes_eq item.name item.name) (name_itself item.server) (name_itself item.name)) raw.tables (item_once raw w defs accepted)))

-- two tables of a server have one name
abbrev same_named : ServerTable → ServerTable → Bool
same_named a b = bytes_eq a.def.name b.def.name

-- the names of the tables of a server differ
pub table_names_differ : HoldsLoaded TableNamesDiffer
table_names_differ raw w defs sound accepted = each_loaded (λ s. all_differ same_named s.tables ≡ true) defs w (λ s i.
    differ_images (register defs s) same_named (s.tables ++ new_tables defs s)
    ∙ differ_together same_named s.tables (new_tables defs s) (server_rules w s sound i).differ (new_differ s) (apart s))
  where
    is_new : Server → TableAt → Bool
    is_new s t = bytes_eq t.server s.name && is_none (server_table t.def.name s)

    at_server : (s : Server) (t : TableAt) → is_new s t ≡ true → t.server ≡ s.name
    at_server s t e = same_name t.server s.name (and_parts (bytes_eq t.server s.name) (is_none (server_table t.def.name s)) e).0

    new_differ : (s : Server) → all_differ same_named (new_tables defs s) ≡ true
    new_differ s = differ_images (λ (t : TableAt). record { def = t.def; registered = None }) same_named (filter (is_new s) defs.tables)
        ∙ embeds_differ (λ y x. (y ≡ x) × (is_new s x ≡ true)) (λ a b. bytes_eq a.def.name b.def.name) same_table
        (λ x z y v p q e. and_from (bytes_eq y.server v.server) (bytes_eq y.def.name v.def.name) (ap₂ bytes_eq (at_server s y p.1) (at_server s v q.1) ∙ name_itself s.name) (ap₂ (λ (a b : TableAt). bytes_eq a.def.name b.def.name) (sym p.0) (sym q.0) ∙ e))
        (filter (is_new s) defs.tables) defs.tables (embeds_kept (is_new s) defs.tables) (tables_once raw w defs accepted)

    apart : (s : Server) (x y : ServerTable) → In x s.tables → In y (new_tables defs s) → same_named x y ≡ true → ⊥
    apart s x y i j e =
        let r = in_map (λ (t : TableAt). record { def = t.def; registered = None }) (filter (is_new s) defs.tables) y j in
        let k = in_filter (is_new s) defs.tables r.0 r.1 in
        let none = none_there (server_table r.0.def.name s) (and_parts (bytes_eq r.0.server s.name) (is_none (server_table r.0.def.name s)) k.1).1 in
        let name : x.def.name ≡ r.0.def.name = same_name x.def.name y.def.name e ∙ ap (λ (t : ServerTable). t.def.name) r.2 in
        false≢true (sym (ap (λ (o : Option ServerTable). is_some o) none) ∙ found_some (λ (t : ServerTable). bytes_eq r.0.def.name t.def.name) s.tables x i (ap (bytes_eq r.0.def.name) name ∙ name_itself r.0.def.name))

-- ---- sets

-- two sets have one name
abbrev same_def : SetDef → SetDef → Bool
same_def a b = same_set a.id b.id

-- each set of a text has its name alone
set_once : (raw : RawDefs) (w : World) (defs : Defs) → Accepted raw w defs → (item : RawSet) → In item raw.sets → count_by (names_raw_set item.qual item.name) raw.sets ≤ 1
unfolding set_breaks
set_once raw w defs accepted item i =
    leb-true (count_by (names_raw_set item.qual item.name) raw.sets) 1 (not_not (set_stands_once raw item)
    (passes_at (λ (set : RawSet). not (set_breaks raw Once set)) raw.sets item (rule_kept raw (context_in w raw) accepted.kept Once).sets i))

-- no two accepted sets have one name
pub sets_once : (raw : RawDefs) (w : World) (defs : Defs) → Accepted raw w defs → all_differ same_def defs.sets ≡ true
sets_once raw w defs accepted = subst (λ (d : Defs). all_differ same_def d.sets ≡ true) (sym accepted.spelled)
    (embeds_differ (λ def item. spelled_set tables item ≡ Some def) same_def (λ a b. names_raw_set a.qual a.name b)
    (λ x z y v p q e. ap₂ same_def (sym (set_spelled tables y x p)) (sym (set_spelled tables v z q)) ∙ e)
    (filter_map (spelled_set tables) raw.sets) raw.sets (embeds_given (spelled_set tables) raw.sets)
    (counted_differ (λ a b. names_raw_set a.qual a.name b) (λ item. and_from (bytes_eq item.qual item.qual) (bytes_eq item.name item.name) (name_itself item.qual) (name_itself item.name)) raw.sets (set_once raw w defs accepted)))
  where
    tables : List TableAt
    tables = (context_in w raw).tables

-- The names of the sets at one side of a server differ, if those that stand there do, and the new ones are accepted
-- sets of which none stands there.
rows_differ : (raw : RawDefs) (w : World) (defs : Defs) → Accepted raw w defs → {Side : Type 0} (def_of : Side → SetDef) (fresh : SetDef → Side) → ((def : SetDef) → def_of (fresh def) ≡ def)
    → (sides : List Side) (is_new : SetDef → Bool) → ((def : SetDef) → is_new def ≡ true → find (λ side. same_set def.id (def_of side).id) sides ≡ None)
    → all_differ (λ a b. same_set (def_of a).id (def_of b).id) sides ≡ true → all_differ (λ a b. same_set (def_of a).id (def_of b).id) (sides ++ map fresh (filter is_new defs.sets)) ≡ true
rows_differ raw w defs accepted {Side} def_of fresh defined sides is_new none differ = differ_together same_row sides (map fresh (filter is_new defs.sets)) differ new_differ apart
  where
    same_row : Side → Side → Bool
    same_row a b = same_set (def_of a).id (def_of b).id

    new_differ : all_differ same_row (map fresh (filter is_new defs.sets)) ≡ true
    new_differ = differ_images fresh same_row (filter is_new defs.sets)
        ∙ ap (λ (f : SetDef → SetDef). all_differ (λ a b. same_set (f a).id (f b).id) (filter is_new defs.sets)) (fun_ext defined)
        ∙ embeds_differ (λ y x. (y ≡ x) × (is_new x ≡ true)) same_def same_def (λ x z y v p q e. ap₂ same_def (sym p.0) (sym q.0) ∙ e)
        (filter is_new defs.sets) defs.sets (embeds_kept is_new defs.sets) (sets_once raw w defs accepted)

    apart : (x y : Side) → In x sides → In y (map fresh (filter is_new defs.sets)) → same_row x y ≡ true → ⊥
    apart x y i j e =
        let r = in_map fresh (filter is_new defs.sets) y j in
        let k = in_filter is_new defs.sets r.0 r.1 in
        let name : (def_of x).id ≡ r.0.id = same_id (def_of x).id (def_of y).id e ∙ ap (λ (side : Side). (def_of side).id) r.2 ∙ ap (λ (def : SetDef). def.id) (defined r.0) in
        false≢true (sym (ap (λ (o : Option Side). is_some o) (none r.0 k.1)) ∙ found_some (λ (side : Side). same_set r.0.id (def_of side).id) sides x i (ap (same_set r.0.id) name ∙ id_itself r.0.id))

-- the names of the sets at their sources differ
pub source_names_differ : HoldsLoaded SourceNamesDiffer
source_names_differ raw w defs sound accepted = each_loaded (λ s. all_differ (λ a b. same_set a.def.id b.def.id) s.source_sets ≡ true) defs w (λ s i.
    rows_differ raw w defs accepted (λ (side : SourceSide). side.def) fresh_source (λ def. refl) s.source_sets (λ def. bytes_eq def.source s.name && is_none (source_side def.id s))
    (λ def e. none_there (source_side def.id s) (and_parts (bytes_eq def.source s.name) (is_none (source_side def.id s)) e).1) (server_rules w s sound i).source_names)

-- the names of the sets at their targets differ
pub target_names_differ : HoldsLoaded TargetNamesDiffer
target_names_differ raw w defs sound accepted = each_loaded (λ s. all_differ (λ a b. same_set a.def.id b.def.id) s.target_sets ≡ true) defs w (λ s i.
    rows_differ raw w defs accepted (λ (side : TargetSide). side.def) fresh_target (λ def. refl) s.target_sets (λ def. bytes_eq def.target s.name && is_none (target_side def.id s))
    (λ def e. none_there (target_side def.id s) (and_parts (bytes_eq def.target s.name) (is_none (target_side def.id s)) e).1) (server_rules w s sound i).target_names)
