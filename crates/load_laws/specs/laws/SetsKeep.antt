-- Known sets keep the rules once accepted definitions are loaded.
use Rattle.std.proofs.Common.{◌≡◌, ℕ, Bool, true, false, not, ◌&&◌, ◌⊎◌, inl, inr, List, [], ◌++◌, Option, Some, None, refl, sym, ap, ap₂, subst, ◌∙◌, ◌==◌, IfSome, filter, is_none, is_some, unwrap_or, option_and_then, bytes_eq}
use Rattle.std.specs.List.{AllByRecursion, filter_map, list_any}
use Rattle.std.proofs.lemmas.Bool.{and_parts, and_from, both_ways, cases_Bool, eqb-true, false≢true, false_from_ne_true, not-true, not_from_false, or_cases}
use Rattle.repl_model.specs.Words.{all_weaker, Registration, TableDef, Member, SetDef, is_replica, is_replica_set, RegistrationKeepsRules, SourceTable, IsSound, KeepsTable, IsFresh, UnknownSource, UnknownTarget, MemberIsSound, ReplicaMemberIsSound, SetKeepsLimits, ServerKeepsRules, KnownSetKeepsRules, Registered, ServerTable, SourceSide, TargetSide, Server, World, KnownSet, as_source, server_named, server_table, source_named, known_sets, In, at_one, at_each, any_from, in_either, in_filter, in_filter_map, in_map, image_in, found_in, same_name, name_itself, name_stays, source_found, SetGrows, IsNewSet, known_stands, UnknownHasNoStep, known_before, not_not}
use Rattle.repl_commands.specs.declared.written.RawDefs.{RawDefs}
use Rattle.repl_commands.specs.declared.written.RawMember.{RawMember}
use Rattle.repl_commands.specs.declared.written.RawSet.{RawSet}
use Rattle.repl_defs.specs.Trees.{predicate_tree}
use Rattle.spelled_defs.specs.Context.{is_replica_item, link_of_member}
use Rattle.spelled_defs.specs.Spelled.{is_table, columns_at, spelled_table, spelled_set, target_column}
use Rattle.spelled_defs.specs.declared.context.Context.{Context}
use Rattle.spelled_defs.specs.declared.context.Link.{Link}
use Rattle.spelled_defs.specs.declared.defs.Defs.{Defs}
use Rattle.spelled_defs.specs.declared.defs.TableAt.{TableAt}
use Rattle.checked_defs.specs.Broken.{table_breaks, set_breaks}
use Rattle.checked_defs.specs.Rules.{copies_to, table_stands_once, has_two_servers, registered_source, are_twins, has_twin, makes_chain}
use Rattle.checked_defs.specs.declared.rule.Rule.TheVariants.{Once, Source}
use Rattle.load_laws.specs.worlds.Loads.{new_tables, register, load_server, load_all}
use Rattle.load_laws.specs.rules.Accepted.{Accepted, context_in}
use Rattle.load_laws.specs.rules.StaysSound.{HoldsLoaded}
use Rattle.load_laws.specs.laws.PartsOfSound.{SetsKeepRules}
use Rattle.load_laws.specs.rules.laws.Lists.{or_else, found_some}
use Rattle.load_laws.specs.rules.laws.Kept.{table_kept, set_kept}
use Rattle.load_laws.specs.rules.laws.Items.{some_is, from_step, from_image, table_spelled, set_def, set_spelled, member_def, member_spelled, replica_kind, IsSpelled}
use Rattle.load_laws.specs.laws.Items.{set_item, member_item}
use Rattle.load_laws.specs.laws.RuledWorlds.{world_loads}
use Rattle.load_laws.specs.laws.KnownSets.{server_before, OfText, KnownBefore, known_either, named_target, named_source, set_names_differ}
use Rattle.load_laws.specs.laws.Context.{server_of_name, same_server, table_in_context, context_source}
use Rattle.load_laws.specs.laws.Links.{link_in}
use Rattle.load_laws.specs.laws.Chains.{replicas_item, replicas_of_text}
use Rattle.load_laws.specs.laws.TablesKeep.{tables_keep_rules}
use Rattle.load_laws.specs.laws.TextMembers.{ItemKeepsRules, item_rules, whatever_the_log, member_keeps_rules}
use Rattle.load_laws.specs.laws.Twins.{twin_of, twins_keep}
use Rattle.load_laws.specs.laws.Loaded.{none_there}

-- The servers that the ends of a set are before a load.
record Ends (defs : Defs) (w : World) (l : KnownSet) : Type 0 where
  source : Server
  source_in : In source w
  source_is : server_named l.at_target.def.source w ≡ Some source
  source_loads : l.source ≡ load_server defs source
  target : Server
  target_in : In target w
  target_is : server_named l.at_target.def.target w ≡ Some target
  target_loads : l.target ≡ load_server defs target

-- A member of a set of the text with its item, and with its source as it is in the context and once that is
-- loaded.
record OfItem (raw : RawDefs) (w : World) (defs : Defs) (l : KnownSet) (a : Member) : Type 0 where
  of : IsSpelled raw (context_in w raw).tables l.at_target.def a
  rules : ItemKeepsRules (context_in w raw) of.set of.item
  is : a ≡ member_def (columns_at (context_in w raw).tables of.set.source of.item.source) of.item of.item.source of.item.target a.kind
  kind : is_replica_item of.item ≡ is_replica a.kind
  registered : SourceTable
  registered_is : registered_source (context_in w raw) of.set.source of.item.source ≡ Some registered
  source : SourceTable
  found : source_named a.source l.source ≡ Some source
  reg_keeps : RegistrationKeepsRules source.def source.reg
  same_def : source.def ≡ registered.def
  same_reg : source.reg ≡ registered.reg

module _ (raw : RawDefs) (w : World) (defs : Defs) (sound : IsSound w) (accepted : Accepted raw w defs) where
  -- a set that is known once the definitions are loaded
  abbrev IsKnown : KnownSet → Type 0
  IsKnown l = In l (known_sets (load_all defs w))

  -- the ends of a known set were servers before
  ends : (l : KnownSet) → IsKnown l → Ends defs w l
  ends l i =
      let stands = known_stands (load_all defs w) l i in
      let s = server_before defs w l.at_target.def.source l.source stands.source in
      let t = in_map (load_server defs) w l.target stands.target in
      let name : t.0.name ≡ l.at_target.def.target = sym (ap (λ (a : Server). a.name) t.2) ∙ sym (named_target raw w defs sound accepted l i) in
      record {
        source = s.0;
        source_in = (found_in (λ (a : Server). bytes_eq l.at_target.def.source a.name) w s.0 s.1).0;
        source_is = s.1;
        source_loads = s.2;
        target = t.0;
        target_in = t.1;
        target_is = subst (λ (a : List ℕ). server_named a w ≡ Some t.0) name (server_of_name w t.0 sound t.1);
        target_loads = t.2;
      }

  -- ---- targets that aren't tables

  -- no table of the text has the place of the target of a member that isn't a replica
  no_table_of_text : (l : KnownSet) → IsKnown l → (a : Member) → In a l.at_target.def.members → is_replica a.kind ≡ false → (x : TableAt) → In x defs.tables → x.server ≡ l.at_target.def.target → x.def.name ≡ a.target → ⊥
  unfolding table_breaks
  no_table_of_text l i a j copy x k server name =
      let item = in_filter_map spelled_table raw.tables x (subst (λ (d : Defs). In x d.tables) accepted.spelled k) in
      let is = table_spelled item.0 x item.2 in
      let its_server : item.0.server ≡ l.at_target.def.target = sym (ap (λ (t : TableAt). t.server) is) ∙ server in
      let its_name : item.0.name ≡ a.target = sym (ap (λ (t : TableAt). t.def.name) is) ∙ name in
      let copies_there : Link → Bool = λ link. not link.is_replica && copies_to item.0.server item.0.name link in
      let once = not_not (table_stands_once raw (context_in w raw) item.0) (table_kept raw (context_in w raw) accepted.kept Once item.0 item.1) in
      both_ways (list_any copies_there (context_in w raw).links) (not-true (list_any copies_there (context_in w raw).links) (and_parts _ (not (list_any copies_there (context_in w raw).links)) once).1)
      (any_from copies_there (context_in w raw).links (link_of_member l.at_target.def a) (link_in raw w defs sound accepted l i a j)
      (and_from (not (is_replica a.kind)) (copies_to item.0.server item.0.name (link_of_member l.at_target.def a)) (not_from_false (is_replica a.kind) copy)
      (and_from (bytes_eq item.0.server l.at_target.def.target) (bytes_eq item.0.name a.target) (ap (bytes_eq item.0.server) (sym its_server) ∙ name_itself item.0.server) (ap (bytes_eq item.0.name) (sym its_name) ∙ name_itself item.0.name))))

  -- the name of the target's server
  target_name : (l : KnownSet) (e : Ends defs w l) → e.target.name ≡ l.at_target.def.target
  target_name l e = sym (same_name l.at_target.def.target e.target.name (found_in (λ (s : Server). bytes_eq l.at_target.def.target s.name) w e.target e.target_is).1)

  -- the target of a member that isn't a replica isn't a table, if it wasn't one before
  stays_free : (l : KnownSet) → IsKnown l → (a : Member) → In a l.at_target.def.members → is_replica a.kind ≡ false → (e : Ends defs w l) → server_table a.target e.target ≡ None → server_table a.target l.target ≡ None
  stays_free l i a j copy e none = by_found (server_table a.target l.target) refl
    where
      by_part : (u : ServerTable) → u.def.name ≡ a.target → In u e.target.tables ⊎ In u (new_tables defs e.target) → ⊥
      by_part u name (inl old) = false≢true (sym (ap (λ (o : Option ServerTable). is_some o) none) ∙ found_some (λ (t : ServerTable). bytes_eq a.target t.def.name) e.target.tables u old (ap (bytes_eq a.target) name ∙ name_itself a.target))
      by_part u name (inr new) =
          let x = in_map (λ (t : TableAt). record { def = t.def; registered = None }) (filter (λ t. bytes_eq t.server e.target.name && is_none (server_table t.def.name e.target)) defs.tables) u new in
          let kept = in_filter (λ (t : TableAt). bytes_eq t.server e.target.name && is_none (server_table t.def.name e.target)) defs.tables x.0 x.1 in
          no_table_of_text l i a j copy x.0 kept.0 (same_name x.0.server e.target.name (and_parts (bytes_eq x.0.server e.target.name) (is_none (server_table x.0.def.name e.target)) kept.1).0 ∙ target_name l e)
          (sym (ap (λ (t : ServerTable). t.def.name) x.2) ∙ name)

      by_found : (o : Option ServerTable) → server_table a.target l.target ≡ o → o ≡ None
      by_found None found = refl
      by_found (Some t) found =
          let at = found_in (λ (b : ServerTable). bytes_eq a.target b.def.name) l.target.tables t found in
          let u = in_map (register defs e.target) (e.target.tables ++ new_tables defs e.target) t (subst (λ (s : Server). In t s.tables) e.target_loads at.0) in
          absurd (by_part u.0 (sym (ap (λ (b : ServerTable). b.def.name) u.2) ∙ sym (same_name a.target t.def.name at.1)) (in_either e.target.tables (new_tables defs e.target) u.0 u.1))

  -- the target of a member of a set of the text isn't a table, if it isn't a replica
  is_free : (l : KnownSet) → Ends defs w l → (a : Member) (of : IsSpelled raw (context_in w raw).tables l.at_target.def a) → is_replica_item of.item ≡ false → server_table a.target l.target ≡ None
  is_free l e a of copy = by_found (server_table a.target l.target) refl
    where
      tables : List TableAt
      tables = (context_in w raw).tables

      server : of.set.target ≡ e.target.name
      server = sym (ap (λ (def : SetDef). def.target) (set_spelled tables of.set l.at_target.def of.set_spells)) ∙ sym (target_name l e)

      name : of.item.target ≡ a.target
      name = sym (ap (λ (m : Member). m.target) (member_spelled (columns_at tables of.set.source of.item.source) of.item a of.item_spells).1)

      by_rule : (is_replica_item of.item ≡ true) ⊎ (not (list_any (is_table of.set.target of.item.target) tables) ≡ true) → list_any (is_table of.set.target of.item.target) tables ≡ false
      by_rule (inl replica) = absurd (both_ways (is_replica_item of.item) copy replica)
      by_rule (inr none) = not-true (list_any (is_table of.set.target of.item.target) tables) none

      by_found : (o : Option ServerTable) → server_table a.target l.target ≡ o → o ≡ None
      by_found None found = refl
      by_found (Some t) found =
          let at = found_in (λ (b : ServerTable). bytes_eq a.target b.def.name) l.target.tables t found in
          let table = table_in_context raw w defs sound accepted e.target e.target_in t (subst (λ (s : Server). In t s.tables) e.target_loads at.0) in
          let there = found_in (is_table e.target.name t.def.name) tables table.0 table.1 in
          absurd (both_ways (list_any (is_table of.set.target of.item.target) tables)
          (by_rule (or_cases (is_replica_item of.item) (not (list_any (is_table of.set.target of.item.target) tables)) (and_parts _ _ (item_rules raw (context_in w raw) accepted.kept of.set of.item of.set_in of.item_in).once).1))
          (any_from (is_table of.set.target of.item.target) tables table.0 there.0 (ap₂ (λ (s n : List ℕ). is_table s n table.0) server (name ∙ same_name a.target t.def.name at.1) ∙ there.1)))

  -- ---- members of the text

  -- the registration of a registered table of a server that is loaded keeps the rules
  registration_keeps : (s : Server) → In s w → (name : List ℕ) (source : SourceTable) → source_named name (load_server defs s) ≡ Some source → RegistrationKeepsRules source.def source.reg
  registration_keeps s i name source e =
      let t = from_step (as_source (load_server defs s)) (server_table name (load_server defs s)) source e in
      let r = from_image (λ (q : Registered). record { def = t.0.def; reg = q.reg; log = s.log }) t.0.registered source t.2 in
      let tables = at_one (λ (a : Server). AllByRecursion KeepsTable a.tables) (load_all defs w) (load_server defs s) (tables_keep_rules raw w defs sound accepted) (image_in (load_server defs) w s i) in
      let keeps = at_one KeepsTable (load_server defs s).tables t.0 tables (found_in (λ (a : ServerTable). bytes_eq name a.def.name) (load_server defs s).tables t.0 t.1).0 in
      subst (λ (a : SourceTable). RegistrationKeepsRules a.def a.reg) r.2 (subst (λ (o : Option Registered). IfSome o (λ q. RegistrationKeepsRules t.0.def q.reg)) r.1 keeps.2)

  -- a registered table of the context is one of its server once that is loaded, and its registration keeps the rules
  loaded_source : (server name : List ℕ) (registered : SourceTable) (s : Server) → In s w → server_named server w ≡ Some s → registered_source (context_in w raw) server name ≡ Some registered → (u : SourceTable) × (source_named name (load_server defs s) ≡ Some u) × (u.def ≡ registered.def) × (u.reg ≡ registered.reg) × RegistrationKeepsRules u.def u.reg
  loaded_source server name registered s i named is =
      let u = context_source raw w defs sound accepted server name registered s is named in
      (u.0, u.1, u.2, u.3, registration_keeps s i name u.0 u.1)

  -- a member of a set of the text has an item
  item_of : (l : KnownSet) → Ends defs w l → In l.at_target.def defs.sets → (a : Member) → In a l.at_target.def.members → OfItem raw w defs l a
  item_of l e text a j =
      let tables = (context_in w raw).tables in
      let of = member_item raw w defs l.at_target.def a accepted text j in
      let rules = item_rules raw (context_in w raw) accepted.kept of.set of.item of.set_in of.item_in in
      let spelled = member_spelled (columns_at tables of.set.source of.item.source) of.item a of.item_spells in
      let registered = some_is (registered_source (context_in w raw) of.set.source of.item.source) rules.source in
      let server : l.at_target.def.source ≡ of.set.source = ap (λ (def : SetDef). def.source) (set_spelled tables of.set l.at_target.def of.set_spells) in
      let u = loaded_source of.set.source of.item.source registered.0 e.source e.source_in (subst (λ (name : List ℕ). server_named name w ≡ Some e.source) server e.source_is) registered.1 in
      record {
        of = of;
        rules = rules;
        is = spelled.1;
        kind = sym (replica_kind of.item a.kind spelled.0);
        registered = registered.0;
        registered_is = registered.1;
        source = u.0;
        found = ap₂ source_named (ap (λ (m : Member). m.source) spelled.1) e.source_loads ∙ u.1;
        reg_keeps = u.4;
        same_def = u.2;
        same_reg = u.3;
      }

  -- a member of a set of the text is sound, if it isn't a replica
  read_only_sound : (l : KnownSet) → IsKnown l → In l.at_target.def defs.sets → (a : Member) → In a l.at_target.def.members → is_replica a.kind ≡ false → MemberIsSound l a
  read_only_sound l i text a j copy =
      let e = ends l i in
      let m = item_of l e text a j in
      let copy_item = m.kind ∙ copy in
      let over = member_keeps_rules (context_in w raw) m.of.set m.of.item m.registered a m.rules m.registered_is m.of.item_spells copy_item in
      (not_from_false (is_replica a.kind) copy, is_free l e a m.of copy_item, (m.source, m.found, whatever_the_log m.registered m.source a m.same_def m.same_reg over))

  -- and if it is one
  replica_sound : (l : KnownSet) → IsKnown l → In l.at_target.def defs.sets → (a : Member) → In a l.at_target.def.members → is_replica a.kind ≡ true → ReplicaMemberIsSound l a
  replica_sound l i text a j replica = (replica, (m.source, target.0, m.found, found, twins_keep m.source target.0 a m.reg_keeps target.4 name columns filter twins))
    where
      e : Ends defs w l
      e = ends l i

      m : OfItem raw w defs l a
      m = item_of l e text a j

      context : Context
      context = context_in w raw

      set : RawSet
      set = m.of.set

      item : RawMember
      item = m.of.item

      has_its_twin : ((is_none item.columns && is_none item.filter && bytes_eq item.source item.target) ≡ true) × (has_twin context set item ≡ true)
      has_its_twin = and_parts (is_none item.columns && is_none item.filter && bytes_eq item.source item.target) (has_twin context set item) (and_parts _ (not (makes_chain context set item)) (or_else (is_replica_item item) _ m.rules.apart (m.kind ∙ replica))).0

      says_nothing : ((is_none item.columns && is_none item.filter) ≡ true) × (bytes_eq item.source item.target ≡ true)
      says_nothing = and_parts (is_none item.columns && is_none item.filter) (bytes_eq item.source item.target) has_its_twin.0

      neither : (is_none item.columns ≡ true) × (is_none item.filter ≡ true)
      neither = and_parts (is_none item.columns) (is_none item.filter) says_nothing.0

      name : a.target ≡ a.source
      name = ap (λ (b : Member). b.target) m.is ∙ sym (same_name item.source item.target says_nothing.1) ∙ sym (ap (λ (b : Member). b.source) m.is)

      columns : a.columns ≡ []
      columns = ap (λ (b : Member). b.columns) m.is ∙ ap (λ (o : Option (List (List ℕ))). filter_map (target_column (columns_at context.tables set.source item.source)) (unwrap_or o [])) (none_there item.columns neither.0)

      filter : a.filter ≡ None
      filter = ap (λ (b : Member). b.filter) m.is ∙ ap (option_and_then (predicate_tree (columns_at context.tables set.source item.source))) (none_there item.filter neither.1)

      twin : (r : SourceTable) × (registered_source context set.target item.target ≡ Some r) × (are_twins m.registered r ≡ true)
      twin = twin_of context set item m.registered m.registered_is has_its_twin.1

      target : (u : SourceTable) × (source_named item.target (load_server defs e.target) ≡ Some u) × (u.def ≡ twin.0.def) × (u.reg ≡ twin.0.reg) × RegistrationKeepsRules u.def u.reg
      target = loaded_source set.target item.target twin.0 e.target e.target_in
          (subst (λ (name : List ℕ). server_named name w ≡ Some e.target) (ap (λ (def : SetDef). def.target) (set_spelled context.tables set l.at_target.def m.of.set_spells)) e.target_is) twin.1

      found : source_named a.target l.target ≡ Some target.0
      found = ap₂ source_named (ap (λ (b : Member). b.target) m.is) e.target_loads ∙ target.1

      with_log : TableDef → Registration → SourceTable
      with_log def reg = record { def = def; reg = reg; log = [] }

      twins : are_twins m.source target.0 ≡ true
      twins = (λ k. are_twins (with_log (m.same_def k) (m.same_reg k)) (with_log (target.2 k) (target.3 k))) ∙ twin.2

  -- ---- sets

  -- a set of the text whose rows say nothing yet keeps the rules
  new_keeps : (l : KnownSet) → IsKnown l → OfText defs l → IsNewSet l → KnownSetKeepsRules l
  unfolding set_breaks
  new_keeps l i text new = record { same = text.1; apart = apart; members = by_kind (cases_Bool (is_replica_set l.at_target.def)) }
    where
      item : (a : RawSet) × In a raw.sets × (spelled_set (context_in w raw).tables a ≡ Some l.at_target.def)
      item = set_item raw w defs l.at_target.def accepted text.0

      is : (a : RawSet) → spelled_set (context_in w raw).tables a ≡ Some l.at_target.def → l.at_target.def ≡ set_def (context_in w raw).tables a (record { qual = a.qual; name = a.name }) a.source a.target
      is a = set_spelled (context_in w raw).tables a l.at_target.def

      apart : not (bytes_eq l.source.name l.target.name) ≡ true
      apart = ap₂ (λ (s t : List ℕ). not (bytes_eq s t)) (sym (named_source (load_all defs w) l i) ∙ ap (λ (def : SetDef). def.source) (is item.0 item.2)) (sym (named_target raw w defs sound accepted l i) ∙ ap (λ (def : SetDef). def.target) (is item.0 item.2))
          ∙ not_not (has_two_servers item.0) (set_kept raw (context_in w raw) accepted.kept Source item.0 item.1)

      by_kind : (is_replica_set l.at_target.def ≡ true) ⊎ (is_replica_set l.at_target.def ≡ false)
          → (AllByRecursion (MemberIsSound l) l.at_target.def.members × (l.at_source.t ≡ 0) × (l.at_source.d ≡ 0) × (l.at_source.codes ≡ []) × (l.at_target.signal ≡ 0))
          ⊎ (AllByRecursion (ReplicaMemberIsSound l) l.at_target.def.members × (l.at_target.def.commit_count ≡ 0) × (l.at_target.def.max_minutes ≡ 0) × (l.at_target.flag ≡ false) × (l.at_target.trail ≡ [] → IsFresh l.at_source))
      by_kind (inl replicas) =
          let own = replicas_item raw w defs accepted l.at_target.def text.0 replicas in
          let limits = and_parts _ (unwrap_or own.0.max_minutes 0 == 0) own.2 in (
          inr (
            at_each (ReplicaMemberIsSound l) l.at_target.def.members (λ a j. replica_sound l i text.0 a j (replicas_of_text raw w defs accepted l.at_target.def text.0 replicas a j)),
            ap (λ (def : SetDef). def.commit_count) (is own.0 own.1) ∙ eqb-true (unwrap_or own.0.commit_count 0) 0 (and_parts _ (unwrap_or own.0.commit_count 0 == 0) limits.0).1,
            ap (λ (def : SetDef). def.max_minutes) (is own.0 own.1) ∙ eqb-true (unwrap_or own.0.max_minutes 0) 0 limits.1,
            new.1.0,
            λ e. new.0.0,
          )
          )
      by_kind (inr none) = inl (
        at_each (MemberIsSound l) l.at_target.def.members (λ a j. read_only_sound l i text.0 a j
            (false_from_ne_true (is_replica a.kind) (λ e. both_ways (is_replica_set l.at_target.def) none (any_from (λ (b : Member). is_replica b.kind) l.at_target.def.members a j e)))),
        new.0.0.1,
        new.0.0.2,
        new.0.0.3,
        new.1.2,
      )

  -- a set that was known before keeps the rules
  grown_keeps : (k l : KnownSet) → IsKnown l → In k (known_sets w) → SetGrows k l → KnownSetKeepsRules l
  grown_keeps k l i j g = record {
    same = now.same;
    apart = ap₂ (λ (s t : List ℕ). not (bytes_eq s t)) (name_stays k.source l.source g.source) (name_stays k.target l.target g.target) ∙ now.apart;
    members = elim now.members [
      | inl m ↦ inl (at_each (MemberIsSound l) l.at_target.def.members (λ a n. read_only a n (at_one (MemberIsSound before) l.at_target.def.members a m.0 n)), m.1, m.2, m.3, m.4)
      | inr m ↦ inr (all_weaker (ReplicaMemberIsSound before) (ReplicaMemberIsSound l) l.at_target.def.members replica m.0, m.1, m.2, m.3, m.4)
    ];
  }
    where
      with_rows : SourceSide → TargetSide → KnownSet
      with_rows at_source at_target = record { source = k.source; at_source = at_source; target = k.target; at_target = at_target }

      before : KnownSet
      before = with_rows l.at_source l.at_target

      now : KnownSetKeepsRules before
      now = subst KnownSetKeepsRules (ap₂ with_rows (sym g.at_source) (sym g.at_target)) (at_one KnownSetKeepsRules (known_sets w) k sound.definitions.sets j)

      e : Ends defs w l
      e = ends l i

      same_target : k.target ≡ e.target
      same_target = same_server w k.target e.target sound (known_stands w k j).target e.target_in (sym (name_stays k.target l.target g.target) ∙ ap (λ (s : Server). s.name) e.target_loads)

      read_only : (a : Member) → In a l.at_target.def.members → MemberIsSound before a → MemberIsSound l a
      read_only a m sound_before = (
        sound_before.0,
        stays_free l i a m (not-true (is_replica a.kind) sound_before.0) e (subst (λ (s : Server). server_table a.target s ≡ None) same_target sound_before.1),
        (sound_before.2.0, source_found a.source k.source l.source sound_before.2.0 g.source sound_before.2.1, sound_before.2.2),
      )

      replica : (a : Member) → ReplicaMemberIsSound before a → ReplicaMemberIsSound l a
      replica a sound_before = (
        sound_before.0,
        (
          sound_before.1.0,
          sound_before.1.1,
          source_found a.source k.source l.source sound_before.1.0 g.source sound_before.1.2,
          source_found a.target k.target l.target sound_before.1.1 g.target sound_before.1.3,
          sound_before.1.4,
        ),
      )

  -- a known set keeps the rules
  set_keeps : (l : KnownSet) → IsKnown l → KnownSetKeepsRules l
  set_keeps l i = by_rows (known_before w (load_all defs w) (world_loads defs w) steps (set_names_differ raw w defs sound accepted) l i)
    where
      steps : AllByRecursion (UnknownHasNoStep w) w
      steps = all_weaker (ServerKeepsRules w) (UnknownHasNoStep w) w
          (λ s rules. (all_weaker (λ side. (side.def.source ≡ s.name) × SetKeepsLimits w side.def × UnknownSource w s side) (UnknownSource w s) s.source_sets (λ side x. x.2) rules.sources, all_weaker (λ side. (side.def.target ≡ s.name) × SetKeepsLimits w side.def × UnknownTarget w s side) (UnknownTarget w s) s.target_sets (λ side x. x.2) rules.targets))
          sound.definitions.servers

      by_origin : IsNewSet l → OfText defs l ⊎ KnownBefore raw w l → KnownSetKeepsRules l
      by_origin new (inl text) = new_keeps l i text new
      by_origin new (inr before) = grown_keeps before.0 l i before.1 before.2

      by_rows : ((k : KnownSet) × In k (known_sets w) × SetGrows k l) ⊎ IsNewSet l → KnownSetKeepsRules l
      by_rows (inl k) = grown_keeps k.0 l i k.1 k.2
      by_rows (inr new) = by_origin new (known_either raw w defs sound accepted l i)

-- known sets keep the rules
pub sets_keep_rules : HoldsLoaded SetsKeepRules
sets_keep_rules raw w defs sound accepted = at_each KnownSetKeepsRules (known_sets (load_all defs w)) (set_keeps raw w defs sound accepted)
