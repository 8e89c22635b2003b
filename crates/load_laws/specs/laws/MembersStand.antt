-- Members of sets stand over registered tables once accepted definitions are loaded.
use Rattle.std.proofs.Common.{◌≡◌, ℕ, Bool, true, false, not, ◌&&◌, ◌||◌, ◌⊎◌, inl, inr, List, ◌++◌, Option, Some, sym, ap, subst, ◌∙◌, filter, is_none, is_some, bytes_eq}
use Rattle.std.specs.List.{list_all}
use Rattle.std.proofs.lemmas.Bool.{and_parts, both_ways, cases_Bool, not-true, not_from_false, or_cases, or_left, or_right}
use Rattle.repl_model.specs.Words.{Member, SetDef, is_replica, SourceTable, has_sources, has_replicas, IsSound, SourceSide, TargetSide, Server, World, source_named, server_named, source_side, target_side, In, passes_at, all_pass_from, in_map, in_filter, in_either, same_name, source_found}
use Rattle.repl_commands.specs.declared.written.RawDefs.{RawDefs}
use Rattle.repl_commands.specs.declared.written.RawMember.{RawMember}
use Rattle.repl_commands.specs.declared.written.RawSet.{RawSet}
use Rattle.spelled_defs.specs.Context.{is_replica_item}
use Rattle.spelled_defs.specs.declared.defs.Defs.{Defs}
use Rattle.checked_defs.specs.Rules.{registered_source, has_twin, makes_chain}
use Rattle.load_laws.specs.worlds.Loads.{fresh_source, fresh_target, new_sources, new_targets, load_server}
use Rattle.load_laws.specs.worlds.laws.Loaded.{server_loads}
use Rattle.load_laws.specs.rules.Accepted.{Accepted, context_in}
use Rattle.load_laws.specs.rules.StaysSound.{HoldsLoaded}
use Rattle.load_laws.specs.laws.PartsOfSound.{SourceMembersStand, ReplicaMembersStand}
use Rattle.load_laws.specs.rules.laws.Lists.{or_else}
use Rattle.load_laws.specs.rules.laws.Items.{some_is, set_spelled, member_spelled, replica_kind}
use Rattle.load_laws.specs.laws.Items.{member_item}
use Rattle.load_laws.specs.laws.Servers.{each_loaded, server_rules}
use Rattle.load_laws.specs.laws.Context.{server_of_name, context_source}
use Rattle.load_laws.specs.laws.TextMembers.{item_rules}
use Rattle.load_laws.specs.laws.Twins.{twin_of}

-- a registered table of a server stays one
source_stays : (defs : Defs) (s : Server) (name : List ℕ) → is_some (source_named name s) ≡ true → is_some (source_named name (load_server defs s)) ≡ true
source_stays defs s name e =
    let source = some_is (source_named name s) e in
    ap (λ (o : Option SourceTable). is_some o) (source_found name s (load_server defs s) source.0 (server_loads defs s) source.1)

-- a registered table of the context is one of its server once that is loaded
registered_stands : (raw : RawDefs) (w : World) (defs : Defs) → IsSound w → Accepted raw w defs → (s : Server) → In s w → (server name : List ℕ) → server ≡ s.name → is_some (registered_source (context_in w raw) server name) ≡ true → is_some (source_named name (load_server defs s)) ≡ true
registered_stands raw w defs sound accepted s i server name same e =
    let source = some_is (registered_source (context_in w raw) server name) e in
    ap (λ (o : Option SourceTable). is_some o) (context_source raw w defs sound accepted server name source.0 s source.1 (subst (λ (a : List ℕ). server_named a w ≡ Some s) (sym same) (server_of_name w s sound i))).1

-- the target of a replica of a text is registered
replica_registered : (raw : RawDefs) (w : World) (defs : Defs) → Accepted raw w defs → (set : RawSet) (item : RawMember) → In set raw.sets → In item set.members → is_replica_item item ≡ true → is_some (registered_source (context_in w raw) set.target item.target) ≡ true
replica_registered raw w defs accepted set item i j replica =
    let context = context_in w raw in
    let rules = item_rules raw context accepted.kept set item i j in
    let master = some_is (registered_source context set.source item.source) rules.source in
    let twin = twin_of context set item master.0 master.1 (and_parts _ (has_twin context set item) (and_parts _ (not (makes_chain context set item)) (or_else (is_replica_item item) _ rules.apart replica)).0).1 in
    ap (λ (o : Option SourceTable). is_some o) twin.1

-- each member of a set at its source is over a registered table there
pub source_members_stand : HoldsLoaded SourceMembersStand
source_members_stand raw w defs sound accepted = each_loaded (λ s. list_all (has_sources s) s.source_sets ≡ true) defs w (λ s i.
    all_pass_from (has_sources (load_server defs s)) (s.source_sets ++ new_sources defs s) (λ side j. by_part s i side (in_either s.source_sets (new_sources defs s) side j)))
  where
    stands : Server → Member → Bool
    stands s member = is_some (source_named member.source s)

    of_text : (s : Server) → In s w → (def : SetDef) → In def defs.sets → def.source ≡ s.name → (member : Member) → In member def.members → stands (load_server defs s) member ≡ true
    of_text s i def k named member j =
        let of = member_item raw w defs def member accepted k j in
        subst (λ (name : List ℕ). is_some (source_named name (load_server defs s)) ≡ true) (sym (ap (λ (m : Member). m.source) (member_spelled _ of.item member of.item_spells).1))
        (registered_stands raw w defs sound accepted s i of.set.source of.item.source (sym (ap (λ (d : SetDef). d.source) (set_spelled (context_in w raw).tables of.set def of.set_spells)) ∙ named)
        (item_rules raw (context_in w raw) accepted.kept of.set of.item of.set_in of.item_in).source)

    by_part : (s : Server) → In s w → (side : SourceSide) → In side s.source_sets ⊎ In side (new_sources defs s) → has_sources (load_server defs s) side ≡ true
    by_part s i side (inl old) = all_pass_from (stands (load_server defs s)) side.def.members (λ member j.
        source_stays defs s member.source (passes_at (stands s) side.def.members member (passes_at (has_sources s) s.source_sets side (server_rules w s sound i).source_members old) j))
    by_part s i side (inr new) =
        let r = in_map fresh_source (filter (λ def. bytes_eq def.source s.name && is_none (source_side def.id s)) defs.sets) side new in
        let k = in_filter (λ (def : SetDef). bytes_eq def.source s.name && is_none (source_side def.id s)) defs.sets r.0 r.1 in
        subst (λ (a : SourceSide). has_sources (load_server defs s) a ≡ true) (sym r.2)
        (all_pass_from (stands (load_server defs s)) r.0.members (of_text s i r.0 k.0 (same_name r.0.source s.name (and_parts (bytes_eq r.0.source s.name) (is_none (source_side r.0.id s)) k.1).0)))

-- each replica of a set at its target is a registered table there
pub replica_members_stand : HoldsLoaded ReplicaMembersStand
replica_members_stand raw w defs sound accepted = each_loaded (λ s. list_all (has_replicas s) s.target_sets ≡ true) defs w (λ s i.
    all_pass_from (has_replicas (load_server defs s)) (s.target_sets ++ new_targets defs s) (λ side j. by_part s i side (in_either s.target_sets (new_targets defs s) side j)))
  where
    stands : Server → Member → Bool
    stands s member = not (is_replica member.kind) || is_some (source_named member.target s)

    if_replica : (s : Server) (member : Member) → (is_replica member.kind ≡ true → is_some (source_named member.target s) ≡ true) → stands s member ≡ true
    if_replica s member h = by_kind (cases_Bool (is_replica member.kind))
      where
        by_kind : (is_replica member.kind ≡ true) ⊎ (is_replica member.kind ≡ false) → stands s member ≡ true
        by_kind (inl e) = or_right (not (is_replica member.kind)) (is_some (source_named member.target s)) (h e)
        by_kind (inr e) = or_left (not (is_replica member.kind)) (is_some (source_named member.target s)) (not_from_false (is_replica member.kind) e)

    before : (s : Server) (member : Member) → stands s member ≡ true → is_replica member.kind ≡ true → is_some (source_named member.target s) ≡ true
    before s member e replica = by_case (or_cases (not (is_replica member.kind)) (is_some (source_named member.target s)) e)
      where
        by_case : (not (is_replica member.kind) ≡ true) ⊎ (is_some (source_named member.target s) ≡ true) → is_some (source_named member.target s) ≡ true
        by_case (inl other) = absurd (both_ways (is_replica member.kind) (not-true (is_replica member.kind) other) replica)
        by_case (inr some) = some

    of_text : (s : Server) → In s w → (def : SetDef) → In def defs.sets → def.target ≡ s.name → (member : Member) → In member def.members → is_replica member.kind ≡ true → is_some (source_named member.target (load_server defs s)) ≡ true
    of_text s i def k named member j replica =
        let of = member_item raw w defs def member accepted k j in
        let spelled = member_spelled _ of.item member of.item_spells in
        subst (λ (name : List ℕ). is_some (source_named name (load_server defs s)) ≡ true) (sym (ap (λ (m : Member). m.target) spelled.1))
        (registered_stands raw w defs sound accepted s i of.set.target of.item.target (sym (ap (λ (d : SetDef). d.target) (set_spelled (context_in w raw).tables of.set def of.set_spells)) ∙ named)
        (replica_registered raw w defs accepted of.set of.item of.set_in of.item_in (sym (replica_kind of.item member.kind spelled.0) ∙ replica)))

    by_part : (s : Server) → In s w → (side : TargetSide) → In side s.target_sets ⊎ In side (new_targets defs s) → has_replicas (load_server defs s) side ≡ true
    by_part s i side (inl old) = all_pass_from (stands (load_server defs s)) side.def.members (λ member j. if_replica (load_server defs s) member (λ replica.
        source_stays defs s member.target (before s member (passes_at (stands s) side.def.members member (passes_at (has_replicas s) s.target_sets side (server_rules w s sound i).replica_members old) j) replica)))
    by_part s i side (inr new) =
        let r = in_map fresh_target (filter (λ def. bytes_eq def.target s.name && is_none (target_side def.id s)) defs.sets) side new in
        let k = in_filter (λ (def : SetDef). bytes_eq def.target s.name && is_none (target_side def.id s)) defs.sets r.0 r.1 in
        subst (λ (a : TargetSide). has_replicas (load_server defs s) a ≡ true) (sym r.2)
        (all_pass_from (stands (load_server defs s)) r.0.members (λ member j. if_replica (load_server defs s) member (of_text s i r.0 k.0 (same_name r.0.target s.name (and_parts (bytes_eq r.0.target s.name) (is_none (target_side r.0.id s)) k.1).0) member j)))
