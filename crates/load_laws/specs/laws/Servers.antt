-- What each server of a world keeps once accepted definitions are loaded.
use Rattle.std.proofs.Common.{ℕ, List, Bool, map, refl, ap, ◌≡◌, true, ◌&&◌, ◌⊎◌, inl, inr, ◌++◌, sym, subst, ◌∙◌, ◌≤◌, length, filter, is_some, is_none, bytes_eq}
use Rattle.std.specs.List.{AllByRecursion}
use Rattle.std.proofs.lemmas.Bool.{and_parts}
use Rattle.repl_model.specs.Words.{is_name, all_weaker, Unit, IsSetDef, SetDef, units, SourceSide, TargetSide, Server, World, server_named, source_side, target_side, table_limit, set_limit, SetKeepsLimits, UnknownSource, UnknownTarget, has_origin, ServerKeepsRules, IsSound, In, at_one, at_each, in_map, in_filter, in_either, each_image, same_name, names_stay, limits_stay, unknown_sources, unknown_targets, origin_stays}
use Rattle.repl_commands.specs.declared.written.RawDefs.{RawDefs}
use Rattle.spelled_defs.specs.declared.defs.Defs.{Defs}
use Rattle.load_laws.specs.worlds.Loads.{fresh_source, fresh_target, load_server, load_all}
use Rattle.load_laws.specs.worlds.laws.Loaded.{server_loads}
use Rattle.load_laws.specs.rules.Accepted.{IsSetWithin, IsServerWithin, Accepted}
use Rattle.load_laws.specs.rules.StaysSound.{HoldsLoaded}
use Rattle.load_laws.specs.laws.PartsOfSound.{ServersHaveNames, TablesAreCounted, SetsAreCounted, OriginsAreKnown, SourcesKeepLimits, TargetsKeepLimits}
use Rattle.load_laws.specs.laws.Items.{has_members}
use Rattle.load_laws.specs.laws.RuledWorlds.{world_loads}

-- what holds of what each server becomes holds of each server once all are loaded
pub each_loaded : (P : Server → Type 0) (defs : Defs) (w : World) → ((s : Server) → In s w → P (load_server defs s)) → AllByRecursion P (load_all defs w)
each_loaded P defs w f = each_image P (load_server defs) w (at_each (λ s. P (load_server defs s)) w f)

-- each server of a sound world keeps the rules
pub server_rules : (w : World) (s : Server) → IsSound w → In s w → ServerKeepsRules w s
server_rules w s sound i = at_one (ServerKeepsRules w) w s sound.definitions.servers i

-- the names of servers are names
pub servers_have_names : HoldsLoaded ServersHaveNames
servers_have_names raw w defs sound accepted = each_loaded (λ s. is_name s.name ≡ true) defs w (λ s i. (server_rules w s sound i).name)

-- there are no more tables than there may be
pub tables_are_counted : HoldsLoaded TablesAreCounted
tables_are_counted raw w defs sound accepted = all_weaker IsServerWithin (λ s. length s.tables ≤ table_limit) (load_all defs w) (λ s h. h.0) accepted.limits.servers

-- there are no more sets than there may be
pub sets_are_counted : HoldsLoaded SetsAreCounted
sets_are_counted raw w defs sound accepted = all_weaker IsServerWithin (λ s. (length s.source_sets ≤ set_limit) × (length s.target_sets ≤ set_limit)) (load_all defs w) (λ s h. (h.1, h.2)) accepted.limits.servers

-- the origins of units are known
pub origins_are_known : HoldsLoaded OriginsAreKnown
origins_are_known raw w defs sound accepted = each_loaded (λ s. AllByRecursion (λ (u : Unit). has_origin (load_all defs w) s u ≡ true) (units s.log)) defs w (λ s i.
    all_weaker (λ (u : Unit). has_origin w s u ≡ true) (λ (u : Unit). has_origin (load_all defs w) (load_server defs s) u ≡ true) (units s.log)
    (origin_stays w (load_all defs w) (world_loads defs w) s (load_server defs s) (server_loads defs s)) (server_rules w s sound i).origins)

-- a set that was accepted keeps the limits
set_within : (raw : RawDefs) (w : World) (defs : Defs) (def : SetDef) → Accepted raw w defs → In def defs.sets → SetKeepsLimits (load_all defs w) def
set_within raw w defs def accepted i =
    let limits = at_one IsSetWithin defs.sets def accepted.limits.sets i in
    let servers = at_one (λ (def : SetDef). (is_some (server_named def.source w) ≡ true) × (is_some (server_named def.target w) ≡ true)) defs.sets def accepted.servers.sets i in
    record {
      spelled = at_one IsSetDef defs.sets def accepted.typed.sets i;
      stored = limits.0;
      members = (has_members raw w defs def accepted i, limits.1);
      columns = limits.2;
      source = names_stay w (load_all defs w) (world_loads defs w) def.source ∙ servers.0;
      target = names_stay w (load_all defs w) (world_loads defs w) def.target ∙ servers.1;
    }

-- The sets at one side of a server keep the limits, and what else is to hold of them, if those that stand there do, and
-- the new ones are accepted sets of that server.
sides_keep_limits : (raw : RawDefs) (w : World) (defs : Defs) → Accepted raw w defs → (s : Server) {Side : Type 0} (def_of : Side → SetDef) (fresh : SetDef → Side) → ((def : SetDef) → def_of (fresh def) ≡ def)
    → (end_of : SetDef → List ℕ) (has_none : SetDef → Bool) (sides : List Side) (Before After : Side → Type 0)
    → AllByRecursion (λ side. (end_of (def_of side) ≡ s.name) × SetKeepsLimits w (def_of side) × Before side) sides
    → (AllByRecursion Before sides → AllByRecursion After (sides ++ map fresh (filter (λ def. bytes_eq (end_of def) s.name && has_none def) defs.sets)))
    → AllByRecursion (λ side. (end_of (def_of side) ≡ s.name) × SetKeepsLimits (load_all defs w) (def_of side) × After side) (sides ++ map fresh (filter (λ def. bytes_eq (end_of def) s.name && has_none def) defs.sets))
sides_keep_limits raw w defs accepted s {Side} def_of fresh defined end_of has_none sides Before After kept steps =
    at_each (λ side. (end_of (def_of side) ≡ s.name) × SetKeepsLimits (load_all defs w) (def_of side) × After side) (sides ++ new) (λ side j.
    let one = at_side side (in_either sides new side j) in (one.0, one.1, at_one After (sides ++ new) side (steps (all_weaker {X = Side} Here Before sides (λ x h. h.2) kept)) j))
  where
    is_new : SetDef → Bool
    is_new def = bytes_eq (end_of def) s.name && has_none def

    new : List Side
    new = map fresh (filter is_new defs.sets)

    Here : Side → Type 0
    Here side = (end_of (def_of side) ≡ s.name) × SetKeepsLimits w (def_of side) × Before side

    at_side : (side : Side) → In side sides ⊎ In side new → (end_of (def_of side) ≡ s.name) × SetKeepsLimits (load_all defs w) (def_of side)
    at_side side (inl j) =
        let x = at_one Here sides side kept j in
        (x.0, limits_stay w (load_all defs w) (names_stay w (load_all defs w) (world_loads defs w)) (def_of side) x.1)
    at_side side (inr j) =
        let r = in_map fresh (filter is_new defs.sets) side j in
        let k = in_filter is_new defs.sets r.0 r.1 in
        subst (λ (def : SetDef). (end_of def ≡ s.name) × SetKeepsLimits (load_all defs w) def) (sym (ap def_of r.2 ∙ defined r.0))
        (same_name (end_of r.0) s.name (and_parts (bytes_eq (end_of r.0) s.name) (has_none r.0) k.1).0, set_within raw w defs r.0 accepted k.0)

-- the sets at their sources keep the limits, and have had no step if they don't stand at their targets too
pub sources_keep_limits : HoldsLoaded SourcesKeepLimits
sources_keep_limits raw w defs sound accepted = each_loaded (λ s. AllByRecursion (λ (side : SourceSide). (side.def.source ≡ s.name) × SetKeepsLimits (load_all defs w) side.def × UnknownSource (load_all defs w) s side) s.source_sets) defs w (λ s i.
    sides_keep_limits raw w defs accepted s (λ (side : SourceSide). side.def) fresh_source (λ def. refl) (λ def. def.source) (λ def. is_none (source_side def.id s)) s.source_sets (UnknownSource w s) (UnknownSource (load_all defs w) (load_server defs s))
    (server_rules w s sound i).sources (unknown_sources w (load_all defs w) (world_loads defs w) s (load_server defs s) (server_loads defs s)))

-- the sets at their targets do, likewise
pub targets_keep_limits : HoldsLoaded TargetsKeepLimits
targets_keep_limits raw w defs sound accepted = each_loaded (λ s. AllByRecursion (λ (side : TargetSide). (side.def.target ≡ s.name) × SetKeepsLimits (load_all defs w) side.def × UnknownTarget (load_all defs w) s side) s.target_sets) defs w (λ s i.
    sides_keep_limits raw w defs accepted s (λ (side : TargetSide). side.def) fresh_target (λ def. refl) (λ def. def.target) (λ def. is_none (target_side def.id s)) s.target_sets (UnknownTarget w s) (UnknownTarget (load_all defs w) (load_server defs s))
    (server_rules w s sound i).targets (unknown_targets w (load_all defs w) (world_loads defs w) s (load_server defs s) (server_loads defs s)))
