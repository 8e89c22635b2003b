-- The replica sets that aren't loaded, once accepted definitions are.
use Rattle.std.proofs.Common.{◌≡◌, Bool, true, false, not, ◌&&◌, ◌||◌, ◌⊎◌, inl, inr, length, Option, Some, None, refl, sym, ap, subst, ◌∙◌, nat_lt, is_some}
use Rattle.std.specs.List.{list_all}
use Rattle.std.specs.Option.{option_map_or}
use Rattle.std.proofs.lemmas.Bool.{and_parts, both_ways, cases_Bool, false_from_ne_true, not_from_false, or_left, or_right}
use Rattle.std.proofs.lemmas.List.Folds.{list_all-map}
use Rattle.repl_model.specs.Words.{SetId, Unit, units, unplaced, is_signal, comes_from, TargetSide, Server, World, KnownSet, same_set, source_side, target_side, known_sets, is_known, is_replica_set, all_differ, has_origin, replica_sets, waits_for_load, IsSound, In, at_one, at_each, all_pass_from, some_passes, in_filter, kept_by, embeds_in, WorldGrows, same_id, SetGrows, known_stay}
use Rattle.spelled_defs.specs.declared.defs.Defs.{Defs}
use Rattle.load_laws.specs.worlds.Loads.{load_server, load_all}
use Rattle.load_laws.specs.rules.StaysSound.{HoldsLoaded}
use Rattle.load_laws.specs.laws.PartsOfSound.{UnloadedSetsWait}
use Rattle.load_laws.specs.laws.RuledWorlds.{world_loads}
use Rattle.load_laws.specs.laws.Servers.{server_rules}
use Rattle.load_laws.specs.laws.KnownSets.{one_of_name, same_known, set_names_differ}

-- ---- a name that was known

-- a known set whose name was known before became what it is from the one that had the name
grown_from : (w v : World) → WorldGrows w v → all_differ same_known (known_sets v) ≡ true → (l : KnownSet) → In l (known_sets v) → is_known w l.at_target.def.id ≡ true → (k : KnownSet) × In k (known_sets w) × SetGrows k l
grown_from w v g differ l i stood =
    let k = some_passes (λ (a : KnownSet). same_set l.at_target.def.id a.at_target.def.id) (known_sets w) stood in
    let m = embeds_in SetGrows (known_sets w) (known_sets v) k.0 (known_stay w v g) k.1 in
    let ids : l.at_target.def.id ≡ m.0.at_target.def.id = same_id l.at_target.def.id m.0.at_target.def.id (ap (λ (side : TargetSide). same_set l.at_target.def.id side.def.id) m.2.at_target ∙ k.2) in
    let same = one_of_name (λ (a : KnownSet). a.at_target.def.id) (known_sets v) l m.0 differ i m.1 ids in
    (k.0, k.1, subst (SetGrows k.0) (sym same) m.2)

-- ---- units

-- a unit isn't of a set, or changes no row
abbrev changes_none : SetId → Unit → Bool
changes_none id u = not (comes_from id u) || list_all is_signal (unplaced u.changes)

-- no unit of a set changes a row at any server
abbrev waits : World → SetId → Bool
waits w id = list_all (λ s. list_all (changes_none id) (units s.log)) w

-- the units of all servers are those before
waits_alike : (defs : Defs) (w : World) (id : SetId) → waits (load_all defs w) id ≡ waits w id
waits_alike defs w id = list_all-map (λ (s : Server). list_all (changes_none id) (units s.log)) (load_server defs) w

-- a set that isn't known has no unit
no_origin : (w : World) (s : Server) (u : Unit) (id : SetId) → is_known w id ≡ false → has_origin w s u ≡ true → comes_from id u ≡ false
no_origin w s u id never = by_origin u.head.origin
  where
    by_origin : (o : Option SetId) → option_map_or (λ id. is_known w id && (is_some (source_side id s) || is_some (target_side id s))) o true ≡ true → option_map_or (same_set id) o false ≡ false
    by_origin None e = refl
    by_origin (Some other) e = false_from_ne_true (same_set id other) (λ same. both_ways (is_known w id) never (subst (λ (a : SetId). is_known w a ≡ true) (sym (same_id id other same)) (and_parts (is_known w other) (is_some (source_side other s) || is_some (target_side other s)) e).0))

-- so none that changes a row
waits_unknown : (w : World) → IsSound w → (id : SetId) → is_known w id ≡ false → waits w id ≡ true
waits_unknown w sound id never = all_pass_from (λ (s : Server). list_all (changes_none id) (units s.log)) w (λ s i. all_pass_from (changes_none id) (units s.log) (λ u j.
    or_left (not (comes_from id u)) (list_all is_signal (unplaced u.changes)) (not_from_false (comes_from id u) (no_origin w s u id never (at_one (λ (u : Unit). has_origin w s u ≡ true) (units s.log) u (server_rules w s sound i).origins j)))))

-- a unit of a replica set that isn't loaded changes no row
pub unloaded_sets_wait : HoldsLoaded UnloadedSetsWait
unloaded_sets_wait raw w defs sound accepted = at_each (λ (l : KnownSet). waits_for_load (load_all defs w) l ≡ true) (replica_sets (known_sets (load_all defs w))) (λ l i.
    let both = in_filter (λ (k : KnownSet). is_replica_set k.at_target.def) (known_sets (load_all defs w)) l i in
    by_known l both.0 both.1 (cases_Bool (is_known w l.at_target.def.id)))
  where
    by_known : (l : KnownSet) → In l (known_sets (load_all defs w)) → is_replica_set l.at_target.def ≡ true → (is_known w l.at_target.def.id ≡ true) ⊎ (is_known w l.at_target.def.id ≡ false) → waits_for_load (load_all defs w) l ≡ true
    by_known l i replicas (inr never) = or_right (nat_lt 0 (length l.at_target.trail)) (waits (load_all defs w) l.at_target.def.id) (waits_alike defs w l.at_target.def.id ∙ waits_unknown w sound l.at_target.def.id never)
    by_known l i replicas (inl stood) =
        let k = grown_from w (load_all defs w) (world_loads defs w) (set_names_differ raw w defs sound accepted) l i stood in
        let was = kept_by (λ (k : KnownSet). is_replica_set k.at_target.def) (known_sets w) k.0 k.1 (ap (λ (side : TargetSide). is_replica_set side.def) (sym k.2.at_target) ∙ replicas) in
        ap (λ (b : Bool). nat_lt 0 (length l.at_target.trail) || b) (waits_alike defs w l.at_target.def.id)
        ∙ ap (λ (side : TargetSide). nat_lt 0 (length side.trail) || waits w side.def.id) k.2.at_target
        ∙ at_one (λ (k : KnownSet). waits_for_load w k ≡ true) (replica_sets (known_sets w)) k.0 sound.definitions.unloaded was
