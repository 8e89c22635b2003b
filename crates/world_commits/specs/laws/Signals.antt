-- A world whose action is the signal of a read-only set.
use Rattle.std.proofs.Common.{◌≡◌, ℕ, Bool, true, false, cond, not, ◌&&◌, ◌||◌, List, [], ◌∷◌, Option, Some, refl, sym, ap, subst, ◌∙◌, append-nil, IsTrue, is_some, option_map, option_and_then, bytes_eq}
use Rattle.std.proofs.lemmas.Bool.{and_from, or_left, not-true, not_from_false, false_from_ne_true, both_ways}
use Rattle.repl_model.specs.Words.{LogRecord, SetId, Unit, SetDef, SourceSide, Server, World, KnownSet, same_set, source_side, target_side, known_from, known_sets, is_known, is_replica_set, replica_sets, read_only_sets, ServerKeepsRules, KnownSetKeepsRules, IsSound, with_more, grown, source_tables, signal_records, In, at_one, at_each, any_from, only_one, in_filter, kept_by, image_in, find_image, name_itself, same_id, id_itself, StandsIn, source_in, at_source_in, same_ids, known_in}
use Rattle.world_commits.specs.logs.LongerLogs.{CanCome}
use Rattle.world_commits.specs.logs.laws.Servers.{longer, longer_world, world_grows}
use Rattle.world_commits.specs.actions.StaysSound.{HasRoom}
use Rattle.world_commits.specs.actions.laws.Signals.{is_one_known, set_stands, source_is_named}
use Rattle.world_commits.specs.laws.OwnUnits.{own_unit}
use Rattle.world_commits.specs.laws.OwnLogs.{own_grows_sound}
use Rattle.world_commits.specs.laws.SignalLogs.{starts, signal_is_own, signal_may_follow}

-- ---- the longer log

-- the unit of a set's signal after a log
abbrev signal_unit : SetDef → List LogRecord → Unit
signal_unit def log = own_unit (starts (source_tables def)) def.id.qual (Some def.id) log

-- it can come to the set's source without a step of a replica set
signal_can_come : (world : World) (k : KnownSet) → IsSound world → In k (read_only_sets (known_sets world)) → CanCome world k.source (signal_unit k.at_source.def k.source.log ∷ [])
signal_can_come world k sound i = record {
  origins = (and_from (is_known world id) (is_some (source_side id k.source) || is_some (target_side id k.source)) known at_source, tt);
  others = at_each (λ (l : KnownSet). IsTrue (not (same_set l.at_target.def.id id) && true)) (replica_sets (known_sets world)) (λ l j. and_from (not (same_set l.at_target.def.id id)) true (not_from_false (same_set l.at_target.def.id id) (apart l j)) refl);
}
  where
    id : SetId
    id = k.at_source.def.id

    same : k.at_target.def.id ≡ id
    same = same_ids world k (set_stands world k i)

    known : is_known world id ≡ true
    known = any_from (λ (l : KnownSet). same_set id l.at_target.def.id) (known_sets world) k (is_one_known world k i) (ap (same_set id) same ∙ id_itself id)

    at_source : (is_some (source_side id k.source) || is_some (target_side id k.source)) ≡ true
    at_source = or_left (is_some (source_side id k.source)) (is_some (target_side id k.source)) (ap (λ (name : SetId). is_some (source_side name k.source)) (sym same) ∙ ap (λ (o : Option SourceSide). is_some o) (set_stands world k i).at_source)

    apart : (l : KnownSet) → In l (replica_sets (known_sets world)) → same_set l.at_target.def.id id ≡ false
    apart l j = false_from_ne_true (same_set l.at_target.def.id id) (λ alike.
        let replica = in_filter (λ (a : KnownSet). is_replica_set a.at_target.def) (known_sets world) l j in
        let one : l.at_target.def.id ≡ k.at_target.def.id = same_id l.at_target.def.id id alike ∙ sym same in
        let is : l ≡ k = only_one (λ (a b : KnownSet). same_set a.at_target.def.id b.at_target.def.id) (known_sets world) l k sound.definitions.set_names replica.0 (is_one_known world k i)
        (ap (same_set l.at_target.def.id) (sym one) ∙ id_itself l.at_target.def.id) (ap (same_set k.at_target.def.id) one ∙ id_itself k.at_target.def.id) in
        both_ways (is_replica_set k.at_target.def) (not-true (is_replica_set k.at_target.def) (in_filter (λ (a : KnownSet). not (is_replica_set a.at_target.def)) (known_sets world) k i).1)
        (subst (λ (a : KnownSet). is_replica_set a.at_target.def ≡ true) is replica.1))

-- a world stays sound when the log of a set's source is longer by the set's signal
pub signal_grows_sound : (world : World) (k : KnownSet) → IsSound world → In k (read_only_sets (known_sets world)) → HasRoom k
    → IsSound (grown k.source.name (signal_records k.at_source.def k.source.log) world)
signal_grows_sound world k sound i room =
    let stands = set_stands world k i in
    let def = k.at_source.def in
    subst (λ (more : List LogRecord). IsSound (grown k.source.name more world)) (sym (signal_is_own def k.source.log))
    (own_grows_sound k.source.name (starts (source_tables def)) def.id.qual (Some def.id) world k.source sound (source_is_named world k i)
    (signal_may_follow world k.source k.at_source (at_one (ServerKeepsRules world) world k.source sound.definitions.servers (source_in world k stands)) (at_source_in world k stands) room)
    (signal_can_come world k sound i))

-- ---- the set in the longer world

-- in the longer world the set is known too, with the same sides, and is read-only
pub known_after_signal : (world : World) (k : KnownSet) → IsSound world → In k (read_only_sets (known_sets world)) → (more : List LogRecord)
    → In (record k { source = with_more more k.source }) (read_only_sets (known_sets (grown k.source.name more world)))
known_after_signal world k sound i more = subst (λ (w : World). In after (read_only_sets (known_sets w))) (sym (world_grows name more world))
    (kept_by (λ (l : KnownSet). not (is_replica_set l.at_target.def)) (known_sets (longer_world name more world)) after
    (known_in (longer_world name more world) k.target k.at_target after target_in stands.at_target found)
    (in_filter (λ (l : KnownSet). not (is_replica_set l.at_target.def)) (known_sets world) k i).1)
  where
    name : List ℕ
    name = k.source.name

    after : KnownSet
    after = record k { source = with_more more k.source }

    stands : StandsIn world k
    stands = set_stands world k i

    rules : KnownSetKeepsRules k
    rules = at_one KnownSetKeepsRules (known_sets world) k sound.definitions.sets (is_one_known world k i)

    source_is : longer name more k.source ≡ with_more more k.source
    source_is = ap (λ (b : Bool). with_more (cond b more []) k.source) (name_itself name)

    target_is : longer name more k.target ≡ k.target
    target_is = ap (λ (b : Bool). with_more (cond b more []) k.target) (not-true (bytes_eq name k.target.name) rules.apart) ∙ ap (λ (log : List LogRecord). record k.target { log = log }) (append-nil k.target.log)

    target_in : In k.target (longer_world name more world)
    target_in = subst (λ (s : Server). In s (longer_world name more world)) target_is (image_in (longer name more) world k.target stands.target)

    with_source : Server → SourceSide → KnownSet
    with_source source at_source = record { source = source; at_source = at_source; target = k.target; at_target = k.at_target }

    found : known_from (longer_world name more world) k.target k.at_target ≡ Some after
    found =
        ap (option_and_then (λ source. option_map (with_source source) (source_side k.at_target.def.id source))) (
        find_image (longer name more) (λ (s : Server). bytes_eq k.at_target.def.source s.name) world
        ∙ ap (option_map (longer name more)) stands.source
        ∙ ap (λ (s : Server). Some s) source_is)
        ∙ ap (option_map (with_source (with_more more k.source))) stands.at_source
