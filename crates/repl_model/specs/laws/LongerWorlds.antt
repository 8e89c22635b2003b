-- What stays sound of a world, and of a set, when the log of one of its servers is made longer by further
-- records.
use Rattle.std.proofs.Common.{◌≡◌, ℕ, Bool, true, false, cond, not, List, [], ◌∷◌, ◌++◌, length, map, Option, Some, None, refl, sym, ap, subst, ◌∙◌, append-nil, nat_lt, filter, option_map, option_and_then, bytes_eq}
use Rattle.std.specs.List.{AllByRecursion, flat_map, filter_map, cons_option}
use Rattle.std.proofs.lemmas.Bool.{and_parts}
use Rattle.std.proofs.lemmas.List.{map-append}
use Rattle.std.proofs.lemmas.List.Folds.{list_all-append, flat_map-map}
use Rattle.std.proofs.Math.Path.{fun_ext}
use Rattle.repl_types.specs.laws.Lists.{all_weaker}
use Rattle.repl_types.specs.declared.record.LogRecord.{LogRecord}
use Rattle.repl_types.specs.declared.record.SetId.{SetId}
use Rattle.repl_model.specs.Units.{units}
use Rattle.repl_model.specs.World.{SourceSide, TargetSide, Server, World, server_named, KnownSet, source_side, known_from, known_sets}
use Rattle.repl_model.specs.Replicas.{comes_from}
use Rattle.repl_model.specs.Rules.{is_replica_set}
use Rattle.repl_model.specs.SoundDefinitions.{replica_sets, read_only_sets, loaded_sets}
use Rattle.repl_model.specs.SoundReplicas.{ReplicaMarksAreSound, IsExactlyOnce, IsIndependent, DecisionsAreCaptured}
use Rattle.repl_model.specs.Sound.{NumbersAreSound, SignalsAreSound, TrailIsSound}
use Rattle.repl_model.specs.Longer.{with_more, grown_server, grown, grown_set, new_units, NoneFrom}
use Rattle.repl_model.specs.laws.LongerLists.{flat_map_alike, all_of}
use Rattle.repl_model.specs.laws.LongerUnits.{later_units}
use Rattle.repl_model.specs.laws.LongerSets.{set_with, numbers_stay, signals_stay, trail_stays, none_from, marks_stay, exactly_once_stays, independence_stays, captured_stay}
use Rattle.lists.specs.laws.Images.{filter_images}
use Rattle.lists.specs.laws.Members.{find_image}

-- ---- lists

-- the images of what a function gives
filter_map_images : {X Y Z : Type 0} (f : Y → Z) (g : X → Option Y) (xs : List X) → filter_map (λ x. option_map f (g x)) xs ≡ map f (filter_map g xs)
filter_map_images f g [] = refl
filter_map_images {X} {Y} f g (x ∷ xs) = ap (cons_option (option_map f (g x))) (filter_map_images f g xs) ∙ by_one (g x) (filter_map g xs)
  where
    by_one : (o : Option Y) (rest : List Y) → cons_option (option_map f o) (map f rest) ≡ map f (cons_option o rest)
    by_one None rest = refl
    by_one (Some y) rest = refl

-- the images of the lists that a function gives
flat_map_images : {X Y Z : Type 0} (f : Y → Z) (g : X → List Y) (xs : List X) → flat_map (λ x. map f (g x)) xs ≡ map f (flat_map g xs)
flat_map_images f g [] = refl
flat_map_images f g (x ∷ xs) = ap (λ l. map f (g x) ++ l) (flat_map_images f g xs) ∙ sym (map-append f (g x) (flat_map g xs))

-- what holds of each element's image holds of each image
all_images : {X Y : Type 0} (f : X → Y) (P : Y → Type 0) (xs : List X) → AllByRecursion (λ x. P (f x)) xs → AllByRecursion P (map f xs)
all_images f P [] h = tt
all_images f P (x ∷ xs) h = (h.0, all_images f P xs h.1)

-- ---- known sets

-- the known sets of a world all of whose logs are made longer, by what is given for each server
sets_longer : (more_of : Server → List LogRecord) (world : World) → known_sets (map (λ server. with_more (more_of server) server) world) ≡ map (λ k. set_with (more_of k.source) (more_of k.target) k) (known_sets world)
unfolding known_sets
sets_longer more_of world =
    by_server
    ∙ flat_map_alike {X = Server} (λ target. filter_map (known_from (map longer world) (longer target)) target.target_sets) (λ target. map set_longer (filter_map (known_from world target) target.target_sets)) world (all_of _ world at_target)
    ∙ flat_map_images set_longer (λ (target : Server). filter_map (known_from world target) target.target_sets) world
  where
    longer : Server → Server
    longer server = with_more (more_of server) server

    set_longer : KnownSet → KnownSet
    set_longer k = set_with (more_of k.source) (more_of k.target) k

    by_server : flat_map (λ target. filter_map (known_from (map longer world) target) target.target_sets) (map longer world) ≡ flat_map (λ target. filter_map (known_from (map longer world) (longer target)) target.target_sets) world
    by_server = flat_map-map (λ target. filter_map (known_from (map longer world) target) target.target_sets) longer world

    with_side : (target source : Server) (side : TargetSide) (o : Option SourceSide) → option_map (λ at_source. record { source = longer source; at_source = at_source; target = longer target; at_target = side }) o ≡ option_map set_longer (option_map (λ at_source. record { source = source; at_source = at_source; target = target; at_target = side }) o)
    with_side target source side None = refl
    with_side target source side (Some s) = refl

    with_source : (target : Server) (side : TargetSide) (o : Option Server) → option_and_then (λ source. option_map (λ at_source. record { source = source; at_source = at_source; target = longer target; at_target = side }) (source_side side.def.id source)) (option_map longer o) ≡ option_map set_longer (option_and_then (λ source. option_map (λ at_source. record { source = source; at_source = at_source; target = target; at_target = side }) (source_side side.def.id source)) o)
    with_source target side None = refl
    with_source target side (Some source) = with_side target source side (source_side side.def.id source)

    at_side : (target : Server) (side : TargetSide) → known_from (map longer world) (longer target) side ≡ option_map set_longer (known_from world target side)
    at_side target side =
        ap (option_and_then (λ source. option_map (λ at_source. record { source = source; at_source = at_source; target = longer target; at_target = side }) (source_side side.def.id source))) (find_image longer (λ server. bytes_eq side.def.source server.name) world)
        ∙ with_source target side (server_named side.def.source world)

    at_target : (target : Server) → filter_map (known_from (map longer world) (longer target)) target.target_sets ≡ map set_longer (filter_map (known_from world target) target.target_sets)
    at_target target =
        ap (λ (f : TargetSide → Option KnownSet). filter_map f target.target_sets) (fun_ext (at_side target))
        ∙ filter_map_images set_longer (known_from world target) target.target_sets

-- ---- one server's log

-- the further records of a server, if the one of this name gets them
abbrev pub more_for : List ℕ → List LogRecord → Server → List LogRecord
more_for name more server = cond (bytes_eq name server.name) more []

-- each server has its log made longer by its further records
server_grows : (name : List ℕ) (more : List LogRecord) (server : Server) → grown_server name more server ≡ with_more (more_for name more server) server
server_grows name more server = by_name (bytes_eq name server.name)
  where
    by_name : (b : Bool) → cond b (with_more more server) server ≡ with_more (cond b more []) server
    by_name true = refl
    by_name false = ap (λ (log : List LogRecord). record server { log = log }) (sym (append-nil server.log))

-- a known set has the logs of its servers made longer by their further records
set_grows : (name : List ℕ) (more : List LogRecord) (k : KnownSet) → grown_set name more k ≡ set_with (more_for name more k.source) (more_for name more k.target) k
set_grows name more k =
    ap (λ (server : Server). record k { source = server; target = grown_server name more k.target }) (server_grows name more k.source)
    ∙ ap (λ (server : Server). record k { source = with_more (more_for name more k.source) k.source; target = server }) (server_grows name more k.target)

-- the known sets of the grown world are those of the world, grown
pub known_sets_grow : (name : List ℕ) (more : List LogRecord) (world : World) → known_sets (grown name more world) ≡ map (grown_set name more) (known_sets world)
known_sets_grow name more world =
    ap (λ (f : Server → Server). known_sets (map f world)) (fun_ext (server_grows name more))
    ∙ sets_longer (more_for name more) world
    ∙ ap (λ (f : KnownSet → KnownSet). map f (known_sets world)) (sym (fun_ext (set_grows name more)))

-- the read-only sets of the grown world are those of the world, grown
pub read_only_sets_grow : (name : List ℕ) (more : List LogRecord) (world : World) → read_only_sets (known_sets (grown name more world)) ≡ map (grown_set name more) (read_only_sets (known_sets world))
read_only_sets_grow name more world = ap read_only_sets (known_sets_grow name more world) ∙ filter_images (grown_set name more) (λ k. not (is_replica_set k.at_target.def)) (known_sets world)

-- the loaded sets of the grown world are those of the world, grown
pub loaded_sets_grow : (name : List ℕ) (more : List LogRecord) (world : World) → loaded_sets (grown name more world) ≡ map (grown_set name more) (loaded_sets world)
loaded_sets_grow name more world =
    ap (λ (sets : List KnownSet). filter (λ k. nat_lt 0 (length k.at_target.trail)) (replica_sets sets)) (known_sets_grow name more world)
    ∙ ap (filter (λ k. nat_lt 0 (length k.at_target.trail))) (filter_images (grown_set name more) (λ k. is_replica_set k.at_target.def) (known_sets world))
    ∙ filter_images (grown_set name more) (λ k. nat_lt 0 (length k.at_target.trail)) (replica_sets (known_sets world))

-- what holds of a known set whose servers' logs are made longer holds of it, grown
holds_grown : (P : KnownSet → Type 0) (name : List ℕ) (more : List LogRecord) (k : KnownSet) → P (set_with (more_for name more k.source) (more_for name more k.target) k) → P (grown_set name more k)
holds_grown P name more k = subst P (sym (set_grows name more k))

-- ---- numbers, signals and trails

-- the numbers of a world stay sound
pub numbers_grow : (name : List ℕ) (more : List LogRecord) (world : World) → AllByRecursion NumbersAreSound world → AllByRecursion NumbersAreSound (grown name more world)
numbers_grow name more world h = all_images (grown_server name more) NumbersAreSound world
    (all_weaker NumbersAreSound (λ server. NumbersAreSound (grown_server name more server)) world (λ server n. subst NumbersAreSound (sym (server_grows name more server)) (numbers_stay (more_for name more server) server n)) h)

-- the signals of a set stay sound
pub signals_grow : (name : List ℕ) (more : List LogRecord) (k : KnownSet) → SignalsAreSound k → SignalsAreSound (grown_set name more k)
signals_grow name more k h = holds_grown SignalsAreSound name more k (signals_stay (more_for name more k.source) (more_for name more k.target) k h)

-- the trail of a set stays sound
pub trail_grows : (name : List ℕ) (more : List LogRecord) (k : KnownSet) → TrailIsSound k → TrailIsSound (grown_set name more k)
trail_grows name more k h = holds_grown TrailIsSound name more k (trail_stays (more_for name more k.source) (more_for name more k.target) k h)

-- ---- loaded sets

-- the new units of a server are the later ones of its longer log
pub new_units_later : (name : List ℕ) (more : List LogRecord) (server : Server) → new_units name more server ≡ later_units server.log (more_for name more server)
new_units_later name more server = ap (λ (s : Server). filter (λ u. nat_lt (length server.log) u.head.seq) (units s.log)) (server_grows name more server)

-- no later unit of a server comes from a set, if no new one does
none_later : (name : List ℕ) (more : List LogRecord) (id : SetId) (server : Server) → none_from id (new_units name more server) ≡ true → none_from id (later_units server.log (more_for name more server)) ≡ true
none_later name more id server none = ap (none_from id) (sym (new_units_later name more server)) ∙ none

-- no new unit of the source of a set comes from it, and none of the target
none_at_each : (name : List ℕ) (more : List LogRecord) (k : KnownSet) → NoneFrom name more k → (none_from k.at_target.def.id (new_units name more k.source) ≡ true) × (none_from k.at_target.def.id (new_units name more k.target) ≡ true)
none_at_each name more k none =
    let id = k.at_target.def.id in
    let at_source = new_units name more k.source in
    let at_target = new_units name more k.target in
    and_parts (none_from id at_source) (none_from id at_target) (sym (list_all-append (λ u. not (comes_from id u)) at_source at_target) ∙ none)

-- no later unit of the source of a set comes from it
none_at_source : (name : List ℕ) (more : List LogRecord) (k : KnownSet) → NoneFrom name more k → none_from k.at_target.def.id (later_units k.source.log (more_for name more k.source)) ≡ true
none_at_source name more k none = none_later name more k.at_target.def.id k.source (none_at_each name more k none).0

-- no later unit of the target of a set comes from it
none_at_target : (name : List ℕ) (more : List LogRecord) (k : KnownSet) → NoneFrom name more k → none_from k.at_target.def.id (later_units k.target.log (more_for name more k.target)) ≡ true
none_at_target name more k none = none_later name more k.at_target.def.id k.target (none_at_each name more k none).1

-- the replica marks of a set stay sound, if no new unit comes from it
pub marks_grow : (name : List ℕ) (more : List LogRecord) (k : KnownSet) → NumbersAreSound k.target → NoneFrom name more k → ReplicaMarksAreSound k → ReplicaMarksAreSound (grown_set name more k)
marks_grow name more k numbers none marks = holds_grown ReplicaMarksAreSound name more k
    (marks_stay (more_for name more k.source) (more_for name more k.target) k numbers (none_at_target name more k none) marks)

-- the units of a set stay sent exactly once, if no new unit comes from it
pub exactly_once_grows : (name : List ℕ) (more : List LogRecord) (k : KnownSet) → NumbersAreSound k.target → NoneFrom name more k → ReplicaMarksAreSound k → IsExactlyOnce k → IsExactlyOnce (grown_set name more k)
exactly_once_grows name more k numbers none marks h = holds_grown IsExactlyOnce name more k
    (exactly_once_stays (more_for name more k.source) (more_for name more k.target) k numbers (none_at_source name more k none) marks h)

-- the units of a set stay independent, if no new unit comes from it
pub independence_grows : (name : List ℕ) (more : List LogRecord) (k : KnownSet) → NumbersAreSound k.target → NoneFrom name more k → ReplicaMarksAreSound k → IsIndependent k → IsIndependent (grown_set name more k)
independence_grows name more k numbers none marks h = holds_grown IsIndependent name more k
    (independence_stays (more_for name more k.source) (more_for name more k.target) k numbers (none_at_source name more k none) marks h)

-- the captured decisions of a set stay sound
pub captured_grow : (name : List ℕ) (more : List LogRecord) (k : KnownSet) → ReplicaMarksAreSound k → DecisionsAreCaptured k → DecisionsAreCaptured (grown_set name more k)
captured_grow name more k marks h = holds_grown DecisionsAreCaptured name more k
    (captured_stay (more_for name more k.source) (more_for name more k.target) k marks h)

-- nothing was appended
pub grown_nothing : (name : List ℕ) (w : World) → grown name [] w ≡ w
grown_nothing name [] = refl
grown_nothing name (s ∷ ss) = λ i. same (bytes_eq name s.name) i ∷ grown_nothing name ss i
  where
    longer : with_more [] s ≡ s
    longer = ap (λ (l : List LogRecord). record s { log = l }) (append-nil s.log)

    same : (b : Bool) → cond b (with_more [] s) s ≡ s
    same true = longer
    same false = refl
