-- A read-only set and its source, and what its signal makes of the world.
use Rattle.std.proofs.Common.{◌≡◌, ℕ, ◌+◌, Bool, true, false, cond, not, List, [], ◌∷◌, length, map, Some, inl, inr, refl, sym, ap, ap₂, ◌∙◌, bytes_eq, length-append}
use Rattle.std.proofs.lemmas.Simd.{map-map}
use Rattle.repl_model.specs.Words.{LogRecord, Server, World, KnownSet, server_named, known_sets, is_replica_set, read_only_sets, IsSound, with_more, grown_server, grown, signals, with_server, with_source_side, signal_records, signalled, after_action, In, only_one, in_filter, found_in, same_name, name_itself, StandsIn, known_stands, source_in}

-- ---- the set and its source

-- a read-only set is known
pub is_one_known : (world : World) (k : KnownSet) → In k (read_only_sets (known_sets world)) → In k (known_sets world)
is_one_known world k i = (in_filter (λ (l : KnownSet). not (is_replica_set l.at_target.def)) (known_sets world) k i).0

-- where it stands
pub set_stands : (world : World) (k : KnownSet) → In k (read_only_sets (known_sets world)) → StandsIn world k
set_stands world k i = known_stands world k (is_one_known world k i)

-- its source is the server of that name
pub source_is_named : (world : World) (k : KnownSet) → In k (read_only_sets (known_sets world)) → server_named k.source.name world ≡ Some k.source
source_is_named world k i =
    let stands = set_stands world k i in
    let found = found_in (λ (a : Server). bytes_eq k.at_target.def.source a.name) world k.source stands.source in
    ap (λ (name : List ℕ). server_named name world) (sym (same_name k.at_target.def.source k.source.name found.1)) ∙ stands.source

-- ---- the world after the signal

-- functions that agree at each element have the same images
images_alike : {X Y : Type 0} (f g : X → Y) (xs : List X) → ((x : X) → In x xs → f x ≡ g x) → map f xs ≡ map g xs
images_alike f g [] same = refl
images_alike {X} {Y} f g (x ∷ xs) same = ap₂ (λ (y : Y) (ys : List Y). y ∷ ys) (same x (inl refl)) (images_alike f g xs (λ z i. same z (inr i)))

-- the world after a signal is the one with the longer log, with the unit's seq as the set's last signal
pub signal_is : (world : World) (k : KnownSet) → IsSound world → In k (read_only_sets (known_sets world)) → after_action world k signals
    ≡ with_server k.source.name (with_source_side k.at_source.def.id (λ side. record side { signal = length k.source.log + length (signal_records k.at_source.def k.source.log) })) (grown k.source.name (signal_records k.at_source.def k.source.log) world)
signal_is world k sound i =
    images_alike (λ (server : Server). cond (bytes_eq name server.name) (signalled k.at_source.def server) server) (λ server. then (grown_server name more server)) world (λ server j. by_name server j (bytes_eq name server.name) refl)
    ∙ sym (map-map then (grown_server name more) world)
  where
    name : List ℕ
    name = k.source.name

    more : List LogRecord
    more = signal_records k.at_source.def k.source.log

    signalled_at : ℕ → Server → Server
    signalled_at seq server = with_source_side k.at_source.def.id (λ side. record side { signal = seq }) server

    then : Server → Server
    then server = cond (bytes_eq name server.name) (signalled_at (length k.source.log + length more) server) server

    by_name : (server : Server) → In server world → (b : Bool) → bytes_eq name server.name ≡ b → cond b (signalled k.at_source.def server) server ≡ then (cond b (with_more more server) server)
    by_name server j true e =
        let is : server ≡ k.source = only_one (λ (a b : Server). bytes_eq a.name b.name) world server k.source sound.definitions.names j (source_in world k (set_stands world k i)) (ap (λ (n : List ℕ). bytes_eq n name) (sym (same_name name server.name e)) ∙ name_itself name) e in
        ap (signalled k.at_source.def) is
        ∙ ap (λ (seq : ℕ). signalled_at seq (with_more more k.source)) (length-append k.source.log more)
        ∙ ap (λ (s : Server). signalled_at (length k.source.log + length more) (with_more more s)) (sym is)
        ∙ sym (ap (λ (b : Bool). cond b (signalled_at (length k.source.log + length more) (with_more more server)) (with_more more server)) e)
    by_name server j false e = sym (ap (λ (b : Bool). cond b (signalled_at (length k.source.log + length more) server) server) e)
