-- The units that a server captures next: they stand after those before, and the server's numbers stay sound.
use Rattle.std.proofs.Common.{◌≡◌, ℕ, ◌≤◌, ◌<◌, Bool, true, false, cond, not, ◌&&◌, List, [], ◌∷◌, ◌++◌, refl, sym, ap, subst, arith, inl, ◌==◌, bytes_eq}
use Rattle.std.specs.List.{AllByRecursion}
use Rattle.std.proofs.lemmas.Bool.{or_right, ltb-true, eq-eqb}
use Rattle.repl_model.specs.Words.{all_weaker, Change, Placed, Unit, units, Registered, Server, registered_of, is_seq, NumbersAreSound, In, any_from, in_filter, each_image}
use Rattle.repl_types.specs.declared.record.Change.TheVariants.{Insert, Update, Delete, Start, Stop}
use Rattle.world_commits.specs.captures.Captures.{registered_after_change, registered_after, with_unit, with_units, uncaptured}
use Rattle.world_commits.specs.captures.StaysSound.{AreNext, OthersAreNext}
use Rattle.world_commits.specs.captures.laws.Units.{units_rise, is_after, others_after}
use Rattle.world_commits.specs.captures.laws.Servers.{unit_keeps_rest}
use Rattle.world_commits.specs.laws.Changed.{registrations_made}
use Rattle.world_commits.specs.laws.ChangedWorlds.{HasCapturedMore}

-- ---- the next units

-- the units after the first that isn't captured are those that aren't captured after it is
pub others_are_next : OthersAreNext
unfolding uncaptured
others_are_next server u us e = others_after server.captured 0 (units server.log) u us (units_rise server.log) e

-- the next unit is one of the log's, after those that are captured
next_is_of_log : (server : Server) (u : Unit) (us : List Unit) → uncaptured server ≡ u ∷ us → In u (units server.log) × (server.captured < u.head.seq)
unfolding uncaptured
next_is_of_log server u us e =
    let kept = in_filter (is_after server.captured) (units server.log) u (subst (In u) (sym e) (inl refl)) in
    (kept.0, ltb-true server.captured u.head.seq kept.1)

-- ---- numbers

-- a start that is no later than a unit's seq is so after a change in the unit
pub start_after_change : (seq : ℕ) (r : Registered) (change : Change) → r.start ≤ seq → (registered_after_change seq r change).start ≤ seq
start_after_change seq r (Insert table row) h = h
start_after_change seq r (Update table before after) h = h
start_after_change seq r (Delete table row) h = h
start_after_change seq r (Start table) h = by_test (bytes_eq table r.reg.table && not r.active)
  where
    by_test : (b : Bool) → (cond b (record r { active = true; start = seq }) r).start ≤ seq
    by_test true = omega arith
    by_test false = h
start_after_change seq r (Stop table) h = by_test (bytes_eq table r.reg.table)
  where
    by_test : (b : Bool) → (cond b (record r { active = false }) r).start ≤ seq
    by_test true = h
    by_test false = h

-- and after all its changes
pub start_after_unit : (seq : ℕ) (changes : List Placed) (r : Registered) → r.start ≤ seq → (registered_after seq changes r).start ≤ seq
start_after_unit seq [] r h = h
start_after_unit seq (placed ∷ changes) r h = start_after_unit seq changes (registered_after_change seq r placed.change) (start_after_change seq r placed.change h)

-- a registration has no start or floor above a point
abbrev IsUpTo : ℕ → Registered → Type 0
IsUpTo point r = (r.start ≤ point) × (r.floor ≤ point)

-- registrations have none above a unit's seq after it, if they had none above an earlier point
registered_up_to : (point : ℕ) (u : Unit) (r : Registered) → point < u.head.seq → IsUpTo point r → IsUpTo u.head.seq (registered_after u.head.seq u.changes r)
registered_up_to point u r h at = (
  start_after_unit u.head.seq u.changes r (omega (arith, at.0)),
  let stays : (registered_after u.head.seq u.changes r).floor ≡ r.floor = ap (λ (s : Registered). s.floor) (unit_keeps_rest u.head.seq u.changes r) in omega (arith, stays, at.1),
)

-- the numbers of a server stay sound when it captures the next unit
numbers_after_unit : (server : Server) (u : Unit) (us : List Unit) → uncaptured server ≡ u ∷ us → NumbersAreSound server → NumbersAreSound (with_unit u server)
numbers_after_unit server u us e n =
    let next = next_is_of_log server u us e in
    record {
      captured = or_right (u.head.seq == 0) (is_seq server.log u.head.seq) (any_from (λ (v : Unit). v.head.seq == u.head.seq) (units server.log) u next.0 (eq-eqb u.head.seq u.head.seq refl));
      floor = omega (arith, n.floor, next.1);
      registered = subst (AllByRecursion (IsUpTo u.head.seq)) (sym (registrations_made (registered_after u.head.seq u.changes) server.tables))
          (each_image (IsUpTo u.head.seq) (registered_after u.head.seq u.changes) (registered_of server)
          (all_weaker (IsUpTo server.captured) (λ r. IsUpTo u.head.seq (registered_after u.head.seq u.changes r)) (registered_of server) (λ r at. registered_up_to server.captured u r next.1 at) n.registered));
      shown = all_weaker (λ (c : ℕ × ℕ). (c.0 ≤ server.captured) × (0 < c.1) × (c.1 ≤ 4)) (λ c. (c.0 ≤ u.head.seq) × (0 < c.1) × (c.1 ≤ 4)) server.shown (λ c h. (omega (arith, h.0, next.1), h.1, h.2)) n.shown;
    }

-- a server that captures the next units has captured more
pub captures_more : (us : List Unit) (server : Server) → NumbersAreSound server → AreNext server us → HasCapturedMore server (with_units us server)
captures_more [] server n next = record { point = omega arith; numbers = n }
captures_more (u ∷ us) server n next =
    let later = captures_more us (with_unit u server) (numbers_after_unit server u (us ++ next.0) next.1 n) (next.0, others_are_next server u (us ++ next.0) next.1) in
    let past = (next_is_of_log server u (us ++ next.0) next.1).1 in
    record { point = omega (arith, later.point, past); numbers = later.numbers }
