-- Units that are captured in turn.
use Rattle.std.proofs.Common.{◌≡◌, ℕ, ◌+◌, ◌<◌, ◌≤◌, inl, inr, Bool, true, false, cond, List, [], ◌∷◌, ◌++◌, length, refl, sym, ap, ◌∙◌, zero-add, add_assoc, arith, min, filter, nat_lt, filter_map, bytes_eq}
use Rattle.std.proofs.Math.Nat.{min-eq_left, min-eq_right}
use Rattle.std.proofs.lemmas.Bool.{cases_lt}
use Rattle.std.proofs.lemmas.List.FromFn.{length-enumerate_from}
use Rattle.repl_model.specs.Words.{Unit, unit_at, units, positions, Server, World, filter_map_few}
use Rattle.world_commits.specs.captures.Captures.{with_unit, with_units, uncaptured, rows_captured, all_rows_captured, captured_server, captured}
use Rattle.world_commits.specs.captures.laws.Servers.{name_stays}
use Rattle.world_commits.specs.laws.TakenUnits.{others_are_next}

-- ---- one server

-- some units and then others are all of them
pub units_both : (us vs : List Unit) (server : Server) → with_units vs (with_units us server) ≡ with_units (us ++ vs) server
units_both [] vs server = refl
units_both (u ∷ us) vs server = units_both us vs (with_unit u server)

-- so are the change rows that are put
pub rows_both : (us vs : List Unit) (server : Server) → all_rows_captured (us ++ vs) server ≡ all_rows_captured us server + all_rows_captured vs (with_units us server)
rows_both [] vs server = sym (zero-add (all_rows_captured vs server))
rows_both (u ∷ us) vs server =
    ap (λ (n : ℕ). rows_captured u.head.seq u.changes server + n) (rows_both us vs (with_unit u server))
    ∙ sym (add_assoc (rows_captured u.head.seq u.changes server) (all_rows_captured us (with_unit u server)) (all_rows_captured vs (with_units us (with_unit u server))))

-- after the first units that aren't captured the others aren't
pub left_after : (us vs : List Unit) (server : Server) → uncaptured server ≡ us ++ vs → uncaptured (with_units us server) ≡ vs
left_after [] vs server is = is
left_after (u ∷ us) vs server is = left_after us vs (with_unit u server) (others_are_next server u (us ++ vs) is)

-- a filter keeps no more than there are
filter_few : (p : Unit → Bool) (us : List Unit) → length (filter p us) ≤ length us
filter_few p [] = omega arith
filter_few p (u ∷ us) = pick (p u) (filter_few p us)
  where
    pick : (b : Bool) → length (filter p us) ≤ length us → length (cond b (u ∷ filter p us) (filter p us)) ≤ length (u ∷ us)
    pick true le = omega arith
    pick false le = omega arith

-- no more units are left than the log has records
pub left_few : (server : Server) → length (uncaptured server) ≤ length server.log
unfolding uncaptured units
left_few server =
    let log = server.log in
    omega (arith, filter_few (λ u. nat_lt server.captured u.head.seq) (filter_map (unit_at log) (positions log)), filter_map_few (unit_at log) (positions log), length-enumerate_from 1 log)

-- ---- counts

-- a count that stays at the greatest number goes on
pub count_on : (a b top : ℕ) → min (min a top + b) top ≡ min (a + b) top
count_on a b top = elim (cases_lt a top) [
  | inl lt ↦ ap (λ (n : ℕ). min (n + b) top) (min-eq_left (below lt))
  | inr le ↦ ap (λ (n : ℕ). min (n + b) top) (min-eq_right le) ∙ min-eq_right {n = top} {m = top + b} (omega arith) ∙ sym (min-eq_right {n = top} {m = a + b} (omega arith))
]
  where
    below : a < top → a ≤ top
    below lt = omega arith

-- ---- worlds

-- a server after no units is as it was
none_captured : (name : List ℕ) (server : Server) → captured_server name [] server ≡ server
none_captured name server = pick (bytes_eq name server.name)
  where
    pick : (b : Bool) → cond b server server ≡ server
    pick true = refl
    pick false = refl

-- so is a world
pub captured_none : (name : List ℕ) (w : World) → captured name [] w ≡ w
captured_none name [] = refl
captured_none name (server ∷ w) = λ i. none_captured name server i ∷ captured_none name w i

-- a server after some units and then others
server_both : (name : List ℕ) (us vs : List Unit) (server : Server) → captured_server name vs (captured_server name us server) ≡ captured_server name (us ++ vs) server
server_both name us vs server = pick (bytes_eq name server.name) refl
  where
    now : (b : Bool) → bytes_eq name server.name ≡ b → (ws : List Unit) → captured_server name ws server ≡ cond b (with_units ws server) server
    now b e ws = ap (λ (t : Bool). cond t (with_units ws server) server) e

    pick : (b : Bool) → bytes_eq name server.name ≡ b → captured_server name vs (captured_server name us server) ≡ captured_server name (us ++ vs) server
    pick true e =
        ap (captured_server name vs) (now true e us)
        ∙ ap (λ (t : Bool). cond t (with_units vs (with_units us server)) (with_units us server)) (ap (bytes_eq name) (name_stays us server) ∙ e)
        ∙ units_both us vs server
        ∙ sym (now true e (us ++ vs))
    pick false e = ap (captured_server name vs) (now false e us) ∙ now false e vs ∙ sym (now false e (us ++ vs))

-- and a world
pub captured_both : (name : List ℕ) (us vs : List Unit) (w : World) → captured name vs (captured name us w) ≡ captured name (us ++ vs) w
captured_both name us vs [] = refl
captured_both name us vs (server ∷ w) = λ i. server_both name us vs server i ∷ captured_both name us vs w i
