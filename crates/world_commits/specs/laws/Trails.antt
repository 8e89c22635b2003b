-- A world stays sound with the actions of a read-only set that make its trail longer.
use Rattle.std.proofs.Common.{◌≡◌, ℕ, ◌<◌, ◌≤◌, Bool, true, false, cond, ◌||◌, List, [], ◌∷◌, ◌++◌, map, Option, Some, None, refl, sym, ap, subst, ◌∙◌, arith, ◌==◌, nat_lt, nat_le, fold}
use Rattle.std.specs.List.{list_any}
use Rattle.std.specs.Option.{option_map_or}
use Rattle.std.proofs.lemmas.Bool.{true≢false, and_parts, and_from, or_right, or_parts, cond-true, cond-false, leb-false}
use Rattle.std.proofs.lemmas.List.Sums.{fold-append}
use Rattle.std.proofs.lemmas.Simd.{map-map}
use Rattle.std.proofs.Math.Path.{fun_ext}
use Rattle.repl_model.specs.Words.{LogRecord, Unit, last_commit, Entry, Trail, refresh, block, load, settle, point_after, synchpoint, base_after, base_of, TargetSide, Server, World, KnownSet, same_set, known_sets, read_only_sets, is_seq, is_seq_or_zero, is_base, GoesOn, SignalsAreSound, TrailIsSound, IsSound, units_between, Gap, gap_of, Action, signals, refreshes, blocks, reports, idles, refuses, is_new, first_cut, next_units, refresh_by_signal, at_rest, by_gap, next_action_within, with_server, with_target_side, refreshed, is_base_aggregate, base_point, refresh_entry, block_entry, after_action, In, at_one}
use Rattle.world_commits.specs.actions.StaysSound.{MayRefresh, MayBlock}
use Rattle.world_commits.specs.actions.laws.Signals.{is_one_known}
use Rattle.world_commits.specs.laws.Commits.{seq_up_to_last, last_is_seq, seq_above, seq_or_zero_up_to_last, cut_in, in_units_until, unit_between}
use Rattle.world_commits.specs.laws.SetRows.{target_side_sound}

-- ---- trails

-- the point that is reached by a trail from a point on
abbrev reached_from : ℕ → Trail → ℕ
reached_from point trail = fold (λ before e. point_after e) point trail

-- a trail goes on after another that goes on
goes_further : (log : List LogRecord) (point base : ℕ) (trail more : Trail) → GoesOn log point base trail → GoesOn log (reached_from point trail) (fold base_after base trail) more → GoesOn log point base (trail ++ more)
goes_further log point base [] more h further = further
goes_further log point base (refresh p q ∷ trail) more h further = (h.0, h.1, h.2, goes_further log p p trail more h.3 further)
goes_further log point base (block low high q ∷ trail) more h further = (h.0, h.1, h.2, h.3, goes_further log high base trail more h.4 further)
goes_further log point base (load m f rows ∷ trail) more h further = absurd h
goes_further log point base (settle m f rejected applied ∷ trail) more h further = absurd h

-- the point that is reached is a seq or 0
reaches_seq : (log : List LogRecord) (point base : ℕ) (trail : Trail) → GoesOn log point base trail → is_seq_or_zero log point ≡ true → is_seq_or_zero log (reached_from point trail) ≡ true
reaches_seq log point base [] h seq = seq
reaches_seq log point base (refresh p q ∷ trail) h seq = reaches_seq log p p trail h.3 (or_right (p == 0) (is_seq log p) (and_parts (is_seq log p) (is_base log q) h.2).0)
reaches_seq log point base (block low high q ∷ trail) h seq = reaches_seq log high base trail h.4 (or_right (high == 0) (is_seq log high) (and_parts (is_seq log high) (is_base log q) h.3).0)
reaches_seq log point base (load m f rows ∷ trail) h seq = absurd h
reaches_seq log point base (settle m f rejected applied ∷ trail) h seq = absurd h

-- the point of the last refresh doesn't fall
base_rises : (log : List LogRecord) (point base : ℕ) (trail : Trail) → GoesOn log point base trail → base ≤ fold base_after base trail
base_rises log point base [] h = omega arith
base_rises log point base (refresh p q ∷ trail) h = omega (arith, h.1, base_rises log p p trail h.3)
base_rises log point base (block low high q ∷ trail) h = base_rises log high base trail h.4
base_rises log point base (load m f rows ∷ trail) h = absurd h
base_rises log point base (settle m f rejected applied ∷ trail) h = absurd h

-- a set that was refreshed has a refresh above 0
base_above_zero : (log : List LogRecord) (trail : Trail) → GoesOn log 0 0 trail → is_new trail ≡ false → 0 < base_of trail
base_above_zero log [] h e = absurd (true≢false e)
base_above_zero log (refresh p q ∷ trail) h e = omega (arith, h.1, base_rises log p p trail h.3)
base_above_zero log (block low high q ∷ trail) h e = omega (arith, h.2)
base_above_zero log (load m f rows ∷ trail) h e = absurd h
base_above_zero log (settle m f rejected applied ∷ trail) h e = absurd h

-- base aggregates are read at a seq, if there is one
base_is_seq : (k : KnownSet) → is_seq k.source.log (last_commit k.source.log) ≡ true → is_base k.source.log (base_point k) ≡ true
base_is_seq k e = by_test (list_any (λ member. is_base_aggregate member.kind) k.at_source.def.members)
  where
    by_test : (b : Bool) → is_base k.source.log (cond b (Some (last_commit k.source.log)) None) ≡ true
    by_test true = e
    by_test false = refl

-- ---- what is next

-- an action to which the last of some units leads, or else another one
abbrev pub cut_or : Action → Option Unit → Action
cut_or rest cut = option_map_or (λ u. blocks u.head.seq) cut rest

-- what is left to do if nothing is left to take is no refresh, and no block
no_refresh_at_rest : {A : Type 0} (b : Bool) → cond b reports idles ≡ refreshes → A
no_refresh_at_rest true now = absurd cc
no_refresh_at_rest false now = absurd cc

no_block_at_rest : {A : Type 0} (upto : ℕ) (b : Bool) → cond b reports idles ≡ blocks upto → A
no_block_at_rest upto true now = absurd cc
no_block_at_rest upto false now = absurd cc

-- if the next action is a refresh, it may be made
pub next_refresh_may : (end : Option ℕ) (k : KnownSet) → next_action_within end k ≡ refreshes → MayRefresh k
next_refresh_may end k e = by_signal (nat_le k.at_source.signal (base_of k.at_target.trail)) refl
    (by_tests (is_new k.at_target.trail || k.at_target.flag) (nat_le k.source.captured (synchpoint k.at_target.trail)) (gap_of k) e)
  where
    is_behind : Bool
    is_behind = nat_lt k.at_source.mark (synchpoint k.at_target.trail)

    by_disabled : (gap : Gap) (b : Bool) → cond b (refuses gap.place) (refresh_by_signal k) ≡ refreshes → refresh_by_signal k ≡ refreshes
    by_disabled gap true now = absurd cc
    by_disabled gap false now = now

    by_cut : {A : Type 0} (cut : Option Unit) → cut_or (at_rest k) cut ≡ refreshes → A
    by_cut None now = no_refresh_at_rest is_behind now
    by_cut (Some u) now = absurd cc

    by_tests : (a b : Bool) (gap : Option Gap) → cond a (refresh_by_signal k) (cond b (at_rest k) (by_gap end k gap)) ≡ refreshes → refresh_by_signal k ≡ refreshes
    by_tests true b gap now = now
    by_tests false true gap now = no_refresh_at_rest is_behind now
    by_tests false false None now = by_cut (first_cut k.at_source.def (next_units end k)) now
    by_tests false false (Some gap) now = by_disabled gap gap.disabled now

    by_signal : (b : Bool) → nat_le k.at_source.signal (base_of k.at_target.trail) ≡ b → cond b signals refreshes ≡ refreshes → base_of k.at_target.trail < k.at_source.signal
    by_signal true above now = absurd cc
    by_signal false above now = leb-false k.at_source.signal (base_of k.at_target.trail) above

-- What is known of a set whose next action is a block up to a point: it was refreshed, no refresh was asked for, its
-- source has captured units that its targets haven't taken, it has no gap, and a block of the units that come next ends
-- at the point.
pub record BlocksNext (end : Option ℕ) (k : KnownSet) (upto : ℕ) : Type 0 where
  pub old : is_new k.at_target.trail ≡ false
  pub calm : k.at_target.flag ≡ false
  pub ahead : synchpoint k.at_target.trail < k.source.captured
  pub gap : gap_of k ≡ None
  pub last : Unit
  pub cut : first_cut k.at_source.def (next_units end k) ≡ Some last
  pub ends : last.head.seq ≡ upto

-- if the next action is a block, this is known
pub block_is_next : (end : Option ℕ) (k : KnownSet) (upto : ℕ) → next_action_within end k ≡ blocks upto → BlocksNext end k upto
block_is_next end k upto e = by_tests (is_new k.at_target.trail || k.at_target.flag) (nat_le k.source.captured (synchpoint k.at_target.trail)) (gap_of k) refl refl refl e
  where
    is_behind : Bool
    is_behind = nat_lt k.at_source.mark (synchpoint k.at_target.trail)

    no_signal : {A : Type 0} (b : Bool) → cond b signals refreshes ≡ blocks upto → A
    no_signal true now = absurd cc
    no_signal false now = absurd cc

    no_refresh : {A : Type 0} → refresh_by_signal k ≡ blocks upto → A
    no_refresh now = no_signal (nat_le k.at_source.signal (base_of k.at_target.trail)) now

    by_disabled : {A : Type 0} (gap : Gap) (b : Bool) → cond b (refuses gap.place) (refresh_by_signal k) ≡ blocks upto → A
    by_disabled gap true now = absurd cc
    by_disabled gap false now = no_refresh now

    same_end : (n : ℕ) → blocks n ≡ blocks upto → n ≡ upto
    same_end n now = cc

    by_cut : (cut : Option Unit) → first_cut k.at_source.def (next_units end k) ≡ cut → (is_new k.at_target.trail || k.at_target.flag) ≡ false → nat_le k.source.captured (synchpoint k.at_target.trail) ≡ false → gap_of k ≡ None
        → cut_or (at_rest k) cut ≡ blocks upto → BlocksNext end k upto
    by_cut None cut old ahead is now = no_block_at_rest upto is_behind now
    by_cut (Some u) cut old ahead is now = record {
      old = (or_parts (is_new k.at_target.trail) k.at_target.flag old).0;
      calm = (or_parts (is_new k.at_target.trail) k.at_target.flag old).1;
      ahead = leb-false k.source.captured (synchpoint k.at_target.trail) ahead;
      gap = is;
      last = u;
      cut = cut;
      ends = same_end u.head.seq now;
    }

    by_tests : (a b : Bool) (gap : Option Gap) → (is_new k.at_target.trail || k.at_target.flag) ≡ a → nat_le k.source.captured (synchpoint k.at_target.trail) ≡ b → gap_of k ≡ gap
        → cond a (refresh_by_signal k) (cond b (at_rest k) (by_gap end k gap)) ≡ blocks upto → BlocksNext end k upto
    by_tests true b gap old ahead is now = no_refresh now
    by_tests false true gap old ahead is now = no_block_at_rest upto is_behind now
    by_tests false false None old ahead is now = by_cut (first_cut k.at_source.def (next_units end k)) refl old ahead is now
    by_tests false false (Some gap) old ahead is now = by_disabled gap gap.disabled now

-- and the block may be made
pub next_block_may : (end : Option ℕ) (k : KnownSet) (upto : ℕ) → BlocksNext end k upto → MayBlock k upto
next_block_may end k upto known = record { refreshed = known.old; gap = known.gap; above = cut.0; captured = cut.1; seq = cut.2 }
  where
    cut : (synchpoint k.at_target.trail < upto) × (upto ≤ k.source.captured) × (is_seq k.source.log upto ≡ true)
    cut = subst (λ (point : ℕ). (synchpoint k.at_target.trail < point) × (point ≤ k.source.captured) × (is_seq k.source.log point ≡ true)) known.ends
        (unit_between k.source.log (synchpoint k.at_target.trail) k.source.captured known.last
        (in_units_until end (units_between (synchpoint k.at_target.trail) k.source.captured k.source.log) known.last (cut_in k.at_source.def (next_units end k) known.last known.cut)))

-- ---- one more entry

-- the trail of a known set is sound
trail_at : (world : World) (k : KnownSet) → IsSound world → In k (read_only_sets (known_sets world)) → TrailIsSound k
trail_at world k sound i = at_one TrailIsSound (read_only_sets (known_sets world)) k sound.trails i

-- the targets have reached a seq or 0
synchpoint_is_seq : (k : KnownSet) → TrailIsSound k → is_seq_or_zero k.source.log (synchpoint k.at_target.trail) ≡ true
synchpoint_is_seq k h = reaches_seq k.source.log 0 0 k.at_target.trail h.goes refl

-- with one more entry the targets have reached its point
pub reached_with : (trail : Trail) (entry : Entry) → synchpoint (trail ++ entry ∷ []) ≡ point_after entry
reached_with trail entry = fold-append (λ (before : ℕ) (e : Entry). point_after e) 0 trail (entry ∷ [])

-- a target with two changes of one side in turn is the one with both
pub both_changes : (world : World) (k : KnownSet) (entry : Entry) → with_server k.target.name (refreshed k.at_target.def entry) world
    ≡ with_server k.target.name (with_target_side k.at_target.def.id (λ side. record side { flag = false; trail = side.trail ++ entry ∷ [] })) world
both_changes world k entry = ap (λ (f : Server → Server). with_server k.target.name f world) (fun_ext by_server)
  where
    with_flag : TargetSide → TargetSide
    with_flag side = record side { flag = false }

    with_trail : TargetSide → TargetSide
    with_trail side = record side { trail = side.trail ++ entry ∷ [] }

    if_its : (TargetSide → TargetSide) → TargetSide → TargetSide
    if_its f side = cond (same_set k.at_target.def.id side.def.id) (f side) side

    by_test : (side : TargetSide) (b : Bool) → same_set k.at_target.def.id side.def.id ≡ b → if_its with_flag (cond b (with_trail side) side) ≡ cond b (with_flag (with_trail side)) side
    by_test side true e = cond-true (same_set k.at_target.def.id side.def.id) (with_flag (with_trail side)) (with_trail side) e
    by_test side false e = cond-false (same_set k.at_target.def.id side.def.id) (with_flag side) side e

    by_server : (server : Server) → refreshed k.at_target.def entry server ≡ with_target_side k.at_target.def.id (λ side. with_flag (with_trail side)) server
    by_server server = ap (λ (sides : List TargetSide). record server { target_sets = sides })
        (map-map (if_its with_flag) (if_its with_trail) server.target_sets
        ∙ ap (λ (f : TargetSide → TargetSide). map f server.target_sets) (fun_ext (λ side. by_test side (same_set k.at_target.def.id side.def.id) refl)))

-- a world stays sound with a refresh of a read-only set that may be made
pub refresh_sound : (world : World) (k : KnownSet) → IsSound world → In k (read_only_sets (known_sets world)) → MayRefresh k → IsSound (after_action world k refreshes)
refresh_sound world k sound i signal = subst IsSound (sym (both_changes world k (refresh_entry k)))
    (target_side_sound world k sound i (λ side. record side { flag = false; trail = side.trail ++ refresh_entry k ∷ [] }) (record { def = λ side. refl; signal = λ side. refl })
    (goes_further k.source.log 0 0 k.at_target.trail (refresh_entry k ∷ []) trail.goes
    (behind, omega (arith, signal, above), and_from (is_seq k.source.log (last_commit k.source.log)) (is_base k.source.log (base_point k)) last (base_is_seq k last), tt))
    (subst (λ (n : ℕ). k.at_source.mark ≤ n) (sym (reached_with k.at_target.trail (refresh_entry k))) (omega (arith, trail.mark, behind))))
  where
    trail : TrailIsSound k
    trail = trail_at world k sound i

    signal_is_seq : is_seq k.source.log k.at_source.signal ≡ true
    signal_is_seq = seq_above k.source.log (base_of k.at_target.trail) k.at_source.signal signal (at_one SignalsAreSound (known_sets world) k sound.signals (is_one_known world k i)).0

    above : k.at_source.signal ≤ last_commit k.source.log
    above = seq_up_to_last k.source.log k.at_source.signal signal_is_seq

    last : is_seq k.source.log (last_commit k.source.log) ≡ true
    last = last_is_seq k.source.log k.at_source.signal signal_is_seq

    behind : synchpoint k.at_target.trail ≤ last_commit k.source.log
    behind = seq_or_zero_up_to_last k.source.log (synchpoint k.at_target.trail) (synchpoint_is_seq k trail)

-- a world stays sound with a block of a read-only set that may be made
pub block_sound : (world : World) (k : KnownSet) (upto : ℕ) → IsSound world → In k (read_only_sets (known_sets world)) → MayBlock k upto → IsSound (after_action world k (blocks upto))
block_sound world k upto sound i may = target_side_sound world k sound i (λ side. record side { trail = side.trail ++ block_entry k upto ∷ [] }) (record { def = λ side. refl; signal = λ side. refl })
    (goes_further k.source.log 0 0 k.at_target.trail (block_entry k upto ∷ []) trail.goes
    (refl, may.above, base_above_zero k.source.log k.at_target.trail trail.goes may.refreshed, and_from (is_seq k.source.log upto) (is_base k.source.log (cond (upto == k.source.captured) (base_point k) None)) may.seq (read_at (upto == k.source.captured)), tt))
    (subst (λ (n : ℕ). k.at_source.mark ≤ n) (sym (reached_with k.at_target.trail (block_entry k upto))) (omega (arith, trail.mark, may.above)))
  where
    trail : TrailIsSound k
    trail = trail_at world k sound i

    read_at : (b : Bool) → is_base k.source.log (cond b (base_point k) None) ≡ true
    read_at true = base_is_seq k (last_is_seq k.source.log upto may.seq)
    read_at false = refl
