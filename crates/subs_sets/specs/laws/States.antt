-- The states of sets that stand at their targets in a sound world.
use Rattle.std.proofs.Common.{◌≡◌, ℕ, ◌+◌, ◌<◌, ◌≤◌, ◌^◌, Bool, true, false, cond, List, [], ◌∷◌, length, filter, fold, refl, sym, ap, ◌∙◌, arith, Option, Some, None, nat_lt, nat_le, slice_get, bytes_eq}
use Rattle.std.specs.List.{AllByRecursion}
use Rattle.std.specs.Option.{option_or, option_map_or}
use Rattle.std.proofs.lemmas.Bool.{both_ways, lt-ltb, lt-leb, ltb-true}
use Rattle.std.proofs.lemmas.Option.{same_Some}
use Rattle.world_store.specs.Words.{b32, state_spelling, IsState, SetState, table_from_rows, has_points, source_time, state_of, first_state_rows, set_state_rows, Holds, tables, first_table, with_first}
use Rattle.site_store.specs.Words.{Contents, Table, or_first}
use Rattle.repl_model.specs.Words.{time_limit, LogRecord, SetDef, is_replica_set, IsSound, ServerKeepsRules, log_limit, LogIsSound, time_at, Trail, synchpoint, base_of, replica_point, units, last_time, TargetSide, Server, World, server_named, In, at_one, found_in}
use Rattle.repl_types.specs.declared.area.Area.TheVariants as areas
use Rattle.repl_types.specs.declared.unit.Unit.{Unit as LogUnit}
use Rattle.repl_records.specs.declared.set_state.SetState.TheVariants as states
use Rattle.world_commits.specs.captures.laws.Units.{units_rise, all_after}
use Rattle.prune_control.specs.laws.Numbered.{row_at}
use Rattle.set_places.specs.laws.Points.{Reaches, target_numbers}
use Rattle.subs_sets.specs.States.{first_state_of}

-- ---- times

-- what bounds the time of each unit, and the one before, bounds the last of those that a filter keeps
last_time_within : (p : LogUnit → Bool) (limit time : ℕ) (us : List LogUnit) → time ≤ limit → AllByRecursion (λ u. u.head.time ≤ limit) us → fold (λ last u. u.head.time) time (filter p us) ≤ limit
last_time_within p limit time [] le all = le
last_time_within p limit time (u ∷ us) le all = pick (p u) (last_time_within p limit u.head.time us all.0 all.1) (last_time_within p limit time us le all.1)
  where
    pick : (t : Bool) → fold (λ last v. v.head.time) u.head.time (filter p us) ≤ limit → fold (λ last v. v.head.time) time (filter p us) ≤ limit → fold (λ last v. v.head.time) time (cond t (u ∷ filter p us) (filter p us)) ≤ limit
    pick true kept passed = kept
    pick false kept passed = passed

-- a time at a point of a log is that of a unit, or 0
time_within : (server : Server) (point : ℕ) → LogIsSound server → time_at server.log point ≤ time_limit
unfolding time_at
time_within server point sound = last_time_within (λ u. nat_le u.head.seq point) time_limit 0 (units server.log) (omega arith) sound.early

-- no unit stands up to 0
none_up_to_zero : (us : List LogUnit) → AllByRecursion (λ u. nat_lt 0 u.head.seq ≡ true) us → filter (λ u. nat_le u.head.seq 0) us ≡ []
none_up_to_zero [] all = refl
none_up_to_zero (u ∷ us) all = ap (λ (b : Bool). cond b (u ∷ filter (λ v. nat_le v.head.seq 0) us) (filter (λ v. nat_le v.head.seq 0) us)) (lt-leb u.head.seq 0 (ltb-true 0 u.head.seq all.0)) ∙ none_up_to_zero us all.1

-- so the time at 0 is 0
time_at_zero : (log : List LogRecord) → time_at log 0 ≡ 0
unfolding time_at
time_at_zero log = ap last_time (none_up_to_zero (units log) (all_after 0 0 (units log) (omega arith) (units_rise log)))

-- ---- states

-- what is there, or the first state, is what counts
pub first_or : {X : Type 0} (spelling : X → List ℕ) (first : X) (found : Option (List ℕ)) (is : List ℕ) → option_or found (Some (spelling first)) ≡ Some is → or_first spelling first found ≡ is
first_or spelling first None is e = same_Some (spelling first) is e
first_or spelling first (Some found) is e = same_Some found is e

-- a trail without entries has no points
no_points : (trail : Trail) → has_points trail ≡ false → trail ≡ []
no_points [] e = refl
no_points (x ∷ trail) e = absurd (both_ways (has_points (x ∷ trail)) e (lt-ltb 0 (length (x ∷ trail)) (omega arith)))

module _ (w : World) (server : Server) (sound : IsSound w) (i : In server w) where
  -- the time at a point of a set's source has eight bytes
  source_time_within : (def : SetDef) (point : ℕ) → source_time w def point ≤ time_limit
  source_time_within def point = by_source (server_named def.source w) refl
    where
      by_source : (o : Option Server) → server_named def.source w ≡ o → option_map_or (λ source. time_at source.log point) o 0 ≤ time_limit
      by_source None found = omega arith
      by_source (Some source) found = time_within source point (at_one LogIsSound w source sound.logs (found_in (λ (s : Server). bytes_eq def.source s.name) w source found).0)

  -- at 0 it is 0
  source_time_zero : (def : SetDef) → source_time w def 0 ≡ 0
  source_time_zero def = by_source (server_named def.source w)
    where
      by_source : (o : Option Server) → option_map_or (λ source. time_at source.log 0) o 0 ≡ 0
      by_source None = refl
      by_source (Some source) = time_at_zero source.log

  -- how far a set is at its target has a spelling
  pub state_fits : (side : TargetSide) → In side server.target_sets → IsState (state_of w side)
  state_fits side at = by_kind (is_replica_set side.def)
    where
      numbers : Reaches (log_limit + 1) side.trail × (side.signal < 2 ^ 64)
      numbers = target_numbers w server sound i side at

      replica : SetState
      replica = states.Replica (has_points side.trail) (synchpoint side.trail) (replica_point side.trail) side.signal (length side.trail)

      read_only : SetState
      read_only = states.ReadOnly (has_points side.trail) (synchpoint side.trail) (source_time w side.def (synchpoint side.trail)) (base_of side.trail) side.flag (length side.trail)

      by_kind : (b : Bool) → IsState (cond b replica read_only)
      by_kind true = (
        (omega (arith, numbers.0.synch), omega (arith, numbers.0.last_replica), numbers.1, omega (arith, numbers.0.entries)),
        λ none. let empty = no_points side.trail none in (ap synchpoint empty, ap replica_point empty),
      )
      by_kind false = (
        (omega (arith, numbers.0.synch), omega (arith, source_time_within side.def (synchpoint side.trail)), omega (arith, numbers.0.last_base), omega (arith, numbers.0.entries)),
        λ none. let empty = no_points side.trail none in (ap synchpoint empty, ap (λ (trail : Trail). source_time w side.def (synchpoint trail)) empty ∙ source_time_zero side.def, ap base_of empty),
      )

  module _ (c : Contents) (holds : Holds w server c) where
    -- what the server keeps
    keeps : ServerKeepsRules w server
    keeps = at_one (ServerKeepsRules w) w server sound.definitions.servers i

    -- the states that count there
    pub holds_states : with_first (table_from_rows b32 state_spelling (first_state_rows server)) (c areas.SetState 0) ≡ table_from_rows b32 state_spelling (set_state_rows w server)
    unfolding tables first_table
    holds_states = holds areas.SetState 0

    -- under a set's number stands how far it is, or nothing if that is what a missing state stands for
    pub state_at : (n : ℕ) (side : TargetSide) → slice_get server.target_sets n ≡ Some side → or_first state_spelling (first_state_of side.def) (c areas.SetState 0 (b32 n)) ≡ state_spelling (state_of w side)
    state_at n side at = first_or state_spelling (first_state_of side.def) (c areas.SetState 0 (b32 n)) (state_spelling (state_of w side))
        (ap (λ (o : Option (List ℕ)). option_or (c areas.SetState 0 (b32 n)) o) (sym (row_at (λ (s : TargetSide). first_state_of s.def) state_spelling n side server.target_sets (omega (arith, keeps.counts.1)) at))
        ∙ ap (λ (t : Table). t (b32 n)) holds_states
        ∙ row_at (state_of w) state_spelling n side server.target_sets (omega (arith, keeps.counts.1)) at)
