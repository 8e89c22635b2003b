-- What a server of a sound world holds shows no damage by the rules of sets.
use Rattle.std.proofs.Common.{◌≡◌, ℕ, zero, suc, ◌<◌, ◌≤◌, ◌^◌, Bool, false, cond, List, [], ◌∷◌, length, map, refl, sym, ap, subst, ◌∙◌, arith, inl, inr, Option, Some, None, slice_get}
use Rattle.std.specs.Option.{option_map, option_map_or, option_or}
use Rattle.std.proofs.lemmas.Option.{none-some, same_Some}
use Rattle.world_store.specs.Words.{b32, b64, short_text, capture_spelling, registration_state_spelling, uow_spelling, IsUow, first_capture, single_spelling, state_spelling, entry_spelling, CaptureState, RegState, UowRow, Single, SetState, table_from_rows, HasRow, row_of, capture_state, capture_rows, registration_state_rows, uow_rows, numbered_tables, registration_rows, Holds, no_rows, trail_table, tables, with_first, has_points, source_time, state_of, first_state_rows, set_state_rows, numbered_target_sets, trail_rows, trail_entry}
use Rattle.site_store.specs.Words.{Contents, Table, Rules, joined, IsUndamaged, or_first}
use Rattle.repl_model.specs.Words.{Area, defined_registration_spelling, DefinedRegistration, TargetSet, is_replica_set, IsSound, ServerKeepsRules, log_limit, synchpoint, base_of, replica_point, Registered, ServerTable, TargetSide, Server, World, numbered_in, at_place_in, In, at_one, in_map, in_second, in_filter_map, given_in}
use Rattle.repl_types.specs.declared.area.Area.TheVariants as areas
use Rattle.repl_types.specs.declared.status.DamageCause.TheVariants as causes
use Rattle.repl_records.specs.declared.set_state.SetState.TheVariants as states
use Rattle.stored_defs.specs.laws.Standing.{holds_defs}
use Rattle.set_places.specs.laws.Registrations.{registration_row_is, members_undamaged}
use Rattle.set_places.specs.laws.SetRows.{held_target_row}
use Rattle.set_places.specs.Members.{member_rules}
use Rattle.prune_control.specs.Noting.{mark_rules}
use Rattle.prune_control.specs.laws.Marks.{marks_undamaged}
use Rattle.subs_sets.specs.Rules.{may_be_state, IsOfReplica, is_of_other_kind, state_rules, may_be_seq, may_be_captured, calls_for_state, captured_rules, source_rules, rules}
use Rattle.subs_sets.specs.States.{first_state_of}
use Rattle.subs_sets.specs.laws.Captured.{state_row, state_of as registered_state, capture_fits, registered_fits, holds_capture, holds_registrations, holds_units, registration_at}
use Rattle.subs_sets.specs.laws.Entries.{entry_fits}
use Rattle.subs_sets.specs.laws.States.{state_fits, holds_states, state_at}
use Rattle.subs_sets.specs.laws.UnitRows.{unit_row, captured_units, captured_fit}

-- contents that show no damage by the one rules, and none by the others, show none by both
pub undamaged_both : (r q : Rules) (c : Contents) → IsUndamaged r c → IsUndamaged q c → IsUndamaged (joined r q) c
undamaged_both r q c first second a (causes.Spelling bytes) h = elim h.1 [
  | inl k ↦ first a (causes.Spelling bytes) (h.0, inl ((λ x. second a (causes.Spelling bytes) (h.0, inl ((λ y. k.0 (x, y)), k.1))), k.1))
  | inr v ↦ first a (causes.Spelling bytes) (h.0, inr ((λ x. second a (causes.Spelling bytes) (h.0, inr ((λ y. v.0 (x, y)), v.1))), v.1))
]
undamaged_both r q c first second a (causes.Absent key) h = elim h.1.1 [
  | inl needed ↦ first a (causes.Absent key) (h.0, (h.1.0, needed))
  | inr needed ↦ second a (causes.Absent key) (h.0, (h.1.0, needed))
]
undamaged_both r q c first second a (causes.Unfit bytes) h = elim h.1.2 [
  | inl unfit ↦ first a (causes.Unfit bytes) (h.0, (h.1.0, h.1.1, unfit))
  | inr unfit ↦ second a (causes.Unfit bytes) (h.0, (h.1.0, h.1.1, unfit))
]
undamaged_both r q c first second a (causes.NoRest steps) h = h

-- what is there counts, whatever is first
pub there_first : (first t : Table) (k v : List ℕ) → t k ≡ Some v → with_first first t k ≡ Some v
there_first first t k v has = ap (λ (o : Option (List ℕ)). option_or o (first k)) has

-- a row of a table is in its list
row_in : {A X : Type 0} (rows : List (A × X)) (row : A × X) → HasRow rows row → In row rows
row_in rows row there = subst (In row) (sym there.split) (in_second there.front (row ∷ there.back) row (inl refl))

module _ (w : World) (server : Server) (c : Contents) (sound : IsSound w) (i : In server w) (holds : Holds w server c) where
  -- what the server keeps
  keeps : ServerKeepsRules w server
  keeps = at_one (ServerKeepsRules w) w server sound.definitions.servers i

  -- ---- what is captured

  -- a row of a captured unit is that of a unit
  unit_of_row : (key bytes : List ℕ) → c areas.Uow 0 key ≡ Some bytes → (r : ℕ × UowRow) × (b64 r.0 ≡ key) × (uow_spelling r.1 ≡ bytes) × ((r.0 < 2 ^ 64) × IsUow r.1)
  unit_of_row key bytes has =
      let found = row_of b64 uow_spelling (uow_rows server) key bytes (ap (λ (t : Table). t key) (sym (holds_units w server sound i c holds)) ∙ has) in
      let u = in_map (unit_row server) (captured_units server) found.0 (row_in (uow_rows server) found.0 found.1) in
      let fits = at_one (λ u. (u.head.seq ≤ log_limit) × IsUow (unit_row server u).1) (captured_units server) u.0 (captured_fit w server sound i) u.1 in
      (found.0, found.2, found.3, subst (λ (r : ℕ × UowRow). (r.0 < 2 ^ 64) × IsUow r.1) (sym u.2) (omega (arith, fits.0), fits.1))

  -- each key of captured units is one
  captured_key : (a : Area) (t : ℕ) (key bytes : List ℕ) → c a t key ≡ Some bytes → may_be_seq a t key
  captured_key areas.Uow zero key bytes has = let r = unit_of_row key bytes has in (r.0.0, r.3.0, sym r.1)
  captured_key a t key bytes has = tt

  -- each value of what is captured is one
  captured_value : (a : Area) (t : ℕ) (key bytes : List ℕ) → c a t key ≡ Some bytes → may_be_captured a t bytes
  captured_value areas.Uow zero key bytes has = let r = unit_of_row key bytes has in (r.0.1, r.3.1, sym r.2)
  captured_value areas.Capture zero key bytes has =
      let found = row_of single_spelling capture_spelling (capture_rows server) key bytes (sym (holds_capture w server sound i c holds key) ∙ there_first (table_from_rows single_spelling capture_spelling ((record {}, first_capture) ∷ [])) (c areas.Capture 0) key bytes has) in
      let only : found.0.1 ≡ capture_state server = elim (row_in (capture_rows server) found.0 found.1) [
        | inl is ↦ ap (λ (r : Single × CaptureState). r.1) is
        | inr none ↦ absurd none
      ] in
      (capture_state server, capture_fits w server sound i, sym found.3 ∙ ap capture_spelling only)
  captured_value areas.Capture (suc zero) key bytes has =
      let found = row_of b32 registration_state_spelling (registration_state_rows server) key bytes (sym (holds_registrations w server sound i c holds key) ∙ has) in
      let made = in_filter_map state_row (numbered_tables server) found.0 (row_in (registration_state_rows server) found.0 found.1) in
      by_registered made.0 found.0 (numbered_in 0 server.tables made.0 made.1) made.0.1.registered refl made.2 found.3
    where
      by_registered : (t : ℕ × ServerTable) (row : ℕ × RegState) → In t.1 server.tables → (o : Option Registered) → t.1.registered ≡ o → option_map (λ r. (t.0, registered_state r)) o ≡ Some row → registration_state_spelling row.1 ≡ bytes → may_be_captured areas.Capture 1 bytes
      by_registered t row among None e is spelled = absurd (none-some row is)
      by_registered t row among (Some r) e is spelled = (registered_state r, registered_fits w server sound i r (given_in (λ (s : ServerTable). s.registered) server.tables t.1 r among e), sym spelled ∙ ap (λ (q : ℕ × RegState). registration_state_spelling q.1) (sym (same_Some (t.0, registered_state r) row is)))
  captured_value a t key bytes has = tt

  -- each state that is called for stands there
  captured_there : (a : Area) (t : ℕ) (key : List ℕ) → c a t key ≡ None → calls_for_state a t key c → ⊥
  captured_there areas.Capture (suc zero) key none needed =
      let row : DefinedRegistration = needed.2.1 in
      let has : table_from_rows short_text defined_registration_spelling (registration_rows server) needed.2.0 ≡ Some (defined_registration_spelling row) = ap (λ (t : Table). t needed.2.0) (sym (holds_defs w server c holds 1)) ∙ needed.2.3 in
      let found = row_of short_text defined_registration_spelling (registration_rows server) needed.2.0 (defined_registration_spelling row) has in
      let t = registration_row_is w server keeps found.0.0 row needed.2.2 (ap (table_from_rows short_text defined_registration_spelling (registration_rows server)) found.2 ∙ has) in
      none-some (registration_state_spelling (registered_state t.1)) (sym none ∙ ap (c areas.Capture 1) needed.1 ∙ registration_at w server sound i c holds needed.0 t.0 t.1 (ap (slice_get server.tables) (sym needed.2.4) ∙ t.3) t.4)
  captured_there a t key none needed = absurd needed

  -- what is captured shows no damage
  pub captured_undamaged : IsUndamaged captured_rules c
  captured_undamaged a (causes.Spelling bytes) h = elim h.1 [
    | inl k ↦ k.0 (captured_key a h.0 bytes k.1.0 k.1.1)
    | inr v ↦ v.0 (captured_value a h.0 v.1.0 bytes v.1.1)
  ]
  captured_undamaged a (causes.Absent key) h = captured_there a h.0 key h.1.0 h.1.1
  captured_undamaged a (causes.Unfit bytes) h = h.1.2
  captured_undamaged a (causes.NoRest steps) h = h

  -- ---- states and trails

  -- the trails of sets stand there
  pub holds_trail : (n : ℕ) → c areas.Trail n ≡ trail_table w server n
  unfolding tables
  holds_trail n = holds areas.Trail n

  -- each state, and each entry of a trail, is one
  state_value : (a : Area) (t : ℕ) (key bytes : List ℕ) → c a t key ≡ Some bytes → may_be_state a t bytes
  state_value areas.SetState zero key bytes has =
      let found = row_of b32 state_spelling (set_state_rows w server) key bytes (ap (λ (t : Table). t key) (sym (holds_states w server sound i c holds)) ∙ there_first (table_from_rows b32 state_spelling (first_state_rows server)) (c areas.SetState 0) key bytes has) in
      let s = in_map (λ (t : ℕ × TargetSide). (t.0, state_of w t.1)) (numbered_target_sets server) found.0 (row_in (set_state_rows w server) found.0 found.1) in
      (state_of w s.0.1, state_fits w server sound i s.0.1 (numbered_in 0 server.target_sets s.0 s.1), sym found.3 ∙ ap (λ (r : ℕ × SetState). state_spelling r.1) s.2)
  state_value areas.Trail t key bytes has = by_side (slice_get server.target_sets t) refl (ap (λ (u : Table). u key) (sym (holds_trail t)) ∙ has)
    where
      by_side : (o : Option TargetSide) → slice_get server.target_sets t ≡ o → option_map_or (λ side. table_from_rows b64 entry_spelling (trail_rows w side)) o no_rows key ≡ Some bytes → may_be_state areas.Trail t bytes
      by_side None at has = absurd (none-some bytes has)
      by_side (Some side) at has =
          let found = row_of b64 entry_spelling (trail_rows w side) key bytes has in
          let among = numbered_in 1 (map (trail_entry w side.def) side.trail) found.0 (row_in (trail_rows w side) found.0 found.1) in
          let e = in_map (trail_entry w side.def) side.trail found.0.1 among in
          (trail_entry w side.def e.0, entry_fits w server sound i side (at_place_in server.target_sets t side at) e.0 e.1, sym found.3 ∙ ap entry_spelling e.2)
  state_value a t key bytes has = tt

  -- the state of a read-only set isn't that of a replica set
  state_kind : (a : Area) (t : ℕ) (key bytes : List ℕ) → c a t key ≡ Some bytes → is_of_other_kind a t key bytes c → ⊥
  state_kind areas.SetState zero key bytes has unfit =
      let row : TargetSet = unfit.2.1 in
      let side = held_target_row w server c keeps holds unfit.2.0 row unfit.2.2 unfit.2.3 in
      let at : slice_get server.target_sets unfit.0 ≡ Some side.0 = ap (slice_get server.target_sets) (sym unfit.2.4) ∙ side.1 in
      let read_only : is_replica_set side.0.def ≡ false = ap is_replica_set (sym side.2) ∙ unfit.2.5 in
      by_kind side.0 read_only unfit.3.0 unfit.3.2 (sym unfit.3.3 ∙ ap (or_first state_spelling (first_state_of side.0.def)) (sym has ∙ ap (c areas.SetState 0) unfit.1) ∙ state_at w server sound i c holds unfit.0 side.0 at)
    where
      by_kind : (side : TargetSide) → is_replica_set side.def ≡ false → (state : SetState) → IsOfReplica state → state_spelling state ≡ state_spelling (state_of w side) → ⊥
      by_kind side read_only (states.ReadOnly has_points synchpoint time base flag entries) replica e = replica
      by_kind side read_only (states.Replica points m f signal entries) replica e = clash (e ∙ ap (λ (b : Bool). state_spelling (cond b
          (states.Replica (has_points side.trail) (synchpoint side.trail) (replica_point side.trail) side.signal (length side.trail))
          (states.ReadOnly (has_points side.trail) (synchpoint side.trail) (source_time w side.def (synchpoint side.trail)) (base_of side.trail) side.flag (length side.trail)))) read_only)
        where
          clash : state_spelling (states.Replica points m f signal entries) ≡ state_spelling (states.ReadOnly (has_points side.trail) (synchpoint side.trail) (source_time w side.def (synchpoint side.trail)) (base_of side.trail) side.flag (length side.trail)) → ⊥
          clash e = absurd cc
  state_kind a t key bytes has unfit = absurd unfit

  -- states and trails show no damage
  pub states_undamaged : IsUndamaged state_rules c
  states_undamaged a (causes.Spelling bytes) h = elim h.1 [
    | inl k ↦ k.0 tt
    | inr v ↦ v.0 (state_value a h.0 v.1.0 bytes v.1.1)
  ]
  states_undamaged a (causes.Absent key) h = h.1.1
  states_undamaged a (causes.Unfit bytes) h = state_kind a h.0 h.1.0 bytes h.1.1 h.1.2
  states_undamaged a (causes.NoRest steps) h = h

  -- ---- all rules

  -- what a server holds shows no damage by the rules of sources
  pub source_undamaged : IsUndamaged source_rules c
  source_undamaged = undamaged_both member_rules (joined mark_rules captured_rules) c (members_undamaged w server c sound i holds) (undamaged_both mark_rules captured_rules c (marks_undamaged w server c sound i holds) captured_undamaged)

  -- nor by any rules of sets
  pub rules_undamaged : IsUndamaged rules c
  rules_undamaged = undamaged_both source_rules state_rules c source_undamaged states_undamaged
