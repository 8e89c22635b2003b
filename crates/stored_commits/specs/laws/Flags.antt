-- What the target of a set holds once the set's flag is another there.
use Rattle.std.proofs.Common.{◌≡◌, ℕ, zero, suc, ◌≤◌, Bool, true, false, cond, length, map, Option, Some, None, refl, sym, ap, ap₂, subst, ◌∙◌, arith, slice_get, ◌/◌, ◌%◌, option_map}
use Rattle.std.specs.Option.{option_map_or}
use Rattle.std.proofs.lemmas.Option.{slice_get-map}
use Rattle.world_store.specs.Words.{b32, b64, set_spelling, member_key_spelling, state_spelling, last_number_spelling, entry_spelling, SetState, table_from_rows, put_here, put_other_table, set_state_rows, numbers_given, numbered_members, source_of, state_of, has_points, trail_rows, no_rows, member_table, tables, with_first, first_table, Holds}
use Rattle.world_store.specs.TargetRows.{last_number_rows}
use Rattle.repl_model.specs.Words.{target_set_spelling, synchpoint, base_of, replica_point, is_replica_set, TargetSide, Server, World, same_set, ServerKeepsRules, at_one, id_itself}
use Rattle.repl_types.specs.declared.area.Area.TheVariants as areas
use Rattle.repl_records.specs.declared.set_state.SetState.TheVariants as states
use Rattle.keep_core.specs.Contents.{Contents, Table, set_key}
use Rattle.world_commits.specs.actions.Flags.{with_flag}
use Rattle.world_commits.specs.actions.laws.Signals.{set_stands}
use Rattle.stored_commits.specs.actions.FlaggedServers.{flagged, with_state, FlagHolds, OthersHoldAfterFlag}
use Rattle.stored_commits.specs.actions.laws.Sources.{time_stays}
use Rattle.stored_commits.specs.laws.OneRow.{OneChanges, one_changes, numbered_lists_stay, row_changes}
use Rattle.stored_commits.specs.laws.TargetRows.{definitions_stay, first_states_stay, first_numbers_stay}
use Rattle.stored_commits.specs.laws.ActedWorlds.{still_holds}
use Rattle.stored_commits.specs.laws.StepTables.{put_shown}

-- The row of a set at its target gets another flag.
module _ (flag : Bool) (world : World) (server : Server) (side : TargetSide) (number : ℕ) where
  -- what the rows of sets become
  abbrev becomes : TargetSide → TargetSide
  becomes s = cond (same_set side.def.id s.def.id) (record s { flag = flag }) s

  -- what is made of a row without its flag stays
  unflagged : {Y : Type 0} (f : TargetSide → Y) → ((s : TargetSide) → f (record s { flag = flag }) ≡ f s) → (s : TargetSide) → f (becomes s) ≡ f s
  unflagged {Y} f alike s = by_test (same_set side.def.id s.def.id)
    where
      by_test : (b : Bool) → f (cond b (record s { flag = flag }) s) ≡ f s
      by_test true = alike s
      by_test false = refl

  -- the server with these rows
  abbrev after : Server
  after = record server { target_sets = map becomes server.target_sets }

  -- the state that is then stored of the set
  abbrev new_state : SetState
  new_state = state_of world (record side { flag = flag })

  -- ---- what stays

  -- definitions of sets
  defined : (s : TargetSide) → (becomes s).def ≡ s.def
  defined s = unflagged (λ (a : TargetSide). a.def) (λ a. refl) s

  -- what is made of the row with a number, without its flag
  place_stays : (f : TargetSide → Table) → ((s : TargetSide) → f (record s { flag = flag }) ≡ f s) → (n : ℕ) → option_map_or f (slice_get (map becomes server.target_sets) n) no_rows ≡ option_map_or f (slice_get server.target_sets n) no_rows
  place_stays f alike n = ap (λ (o : Option TargetSide). option_map_or f o no_rows) (slice_get-map becomes server.target_sets n) ∙ at (slice_get server.target_sets n)
    where
      at : (o : Option TargetSide) → option_map_or f (option_map becomes o) no_rows ≡ option_map_or f o no_rows
      at None = refl
      at (Some s) = unflagged f alike s

  -- last numbers
  numbers_stay : last_number_rows world after ≡ last_number_rows world server
  numbers_stay = numbered_lists_stay (λ (s : ℕ × TargetSide). map (λ m. (record { set = s.0; member = m.0 }, record { number = numbers_given world s.1.def s.1.trail m.1 })) (numbered_members s.1.def)) becomes
      (λ n s. unflagged (λ (a : TargetSide). map (λ m. (record { set = n; member = m.0 }, record { number = numbers_given world a.def a.trail m.1 })) (numbered_members a.def)) (λ a. refl) s) 0 server.target_sets

  module _ (few : length server.target_sets ≤ 256) (one : OneChanges becomes server.target_sets number side) where
    -- the states are those before, with the new one at the set's number
    states_after : table_from_rows b32 state_spelling (set_state_rows world after) ≡ set_key (table_from_rows b32 state_spelling (set_state_rows world server)) (b32 number) (Some (state_spelling new_state))
    states_after =
        row_changes (state_of world) state_spelling becomes server.target_sets number side one few
        ∙ ap (λ (b : Bool). set_key (table_from_rows b32 state_spelling (set_state_rows world server)) (b32 number) (Some (state_spelling (state_of world (cond b (record side { flag = flag }) side))))) (id_itself side.def.id)

    -- the server holds what the world calls for there, once the state is put
    put_holds : (held : Contents) → Holds world server held → Holds world after (with_state number new_state held)
    unfolding tables first_table
    put_holds held holds areas.Defs (suc (suc (suc zero))) = holds areas.Defs 3 ∙ ap (table_from_rows set_spelling target_set_spelling) (sym (definitions_stay server becomes defined))
    put_holds held holds areas.Target n = holds areas.Target n ∙ sym (place_stays (λ (s : TargetSide). option_map_or (λ member. option_map_or (λ source. member_table source member s.trail) (source_of world s.def member) no_rows) (slice_get s.def.members (n % 64)) no_rows) (λ s. refl) (n / 64))
    put_holds held holds areas.SetState zero =
        let key = b32 number in
        let state = Some (state_spelling new_state) in
        ap₂ (λ (first t : Table). with_first first t) (first_states_stay server becomes defined) (put_here held areas.SetState 0 key state)
        ∙ put_shown (first_table server areas.SetState 0) (held areas.SetState 0) key (state_spelling new_state)
        ∙ ap (λ (t : Table). set_key t key state) (holds areas.SetState 0)
        ∙ sym states_after
    put_holds held holds areas.SetState (suc zero) =
        ap (λ (first : Table). with_first first (held areas.SetState 1)) (first_numbers_stay server becomes defined)
        ∙ holds areas.SetState 1
        ∙ ap (table_from_rows member_key_spelling last_number_spelling) (sym numbers_stay)
    put_holds held holds areas.SetState (suc (suc n)) =
        ap (with_first no_rows) (put_other_table held areas.SetState 0 (suc (suc n)) (b32 number) (Some (state_spelling new_state)) (λ e. omega (arith, e)))
        ∙ holds areas.SetState (suc (suc n))
    put_holds held holds areas.Trail n = holds areas.Trail n ∙ sym (place_stays (λ (s : TargetSide). table_from_rows b64 entry_spelling (trail_rows world s)) (λ s. refl) n)
    put_holds held holds a n = holds a n

-- each server holds, as it is, what the world with another flag calls for
pub others_hold_flag : OthersHoldAfterFlag
others_hold_flag world k flag = still_holds (λ server. server.source_sets) (λ server. (flagged k.at_target.def flag server).target_sets) k.target.name world

-- and so does the target of the set, once its state is put
pub flag_holds : FlagHolds
flag_holds world k number flag held sound i is holds =
    subst (λ (state : SetState). Holds (with_flag flag world k) (flagged k.at_target.def flag k.target) (with_state number state held)) same_state
    (put_holds flag (with_flag flag world k) k.target k.at_target number rules.counts.1
    (one_changes (λ (side : TargetSide). side.def.id) (becomes flag (with_flag flag world k) k.target k.at_target number) k.at_target (λ side e. ap (λ (b : Bool). cond b (record side { flag = flag }) side) e) k.target.target_sets number rules.target_names is)
    held (others_hold_flag world k flag k.target held holds))
  where
    rules : ServerKeepsRules world k.target
    rules = at_one (ServerKeepsRules world) world k.target sound.definitions.servers (set_stands world k i).target

    side : TargetSide
    side = record k.at_target { flag = flag }

    same_state : state_of (with_flag flag world k) side ≡ state_of world side
    same_state = ap (λ (time : ℕ). cond (is_replica_set side.def) (states.Replica (has_points side.trail) (synchpoint side.trail) (replica_point side.trail) side.signal (length side.trail)) (states.ReadOnly (has_points side.trail) (synchpoint side.trail) time (base_of side.trail) flag (length side.trail)))
        (time_stays (λ server. server.source_sets) (λ server. (flagged k.at_target.def flag server).target_sets) k.target.name world side.def (synchpoint side.trail))
