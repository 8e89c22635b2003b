-- The tables of a refresh or a block of a set, from what is put at its target.
use Rattle.std.proofs.Common.{◌≡◌, ℕ, zero, suc, ◌+◌, ◌*◌, ◌<◌, ◌≤◌, ◌^◌, Bool, true, false, cond, List, [], ◌∷◌, length, map, Option, Some, None, inl, inr, refl, sym, ap, ap₂, subst, ◌∙◌, arith, ◌/◌, ◌%◌, slice_get, eqb-true}
use Rattle.std.specs.List.{enumerate_from}
use Rattle.std.specs.Option.{option_map_or, option_or}
use Rattle.std.proofs.lemmas.List.{length-map, map-append}
use Rattle.std.proofs.lemmas.Option.{none-some, slice_get_cases}
use Rattle.world_store.specs.Words.{b32, b64, member_key_spelling, state_spelling, last_number_spelling, entry_spelling, MemberKey, LastNumber, SetState, TrailEntry, table_from_rows, numbered_push, no_rows, target_table, tables, with_first, first_table, state_of, trail_entry, trail_rows, source_time, set_state_rows, numbered_members, shown, Holds, Becomes}
use Rattle.repl_model.specs.Words.{Area, Member, SetDef, Entry, refresh, block, base_of, TargetSide, Server, World, KnownSet, known_sets, ServerKeepsRules, read_only_sets, IsSound, In, at_one, id_itself}
use Rattle.repl_types.specs.declared.area.Area.TheVariants as areas
use Rattle.keep_core.specs.Contents.{Contents, Table, same_key, set_key}
use Rattle.world_commits.specs.actions.laws.Signals.{set_stands}
use Rattle.stored_commits.specs.actions.ActedServers.{HasTargetNumber, is_of_step, with_step, with_refresh}
use Rattle.stored_commits.specs.actions.StoredSteps.{NoneNumbered, PutsStep, HasTargets, refreshed_state, block_state, RefreshIsStored, BlockIsStored}
use Rattle.stored_commits.specs.actions.laws.Numbered.{large_in_order}
use Rattle.stored_commits.specs.actions.laws.ShortTrails.{trail_short}
use Rattle.stored_commits.specs.actions.laws.States.{not_replica, longer_state_is, side_after}
use Rattle.stored_commits.specs.laws.OneRow.{OneChanges, lists_of_one_stay, row_changes, stands_changed}
use Rattle.stored_commits.specs.laws.Steps.{by_name, longer, cleared, made_twice, ChangesSet, entry_changes, refresh_changes, one_set_changes, same_after_step, same_after_refresh}
use Rattle.stored_commits.specs.laws.TargetRows.{first_states_stay, first_numbers_stay}
use Rattle.stored_commits.specs.laws.Numbers.{last_number_row, last_numbers_stay}
use Rattle.stored_commits.specs.laws.ActedTargets.{target_is, no_target, has_source, source_is}

-- where nothing stands the list has ended
past_end : {X : Type 0} (xs : List X) (n : ℕ) → slice_get xs n ≡ None → length xs ≤ n
past_end xs n none = elim (slice_get_cases xs n).1 [ inl x ↦ absurd (none-some x.0 (sym none ∙ x.2)) | inr past ↦ past.0 ]

-- a record that is put is there, whatever a missing one stands for
pub put_shown : (first t : Table) (key value : List ℕ) → with_first first (set_key t key (Some value)) ≡ set_key (with_first first t) key (Some value)
put_shown first t key value = λ i q. by_key q (same_key key q) i
  where
    by_key : (q : List ℕ) (b : Bool) → option_or (cond b (Some value) (t q)) (first q) ≡ cond b (Some value) (option_or (t q) (first q))
    by_key q true = refl
    by_key q false = refl

-- The row of a set at its target gets one more entry of its trail. The world after it calls for the same at the target
-- with the new row as the world before does.
module _ (world after_it : World) (k : KnownSet) (number : ℕ) (change : TargetSide → TargetSide) (flag : Bool) (entry : Entry) where
  -- the target
  abbrev target : Server
  target = record k.target { target_sets = map change k.target.target_sets }

  -- the row of the set
  abbrev side : TargetSide
  side = side_after k flag entry

  module _ (sound : IsSound world) (i : In k (read_only_sets (known_sets world))) (is : HasTargetNumber k number) (changes : ChangesSet k.at_target.def change) (becomes : change k.at_target ≡ side) (alike : (a : Area) (n : ℕ) → tables after_it target a n ≡ tables world target a n) where
    -- the set has the number it had
    stands : slice_get target.target_sets number ≡ Some side
    stands = stands_changed change k.target.target_sets number k.at_target is ∙ ap Some becomes

    -- only its row changes
    one : OneChanges change k.target.target_sets number k.at_target
    one = one_set_changes world k number change sound i is changes

    -- ---- targets

    -- each target of the set is what the trail makes of it
    targets_are : (now : Contents) → HasTargets k number entry now → (place : ℕ) → place < 64 → now areas.Target (64 * number + place) ≡ tables after_it target areas.Target (64 * number + place)
    unfolding tables
    targets_are now has place low = by_member (slice_get k.at_target.def.members place) refl ∙ sym (alike areas.Target (64 * number + place))
      where
        by_member : (o : Option Member) → slice_get k.at_target.def.members place ≡ o → now areas.Target (64 * number + place) ≡ target_table world target (64 * number + place)
        by_member (Some member) e =
            let from = has_source world k sound i place member e in
            has.members place member from.0 e from.1 ∙ sym (target_is world target side number place stands low member from.0 e (source_is world k sound i member from.0 from.1))
        by_member None e = has.none place low (omega (arith, past_end k.at_target.def.members place e)) ∙ sym (no_target world target side number place stands low e)

    -- ---- trail

    -- the entry is put after all others
    trail_is : (before now : Contents) → Holds world k.target before
        → now areas.Trail number ≡ set_key (before areas.Trail number) (b64 (length k.at_target.trail + 1)) (Some (entry_spelling (trail_entry world k.at_target.def entry)))
        → now areas.Trail number ≡ tables after_it target areas.Trail number
    unfolding tables
    trail_is before now holds put =
        put
        ∙ ap (λ (t : Table). set_key t (b64 (length k.at_target.trail + 1)) (Some (entry_spelling new))) (holds areas.Trail number ∙ ap made is)
        ∙ ap (λ (n : ℕ). set_key (table_from_rows b64 entry_spelling (enumerate_from 1 entries)) (b64 n) (Some (entry_spelling new))) (omega (arith, many))
        ∙ sym (numbered_push b64 (2 ^ 64) large_in_order entry_spelling 1 entries new (omega (arith, many, trail_short world k sound i)))
        ∙ ap (λ (es : List TrailEntry). table_from_rows b64 entry_spelling (enumerate_from 1 es)) (sym (map-append (trail_entry world k.at_target.def) k.at_target.trail (entry ∷ [])))
        ∙ sym (alike areas.Trail number ∙ ap made stands)
      where
        made : Option TargetSide → Table
        made o = option_map_or (λ (s : TargetSide). table_from_rows b64 entry_spelling (trail_rows world s)) o no_rows

        new : TrailEntry
        new = trail_entry world k.at_target.def entry

        entries : List TrailEntry
        entries = map (trail_entry world k.at_target.def) k.at_target.trail

        many : length entries ≡ length k.at_target.trail
        many = length-map k.at_target.trail (trail_entry world k.at_target.def)

    -- ---- states

    -- the state of the set is put in its place
    states_are : (before now : Contents) (state : SetState) → Holds world k.target before → state_of world side ≡ state
        → now areas.SetState 0 ≡ set_key (before areas.SetState 0) (b32 number) (Some (state_spelling state))
        → shown target areas.SetState 0 (now areas.SetState 0) ≡ tables after_it target areas.SetState 0
    unfolding tables
    states_are before now state holds is_state put =
        ap₂ (λ (first t : Table). with_first first t) (first_states_stay k.target change changes.defined) put
        ∙ put_shown (first_table k.target areas.SetState 0) (before areas.SetState 0) (b32 number) (state_spelling state)
        ∙ ap (λ (t : Table). set_key t (b32 number) (Some (state_spelling state))) (holds areas.SetState 0)
        ∙ ap (λ (s : SetState). set_key (table_from_rows b32 state_spelling (set_state_rows world k.target)) (b32 number) (Some (state_spelling s))) (sym is_state ∙ sym (ap (state_of world) becomes))
        ∙ sym (row_changes (state_of world) state_spelling change k.target.target_sets number k.at_target one (at_one (ServerKeepsRules world) world k.target sound.definitions.servers (set_stands world k i).target).counts.1)
        ∙ sym (alike areas.SetState 0)

    -- ---- last numbers

    -- last numbers stay
    numbers_are : (before now : Contents) → Holds world k.target before → NoneNumbered k.at_target.def → now areas.SetState 1 ≡ before areas.SetState 1
        → shown target areas.SetState 1 (now areas.SetState 1) ≡ tables after_it target areas.SetState 1
    unfolding tables
    numbers_are before now holds none same =
        ap₂ (λ (first t : Table). with_first first t) (first_numbers_stay k.target change changes.defined) same
        ∙ holds areas.SetState 1
        ∙ sym (alike areas.SetState 1 ∙ ap (table_from_rows member_key_spelling last_number_spelling) (lists_of_one_stay rows change k.target.target_sets number k.at_target one stay 0))
      where
        rows : ℕ × TargetSide → List (MemberKey × LastNumber)
        rows s = map (last_number_row world s.1.def s.1.trail s.0) (numbered_members s.1.def)

        stay : (n : ℕ) → rows (n, change k.at_target) ≡ rows (n, k.at_target)
        stay n = ap (λ (s : TargetSide). rows (n, s)) becomes ∙ last_numbers_stay world k.at_target.def k.at_target.trail side.trail n 0 k.at_target.def.members none

    -- ---- all tables

    -- what is put makes the tables of the step
    makes_step : (before now : Contents) (state : SetState) → Holds world k.target before → NoneNumbered k.at_target.def → state_of world side ≡ state
        → PutsStep number state (length k.at_target.trail) (trail_entry world k.at_target.def entry) before now → HasTargets k number entry now
        → Becomes (is_of_step number) after_it target before now
    unfolding tables
    makes_step before now state holds none is_state puts has = record { has = table_is; others = puts.others }
      where
        parts : (n : ℕ) → n / 64 ≡ number → 64 * number + n % 64 ≡ n
        parts n e = omega arith

        table_is : (a : Area) (n : ℕ) → is_of_step number a n ≡ true → shown target a n (now a n) ≡ tables after_it target a n
        table_is areas.Target n e = subst (λ (m : ℕ). now areas.Target m ≡ tables after_it target areas.Target m) (parts n (eqb-true (n / 64) number e)) (targets_are now has (n % 64) (omega arith))
        table_is areas.SetState zero e = states_are before now state holds is_state puts.state_put
        table_is areas.SetState (suc zero) e = numbers_are before now holds none puts.numbers
        table_is areas.Trail n e = subst (λ (m : ℕ). now areas.Trail m ≡ tables after_it target areas.Trail m) (sym (eqb-true n number e)) (trail_is before now holds puts.entry_put)
        table_is a n e = absurd cc

-- ---- refreshes and blocks

-- what is put at a refresh makes the tables of a step
pub refresh_is_stored : RefreshIsStored
refresh_is_stored world k number p q before now sound i is after_sound holds none puts has =
    subst (λ (sides : List TargetSide). Becomes (is_of_step number) (with_refresh world k entry) (record k.target { target_sets = sides }) before now) (sym (made_twice (by_name def cleared) (by_name def (longer entry)) k.target.target_sets))
    (makes_step world (with_refresh world k entry) k number change false entry sound i is (refresh_changes def entry) becomes
    (same_after_refresh world k entry (record k.target { target_sets = map change k.target.target_sets })) before now
    (refreshed_state p (source_time world def p) (length k.at_target.trail)) holds none (longer_state_is world k.at_target false entry (not_replica world k i)) puts has)
  where
    def : SetDef
    def = k.at_target.def

    entry : Entry
    entry = refresh p q

    change : TargetSide → TargetSide
    change side = by_name def cleared (by_name def (longer entry) side)

    becomes : change k.at_target ≡ cleared (longer entry k.at_target)
    becomes =
        ap (λ (b : Bool). by_name def cleared (cond b (longer entry k.at_target) k.at_target)) (id_itself def.id)
        ∙ ap (λ (b : Bool). cond b (cleared (longer entry k.at_target)) (longer entry k.at_target)) (id_itself def.id)

-- and so does what is put at a block
pub block_is_stored : BlockIsStored
block_is_stored world k number low high q before now sound i is after_sound holds none puts has =
    makes_step world (with_step world k entry) k number change k.at_target.flag entry sound i is (entry_changes def entry) becomes
    (same_after_step world k entry (record k.target { target_sets = map change k.target.target_sets })) before now
    (block_state high (source_time world def high) (base_of k.at_target.trail) k.at_target.flag (length k.at_target.trail)) holds none (longer_state_is world k.at_target k.at_target.flag entry (not_replica world k i)) puts has
  where
    def : SetDef
    def = k.at_target.def

    entry : Entry
    entry = block low high q

    change : TargetSide → TargetSide
    change = by_name def (longer entry)

    becomes : change k.at_target ≡ longer entry k.at_target
    becomes = ap (λ (b : Bool). cond b (longer entry k.at_target) k.at_target) (id_itself def.id)
