-- What the target of a set holds after a block or a refresh.
use Rattle.std.proofs.Common.{◌≡◌, ◌≢◌, ℕ, zero, suc, Bool, true, false, cond, List, [], ◌∷◌, ◌++◌, map, Option, refl, sym, ap, subst, ◌∙◌, ◌/◌, ◌%◌, ◌==◌, slice_get, true≢false, eq-eqb}
use Rattle.std.specs.Option.{option_map_or}
use Rattle.world_store.specs.Words.{b64, set_spelling, entry_spelling, table_from_rows, target_set_rows, source_of, trail_rows, no_rows, member_table, tables, first_table, Holds, Becomes, StaysShown, becomes_holds}
use Rattle.repl_model.specs.Words.{Area, target_set_spelling, SetDef, Entry, TargetSide, Server, World, KnownSet, same_set, known_sets, ServerKeepsRules, read_only_sets, IsSound, with_entry, refreshed, In, at_one}
use Rattle.repl_types.specs.declared.area.Area.TheVariants as areas
use Rattle.keep_core.specs.Contents.{Contents}
use Rattle.world_commits.specs.actions.laws.Signals.{set_stands}
use Rattle.stored_commits.specs.actions.ActedServers.{HasTargetNumber, is_of_step, with_step, with_refresh, BlockHolds, RefreshHolds, OthersHoldAfterStep}
use Rattle.stored_commits.specs.laws.OneRow.{OneChanges, one_changes, places_stay}
use Rattle.stored_commits.specs.laws.TargetRows.{definitions_stay}
use Rattle.stored_commits.specs.laws.ActedWorlds.{same_tables}

-- what a function makes of what another made of the elements of a list
pub made_twice : {X : Type 0} (f g : X → X) (xs : List X) → map f (map g xs) ≡ map (λ x. f (g x)) xs
made_twice f g [] = refl
made_twice {X} f g (x ∷ xs) = ap (λ (l : List X). f (g x) ∷ l) (made_twice f g xs)

-- ---- one server

-- The server holds what the world calls for there, if its sets have other rows, of the same definitions, and only
-- the one with a number differs.
module _ (world : World) (server : Server) (sides : List TargetSide) (number : ℕ) where
  -- the server with the other rows
  abbrev after : Server
  after = record server { target_sets = sides }

  module _ (definitions : target_set_rows after ≡ target_set_rows server) (places : (n : ℕ) → n ≢ number → slice_get sides n ≡ slice_get server.target_sets n) where
    -- a number that isn't that one
    apart : (n : ℕ) → (n == number) ≡ false → n ≢ number
    apart n e same = true≢false (sym (eq-eqb n number same) ∙ e)

    -- the targets of another set stay
    targets_stay : (n : ℕ) → (n / 64 == number) ≡ false → tables world after areas.Target n ≡ tables world server areas.Target n
    unfolding tables
    targets_stay n e =
        ap (λ (o : Option TargetSide). option_map_or (λ side. option_map_or (λ member. option_map_or (λ source. member_table source member side.trail) (source_of world side.def member) no_rows) (slice_get side.def.members (n % 64)) no_rows) o no_rows)
        (places (n / 64) (apart (n / 64) e))

    -- so does its trail
    trail_stays : (n : ℕ) → (n == number) ≡ false → tables world after areas.Trail n ≡ tables world server areas.Trail n
    unfolding tables
    trail_stays n e =
        ap (λ (o : Option TargetSide). option_map_or (λ side. table_from_rows b64 entry_spelling (trail_rows world side)) o no_rows)
        (places n (apart n e))

    -- the tables that a step of the set with the number leaves alone show what is called for at the server with those rows
    step_stays : (a : Area) (n : ℕ) → is_of_step number a n ≡ false → StaysShown world server after a n
    unfolding tables first_table
    step_stays areas.Defs (suc (suc (suc zero))) e t h = h ∙ ap (table_from_rows set_spelling target_set_spelling) (sym definitions)
    step_stays areas.Target n e t h = h ∙ sym (targets_stay n e)
    step_stays areas.SetState zero e t h = absurd cc
    step_stays areas.SetState (suc zero) e t h = absurd cc
    step_stays areas.Trail n e t h = h ∙ sym (trail_stays n e)
    step_stays a n e t h = h

-- ---- a set's row

-- what the row of a set becomes, if the row is its
abbrev pub by_name : SetDef → (TargetSide → TargetSide) → TargetSide → TargetSide
by_name def f side = cond (same_set def.id side.def.id) (f side) side

-- a change of a set's row that keeps what isn't named so, and definitions
pub record ChangesSet (def : SetDef) (change : TargetSide → TargetSide) : Type 0 where
  pub keeps : (side : TargetSide) → same_set def.id side.def.id ≡ false → change side ≡ side
  pub defined : (side : TargetSide) → (change side).def ≡ side.def

-- of the rows at the set's target a change of the set's row changes only that one
pub one_set_changes : (world : World) (k : KnownSet) (number : ℕ) (change : TargetSide → TargetSide) → IsSound world → In k (read_only_sets (known_sets world)) → HasTargetNumber k number → ChangesSet k.at_target.def change → OneChanges change k.target.target_sets number k.at_target
one_set_changes world k number change sound i is changes =
    let rules = at_one (ServerKeepsRules world) world k.target sound.definitions.servers (set_stands world k i).target in
    one_changes (λ (side : TargetSide). side.def.id) change k.at_target changes.keeps k.target.target_sets number rules.target_names is

-- The target of a set holds what the world calls for there after a change of the set's row, with the tables of a step.
step_holds : (world after_it : World) (k : KnownSet) (number : ℕ) (change : TargetSide → TargetSide) (before now : Contents) → IsSound world → In k (read_only_sets (known_sets world)) → HasTargetNumber k number → ChangesSet k.at_target.def change
    → Holds after_it k.target before → Becomes (is_of_step number) after_it (record k.target { target_sets = map change k.target.target_sets }) before now
    → Holds after_it (record k.target { target_sets = map change k.target.target_sets }) now
step_holds world after_it k number change before now sound i is changes holds becomes =
    becomes_holds (is_of_step number) after_it k.target (record k.target { target_sets = map change sides })
    (step_stays after_it k.target (map change sides) number (definitions_stay k.target change changes.defined) (places_stay change sides number k.at_target one)) before now holds becomes
  where
    sides : List TargetSide
    sides = k.target.target_sets

    one : OneChanges change sides number k.at_target
    one = one_set_changes world k number change sound i is changes

-- ---- blocks and refreshes

-- what a row becomes with one more entry of its trail
abbrev pub longer : Entry → TargetSide → TargetSide
longer entry side = record side { trail = side.trail ++ entry ∷ [] }

-- and what it becomes by a refresh, which clears what was asked for
abbrev pub cleared : TargetSide → TargetSide
cleared side = record side { flag = false }

-- one more entry of a set's trail changes that set
pub entry_changes : (def : SetDef) (entry : Entry) → ChangesSet def (by_name def (longer entry))
entry_changes def entry = record {
  keeps = λ side e. ap (λ (b : Bool). cond b (longer entry side) side) e;
  defined = λ side. by_test side (same_set def.id side.def.id);
}
  where
    by_test : (side : TargetSide) (b : Bool) → (cond b (longer entry side) side).def ≡ side.def
    by_test side true = refl
    by_test side false = refl

-- so does a refresh
pub refresh_changes : (def : SetDef) (entry : Entry) → ChangesSet def (λ side. by_name def cleared (by_name def (longer entry) side))
refresh_changes def entry = record {
  keeps = λ side e. ap (by_name def cleared) (grows.keeps side e) ∙ ap (λ (b : Bool). cond b (cleared side) side) e;
  defined = λ side. by_test (by_name def (longer entry) side) (same_set def.id (by_name def (longer entry) side).def.id) ∙ grows.defined side;
}
  where
    grows : ChangesSet def (by_name def (longer entry))
    grows = entry_changes def entry

    by_test : (side : TargetSide) (b : Bool) → (cond b (cleared side) side).def ≡ side.def
    by_test side true = refl
    by_test side false = refl

-- the tables of each server, as it is, are the same after one more entry
pub same_after_step : (world : World) (k : KnownSet) (entry : Entry) (server : Server) (a : Area) (n : ℕ) → tables (with_step world k entry) server a n ≡ tables world server a n
same_after_step world k entry = same_tables (λ server. server.source_sets) (λ server. (with_entry k.at_target.def entry server).target_sets) k.target.name world

-- and after a refresh
pub same_after_refresh : (world : World) (k : KnownSet) (entry : Entry) (server : Server) (a : Area) (n : ℕ) → tables (with_refresh world k entry) server a n ≡ tables world server a n
same_after_refresh world k entry = same_tables (λ server. server.source_sets) (λ server. (refreshed k.at_target.def entry server).target_sets) k.target.name world

-- so each server holds, as it is, what the world after one more entry calls for
after_step : (world : World) (k : KnownSet) (entry : Entry) (server : Server) (held : Contents) → Holds world server held → Holds (with_step world k entry) server held
after_step world k entry server held holds = λ a n. holds a n ∙ sym (same_after_step world k entry server a n)

-- and what the world after a refresh calls for
after_refresh : (world : World) (k : KnownSet) (entry : Entry) (server : Server) (held : Contents) → Holds world server held → Holds (with_refresh world k entry) server held
after_refresh world k entry server held holds = λ a n. holds a n ∙ sym (same_after_refresh world k entry server a n)

-- so do the other servers
pub others_hold_step : OthersHoldAfterStep
others_hold_step world k entry other held holds = (after_step world k entry other held holds, after_refresh world k entry other held holds)

-- the target of the set holds it after a block, with the tables of the block
pub block_holds : BlockHolds
block_holds world k number entry before now sound i is holds becomes =
    step_holds world (with_step world k entry) k number (by_name k.at_target.def (longer entry)) before now sound i is (entry_changes k.at_target.def entry) (after_step world k entry k.target before holds) becomes

-- and after a refresh, with those of the refresh
pub refresh_holds : RefreshHolds
refresh_holds world k number entry before now sound i is holds becomes =
    let twice = made_twice (by_name k.at_target.def cleared) (by_name k.at_target.def (longer entry)) k.target.target_sets in
    subst (λ (sides : List TargetSide). Becomes (is_of_step number) (with_refresh world k entry) (record k.target { target_sets = sides }) before now → Holds (with_refresh world k entry) (record k.target { target_sets = sides }) now) (sym twice)
    (step_holds world (with_refresh world k entry) k number (λ side. by_name k.at_target.def cleared (by_name k.at_target.def (longer entry) side)) before now sound i is (refresh_changes k.at_target.def entry) (after_refresh world k entry k.target before holds))
    becomes
