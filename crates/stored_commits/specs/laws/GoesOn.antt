-- A unit goes on change by change.
use Rattle.std.proofs.Common.{◌≡◌, ◌≢◌, ℕ, zero, suc, ◌+◌, ◌≤◌, true, false, cond, ◌⊎◌, inl, inr, List, [], ◌∷◌, ◌++◌, length, map, Option, Some, None, refl, sym, ap, subst, ◌∙◌, arith, max, sum_by, IfSome, slice_get, bytes_eq}
use Rattle.std.specs.List.{AllByRecursion, flat_map}
use Rattle.std.specs.Option.{option_map_or, option_and_then}
use Rattle.std.proofs.lemmas.Bool.{cases_eq}
use Rattle.world_store.specs.Words.{b32, short_text, one_whole, registration_state_spelling, IsRegistrationState, RegState, ChangeRow, CdKey, one_registration_state, some_is, no_rows, definition_table}
use Rattle.repl_model.specs.Words.{CdRow, Registration, Placed, Unit, DefinedRegistration, table_of, rows_of, rows_of_placed, ServerKeepsRules, log_limit, Registered, ServerTable, Server, registered_of, In, at_one, in_second, given_in}
use Rattle.repl_types.specs.declared.area.Area.TheVariants as areas
use Rattle.keep_core.specs.Contents.{Contents, Table, set_key}
use Rattle.world_commits.specs.captures.Captures.{registered_after, registered_after_change, with_registration, rows_captured}
use Rattle.stored_commits.specs.units.StoredChanges.{with_change, rows_put, IsRegistered, CapturesChange}
use Rattle.stored_commits.specs.units.StoredCaptures.{rows_so_far, HasPart, UnitGoesOn}
use Rattle.stored_commits.specs.laws.CapturedUnits.{NextOf, next_of}
use Rattle.stored_commits.specs.laws.Earlier.{change_follows}
use Rattle.stored_commits.specs.laws.Registrations.{state_of, reg_stays, floor_stays, after_push, plain_unit}
use Rattle.stored_commits.specs.laws.Slots.{IsOther, StandsAt, unregistered, registered_at}
use Rattle.stored_commits.specs.laws.RowsSoFar.{rows_with, rows_stay, rows_go_on}
use Rattle.stored_commits.specs.laws.StatesOfUnits.{states_from, states_table, others_stay, state_stored, state_put}
use Rattle.stored_commits.specs.laws.CapturedChange.{keyed_table, ChangesAt, HasRows, change_made}
use Rattle.stored_commits.specs.laws.Counts.{count_of, registered_in, counts_stay, counts_push, count_put}
use Rattle.world_commits.specs.laws.TakenUnits.{start_after_unit}

-- ---- places

-- the element behind some others stands at their number
behind_place : {X : Type 0} (front : List X) (x : X) (back : List X) → slice_get (front ++ x ∷ back) (length front) ≡ Some x
behind_place [] x back = refl
behind_place (y ∷ ys) x back = behind_place ys x back

-- what holds of each element holds of what stands at a place
each_place : {X : Type 0} (P : X → Type 0) (xs : List X) (n : ℕ) → AllByRecursion P xs → IfSome (slice_get xs n) P
each_place P [] n all = tt
each_place P (x ∷ xs) zero all = all.0
each_place P (x ∷ xs) (suc n) all = each_place P xs n all.1

-- what holds of all others holds of what stands at another place
other_place : {X : Type 0} (P : X → Type 0) (front : List X) (x : X) (back : List X) (n : ℕ) → AllByRecursion P front → AllByRecursion P back → length front ≢ n → IfSome (slice_get (front ++ x ∷ back) n) P
other_place P [] x back zero before behind ne = absurd (ne refl)
other_place P [] x back (suc n) before behind ne = each_place P back n behind
other_place P (y ∷ ys) x back zero before behind ne = before.0
other_place P (y ∷ ys) x back (suc n) before behind ne = other_place P ys x back n before.1 behind (λ e. ne (ap suc e))

-- ---- the tables of the other registrations

module _ (server : Server) (u : Unit) (changes : List Placed) (placed : Placed) where
  -- the changes with one more
  abbrev longer : List Placed
  longer = changes ++ placed ∷ []

  -- the table of the change rows of a table's registration
  abbrev table_at : List Placed → Option ServerTable → Table
  table_at some o = option_map_or (λ r. keyed_table (rows_so_far server u.head.seq some r)) (option_and_then (λ t. t.registered) o) no_rows

  -- one more change leaves it, if it is of another table
  table_stays : (o : Option ServerTable) → IfSome o (IsOther (table_of placed.change)) → table_at changes o ≡ table_at longer o
  table_stays None other = refl
  table_stays (Some t) other = pick t.registered other
    where
      pick : (o : Option Registered) → IfSome o (λ r. bytes_eq (table_of placed.change) r.reg.table ≡ false) → option_map_or (λ r. keyed_table (rows_so_far server u.head.seq changes r)) o no_rows ≡ option_map_or (λ r. keyed_table (rows_so_far server u.head.seq longer r)) o no_rows
      pick None other = refl
      pick (Some r) other = ap keyed_table (sym (rows_stay server u.head.seq changes placed r other))

  module _ (c : Contents) (part : HasPart server u changes c) where
    -- ---- a change of a table that isn't registered

    -- it leaves all
    goes_on_unregistered : AllByRecursion (IsOther (table_of placed.change)) server.tables → HasPart server u longer c
    goes_on_unregistered all = record {
      rows = λ n. part.rows n ∙ table_stays (slice_get server.tables n) (each_place (IsOther (table_of placed.change)) server.tables n all);
      units = part.units;
      states = part.states ∙ ap (λ (ts : List ServerTable). states_table (states_from 0 ts)) (sym (others_stay u.head.seq changes placed server.tables all));
      registrations = part.registrations;
    }

    -- ---- a change of a registered table

    module _ (reg : DefinedRegistration) (at : StandsAt server (table_of placed.change) reg) where
      -- the registration after the changes
      abbrev now : Registered
      now = registered_after u.head.seq changes at.registered

      -- the tables after the changes
      abbrev tables_after : List Placed → List ServerTable → List ServerTable
      tables_after some ts = map (with_registration (registered_after u.head.seq some)) ts

      -- the registration stands at its number
      found : option_and_then (λ t. t.registered) (slice_get server.tables (length at.front)) ≡ Some at.registered
      found =
          ap (λ (ts : List ServerTable). option_and_then (λ (t : ServerTable). t.registered) (slice_get ts (length at.front))) at.split
          ∙ ap (option_and_then (λ (t : ServerTable). t.registered)) (behind_place at.front at.table at.back)
          ∙ at.has

      -- its change rows and its state are stored
      has_rows : HasRows server u.head.seq (length at.front) at.registered.reg now (flat_map (rows_of_placed at.registered.reg u.head.seq) changes) c
      has_rows = record {
        table = part.rows (length at.front) ∙ ap (λ (o : Option Registered). option_map_or (λ (r : Registered). keyed_table (rows_so_far server u.head.seq changes r)) o no_rows) found;
        state =
            ap (λ (t : Table). t (b32 (length at.front))) part.states
            ∙ ap (λ (ts : List ServerTable). states_table (states_from 0 (tables_after changes ts)) (b32 (length at.front))) at.split
            ∙ state_stored u.head.seq changes at.front at.table at.back at.registered at.has at.few;
      }

      -- what a change makes there is what is stored after it
      goes_on_at : (d : Contents) → ChangesAt (length at.front) (rows_so_far server u.head.seq longer at.registered) (registered_after u.head.seq longer at.registered) c d → HasPart server u longer d
      goes_on_at d made = record {
        rows = λ n. pick n (cases_eq (length at.front) n);
        units = made.units ∙ part.units;
        states =
            made.states
            ∙ ap (λ (t : Table). set_key t key new) part.states
            ∙ ap (λ (ts : List ServerTable). set_key (states_table (states_from 0 (tables_after changes ts))) key new) at.split
            ∙ sym (state_put u.head.seq changes at.front at.table at.back at.registered at.has at.few placed at.before at.behind)
            ∙ ap (λ (ts : List ServerTable). states_table (states_from 0 (tables_after longer ts))) (sym at.split);
        registrations = made.registrations ∙ part.registrations;
      }
        where
          key : List ℕ
          key = b32 (length at.front)

          new : Option (List ℕ)
          new = Some (registration_state_spelling (state_of (registered_after u.head.seq longer at.registered)))

          others : (n : ℕ) → length at.front ≢ n → IfSome (slice_get server.tables n) (IsOther (table_of placed.change))
          others n ne = subst (λ (ts : List ServerTable). IfSome (slice_get ts n) (IsOther (table_of placed.change))) (sym at.split) (other_place (IsOther (table_of placed.change)) at.front at.table at.back n at.before at.behind ne)

          pick : (n : ℕ) → (length at.front ≡ n) ⊎ (length at.front ≢ n) → d areas.Cd n ≡ table_at longer (slice_get server.tables n)
          pick n (inl e) = subst (λ (m : ℕ). d areas.Cd m ≡ table_at longer (slice_get server.tables m)) e
              (made.own ∙ sym (ap (λ (o : Option Registered). option_map_or (λ (r : Registered). keyed_table (rows_so_far server u.head.seq longer r)) o no_rows) found))
          pick n (inr ne) = made.others n ne ∙ part.rows n ∙ table_stays (slice_get server.tables n) (others n ne)

      -- so it is after a change of its table
      goes_on_registered : (next : NextOf server u) (more : List Placed) (state : RegState) (d : Contents) → u.changes ≡ changes ++ placed ∷ more → state ≡ state_of now → d ≡ with_change u.head.seq placed reg state c → HasPart server u longer d
      goes_on_registered next more state d split state_is d_is =
          let r : Registered = at.registered in
          let rows : List CdRow = flat_map (rows_of_placed r.reg u.head.seq) changes in
          let then : Registered = registered_after_change u.head.seq now placed.change in
          let own : bytes_eq (table_of placed.change) now.reg.table ≡ true = ap (λ (x : Registration). bytes_eq (table_of placed.change) x.table) (reg_stays u.head.seq changes r) ∙ at.own in
          let made = change_made server u.head.seq next.stands.above (length at.front) r.reg now rows c has_rows placed.pos placed.change own (change_follows server u next r.reg (max now.start now.floor) changes placed more split) in
          let is : with_change u.head.seq placed (record { number = length at.front; registration = r.reg }) (state_of now) c ≡ d = (λ i. with_change u.head.seq placed (sym at.is i) (sym state_is i) c) ∙ sym d_is in
          goes_on_at d (subst (λ (rows : List (CdKey × ChangeRow)). ChangesAt (length at.front) rows (registered_after u.head.seq longer r) c d) (sym (rows_go_on server u.head.seq changes placed r at.own))
          (subst (λ (q : Registered). ChangesAt (length at.front) (rows_with server u.head.seq r.reg then (rows ++ rows_of r.reg u.head.seq placed.pos placed.change)) q c d) (sym (after_push u.head.seq changes placed r))
          (subst (ChangesAt (length at.front) (rows_with server u.head.seq r.reg then (rows ++ rows_of r.reg u.head.seq placed.pos placed.change)) then c) is made)))

      -- the numbers of a registration aren't above the captured point
      numbers_low : NextOf server u → (at.registered.start ≤ server.captured) × (at.registered.floor ≤ server.captured)
      numbers_low next =
          let there : In at.table server.tables = subst (In at.table) (sym at.split) (in_second at.front (at.table ∷ at.back) at.table (inl refl)) in
          at_one (λ (r : Registered). (r.start ≤ server.captured) × (r.floor ≤ server.captured)) (registered_of server) at.registered next.numbers.registered (given_in (λ (t : ServerTable). t.registered) server.tables at.table at.registered there at.has)

      -- the state that is read is its own
      state_read : NextOf server u → (state : RegState) → IsRegistered placed reg state c → state ≡ state_of now
      state_read next state is =
          let number : reg.number ≡ length at.front = ap (λ (x : DefinedRegistration). x.number) at.is in
          one_whole IsRegistrationState registration_state_spelling one_registration_state state (state_of now) is.state_fits fits
          (some_is b32 registration_state_spelling (sym is.has_state ∙ ap (λ (n : ℕ). c areas.Capture 1 (b32 n)) number ∙ has_rows.state))
        where
          within : u.head.seq ≤ log_limit
          within = omega (arith, next.short, next.within.seq)

          fits : IsRegistrationState (state_of now)
          fits =
              let lt = next.stands.above in
              let low = numbers_low next in
              (omega (arith, within, start_after_unit u.head.seq changes at.registered (omega (arith, low.0, lt))), omega (arith, within, floor_stays u.head.seq changes at.registered, low.1, lt))

      -- and so many change rows are put
      counted : (next : NextOf server u) (more : List Placed) (state : RegState) (rows : ℕ) → u.changes ≡ changes ++ placed ∷ more → state ≡ state_of now → rows ≡ rows_put u.head.seq placed reg state → rows_captured u.head.seq longer server ≡ rows_captured u.head.seq changes server + rows
      counted next more state rows split state_is rows_is =
          ap (count longer) at.split
          ∙ counts_push u.head.seq changes placed at.front at.table at.back at.registered at.has at.before at.behind at.own
          ∙ (λ i. count changes (sym at.split i) + sym put i)
        where
          count : List Placed → List ServerTable → ℕ
          count some ts = sum_by (count_of u.head.seq some) (registered_in ts)

          put : rows ≡ cond at.registered.active (length (rows_of at.registered.reg u.head.seq placed.pos placed.change)) 0
          put =
              rows_is
              ∙ (λ i. rows_put u.head.seq placed (at.is i) (state_is i))
              ∙ count_put u.head.seq server.captured placed.pos placed.change at.registered now next.stands.above (numbers_low next).0 (numbers_low next).1 (plain_unit u changes placed more at.registered next.signals split)

-- a unit goes on
pub unit_goes_on : UnitGoesOn
unit_goes_on world server u changes placed more rows c d next split part captures = pick captures
  where
    facts : NextOf server u
    facts = next_of world server u next

    keeps : ServerKeepsRules world server
    keeps = at_one (ServerKeepsRules world) world server next.sound.definitions.servers next.in_world

    -- what is stored under the name of the change's table
    stored : c areas.Defs 1 (short_text (table_of placed.change)) ≡ definition_table server 1 (short_text (table_of placed.change))
    stored = ap (λ (t : Table). t (short_text (table_of placed.change))) part.registrations

    pick : CapturesChange u.head.seq placed rows c d → HasPart server u (changes ++ placed ∷ []) d × (rows_captured u.head.seq (changes ++ placed ∷ []) server ≡ rows_captured u.head.seq changes server + rows)
    pick (inl (none, same, zero_rows)) =
        let all = unregistered world server keeps (table_of placed.change) (sym stored ∙ none) in
        (subst (HasPart server u (changes ++ placed ∷ [])) (sym same) (goes_on_unregistered server u changes placed c part all), omega (arith, counts_stay u.head.seq changes placed server.tables all, zero_rows))
    pick (inr (reg, state, is, d_is, rows_is)) =
        let at = registered_at world server keeps (table_of placed.change) reg is.fits (sym stored ∙ is.has) in
        let state_is = state_read server u changes placed c part reg at facts state is in
        (goes_on_registered server u changes placed c part reg at facts more state d split state_is d_is, counted server u changes placed c part reg at facts more state rows split state_is rows_is)
