-- What one change makes of stored tables, where its registration stands.
use Rattle.std.proofs.Common.{◌≡◌, ◌≢◌, ℕ, ◌<◌, Bool, true, false, cond, ◌&&◌, not, List, [], ◌++◌, refl, sym, ap, subst, ◌∙◌, append-nil, append_assoc, Some, bytes_eq}
use Rattle.std.proofs.lemmas.Bool.{eq-eqb, and_right, and_from}
use Rattle.world_store.specs.Words.{b32, change_key_spelling, change_row_spelling, registration_state_spelling, CdKey, RegState, ChangeRow, table_from_rows, differ_numbers, no_rows}
use Rattle.repl_model.specs.Words.{Change, CdRow, Registration, table_of, rows_of, Registered, Server}
use Rattle.repl_types.specs.declared.area.Area.TheVariants as areas
use Rattle.repl_types.specs.declared.record.Change.TheVariants.{Insert, Update, Delete, Start, Stop}
use Rattle.keep_core.specs.Contents.{Contents, Table, set_key}
use Rattle.world_commits.specs.captures.Captures.{registered_after_change}
use Rattle.stored_commits.specs.units.StoredChanges.{with_change_rows, cleared, with_cleared, is_captured, with_state, started, stopped, with_change}
use Rattle.stored_commits.specs.laws.EmptyKeys.{rows_keyed, cleared_empty}
use Rattle.stored_commits.specs.laws.CapturedPuts.{stored_rows, FollowInTurn, rows_put, other_tables, other_areas}
use Rattle.stored_commits.specs.laws.Registrations.{state_of}
use Rattle.stored_commits.specs.laws.RowsSoFar.{rows_with, earlier_rows, rows_captured_so, rows_not_captured, rows_inactive, rows_started}
use Rattle.stored_commits.specs.laws.StatesOfUnits.{put_again}

-- the stored table of change rows with their keys
abbrev pub keyed_table : List (CdKey × ChangeRow) → Table
keyed_table rows = table_from_rows change_key_spelling change_row_spelling rows

-- What a change makes of contents, where its registration has a number: the registration gets these change rows
-- and this state, and all else that capture keeps stays.
pub record ChangesAt (number : ℕ) (rows : List (CdKey × ChangeRow)) (now : Registered) (c d : Contents) : Type 0 where
  pub own : d areas.Cd number ≡ keyed_table rows
  pub others : (n : ℕ) → number ≢ n → d areas.Cd n ≡ c areas.Cd n
  pub states : d areas.Capture 1 ≡ set_key (c areas.Capture 1) (b32 number) (Some (registration_state_spelling (state_of now)))
  pub units : d areas.Uow 0 ≡ c areas.Uow 0
  pub registrations : d areas.Defs 1 ≡ c areas.Defs 1

-- The contents have these change rows and this state of a registration with a number.
pub record HasRows (server : Server) (seq number : ℕ) (reg : Registration) (now : Registered) (rows : List CdRow) (c : Contents) : Type 0 where
  pub table : c areas.Cd number ≡ keyed_table (rows_with server seq reg now rows)
  pub state : c areas.Capture 1 (b32 number) ≡ Some (registration_state_spelling (state_of now))

module _ (server : Server) (seq : ℕ) (lt : server.captured < seq) (number : ℕ) (reg : Registration) (now : Registered) (rows : List CdRow) (c : Contents) (has : HasRows server seq number reg now rows c) where
  -- the registration is so after a change, with these rows of the unit
  abbrev pub IsThen : Registered → List CdRow → Contents → Type 0
  IsThen after xs d = ChangesAt number (rows_with server seq reg after xs) after c d

  -- the same of an equal registration and of equal contents
  same_then : (xs : List CdRow) (after other : Registered) (d e : Contents) → other ≡ after → e ≡ d → IsThen after xs d → IsThen other xs e
  same_then xs after other d e is_after is_d then = subst (IsThen other xs) (sym is_d) (subst (λ (r : Registered). IsThen r xs d) (sym is_after) then)

  -- contents that stay
  unchanged : (xs : List CdRow) (after : Registered) → rows_with server seq reg now rows ≡ rows_with server seq reg after xs → state_of now ≡ state_of after → IsThen after xs c
  unchanged xs after same state = record {
    own = has.table ∙ ap keyed_table same;
    others = λ n ne. refl;
    states = sym (put_again (c areas.Capture 1) (b32 number) (Some (registration_state_spelling (state_of after))) (has.state ∙ ap (λ (s : RegState). Some (registration_state_spelling s)) state));
    units = refl;
    registrations = refl;
  }

  -- ---- rows

  -- the rows of a change are put if they are captured
  rows_made : (new : List CdRow) → FollowInTurn (earlier_rows server reg now ++ rows) new → IsThen now (rows ++ new) (cond (is_captured seq (state_of now)) (with_change_rows number new c) c)
  rows_made new follow = pick (is_captured seq (state_of now)) refl
    where
      pick : (t : Bool) → is_captured seq (state_of now) ≡ t → IsThen now (rows ++ new) (cond t (with_change_rows number new c) c)
      pick true e =
          let earlier : List CdRow = earlier_rows server reg now in
          record {
            own =
                rows_put number new (earlier ++ rows) c (has.table ∙ ap keyed_table (rows_captured_so server seq reg now rows e)) follow
                ∙ ap stored_rows (append_assoc earlier rows new)
                ∙ sym (ap keyed_table (rows_captured_so server seq reg now (rows ++ new) e));
            others = λ n ne. other_tables number n new c ne;
            states = other_areas number 1 areas.Capture new c refl ∙ sym (put_again (c areas.Capture 1) (b32 number) (Some (registration_state_spelling (state_of now))) has.state);
            units = other_areas number 0 areas.Uow new c refl;
            registrations = other_areas number 1 areas.Defs new c refl;
          }
      pick false e = unchanged (rows ++ new) now (rows_not_captured server seq reg now rows (rows ++ new) e) refl

  -- ---- signals

  -- a start makes the registration active, unless it is
  start_made : (table : List ℕ) (xs : List CdRow) → bytes_eq table now.reg.table ≡ true → rows_with server seq reg now rows ≡ rows_with server seq reg now xs
      → IsThen (registered_after_change seq now (Start table)) xs (started seq number (state_of now) c)
  start_made table xs own same = pick now.active refl
    where
      after : Registered
      after = record now { active = true; start = seq }

      with_start : Contents
      with_start = with_state number (record { active = true; start = seq; floor = now.floor }) c

      tests : Bool
      tests = bytes_eq table now.reg.table && not now.active

      pick : (t : Bool) → now.active ≡ t → IsThen (registered_after_change seq now (Start table)) xs (cond now.active c with_start)
      pick true e = same_then xs now (cond tests after now) c (cond now.active c with_start) (ap (λ (t : Bool). cond t after now) (and_right (bytes_eq table now.reg.table) (not now.active) (ap not e))) (ap (λ (t : Bool). cond t c with_start) e) (unchanged xs now same refl)
      pick false e = same_then xs after (cond tests after now) with_start (cond now.active c with_start) (ap (λ (t : Bool). cond t after now) (and_from (bytes_eq table now.reg.table) (not now.active) own (ap not e))) (ap (λ (t : Bool). cond t c with_start) e)
          (record {
            own = has.table ∙ ap keyed_table (rows_inactive server seq reg now rows e ∙ sym (rows_started server seq reg after xs lt refl));
            others = λ n ne. refl;
            states = refl;
            units = refl;
            registrations = refl;
          })

  -- a stop makes it inactive, and empties its table
  stop_made : (table : List ℕ) (xs : List CdRow) → bytes_eq table now.reg.table ≡ true → IsThen (registered_after_change seq now (Stop table)) xs (stopped number (state_of now) c)
  stop_made table xs own = pick now.active refl
    where
      after : Registered
      after = record now { active = false }

      with_stop : Contents
      with_stop = with_cleared number (with_state number (record (state_of now) { active = false }) c)

      is_after : cond (bytes_eq table now.reg.table) after now ≡ after
      is_after = ap (λ (t : Bool). cond t after now) own

      emptied : cleared (c areas.Cd number) ≡ no_rows
      emptied = cleared_empty (c areas.Cd number) (ap (λ (t : Table). t []) has.table ∙ rows_keyed (rows_with server seq reg now rows))

      pick : (t : Bool) → now.active ≡ t → IsThen (registered_after_change seq now (Stop table)) xs (cond now.active with_stop c)
      pick true e = same_then xs after (cond (bytes_eq table now.reg.table) after now) with_stop (cond now.active with_stop c) is_after (ap (λ (t : Bool). cond t with_stop c) e)
          (record {
            own = ap (λ (t : Bool). cond t (cleared (c areas.Cd number)) (c areas.Cd number)) (eq-eqb number number refl) ∙ emptied ∙ sym (ap keyed_table (rows_inactive server seq reg after xs refl));
            others = λ n ne. ap (λ (t : Bool). cond t (cleared (c areas.Cd number)) (c areas.Cd n)) (differ_numbers number n ne);
            states = refl;
            units = refl;
            registrations = refl;
          })
      pick false e = same_then xs after (cond (bytes_eq table now.reg.table) after now) c (cond now.active with_stop c) is_after (ap (λ (t : Bool). cond t with_stop c) e)
          (unchanged xs after (rows_inactive server seq reg now rows e ∙ sym (rows_inactive server seq reg after xs refl)) (ap (λ (t : Bool). record { active = t; start = now.start; floor = now.floor }) e))

  -- ---- any change

  -- what a change of the registration's table makes
  pub change_made : (pos : ℕ) (change : Change) → bytes_eq (table_of change) now.reg.table ≡ true → FollowInTurn (earlier_rows server reg now ++ rows) (rows_of reg seq pos change)
      → IsThen (registered_after_change seq now change) (rows ++ rows_of reg seq pos change) (with_change seq (record { pos = pos; change = change }) (record { number = number; registration = reg }) (state_of now) c)
  change_made pos (Insert table row) own follow = rows_made (rows_of reg seq pos (Insert table row)) follow
  change_made pos (Update table before after) own follow = rows_made (rows_of reg seq pos (Update table before after)) follow
  change_made pos (Delete table row) own follow = rows_made (rows_of reg seq pos (Delete table row)) follow
  change_made pos (Start table) own follow = start_made table (rows ++ []) own (ap (rows_with server seq reg now) (sym (append-nil rows)))
  change_made pos (Stop table) own follow = stop_made table (rows ++ []) own
