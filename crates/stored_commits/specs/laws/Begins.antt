-- A unit begins with its row in the unit-of-work table.
use Rattle.std.proofs.Common.{◌≡◌, ℕ, ◌≤◌, ◌<◌, ◌^◌, Bool, true, false, cond, ◌&&◌, List, [], ◌∷◌, ◌++◌, map, Option, Some, None, refl, sym, ap, ◌∙◌, arith, append-nil, max, nat_lt, nat_le, slice_get, filter}
use Rattle.std.specs.Option.{option_map_or, option_and_then}
use Rattle.std.proofs.lemmas.Bool.{lt-ltb, leb-true, and_parts}
use Rattle.std.proofs.lemmas.Iterator.Adapters.{option_map_id}
use Rattle.std.proofs.lemmas.List.{map-append}
use Rattle.world_store.specs.Words.{Is64, b64, whole_order, order64, uow_spelling, UowRow, table_from_rows, AllBefore, SpellsInOrder, all_before, table_push, change_rows_of, uow_rows, no_rows}
use Rattle.repl_model.specs.Words.{CdRow, Unit, all_weaker, units, units_between, Registered, ServerTable, Server, code_in, at_each, each_image, in_filter}
use Rattle.keep_core.specs.Contents.{Table, set_key}
use Rattle.world_commits.specs.captures.Captures.{with_registration, with_unit}
use Rattle.stored_commits.specs.units.StoredChanges.{stored_change}
use Rattle.stored_commits.specs.units.StoredCaptures.{rows_so_far, UnitBegins}
use Rattle.stored_commits.specs.laws.CapturedUnits.{NextOf, next_of, units_to_next, no_code}
use Rattle.stored_commits.specs.laws.CapturedChange.{keyed_table}
use Rattle.stored_commits.specs.laws.RowsSoFar.{earlier_rows}
use Rattle.stored_commits.specs.laws.StatesOfUnits.{states_from, states_table}

-- ---- the unit-of-work table

-- a unit's row with a code
abbrev uow_row : Unit → ℕ → ℕ × UowRow
uow_row u code = (u.head.seq, record { time = u.head.time; authid = u.head.authid; origin = u.head.origin; code = code })

-- spelled numbers lie in the order of the numbers
numbers_in_order : SpellsInOrder b64 (2 ^ 64)
numbers_in_order a b la lb = whole_order Is64 b64 _ order64 a b la lb

-- the unit's row is behind those of the units that are captured
uow_push : (server : Server) (u : Unit) → NextOf server u → uow_rows (with_unit u server) ≡ uow_rows server ++ uow_row u 0 ∷ []
uow_push server u next =
    let row = λ (v : Unit). uow_row v (code_in server.shown v.head.seq) in
    let earlier = units_between server.floor server.captured server.log in
    let lt : server.captured < u.head.seq = next.stands.above in
    ap (map row) (units_to_next server.captured server.floor u (units server.log) next.stands
    ∙ ap (λ (t : Bool). earlier ++ cond t (u ∷ []) []) (lt-ltb server.floor u.head.seq (omega (arith, next.numbers.floor, lt))))
    ∙ map-append row earlier (u ∷ [])
    ∙ ap (λ (code : ℕ). map row earlier ++ uow_row u code ∷ []) (no_code server.shown u.head.seq (all_weaker (λ (s : ℕ × ℕ). (s.0 ≤ server.captured) × (0 < s.1) × (s.1 ≤ 4)) (λ s. s.0 < u.head.seq) server.shown (λ s h. omega (arith, h.0, lt)) next.numbers.shown))

-- these rows are under lower numbers
uow_before : (server : Server) (u : Unit) → NextOf server u → AllBefore b64 (b64 u.head.seq) (uow_rows server)
uow_before server u next =
    all_before b64 (2 ^ 64) numbers_in_order u.head.seq (uow_rows server) (omega (arith, next.short, next.within.seq))
    (each_image (λ (r : ℕ × UowRow). r.0 < u.head.seq) (λ (v : Unit). uow_row v (code_in server.shown v.head.seq)) (filter between (units server.log))
    (at_each (λ (v : Unit). v.head.seq < u.head.seq) (filter between (units server.log)) (λ v i. below v (in_filter between (units server.log) v i).1)))
  where
    between : Unit → Bool
    between v = nat_lt server.floor v.head.seq && nat_le v.head.seq server.captured

    below : (v : Unit) → between v ≡ true → v.head.seq < u.head.seq
    below v e = omega (arith, next.stands.above, leb-true v.head.seq server.captured (and_parts (nat_lt server.floor v.head.seq) (nat_le v.head.seq server.captured) e).1)

-- ---- before any change

-- the change rows of a registration before any change of the unit
first_rows : (server : Server) (seq : ℕ) (r : Registered) → change_rows_of server r ≡ rows_so_far server seq [] r
first_rows server seq r = ap (λ (l : List CdRow). cond r.active (map stored_change l) []) (sym (none_more (nat_lt (max r.start r.floor) seq)))
  where
    none_more : (t : Bool) → earlier_rows server r.reg r ++ cond t [] [] ≡ earlier_rows server r.reg r
    none_more true = append-nil (earlier_rows server r.reg r)
    none_more false = append-nil (earlier_rows server r.reg r)

-- their table
first_table : (server : Server) (seq : ℕ) (o : Option Registered) → option_map_or (λ r. keyed_table (change_rows_of server r)) o no_rows ≡ option_map_or (λ r. keyed_table (rows_so_far server seq [] r)) o no_rows
first_table server seq None = refl
first_table server seq (Some r) = ap keyed_table (first_rows server seq r)

-- tables whose registrations stay
same_tables : (ts : List ServerTable) → ts ≡ map (with_registration (λ r. r)) ts
same_tables [] = refl
same_tables (t ∷ ts) = λ i. record t { registered = sym (option_map_id t.registered) i } ∷ same_tables ts i

-- a unit begins
pub unit_begins : UnitBegins
unit_begins world server u c next has =
    let facts = next_of world server u next in
    let row : ℕ × UowRow = uow_row u 0 in
    record {
      rows = λ n. has.changes n ∙ first_table server u.head.seq (option_and_then (λ (t : ServerTable). t.registered) (slice_get server.tables n));
      units = ap (λ (t : Table). set_key t (b64 u.head.seq) (Some (uow_spelling row.1))) has.units
          ∙ sym (table_push b64 uow_spelling (uow_rows server) row (uow_before server u facts))
          ∙ ap (table_from_rows b64 uow_spelling) (sym (uow_push server u facts));
      states = has.states ∙ ap (λ (ts : List ServerTable). states_table (states_from 0 ts)) (same_tables server.tables);
      registrations = has.registrations;
    }
