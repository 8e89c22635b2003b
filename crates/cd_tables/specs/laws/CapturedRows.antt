-- The tables of contents that have what a server captured.
use Rattle.std.proofs.Common.{◌≡◌, ℕ, Bool, true, false, ◌&&◌, List, [], ◌∷◌, map, refl, sym, ap, ◌∙◌, max, nat_lt, nat_le, filter, Option, Some, None, slice_get}
use Rattle.std.specs.Option.{option_map, option_map_or, option_and_then}
use Rattle.world_store.specs.Words.{change_row_spelling, change_key_spelling, UowRow, table_from_rows}
use Rattle.site_store.specs.Words.{Contents, Table}
use Rattle.repl_model.specs.Words.{units_between, units, Registered, Server, ServerTable, filter_alike, filter_images}
use Rattle.repl_types.specs.declared.unit.Unit.{Unit as LogUnit}
use Rattle.stored_commits.specs.units.StoredCaptures.{HasCaptured}
use Rattle.cd_tables.specs.Captured.{shown_head, unit_row, captured_units, next_captured, captured_changes}
use Rattle.cd_tables.specs.Finding.{first_unit}
use Rattle.cd_tables.specs.laws.InOrder.{all_always, filter_and}
use Rattle.cd_tables.specs.StoredRows.{first_of, HasChangeRows, HasUnitRows, head_of}
use Rattle.stored_commits.specs.laws.RowsSoFar.{below_higher}

-- the captured units stand in the unit-of-work table
pub has_units : (server : Server) (c : Contents) → HasCaptured server c → HasUnitRows (captured_units server) c
has_units server c has = has.units

-- the captured change rows of a registration stand in the table of its number
pub has_changes : (server : Server) (c : Contents) → HasCaptured server c → (n : ℕ) (t : ServerTable) (r : Registered) → slice_get server.tables n ≡ Some t → t.registered ≡ Some r → HasChangeRows n (captured_changes server r) c
has_changes server c has n t r at is = has.changes n ∙ ap (λ (o : Option ServerTable). option_map_or stored (option_and_then (λ (u : ServerTable). u.registered) o) (λ k. None)) at ∙ ap (λ (o : Option Registered). option_map_or stored o (λ k. None)) is
  where
    stored : Registered → Table
    stored q = table_from_rows change_key_spelling change_row_spelling (captured_changes server q)

-- the first image is that of the first
first_image : {X Y : Type 0} (f : X → Y) (xs : List X) → first_of (map f xs) ≡ option_map f (first_of xs)
first_image f [] = refl
first_image f (x ∷ xs) = refl

-- the first of the captured units above a seq is the next one
pub first_captured : (after : ℕ) (server : Server) → first_unit after (captured_units server) ≡ next_captured after server
first_captured after server =
    ap (λ (l : List (ℕ × UowRow)). option_map head_of (first_of l)) (filter_images (unit_row server) (λ r. nat_lt after r.0) there)
    ∙ ap (option_map head_of) (first_image (unit_row server) (filter (λ u. nat_lt after u.head.seq) there))
    ∙ heads (first_of (filter (λ u. nat_lt after u.head.seq) there))
    ∙ ap (λ (l : List LogUnit). option_map (shown_head server) (first_of l)) (sym (filter_and within (λ u. nat_lt after u.head.seq) (units server.log)) ∙ filter_alike (λ u. within u && nat_lt after u.head.seq) next (units server.log) (all_always (λ u. (within u && nat_lt after u.head.seq) ≡ next u) alike (units server.log)))
  where
    there : List LogUnit
    there = units_between server.floor server.captured server.log

    within : LogUnit → Bool
    within u = nat_lt server.floor u.head.seq && nat_le u.head.seq server.captured

    next : LogUnit → Bool
    next u = nat_lt (max after server.floor) u.head.seq && nat_le u.head.seq server.captured

    heads : (o : Option LogUnit) → option_map head_of (option_map (unit_row server) o) ≡ option_map (shown_head server) o
    heads None = refl
    heads (Some u) = refl

    moved : (f l a : Bool) → ((f && l) && a) ≡ ((a && f) && l)
    moved true true true = refl
    moved true true false = refl
    moved true false true = refl
    moved true false false = refl
    moved false l true = refl
    moved false l false = refl

    alike : (u : LogUnit) → (within u && nat_lt after u.head.seq) ≡ next u
    alike u = moved (nat_lt server.floor u.head.seq) (nat_le u.head.seq server.captured) (nat_lt after u.head.seq) ∙ ap (λ (b : Bool). b && nat_le u.head.seq server.captured) (sym (below_higher after server.floor u.head.seq))
