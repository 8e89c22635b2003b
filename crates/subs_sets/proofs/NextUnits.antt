-- The first captured unit after a point, by the row that was read.
use Rattle.std.proofs.Common.{◌≡◌, ℕ, ◌<◌, ◌≤◌, ◌^◌, Bool, List, [], ◌∷◌, ◌++◌, map, filter, cond, refl, sym, ap, ap₂, subst, ◌∙◌, arith, Option, Some, None, IfSome, nat_lt, lt-ltb, le-ltb}
use Rattle.std.specs.List.{AllByRecursion}
use Rattle.world_store.specs.Words.{Is64, b64, one_whole, uow_spelling, IsUow, UowRow, one_uow, table_from_rows, AllBelow, NoneAbove, read_next, read_last, uow_rows, Reveals}
use Rattle.site_store.specs.Words.{Contents, IsNextKey, IsLastKey, Table, NextRowIs, numbers_in_order}
use Rattle.repl_model.specs.Words.{all_weaker, IsSound, log_limit, Server, World, KnownSet, at_place_in, In, each_image}
use Rattle.repl_types.specs.declared.area.Area.TheVariants as areas
use Rattle.repl_types.specs.declared.unit.Unit.{Unit as LogUnit}
use Rattle.set_places.specs.declared.placed_set.PlacedSet.{PlacedSet}
use Rattle.set_places.specs.Places.{IsPlacedAs}
use Rattle.subs_sets.specs.Cuts.{captured_after, first_unit}
use Rattle.subs_sets.specs.laws.Captured.{holds_units}
use Rattle.subs_sets.specs.laws.UnitRows.{unit_row, captured_units, captured_rise, captured_fit, rows_rise}

-- a unit stands after a point
abbrev is_past : ℕ → LogUnit → Bool
is_past point u = nat_lt point u.head.seq

-- lists that are equal begin with the same
head_of : {X : Type 0} (a b : X) (xs ys : List X) → ◌≡◌ {A = List X} (a ∷ xs) (b ∷ ys) → a ≡ b
head_of a b xs ys e = cc

-- and go on with the same
tail_of : {X : Type 0} (a b : X) (xs ys : List X) → ◌≡◌ {A = List X} (a ∷ xs) (b ∷ ys) → xs ≡ ys
tail_of a b xs ys e = cc

-- the first unit after a point is the one whose row is the first above it
next_from : (server : Server) (point : ℕ) (us : List LogUnit) (front back : List (ℕ × UowRow)) (row : ℕ × UowRow) → map (unit_row server) us ≡ front ++ row ∷ back → NoneAbove point front → point < row.0 → Some (row.0, row.1.time) ≡ first_unit (filter (is_past point) us)
next_from server point [] [] back row split passed above = absurd cc
next_from server point [] (f ∷ front) back row split passed above = absurd cc
next_from server point (u ∷ us) [] back row split passed above =
    let same : unit_row server u ≡ row = head_of (unit_row server u) row (map (unit_row server) us) back split in
    ap (λ (r : ℕ × UowRow). Some (r.0, r.1.time)) (sym same)
    ∙ ap (λ (b : Bool). first_unit (cond b (u ∷ filter (is_past point) us) (filter (is_past point) us))) (sym (lt-ltb point u.head.seq (subst (λ (r : ℕ × UowRow). point < r.0) (sym same) above)))
next_from server point (u ∷ us) (f ∷ front) back row split passed above =
    let same : unit_row server u ≡ f = head_of (unit_row server u) f (map (unit_row server) us) (front ++ row ∷ back) split in
    next_from server point us front back row (tail_of (unit_row server u) f (map (unit_row server) us) (front ++ row ∷ back) split) passed.1 above
    ∙ ap (λ (b : Bool). first_unit (cond b (u ∷ filter (is_past point) us) (filter (is_past point) us))) (sym (le-ltb point u.head.seq (subst (λ (r : ℕ × UowRow). r.0 ≤ point) (sym same) passed.0)))

-- no unit stands after a point if no row is above it
none_from : (server : Server) (point : ℕ) (us : List LogUnit) → NoneAbove point (map (unit_row server) us) → None ≡ first_unit (filter (is_past point) us)
none_from server point [] none = refl
none_from server point (u ∷ us) none = none_from server point us none.1 ∙ ap (λ (b : Bool). first_unit (cond b (u ∷ filter (is_past point) us) (filter (is_past point) us))) (sym (le-ltb point u.head.seq none.0))

module _ (w : World) (k : KnownSet) (set : PlacedSet) (saw : Option Contents) (point : ℕ) (small : Is64 point) (sound : IsSound w) (placed : IsPlacedAs w k set) (reveals : Reveals w k.source saw) where
  -- the source is a server of the world
  i : In k.source w
  i = at_place_in w set.source k.source placed.source

  -- the units that it has captured above its floor
  abbrev units : List LogUnit
  units = captured_units k.source

  -- their seqs have eight bytes
  below : AllBelow (2 ^ 64) (map (unit_row k.source) units)
  below = each_image (λ (r : ℕ × UowRow). r.0 < 2 ^ 64) (unit_row k.source) units (all_weaker (λ (u : LogUnit). (u.head.seq ≤ log_limit) × IsUow (unit_row k.source u).1) (λ u. u.head.seq < 2 ^ 64) units (λ u h. omega (arith, h.0)) (captured_fit w k.source sound i))

  -- the row that was read is that of the first unit after the point
  pub unit_read : (seq : ℕ) (row : UowRow) → Is64 seq → IsUow row → IfSome saw (NextRowIs b64 uow_spelling areas.Uow 0 (b64 point) (Some (seq, row))) → Some (seq, row.time) ≡ first_unit (captured_after point k.source)
  unit_read seq row seq_small fits read =
      let next : IsNextKey (reveals.0 areas.Uow 0) (b64 point) (b64 seq) (uow_spelling row) = subst (λ (o : Option Contents). IfSome o (NextRowIs b64 uow_spelling areas.Uow 0 (b64 point) (Some (seq, row)))) reveals.1 read in
      let there : IsNextKey (table_from_rows b64 uow_spelling (uow_rows k.source)) (b64 point) (b64 seq) (uow_spelling row) = subst (λ (t : Table). IsNextKey t (b64 point) (b64 seq) (uow_spelling row)) (holds_units w k.source sound i reveals.0 reveals.2) next in
      let n = read_next b64 (2 ^ 64) numbers_in_order uow_spelling point (map (unit_row k.source) units) (seq, row) small seq_small below (rows_rise k.source 0 units (captured_rise w k.source sound i)) apart there in
      next_from k.source point units n.front n.back (seq, row) n.split n.passed n.above
    where
      apart : AllByRecursion (λ (r : ℕ × UowRow). r.0 ≡ seq → uow_spelling r.1 ≡ uow_spelling row → r ≡ (seq, row)) (map (unit_row k.source) units)
      apart = each_image (λ (r : ℕ × UowRow). r.0 ≡ seq → uow_spelling r.1 ≡ uow_spelling row → r ≡ (seq, row)) (unit_row k.source) units (all_weaker (λ (u : LogUnit). (u.head.seq ≤ log_limit) × IsUow (unit_row k.source u).1) (λ u. u.head.seq ≡ seq → uow_spelling (unit_row k.source u).1 ≡ uow_spelling row → unit_row k.source u ≡ (seq, row)) units (λ u h same spelled. ap₂ (λ (n : ℕ) (r : UowRow). (n, r)) same (one_whole IsUow uow_spelling one_uow (unit_row k.source u).1 row h.1 fits spelled)) (captured_fit w k.source sound i))

  -- if none was read, there is none
  pub none_read : IfSome saw (NextRowIs {X = UowRow} b64 uow_spelling areas.Uow 0 (b64 point) None) → None ≡ first_unit (captured_after point k.source)
  none_read read =
      let last : IsLastKey (reveals.0 areas.Uow 0) (b64 point) = subst (λ (o : Option Contents). IfSome o (NextRowIs {X = UowRow} b64 uow_spelling areas.Uow 0 (b64 point) None)) reveals.1 read in
      let there : IsLastKey (table_from_rows b64 uow_spelling (uow_rows k.source)) (b64 point) = subst (λ (t : Table). IsLastKey t (b64 point)) (holds_units w k.source sound i reveals.0 reveals.2) last in
      none_from k.source point units (read_last b64 (2 ^ 64) numbers_in_order uow_spelling point (map (unit_row k.source) units) small below there)
