-- The places of rows, and the value at each place.
use Rattle.std.specs.Prelude.{ℕ, Bool, List, Option, if◌then◌else◌}
use Rattle.std.specs.Ordering.{is_eq, nat_cmp, ordering_then}
use Rattle.std.specs.declared.cmp.Ordering.{Ordering}
use Rattle.repl_types.specs.Area.{area_number}
use Rattle.repl_types.specs.Bytes.{bytes_cmp}
use Rattle.keep_core.specs.Contents.{Contents}

-- the place of a row: the number of its area, its table and its key
abbrev pub Place : Type 0
Place = ℕ × ℕ × List ℕ

-- the order of places: by areas, then by tables, then by keys
abbrev pub place_cmp : Place → Place → Ordering
place_cmp x y = ordering_then (nat_cmp x.0 y.0) (ordering_then (nat_cmp x.1 y.1) (bytes_cmp x.2 y.2))

-- two places are the same
abbrev pub same_place : Place → Place → Bool
same_place x y = is_eq (place_cmp x y)

-- the value at each place, if there is one
abbrev pub Values : Type 0
Values = Place → Option (List ℕ)

-- the values, with the one at a place set or removed
abbrev pub put_value : Values → Place → Option (List ℕ) → Values
put_value f at value p = if same_place at p then value else f p

-- the contents with these values
abbrev pub contents_of : Values → Contents
contents_of f a t k = f (area_number a, t, k)
