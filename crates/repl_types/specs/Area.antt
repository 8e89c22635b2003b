-- Areas by number.
use Rattle.std.specs.Prelude.{ℕ, Bool, ◌==◌}
use Rattle.repl_types.specs.declared.area.Area.{Area}
use Rattle.repl_types.specs.declared.area.Area.TheVariants as areas

-- the number of an area
abbrev pub area_number : Area → ℕ
area_number areas.Log = 1
area_number areas.Source = 2
area_number areas.Inflight = 3
area_number areas.Head = 4
area_number areas.Defs = 5
area_number areas.Cd = 6
area_number areas.Uow = 7
area_number areas.Capture = 8
area_number areas.Prune = 9
area_number areas.Spill = 10
area_number areas.Target = 11
area_number areas.SetState = 12
area_number areas.Trail = 13

-- one more than the highest number of an area
abbrev pub area_numbers_end : ℕ
area_numbers_end = 14

-- whether two areas are the same
abbrev pub same_area : Area → Area → Bool
same_area a b = area_number a == area_number b
