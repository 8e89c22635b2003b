use Rattle.std.proofs.Common.{◌≡◌, drop, false}
use Rattle.std.specs.List.{list_all}
use Rattle.std.specs.Option.{option_map_or}
use Rattle.repl_model.specs.Words.{is_among}
use Rattle.spelled_defs.specs.Spelled.{column_place}
use Rattle.checked_defs.proofs.registrations.are_placed.Given as goal

abbrev pub invariant-names : goal.invariant-names
invariant-names l =
    list_all (λ name. option_map_or (is_among l.places) (column_place l.def.columns name) false) (drop l.name-index l.names) ≡ list_all (λ name. option_map_or (is_among l.places) (column_place l.def.columns name) false) l.names
