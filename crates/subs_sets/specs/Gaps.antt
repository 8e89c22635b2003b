-- What an answer about gaps means.
use Rattle.std.specs.Prelude.{◌≡◌, ℕ, List, [], ◌∷◌, Option, Some, None, slice_get}
use Rattle.std.specs.Option.{option_map}
use Rattle.repl_types.specs.declared.change_row.Registration.{Registration}
use Rattle.repl_definitions.specs.declared.member.Member.{Member}
use Rattle.repl_records.specs.declared.capture.RegState.{RegState}
use Rattle.repl_model.specs.NextActions as model
use Rattle.repl_model.specs.World.{Registered, KnownSet}
use Rattle.subs_sets.specs.declared.gaps.Gap.{Gap}

-- a registration in a state
abbrev pub registered_in : Registration → RegState → Registered
registered_in reg state = record { reg = reg; active = state.active; start = state.start; floor = state.floor }

-- the gap that was found
abbrev pub gap_of_found : Option Gap → Option model.Gap
gap_of_found found = option_map (λ gap. record { place = gap.place; disabled = gap.disabled }) found

-- what follows for the member of a set at a place
abbrev pub AtMember : KnownSet → ℕ → (Member → Type 0) → Type 0
AtMember k place P = (member : Member) → slice_get k.at_source.def.members place ≡ Some member → P member

-- the first of some gaps, if there is one
abbrev pub first_of : List model.Gap → Option model.Gap
first_of [] = None
first_of (gap ∷ rest) = Some gap
