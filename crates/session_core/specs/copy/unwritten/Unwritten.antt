-- Parts of a run whose lines aren't written where they happen.
use Rattle.std.specs.Prelude.{List, [], ◌∷◌}
use Rattle.run_core.specs.Runs.{Event, commits, writes, refuses}

-- some events without their lines
abbrev pub unwritten : {W : Type 0} → List (Event W) → List (Event W)
unwritten [] = []
unwritten (commits v ∷ events) = commits v ∷ unwritten events
unwritten (writes line ∷ events) = unwritten events
unwritten (refuses line ∷ events) = unwritten events

-- of some events those that refuse something
abbrev pub refusals_in : {W : Type 0} → List (Event W) → List (Event W)
refusals_in [] = []
refusals_in (commits v ∷ events) = refusals_in events
refusals_in (writes line ∷ events) = refusals_in events
refusals_in (refuses line ∷ events) = refuses line ∷ refusals_in events
