-- The lines that `status` of a server gives before the last one.
use Rattle.std.specs.Prelude.{ℕ, Bool, true, false, codes, List, [], ◌∷◌, ◌++◌}
use Rattle.repl_types.specs.declared.record.SetId.{SetId}
use Rattle.repl_records.specs.declared.capture.RegState.{RegState}
use Rattle.repl_records.specs.declared.prune.SyncMark.{SyncMark}
use Rattle.reply_text.specs.Lines.{whole_line, position_text, set_text}

-- since when a registration is active, or that it isn't
abbrev pub active_parts : Bool → ℕ → List (List ℕ)
active_parts true start = codes "active" ∷ position_text start ∷ []
active_parts false start = codes "inactive" ∷ []

-- the line of a table's registration
abbrev pub registration_line : List ℕ → RegState → List ℕ
registration_line table state = whole_line (codes "reg" ∷ table ∷ active_parts state.active state.start ++ position_text state.floor ∷ [])

-- the line of a set at its source
abbrev pub source_set_line : SetId → SyncMark → List ℕ
source_set_line set known = whole_line (codes "set" ∷ set_text set ∷ codes "mark" ∷ position_text known.mark ∷ codes "signal" ∷ position_text known.signal ∷ [])
