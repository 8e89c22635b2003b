-- The lines of steps, and of the entries that a trail keeps of them.
use Rattle.std.specs.Prelude.{ℕ, codes, List, [], ◌∷◌, ◌++◌, Option, Some, None, decimal}
use Rattle.repl_types.specs.declared.fault.Stepped.{Stepped}
use Rattle.repl_types.specs.declared.fault.Stepped.TheVariants as steps
use Rattle.repl_records.specs.declared.trail.TrailEntry.{TrailEntry}
use Rattle.repl_records.specs.declared.trail.TrailEntry.TheVariants as entries
use Rattle.reply_text.specs.Lines.{whole_line, position_text}

-- ---- what a line of a step and one of a trail share

-- a refresh at a point: how many rows were put
abbrev pub refresh_parts : ℕ → ℕ → List (List ℕ)
refresh_parts point rows = codes "refresh" ∷ position_text point ∷ codes "rows" ∷ decimal rows ∷ []

-- a block from a point to another: how many inserts, updates and deletes it has
abbrev pub block_parts : ℕ → ℕ → ℕ → ℕ → ℕ → List (List ℕ)
block_parts from to inserts updates deletes = codes "block" ∷ position_text from ∷ position_text to ∷ codes "insert" ∷ decimal inserts ∷ codes "update" ∷ decimal updates ∷ codes "delete" ∷ decimal deletes ∷ []

-- a load, after which master and replica agree at two points: how many rows were inserted
abbrev pub load_parts : ℕ → ℕ → ℕ → List (List ℕ)
load_parts m f rows = codes "load" ∷ position_text m ∷ position_text f ∷ codes "rows" ∷ decimal rows ∷ []

-- a settling, after which they agree at two points: how many units were rejected and how many applied
abbrev pub settle_parts : ℕ → ℕ → ℕ → ℕ → List (List ℕ)
settle_parts m f rejected applied = codes "settle" ∷ position_text m ∷ position_text f ∷ codes "rejected" ∷ decimal rejected ∷ codes "applied" ∷ decimal applied ∷ []

-- ---- steps

-- a decision, up to two points: how many units were accepted and how many rejected
abbrev pub decide_parts : ℕ → ℕ → ℕ → ℕ → List (List ℕ)
decide_parts t d accepted rejected = codes "decide" ∷ position_text t ∷ position_text d ∷ codes "accepted" ∷ decimal accepted ∷ codes "rejected" ∷ decimal rejected ∷ []

-- a step at the server of this name
abbrev pub step_parts : List ℕ → Stepped → List (List ℕ)
step_parts name (steps.Signal server seq) = codes "signal" ∷ name ∷ position_text seq ∷ []
step_parts name (steps.Refresh point rows) = refresh_parts point rows
step_parts name (steps.Block from to inserts updates deletes) = block_parts from to inserts updates deletes
step_parts name (steps.Report point) = codes "report" ∷ position_text point ∷ []
step_parts name (steps.Load m f rows) = load_parts m f rows
step_parts name (steps.Decide t d accepted rejected) = decide_parts t d accepted rejected
step_parts name (steps.Settle m f rejected applied) = settle_parts m f rejected applied
step_parts name steps.Idle = codes "idle" ∷ []

-- the line of a step at the server of this name; only a signal's line has the name
abbrev pub step_line : List ℕ → Stepped → List ℕ
step_line name stepped = whole_line (codes "ok" ∷ step_parts name stepped)

-- ---- trails

-- the point of base aggregates, if some were read
abbrev pub base_parts : Option ℕ → List (List ℕ)
base_parts None = []
base_parts (Some base) = codes "base" ∷ position_text base ∷ []

-- an entry of a trail
abbrev pub entry_parts : TrailEntry → List (List ℕ)
entry_parts (entries.Refresh p rows base) = refresh_parts p rows ++ base_parts base
entry_parts (entries.Block from to inserts updates deletes base) = block_parts from to inserts updates deletes ++ base_parts base
entry_parts (entries.Load m f rows) = load_parts m f rows
entry_parts (entries.Settle m f rejected applied) = settle_parts m f rejected applied

-- the line of an entry with its number
abbrev pub trail_line : ℕ → TrailEntry → List ℕ
trail_line number entry = whole_line (codes "row" ∷ decimal number ∷ entry_parts entry)
