-- A run as the list of what it does: it commits worlds and writes lines.
use Rattle.std.specs.Prelude.{◌≡◌, ℕ, Bool, true, false, List, [], ◌∷◌, ◌++◌, Option}
use Rattle.keep_core.specs.Contents.{Contents}
use Rattle.keep_core.specs.Revealed.{Takes}

-- One thing that a run does: it commits a world, writes a line of a reply, or writes the line that refuses
-- what it was asked. What a world is, each program says.
pub data Event (W : Type 0) : Type 0 where
  commits : W → Event W
  writes : List ℕ → Event W
  refuses : List ℕ → Event W

-- the last world that was committed, or this one if none was
abbrev pub last_world : {W : Type 0} → W → List (Event W) → W
last_world w [] = w
last_world w (commits v ∷ events) = last_world v events
last_world w (writes line ∷ events) = last_world w events
last_world w (refuses line ∷ events) = last_world w events

-- the lines that were written, one after another
abbrev pub lines_of : {W : Type 0} → List (Event W) → List ℕ
lines_of [] = []
lines_of (commits w ∷ events) = lines_of events
lines_of (writes line ∷ events) = line ++ lines_of events
lines_of (refuses line ∷ events) = line ++ lines_of events

-- whether something was refused
abbrev pub is_refused : {W : Type 0} → List (Event W) → Bool
is_refused [] = false
is_refused (commits w ∷ events) = is_refused events
is_refused (writes line ∷ events) = is_refused events
is_refused (refuses line ∷ events) = true

-- the bytes are a prefix of the next line, or no bytes if no line comes next
abbrev pub IsPartOf : {W : Type 0} → List ℕ → List (Event W) → Type 0
IsPartOf part [] = part ≡ []
IsPartOf part (commits w ∷ events) = part ≡ []
IsPartOf part (writes line ∷ events) = (rest : List ℕ) × (line ≡ part ++ rest)
IsPartOf part (refuses line ∷ events) = (rest : List ℕ) × (line ≡ part ++ rest)

-- All events happened: what is held stands for the last world, and the sink took the lines.
pub record Went {W : Type 0} (Stands : List (Option Contents) → W → Type 0) (events : List (Event W)) (w : W) (held : List (Option Contents)) (before now : Option (List ℕ)) : Type 0 where
  pub stands : Stands held (last_world w events)
  pub bytes : Takes before now (lines_of events)

-- The first of the events happened, and of the next one at most a part of its line.
pub record Stopped {W : Type 0} (Stands : List (Option Contents) → W → Type 0) (events : List (Event W)) (w : W) (held : List (Option Contents)) (before now : Option (List ℕ)) : Type 0 where
  pub done : List (Event W)
  pub rest : List (Event W)
  pub part : List ℕ
  pub split : events ≡ done ++ rest
  pub stands : Stands held (last_world w done)
  pub bytes : Takes before now (lines_of done ++ part)
  pub is_part : IsPartOf part rest

-- The first of the events happened, and the others are those left from the world that they led to.
pub record Going {W : Type 0} (Stands : List (Option Contents) → W → Type 0) (events : List (Event W)) (w : W) (left : W → List (Event W)) (held : List (Option Contents)) (before now : Option (List ℕ)) : Type 0 where
  pub done : List (Event W)
  pub split : events ≡ done ++ left (last_world w done)
  pub stands : Stands held (last_world w done)
  pub bytes : Takes before now (lines_of done)
