-- Sources and sinks in memory.
use Rattle.std.specs.Prelude.{ℕ, min, if◌then◌else◌, List, ◌++◌, length, take, drop}
use Rattle.keep_map.specs.Planned.{Planned, fails_next, after_call}

-- a source: the bytes that are left, and the plan of its reads
pub record SourceBytes : Type 0 where
  pub left : List ℕ
  pub plan : Planned

-- how many bytes the next read moves: as many as are left and fit, and none if it is to fail
abbrev pub moved_count : SourceBytes → ℕ → ℕ
moved_count s room = if fails_next s.plan then 0 else min room (length s.left)

-- the buffer after that read: it begins with the bytes moved, and the rest is as before
abbrev pub buffer_after : SourceBytes → List ℕ → List ℕ
buffer_after s buffer = let count = moved_count s (length buffer) in take count s.left ++ drop count buffer

-- the source after that read
abbrev pub source_after : SourceBytes → ℕ → SourceBytes
source_after s room = record { left = drop (moved_count s room) s.left; plan = after_call s.plan }

-- a sink: the bytes that it took, and the plan of its writes
pub record SinkBytes : Type 0 where
  pub taken : List ℕ
  pub plan : Planned

-- the sink after its next write took a piece
abbrev pub sink_after : SinkBytes → List ℕ → SinkBytes
sink_after s piece = record { taken = s.taken ++ piece; plan = after_call s.plan }
