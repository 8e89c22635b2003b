-- The spellings of what pruning and deciding keep at a source.
use Rattle.std.specs.Prelude.{ℕ, ◌≤◌, List, ◌++◌}
use Rattle.repl_records.specs.Capture.{IsCode}
use Rattle.repl_records.specs.declared.prune.SyncMark.{SyncMark}
use Rattle.repl_records.specs.declared.prune.Decided.{Decided}
use Rattle.repl_records.specs.declared.prune.RejectedUnit.{RejectedUnit}
use Rattle.row_codec.specs.Spelling.{Is64, b8, b64}

-- what the source of a set knows of it: the mark and the last signal
abbrev pub mark_spelling : SyncMark → List ℕ
mark_spelling r = b64 r.mark ++ b64 r.signal

-- the marks of sets whose numbers have eight bytes
abbrev pub IsMark : SyncMark → Type 0
IsMark r = Is64 r.mark × Is64 r.signal

-- how far a master has decided the replica's units, and its own
abbrev pub decided_spelling : Decided → List ℕ
decided_spelling r = b64 r.t ++ b64 r.d

-- the states of masters whose numbers have eight bytes
abbrev pub IsDecided : Decided → Type 0
IsDecided r = Is64 r.t × Is64 r.d

-- the record of a rejected unit: its code
abbrev pub rejected_spelling : RejectedUnit → List ℕ
rejected_spelling r = b8 r.code

-- the rejected units whose code is a valid code other than 0
abbrev pub IsRejected : RejectedUnit → Type 0
IsRejected r = (1 ≤ r.code) × IsCode r.code
