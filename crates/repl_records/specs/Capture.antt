-- The spellings of what capture keeps at a source.
use Rattle.std.specs.Prelude.{ℕ, ◌≤◌, List, ◌++◌}
use Rattle.repl_records.specs.declared.capture.ChangeRow.{ChangeRow}
use Rattle.repl_records.specs.declared.capture.UowRow.{UowRow}
use Rattle.repl_records.specs.declared.capture.CaptureState.{CaptureState}
use Rattle.repl_records.specs.declared.capture.RegState.{RegState}
use Rattle.row_codec.specs.Spelling.{Is64, IsCounted, IsName, IsOrigin, IsRow, b8, b64, flag, short_text, op_spelling, origin, row_spelling}

-- a change row: the operation, and the images after and before
abbrev pub change_row_spelling : ChangeRow → List ℕ
change_row_spelling r = op_spelling r.op ++ row_spelling r.after ++ row_spelling r.before

-- change rows whose images have a spelling
abbrev pub IsChangeRow : ChangeRow → Type 0
IsChangeRow r = IsRow r.after × IsRow r.before

-- change rows whose images have counts of two bytes
abbrev pub HasChangeRowSpelling : ChangeRow → Type 0
HasChangeRowSpelling r = IsCounted r.after × IsCounted r.before

-- the valid rejection codes of units: 0 for a unit that isn't rejected, and 1 to 4
abbrev pub IsCode : ℕ → Type 0
IsCode code = code ≤ 4

-- a captured unit: its time, its authid, its origin and its rejection code
abbrev pub uow_spelling : UowRow → List ℕ
uow_spelling r = b64 r.time ++ short_text r.authid ++ origin r.origin ++ b8 r.code

-- captured units whose time has eight bytes, whose names are names, and whose code is a valid code
abbrev pub IsUow : UowRow → Type 0
IsUow r = Is64 r.time × IsName r.authid × IsOrigin r.origin × IsCode r.code

-- captured units whose code is a valid code
abbrev pub HasUowSpelling : UowRow → Type 0
HasUowSpelling r = IsCode r.code

-- how far capture is: the last captured commit, the restart and the floor of the unit-of-work table
abbrev pub capture_spelling : CaptureState → List ℕ
capture_spelling r = b64 r.captured ++ b64 r.restart ++ b64 r.floor

-- the states of capture whose numbers have eight bytes
abbrev pub IsCapture : CaptureState → Type 0
IsCapture r = Is64 r.captured × Is64 r.restart × Is64 r.floor

-- the state of a registration: whether it is active, its start and its floor
abbrev pub registration_state_spelling : RegState → List ℕ
registration_state_spelling r = flag r.active ++ b64 r.start ++ b64 r.floor

-- the states of registrations whose numbers have eight bytes
abbrev pub IsRegistrationState : RegState → Type 0
IsRegistrationState r = Is64 r.start × Is64 r.floor
