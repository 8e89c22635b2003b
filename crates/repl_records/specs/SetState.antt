-- The spellings of how far sets are at their targets.
use Rattle.std.specs.Prelude.{◌≡◌, ℕ, false, List, ◌∷◌, ◌++◌}
use Rattle.repl_records.specs.declared.set_state.SetState.{SetState}
use Rattle.repl_records.specs.declared.set_state.LastNumber.{LastNumber}
use Rattle.repl_records.specs.declared.set_state.SetState.TheVariants.{ReadOnly, Replica}
use Rattle.row_codec.specs.Spelling.{Is64, b64, flag}

-- the state of a read-only set is 0x01, whether it has points, the synchpoint, its time, the base, whether
-- a refresh comes next, and the number of entries in the trail; that of a replica set is 0x02, whether
-- it has points, the two points, the last signal and the number of entries
abbrev pub state_spelling : SetState → List ℕ
state_spelling (ReadOnly has_points synchpoint time base refresh entries) = 0x01 ∷ (flag has_points ++ b64 synchpoint ++ b64 time ++ b64 base ++ flag refresh ++ b64 entries)
state_spelling (Replica has_points m f signal entries) = 0x02 ∷ (flag has_points ++ b64 m ++ b64 f ++ b64 signal ++ b64 entries)

-- the numbers of a state have eight bytes
abbrev pub HasNumbers : SetState → Type 0
HasNumbers (ReadOnly has_points synchpoint time base refresh entries) = Is64 synchpoint × Is64 time × Is64 base × Is64 entries
HasNumbers (Replica has_points m f signal entries) = Is64 m × Is64 f × Is64 signal × Is64 entries

-- the numbers of points that are absent are 0
abbrev pub ZeroIfAbsent : SetState → Type 0
ZeroIfAbsent (ReadOnly has_points synchpoint time base refresh entries) = has_points ≡ false → (synchpoint ≡ 0) × (time ≡ 0) × (base ≡ 0)
ZeroIfAbsent (Replica has_points m f signal entries) = has_points ≡ false → (m ≡ 0) × (f ≡ 0)

-- the states that have a spelling
abbrev pub IsState : SetState → Type 0
IsState state = HasNumbers state × ZeroIfAbsent state

-- the last number of a target
abbrev pub last_number_spelling : LastNumber → List ℕ
last_number_spelling r = b64 r.number

-- the last numbers that have eight bytes
abbrev pub IsLastNumber : LastNumber → Type 0
IsLastNumber r = Is64 r.number
