-- Which answers of a stream count as faults.
use Rattle.std.specs.Prelude.{ℕ, ◌+◌, min, Result, Ok, Err}
use Rattle.keep_core.specs.declared.streams.ReadError.{ReadError}
use Rattle.keep_core.specs.declared.streams.ReadError.TheVariants.{Memory, Failed}
use Rattle.keep_core.specs.Revealed.{count_max}

-- one more fault if the stream failed, up to the maximum of 64 bits
abbrev pub faults_of_error : ReadError → ℕ → ℕ
faults_of_error Memory faults = faults
faults_of_error Failed faults = min (faults + 1) count_max

-- the count of faults once a read or a write gave this answer
abbrev pub faults_after : Result ℕ ReadError → ℕ → ℕ
faults_after (Ok count) faults = faults
faults_after (Err error) faults = faults_of_error error faults
