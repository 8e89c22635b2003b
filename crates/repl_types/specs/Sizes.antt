-- How large a name, a text, a row of a log record, a time, a stored key and a stored value may be.
use Rattle.std.specs.Prelude.{ℕ, ◌<◌, ◌≤◌, List, length}

-- the most bytes of a name
abbrev pub name_limit : ℕ
name_limit = 32

-- the most bytes of a text
abbrev pub text_limit : ℕ
text_limit = 1000

-- the most values of a row in a log record that a line spells
abbrev pub row_limit : ℕ
row_limit = 64

-- the latest time, in seconds
abbrev pub time_limit : ℕ
time_limit = 1000000000000

-- the most bytes of a stored key
abbrev pub key_limit : ℕ
key_limit = 1024

-- the most bytes of a stored value
abbrev pub value_limit : ℕ
value_limit = 262144

-- these bytes may be a stored key: there are 1 to 1,024
pub record IsKeySize (key : List ℕ) : Type 0 where
  pub some : 0 < length key
  pub short : length key ≤ key_limit

-- these bytes may be a stored value: there are at most 262,144
abbrev pub IsValueSize : List ℕ → Type 0
IsValueSize value = length value ≤ value_limit
