-- How long a line and an input may be.
use Rattle.std.specs.Prelude.{ℕ}

-- the most bytes that a line may have, without its line feed and a carriage return before that
abbrev pub line_limit : ℕ
line_limit = 1048576

-- the most bytes that an input may have
abbrev pub input_limit : ℕ
input_limit = 4294967296
