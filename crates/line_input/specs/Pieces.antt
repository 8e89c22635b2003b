-- The pieces in which an input is read.
use Rattle.std.specs.Prelude.{ℕ}

-- how many bytes a read asks for
abbrev pub piece_size : ℕ
piece_size = 65536
