-- How much a run may have.
use Rattle.std.specs.Prelude.{ℕ}

-- the most servers of a run
abbrev pub server_limit : ℕ
server_limit = 16

-- the most bytes of a path
abbrev pub path_limit : ℕ
path_limit = 1000

-- the fewest cells of a run
abbrev pub least_cells : ℕ
least_cells = 16

-- the most cells of a run
abbrev pub most_cells : ℕ
most_cells = 1048576

-- the cells of a run whose words don't say how many
abbrev pub usual_cells : ℕ
usual_cells = 16384
