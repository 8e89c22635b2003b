-- How often definitions are read.
use Rattle.std.specs.Prelude.{ℕ, ◌*◌, if◌then◌else◌}
use Rattle.repl_types.specs.Area.{same_area}
use Rattle.repl_types.specs.declared.area.Area.TheVariants as areas
use Rattle.site_store.specs.Calls.{Bounds}
use Rattle.world_store.specs.SpelledRows.{definition_limit}

-- the area Defs of every server is read at most this many times, and nothing else is
abbrev pub in_defs : ℕ → Bounds
in_defs n = record { reads = λ s a. if same_area areas.Defs a then n else 0; writes = λ s a. 0 }

-- the most reads for the definitions of one server: of each table, registration and set that it is the
-- target of, and of each of these sets at its source
abbrev pub server_reads : ℕ
server_reads = 4 * definition_limit

-- the most reads for those of all servers
abbrev pub known_reads : ℕ
known_reads = 16 * server_reads
