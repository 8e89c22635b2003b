-- The values of a keeper in memory: those in runs, and those beside them.
use Rattle.std.specs.Option.{option_or}
use Rattle.keep_map.specs.Places.{Values}
use Rattle.keep_map.specs.Scattered.{rows_seen, rows_held}
use Rattle.keep_map.specs.Tables.{tables_of, runs_seen, runs_held}
use Rattle.keep_map.specs.declared.stored_rows.StoredRows.{StoredRows}

-- the first values, and the second at each place that has no first one
abbrev pub both : Values → Values → Values
both f g p = option_or (f p) (g p)

-- the values that the open transaction sees
abbrev pub values_seen : StoredRows → Values
values_seen s = both (runs_seen (tables_of s.runs.map)) (rows_seen s.others.map)

-- the values that are held
abbrev pub values_held : StoredRows → Values
values_held s = both (runs_held (tables_of s.runs.map)) (rows_held s.others.map)
