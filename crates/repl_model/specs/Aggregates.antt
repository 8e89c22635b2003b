-- The rows of aggregate targets.
use Rattle.std.specs.Prelude.{ℕ, List, map}
use Rattle.std.specs.List.{flat_map}
use Rattle.repl_types.specs.Value.{Values}
use Rattle.repl_definitions.specs.declared.member.Member.{Member}
use Rattle.repl_model.specs.SourceAt.{time_at}
use Rattle.repl_model.specs.Selection.{SourceTable, imaged_row, selected_rows, selected_changes}
use Rattle.repl_model.specs.Summaries.{groups_of}
use Rattle.repl_model.specs.Trails.{Trail, intervals, base_points}

-- A row of an aggregate, with the times in seconds at the two points of what it sums up.
pub record SummaryRow : Type 0 where
  pub low : ℕ
  pub high : ℕ
  pub row : Values

-- the rows of some groups, with the times at two points
abbrev pub summary_rows : SourceTable → Member → ℕ → ℕ → List Values → List SummaryRow
summary_rows source member low high rows = map (λ group. record { low = time_at source.log low; high = time_at source.log high; row = group }) (groups_of member rows)

-- the rows of a change aggregate: for each interval the groups of the selected changes
unfoldable pub change_aggregate : SourceTable → Member → Trail → List SummaryRow
change_aggregate source member trail = flat_map (λ i. summary_rows source member i.0 i.1 (map (imaged_row source) (selected_changes source member i.0 i.1))) (intervals trail)

-- the rows of a base aggregate: for each point at which the source was read, the groups of its selected
-- rows
unfoldable pub base_aggregate : SourceTable → Member → Trail → List SummaryRow
base_aggregate source member trail = flat_map (λ q. summary_rows source member q q (map (λ r. r.1) (selected_rows source member q))) (base_points trail)
