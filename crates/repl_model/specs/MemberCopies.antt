-- User copies and point-in-time copies.
use Rattle.std.specs.Prelude.{ℕ, Bool, List, map, filter, fold}
use Rattle.std.specs.List.{list_any}
use Rattle.repl_types.specs.Value.{Values}
use Rattle.repl_types.specs.declared.unit.Unit.{Unit}
use Rattle.repl_definitions.specs.declared.member.Member.{Member}
use Rattle.repl_model.specs.Tables.{key_of, same_values}
use Rattle.repl_model.specs.SourceAt.{time_at, units_between}
use Rattle.repl_model.specs.ChangeRows.{change_rows}
use Rattle.repl_model.specs.Selection.{SourceTable, imaged_row, selected_rows, target_row}

-- the rows of a user copy at a point: the target columns of each selected row of the source, under the
-- row's key, in the order of the keys
unfoldable pub user_copy : SourceTable → Member → ℕ → List (Values × Values)
user_copy source member point = map (λ r. (r.0, target_row member r.1)) (selected_rows source member point)

-- What a point-in-time copy has under a key: the time, in seconds, of the key's last change, and the row.
pub record MarkedRow : Type 0 where
  pub marker : ℕ
  pub row : Values

-- a change row of a unit has after-images with this key
abbrev pub changes_key : SourceTable → Values → Unit → Bool
changes_key source key u = list_any (λ change. same_values (key_of source.def (imaged_row source change)) key) (change_rows source.reg u)

-- the time of the last unit after one point and up to another that changes a key; if there is none, the
-- time at the first point
abbrev pub change_time : SourceTable → ℕ → ℕ → Values → ℕ
change_time source low high key = fold (λ time u. u.head.time) (time_at source.log low) (filter (changes_key source key) (units_between low high source.log))

-- the rows of a point-in-time copy at a point, if it was refreshed last at the base: those of a user copy,
-- each with the time of the key's last change since the base
unfoldable pub point_in_time_copy : SourceTable → Member → ℕ → ℕ → List (Values × MarkedRow)
point_in_time_copy source member base point = map (λ r. (r.0, record { marker = change_time source base point r.0; row = r.1 })) (user_copy source member point)
