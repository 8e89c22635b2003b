-- What the change rows of a registration make of a stored point-in-time copy.
use Rattle.std.specs.Prelude.{◌≡◌, ℕ, ◌≤◌, Bool, true, List, map, filter, fold, slice_get, Some}
use Rattle.std.specs.List.{AllByRecursion, list_any}
use Rattle.repl_types.specs.declared.unit.Unit.{Unit}
use Rattle.row_codec.specs.Spelling.{key_spelling}
use Rattle.repl_definitions.specs.declared.member.Member.{Member}
use Rattle.repl_records.specs.TargetSide.{point_spelling}
use Rattle.keep_core.specs.Contents.{Table, same_key}
use Rattle.rows_in_order.specs.Rows.{table_from_rows}
use Rattle.repl_model.specs.ChangeRows.{change_rows, changes_between}
use Rattle.repl_model.specs.MemberCopies.{point_in_time_copy}
use Rattle.repl_model.specs.Rules.{is_copy}
use Rattle.repl_model.specs.Selection.{SourceTable}
use Rattle.repl_model.specs.Sound.{IsSound}
use Rattle.repl_model.specs.SoundDefinitions.{read_only_sets}
use Rattle.repl_model.specs.SourceAt.{time_at, units_between}
use Rattle.repl_model.specs.World.{World, KnownSet, known_sets, source_named}
use Rattle.lists.specs.laws.Members.{In}
use Rattle.stored_commits.specs.copies.ChangedCopies.{Storing, key_after, timed_changes}

-- ---- stored copies

-- a row of a point-in-time copy is stored with the time of its key's last change
abbrev pub as_point : Storing
as_point time row = point_spelling (record { marker = time; row = row })

-- the stored table of a point-in-time copy of a source at a point, if it was refreshed last at the base
abbrev pub point_table : SourceTable → Member → ℕ → ℕ → Table
point_table source member base point = table_from_rows key_spelling point_spelling (map (λ r. (r.0, record { marker = r.1.marker; row = r.1.row })) (point_in_time_copy source member base point))

-- ---- markers of spelled keys

-- a change row of a unit has after-images with this key
abbrev pub changes_spelled : SourceTable → List ℕ → Unit → Bool
changes_spelled source key u = list_any (λ change. same_key (key_spelling (key_after source change)) key) (change_rows source.reg u)

-- the time of the last unit after one point and up to another that changes a key; if there is none, the time at the first
-- point
abbrev pub spelled_time : SourceTable → ℕ → ℕ → List ℕ → ℕ
spelled_time source low high key = fold (λ time u. u.head.time) (time_at source.log low) (filter (changes_spelled source key) (units_between low high source.log))

-- ---- the law

-- the seqs of the units after one point and up to another have the units' times
abbrev pub HaveTimes : SourceTable → ℕ → ℕ → (ℕ → ℕ) → Type 0
HaveTimes source low high times = AllByRecursion (λ u. times u.head.seq ≡ u.head.time) (units_between low high source.log)

-- a point-in-time copy in a sound world becomes the copy at a later point by the change rows between the two points, each at
-- the time of its unit
abbrev pub PointCopyTakesChanges : Type 0
PointCopyTakesChanges = (world : World) (k : KnownSet) (place : ℕ) (member : Member) (source : SourceTable) (base low high : ℕ) (times : ℕ → ℕ) → IsSound world → In k (read_only_sets (known_sets world))
    → slice_get k.at_target.def.members place ≡ Some member → source_named member.source k.source ≡ Some source → is_copy member.kind ≡ true → base ≤ low → low ≤ high → HaveTimes source low high times
    → timed_changes as_point source member times (changes_between source.log source.reg low high) (point_table source member base low) ≡ point_table source member base high
