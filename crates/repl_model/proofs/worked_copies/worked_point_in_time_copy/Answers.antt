use Rattle.std.proofs.Common.{refl}
use Rattle.repl_model.specs.Units.{units}
use Rattle.repl_model.specs.SourceAt.{time_at}
use Rattle.repl_model.specs.ChangeRows.{change_rows, changes_between}
use Rattle.repl_model.specs.MemberCopies.{user_copy, point_in_time_copy}
use Rattle.repl_model.specs.WorkedCopies.{parts, renamed_log, interleaved_log}
use Rattle.repl_model.specs.laws.Trees.{by_nodes}
use Rattle.repl_model.specs.laws.Evaluate.{source_entries}
use Rattle.repl_model.proofs.worked_copies.worked_point_in_time_copy.Goals as goal

pub returns-clause-inserted : goal.returns-clause-inserted
unfolding point_in_time_copy user_copy units change_rows time_at
returns-clause-inserted c = rw (source_entries parts renamed_log 4) (simp by_nodes refl)

pub returns-clause-renamed : goal.returns-clause-renamed
unfolding point_in_time_copy user_copy units change_rows time_at
returns-clause-renamed c = rw (source_entries parts renamed_log 6) (simp by_nodes refl)

pub returns-clause-refreshed : goal.returns-clause-refreshed
unfolding point_in_time_copy user_copy units change_rows time_at
returns-clause-refreshed c = rw (source_entries parts renamed_log 4) (simp by_nodes refl)

pub returns-clause-refreshed_later : goal.returns-clause-refreshed_later
unfolding point_in_time_copy user_copy units change_rows time_at
returns-clause-refreshed_later c = rw (source_entries parts interleaved_log 7) (simp by_nodes refl)

pub returns-clause-left : goal.returns-clause-left
unfolding point_in_time_copy user_copy units change_rows time_at
returns-clause-left c = rw (source_entries parts interleaved_log 7) (simp by_nodes refl)

pub returns-clause-rows : goal.returns-clause-rows
unfolding units change_rows changes_between
returns-clause-rows c = refl
