-- Members that copy whole rows.
use Rattle.std.specs.Prelude.{◌≡◌, length, map, None}
use Rattle.std.specs.List.{range_with_len}
use Rattle.repl_types.specs.declared.table.TableDef.{TableDef}
use Rattle.repl_definitions.specs.declared.expr.Expr.TheVariants as exprs
use Rattle.repl_definitions.specs.declared.member.ColumnFrom.TheVariants.{Plain}
use Rattle.repl_definitions.specs.declared.member.Member.{Member}

-- a member that copies whole rows as they are: it has no predicate, and its columns are all those of the
-- table, in order
pub record CopiesWholeRows (def : TableDef) (member : Member) : Type 0 where
  pub filter : member.filter ≡ None
  pub columns : map (λ column. column.from) member.columns ≡ map (λ place. Plain (exprs.Column place)) (range_with_len 0 (length def.columns))
