-- The spellings of members of sets, and of their columns.
use Rattle.std.specs.Prelude.{ℕ, List, [], ◌∷◌, ◌++◌, Option}
use Rattle.repl_definitions.specs.Exprs.{expr_spelling, IsExpr, HasExprSpelling}
use Rattle.repl_definitions.specs.Predicates.{predicate_spelling, IsPredicate, HasPredicateSpelling}
use Rattle.repl_definitions.specs.declared.member.ColumnFrom.{ColumnFrom}
use Rattle.repl_definitions.specs.declared.member.ColumnFrom.TheVariants.{Plain, Count, CountOf, Sum, Min, Max}
use Rattle.repl_definitions.specs.declared.member.Member.{Member}
use Rattle.repl_definitions.specs.declared.member.TargetColumn.{TargetColumn}
use Rattle.repl_definitions.specs.declared.member.TargetKind.{TargetKind}
use Rattle.repl_definitions.specs.declared.member.TargetKind.TheVariants.{UserCopy, PointInTime, BaseAggregate, ChangeAggregate, Ccd, Replica}
use Rattle.repl_definitions.specs.declared.predicate.Predicate.{Predicate}
use Rattle.row_codec.specs.Spelling.{Any, b16, Is16, flag, short_text, IsName, list_spelling, ListFits, option_spelling, OptionFits}

-- 0x01 to 0x06; after 0x05 whether the target is complete, and whether it is condensed
abbrev pub target_kind_spelling : TargetKind → List ℕ
target_kind_spelling UserCopy = 0x01 ∷ []
target_kind_spelling PointInTime = 0x02 ∷ []
target_kind_spelling BaseAggregate = 0x03 ∷ []
target_kind_spelling ChangeAggregate = 0x04 ∷ []
target_kind_spelling (Ccd complete condensed) = 0x05 ∷ flag complete ++ flag condensed
target_kind_spelling Replica = 0x06 ∷ []

-- where a column comes from: 0x01 and an expression, 0x02 for the number of rows, or 0x03 to 0x06 and a
-- column's place
abbrev pub source_spelling : ColumnFrom → List ℕ
source_spelling (Plain e) = 0x01 ∷ expr_spelling e
source_spelling Count = 0x02 ∷ []
source_spelling (CountOf place) = 0x03 ∷ b16 place
source_spelling (Sum place) = 0x04 ∷ b16 place
source_spelling (Min place) = 0x05 ∷ b16 place
source_spelling (Max place) = 0x06 ∷ b16 place

-- the sources that have a spelling
abbrev pub HasSourceSpelling : ColumnFrom → Type 0
HasSourceSpelling (Plain e) = HasExprSpelling e
HasSourceSpelling Count = Unit {0}
HasSourceSpelling (CountOf place) = Is16 place
HasSourceSpelling (Sum place) = Is16 place
HasSourceSpelling (Min place) = Is16 place
HasSourceSpelling (Max place) = Is16 place

-- the sources whose expression has values as literals, and whose place has two bytes
abbrev pub IsSource : ColumnFrom → Type 0
IsSource (Plain e) = IsExpr e
IsSource Count = Unit {0}
IsSource (CountOf place) = Is16 place
IsSource (Sum place) = Is16 place
IsSource (Min place) = Is16 place
IsSource (Max place) = Is16 place

-- a column of a target: its name and its source
abbrev pub target_column_spelling : TargetColumn → List ℕ
target_column_spelling column = short_text column.name ++ source_spelling column.from

-- the columns that have a spelling
abbrev pub HasTargetColumnSpelling : TargetColumn → Type 0
HasTargetColumnSpelling column = HasSourceSpelling column.from

-- the columns whose name is a name, and whose source is one
abbrev pub IsTargetColumn : TargetColumn → Type 0
IsTargetColumn column = IsName column.name × IsSource column.from

-- 0x00 for no predicate, or 0x01 and the predicate
abbrev pub filter_spelling : Option Predicate → List ℕ
filter_spelling = option_spelling predicate_spelling

-- the filters that have a spelling
abbrev pub HasFilterSpelling : Option Predicate → Type 0
HasFilterSpelling = OptionFits HasPredicateSpelling

-- the filters whose predicate has values as literals
abbrev pub IsFilter : Option Predicate → Type 0
IsFilter = OptionFits IsPredicate

-- a member: its source and target tables, the target's kind and columns, and which rows it takes
abbrev pub member_spelling : Member → List ℕ
member_spelling m = short_text m.source ++ short_text m.target ++ target_kind_spelling m.kind ++ list_spelling target_column_spelling m.columns ++ filter_spelling m.filter

-- the members that have a spelling
abbrev pub HasMemberSpelling : Member → Type 0
HasMemberSpelling m = ListFits HasTargetColumnSpelling m.columns × HasFilterSpelling m.filter

-- the members whose names are names, and whose parts are in their ranges
abbrev pub IsMember : Member → Type 0
IsMember m = IsName m.source × IsName m.target × Any m.kind × ListFits IsTargetColumn m.columns × IsFilter m.filter
