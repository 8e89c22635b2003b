-- Spellings of tables, registrations and sets, worked out by hand.
use Rattle.std.specs.Prelude.{ℕ, pos, true, false, codes, List, [], ◌∷◌, ◌++◌, Option, Some, None}
use Rattle.std.proofs.Common.{refl, arith}
use Rattle.std.proofs.Math.Utf8.{encode}
use Rattle.std.proofs.lemmas.Str.{IsUtf8-from_is_utf8}
use Rattle.std.specs.Str.{chars, is_utf8}
use Rattle.repl_definitions.specs.Defined.{defined_table_spelling, IsDefinedTable, defined_registration_spelling, IsDefinedRegistration}
use Rattle.repl_definitions.specs.Sets.{source_set_spelling, IsSourceSet, target_set_spelling, IsTargetSet}
use Rattle.repl_definitions.specs.declared.expr.Expr.{Expr}
use Rattle.repl_definitions.specs.declared.expr.Expr.TheVariants.{Add, Sub, Mul, Concat}
use Rattle.repl_definitions.specs.declared.expr.Expr.TheVariants as exprs
use Rattle.repl_definitions.specs.declared.member.ColumnFrom.TheVariants.{Plain, Count, CountOf, Sum, Min, Max}
use Rattle.repl_definitions.specs.declared.member.Member.{Member}
use Rattle.repl_definitions.specs.declared.member.TargetColumn.{TargetColumn}
use Rattle.repl_definitions.specs.declared.member.TargetKind.{TargetKind}
use Rattle.repl_definitions.specs.declared.member.TargetKind.TheVariants.{UserCopy, PointInTime, BaseAggregate}
use Rattle.repl_definitions.specs.declared.member.TargetKind.TheVariants.{ChangeAggregate, Ccd, Replica}
use Rattle.repl_definitions.specs.declared.predicate.CompareOp.TheVariants.{Eq, Ge}
use Rattle.repl_definitions.specs.declared.predicate.Operand.TheVariants.{Column, Value}
use Rattle.repl_definitions.specs.declared.predicate.Predicate.{Predicate}
use Rattle.repl_definitions.specs.declared.predicate.Predicate.TheVariants.{Compare, IsNull, IsNotNull, And, Or}
use Rattle.repl_definitions.specs.declared.set.SetDef.{SetDef}
use Rattle.repl_definitions.specs.laws.Exprs.{expr_views}
use Rattle.repl_definitions.specs.laws.Predicates.{predicate_views}
use Rattle.repl_types.specs.declared.change_row.Registration.{Registration}
use Rattle.repl_types.specs.declared.table.Kind.TheVariants as kinds
use Rattle.repl_types.specs.declared.table.TableDef.{TableDef}
use Rattle.repl_types.specs.declared.value.Value.TheVariants.{Int, Text}
use Rattle.row_codec.specs.Spelling.{b16, b32, b64}
use Rattle.value_tests.specs.Spelled.{IsSpelled}

-- ---- tables and registrations

-- a table of two columns
abbrev items : TableDef
items = record {
  name = codes "items";
  columns = record { name = codes "id"; kind = kinds.Int; nullable = false }
      ∷ record { name = codes "name"; kind = kinds.Text; nullable = true }
      ∷ [];
  key = 0 ∷ [];
  fixed = 0 ∷ [];
}

-- its registration
abbrev registration : Registration
registration = record {
  table = codes "items";
  after = 0 ∷ 1 ∷ [];
  before = [];
  del_ins = true;
  changes_only = false;
  disable_refresh = false;
}

pub tables_and_registrations_have_their_spellings :
    IsSpelled IsDefinedTable defined_table_spelling (record { number = 3; def = items }) (
    0 ∷ 0 ∷ 0 ∷ 3 ∷ 5 ∷ codes "items" ++ 0 ∷ 2 ∷ 2 ∷ codes "id" ++ 1 ∷ 0 ∷ 4 ∷ codes "name" ++ 2 ∷ 1
    ∷ 0 ∷ 1 ∷ 0 ∷ 0 ∷ 0 ∷ 1 ∷ 0 ∷ 0 ∷ [])
    × IsSpelled IsDefinedRegistration defined_registration_spelling (record { number = 3; registration = registration }) (
    0 ∷ 0 ∷ 0 ∷ 3 ∷ 5 ∷ codes "items" ++ 0 ∷ 2 ∷ 0 ∷ 0 ∷ 0 ∷ 1 ∷ 0 ∷ 0 ∷ 1 ∷ 0 ∷ 0 ∷ [])
unfolding b16 b32
tables_and_registrations_have_their_spellings = search (arith, refl)

-- ---- sets

-- a member of the tables orders and copy
abbrev member_of : TargetKind → List TargetColumn → Option Predicate → Member
member_of kind columns filter = record {
  source = codes "orders";
  target = codes "copy";
  kind = kind;
  columns = columns;
  filter = filter;
}

-- the set q/s of the server hq with this member
abbrev set_with : Member → SetDef
set_with member = record {
  id = record { qual = codes "q"; name = codes "s" };
  source = codes "hq";
  target = codes "shop";
  commit_count = 2;
  max_minutes = 60;
  members = member ∷ [];
}

-- the bytes of the set, given those of its member from its target's kind on
abbrev bytes_with : List ℕ → List ℕ
bytes_with bytes =
    0 ∷ 0 ∷ 0 ∷ 0 ∷ 1 ∷ codes "q" ++ 1 ∷ codes "s" ++ 2 ∷ codes "hq" ++ 4 ∷ codes "shop"
    ++ 0 ∷ 0 ∷ 0 ∷ 2 ∷ 0 ∷ 0 ∷ 0 ∷ 0x3c ∷ 0 ∷ 1 ∷ 6 ∷ codes "orders" ++ 4 ∷ codes "copy" ++ bytes

-- the set with this member is spelled as its bytes with these, both at its source and at its target
abbrev SetIsSpelled : Member → List ℕ → Type 0
SetIsSpelled member bytes =
    IsSpelled IsSourceSet source_set_spelling (record { number = 0; def = set_with member }) (bytes_with bytes)
    × IsSpelled IsTargetSet target_set_spelling (record { number = 0; def = set_with member }) (bytes_with bytes)

-- a column x of a target that is this expression
abbrev x_from : Expr → TargetColumn
x_from e = record { name = codes "x"; from = Plain e }

-- columns that are an expression, the number of rows, and a count, a sum, a least and a greatest value of a column
abbrev counts : List TargetColumn
counts = record { name = codes "i"; from = Plain (exprs.Column 1) }
    ∷ record { name = codes "n"; from = Count }
    ∷ record { name = codes "c"; from = CountOf 2 }
    ∷ record { name = codes "s"; from = Sum 2 }
    ∷ record { name = codes "l"; from = Min 2 }
    ∷ record { name = codes "h"; from = Max 2 }
    ∷ []

-- (column 0 + 5 - column 1) * column 2
abbrev product : Expr
product = Mul (Sub (Add (exprs.Column 0) (exprs.Int (pos 5))) (exprs.Column 1)) (exprs.Column 2)

-- column 0 is at least 10 and column 1 is NULL, or column 2 isn't NULL
abbrev some_rows : Predicate
some_rows = Or (And (Compare (Column 0) Ge (Value (Int (pos 10)))) (IsNull 1)) (IsNotNull 2)

pub sets_have_their_spellings :
    SetIsSpelled (member_of UserCopy [] None) (1 ∷ 0 ∷ 0 ∷ 0 ∷ [])
    × SetIsSpelled (member_of PointInTime [] (Some some_rows)) (
    2 ∷ 0 ∷ 0 ∷ 1 ∷ 0x24 ∷ 0x23 ∷ 0x20 ∷ 0x30 ∷ 0 ∷ 0 ∷ 6 ∷ 0x31 ∷ 1 ∷ 0x80 ∷ 0 ∷ 0 ∷ 0 ∷ 0 ∷ 0 ∷ 0 ∷ 0x0a ∷ 0x21 ∷ 0 ∷ 1 ∷ 0x22
    ∷ 0 ∷ 2 ∷ [])
    × SetIsSpelled (member_of BaseAggregate counts None) (
    3 ∷ 0 ∷ 6 ∷ 1 ∷ codes "i" ++ 1 ∷ 0x10 ∷ 0 ∷ 1 ∷ 1 ∷ codes "n" ++ 2 ∷ 1 ∷ codes "c" ++ 3 ∷ 0 ∷ 2 ∷ 1 ∷ codes "s" ++ 4 ∷ 0 ∷ 2
    ∷ 1 ∷ codes "l" ++ 5 ∷ 0 ∷ 2 ∷ 1 ∷ codes "h" ++ 6 ∷ 0 ∷ 2 ∷ 0 ∷ [])
    × SetIsSpelled (member_of ChangeAggregate (x_from product ∷ []) None) (
    4 ∷ 0 ∷ 1 ∷ 1 ∷ codes "x" ++ 1 ∷ 0x14 ∷ 0x13 ∷ 0x12 ∷ 0x10 ∷ 0 ∷ 0 ∷ 0x11 ∷ 1 ∷ 0x80 ∷ 0 ∷ 0 ∷ 0 ∷ 0 ∷ 0 ∷ 0 ∷ 5 ∷ 0x10 ∷ 0
    ∷ 1 ∷ 0x10 ∷ 0 ∷ 2 ∷ 0 ∷ [])
    × SetIsSpelled (member_of (Ccd false true) (x_from (Concat (exprs.Text (codes "a")) (exprs.Text (codes "b"))) ∷ []) None) (
    5 ∷ 0 ∷ 1 ∷ 0 ∷ 1 ∷ 1 ∷ codes "x" ++ 1 ∷ 0x15 ∷ 0x11 ∷ 2 ∷ codes "a" ++ 0 ∷ 0 ∷ 0x11 ∷ 2 ∷ codes "b" ++ 0 ∷ 0 ∷ 0 ∷ [])
    × SetIsSpelled (member_of Replica [] (Some (Compare (Value (Text (codes "a"))) Eq (Column 1)))) (
    6 ∷ 0 ∷ 0 ∷ 1 ∷ 0x20 ∷ 0x31 ∷ 2 ∷ codes "a" ++ 0 ∷ 0 ∷ 1 ∷ 0x30 ∷ 0 ∷ 1 ∷ [])
unfolding b16 b32 b64 chars encode is_utf8
sets_have_their_spellings = simp (expr_views, predicate_views) (search (arith, refl, IsUtf8-from_is_utf8))
