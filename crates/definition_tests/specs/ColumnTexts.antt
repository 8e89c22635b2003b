-- Texts of columns and predicates, and their trees, worked out by hand.
use Rattle.std.specs.Prelude.{◌≡◌, ℕ, ◌-◌, codes, pos, neg_ℤ, Bool, true, false, is_none, is_some, List, [], ◌∷◌, ◌++◌, map, replicate, Some}
use Rattle.std.proofs.Common.{refl}
use Rattle.std.specs.List.{list_all}
use Rattle.std.specs.Char.{encode_utf8}
use Rattle.std.specs.Str.{is_utf8, chars}
use Rattle.repl_types.specs.ValueText.{value_of, unescaped}
use Rattle.repl_types.specs.declared.table.ColumnDef.{ColumnDef}
use Rattle.repl_types.specs.declared.table.Kind.{Kind}
use Rattle.repl_types.specs.declared.table.Kind.TheVariants as kinds
use Rattle.repl_types.specs.declared.value.Value.TheVariants as values
use Rattle.repl_definitions.specs.declared.expr.Expr.TheVariants.{Column, Int, Text, Add, Sub, Mul, Concat}
use Rattle.repl_definitions.specs.declared.member.ColumnFrom.{ColumnFrom}
use Rattle.repl_definitions.specs.declared.member.ColumnFrom.TheVariants.{Plain, Count, CountOf, Sum, Min, Max}
use Rattle.repl_definitions.specs.declared.predicate.CompareOp.TheVariants.{Eq, Ne, Lt, Le, Gt, Ge}
use Rattle.repl_definitions.specs.declared.predicate.Operand.{Operand}
use Rattle.repl_definitions.specs.declared.predicate.Operand.TheVariants as operands
use Rattle.repl_definitions.specs.declared.predicate.Predicate.{Predicate}
use Rattle.repl_definitions.specs.declared.predicate.Predicate.TheVariants.{Compare, IsNull, IsNotNull, And, Or}
use Rattle.repl_model.specs.laws.Kinds.{kind_column, kind_int, kind_text, kind_add, kind_sub, kind_mul, kind_concat}
use Rattle.repl_defs.specs.Reading.{place_named}
use Rattle.repl_defs.specs.ReadingExpressions.{outcome}
use Rattle.repl_defs.specs.ReadingPredicates.{predicate_outcome}
use Rattle.repl_defs.specs.Tokens.{quoted_len, tokens_within}
use Rattle.repl_defs.specs.Trees.{source_tree, predicate_tree, tokens_within_limits, source_of_tokens, fitting_expression}

-- a column that may be NULL
abbrev column : List ℕ → Kind → ColumnDef
column name kind = record { name = name; kind = kind; nullable = true }

-- four columns: a and b are integers, t and u texts; and a fifth has the name of a word
abbrev columns : List ColumnDef
columns =
    column (codes "a") kinds.Int
    ∷ column (codes "b") kinds.Int
    ∷ column (codes "t") kinds.Text
    ∷ column (codes "u") kinds.Text
    ∷ column (codes "or") kinds.Int
    ∷ []

-- ---- columns

-- each text is that of the column source beside it
abbrev AreSources : List (List ℕ × ColumnFrom) → Type 0
AreSources rows = map (λ row. source_tree columns row.0) rows ≡ map (λ row. Some row.1) rows

-- each text is that of no column source
abbrev are_no_sources : List (List ℕ) → Bool
are_no_sources = list_all (λ text. is_none (source_tree columns text))

pub expressions_group_from_the_left_and_products_come_first : AreSources (
    (codes "a", Plain (Column 0))
    ∷ (codes "(a)", Plain (Column 0))
    ∷ (codes "a + b", Plain (Add (Column 0) (Column 1)))
    ∷ (codes "a - b - a", Plain (Sub (Sub (Column 0) (Column 1)) (Column 0)))
    ∷ (codes "a+b*a", Plain (Add (Column 0) (Mul (Column 1) (Column 0))))
    ∷ (codes "(a + b) * a", Plain (Mul (Add (Column 0) (Column 1)) (Column 0)))
    ∷ (codes "a * b + a", Plain (Add (Mul (Column 0) (Column 1)) (Column 0)))
    ∷ (codes "t || u||t", Plain (Concat (Concat (Column 2) (Column 3)) (Column 2)))
    ∷ [])
unfolding source_tree tokens_within_limits tokens_within source_of_tokens outcome place_named
expressions_group_from_the_left_and_products_come_first = simp (kind_column, kind_add, kind_sub, kind_mul, kind_concat) refl

pub a_sign_belongs_to_a_number_only_if_one_is_expected : AreSources (
    (codes "a -1", Plain (Sub (Column 0) (Int (pos 1))))
    ∷ (codes "a - 1", Plain (Sub (Column 0) (Int (pos 1))))
    ∷ (codes "a-1", Plain (Sub (Column 0) (Int (pos 1))))
    ∷ (codes "-1", Plain (Int (neg_ℤ (pos 1))))
    ∷ (codes "a*-1", Plain (Mul (Column 0) (Int (neg_ℤ (pos 1)))))
    ∷ (codes "a - -1", Plain (Sub (Column 0) (Int (neg_ℤ (pos 1)))))
    ∷ (codes "-9223372036854775808", Plain (Int (neg_ℤ (pos 9223372036854775808))))
    ∷ [])
unfolding source_tree tokens_within_limits tokens_within source_of_tokens outcome place_named
a_sign_belongs_to_a_number_only_if_one_is_expected = simp (kind_column, kind_int, kind_sub, kind_mul) refl

pub other_signs_and_digits_are_no_numbers : are_no_sources (
    codes "- 1" ∷ codes "-0" ∷ codes "--1" ∷ codes "9223372036854775808" ∷ codes "007" ∷ codes "-a" ∷ []) ≡ true
unfolding source_tree tokens_within_limits tokens_within source_of_tokens outcome place_named
other_signs_and_digits_are_no_numbers = refl

pub sums_stand_alone : AreSources (
    (codes "count(*)", Count)
    ∷ (codes "count ( * )", Count)
    ∷ (codes "COUNT(*)", Count)
    ∷ (codes "count(a)", CountOf 0)
    ∷ (codes "sum(b)", Sum 1)
    ∷ (codes "min(t)", Min 2)
    ∷ (codes "MAX(a)", Max 0)
    ∷ [])
unfolding source_tree tokens_within_limits tokens_within source_of_tokens outcome place_named
sums_stand_alone = refl

pub other_texts_are_no_sums : are_no_sources (
    codes "sum(a) + 1"
    ∷ codes "1 + sum(a)"
    ∷ codes "Count(*)"
    ∷ codes "count()"
    ∷ codes "sum(*)"
    ∷ codes "sum(a + b)"
    ∷ codes "sum(zz)"
    ∷ codes "sum"
    ∷ codes "(sum(a))"
    ∷ []) ≡ true
unfolding source_tree tokens_within_limits tokens_within source_of_tokens outcome place_named
other_texts_are_no_sums = refl

pub other_texts_are_no_columns : are_no_sources (
    codes "" ∷ codes " " ∷ codes "a b" ∷ codes "a +" ∷ codes "+ a" ∷ codes "(a" ∷ codes "a)" ∷ codes "()"
    ∷ codes "zz" ∷ codes "or" ∷ codes "null" ∷ codes "A" ∷ codes "a;" ∷ codes "a\tb" ∷ codes "a|t"
    ∷ []) ≡ true
unfolding source_tree tokens_within_limits tokens_within source_of_tokens outcome place_named
other_texts_are_no_columns = refl

pub operands_have_the_kinds_of_their_operation : are_no_sources (
    codes "a + t" ∷ codes "t || a" ∷ codes "t * t" ∷ codes "t || 1" ∷ codes "'x' + 1" ∷ []) ≡ true
unfolding source_tree tokens_within_limits tokens_within quoted_len value_of unescaped is_utf8 chars encode_utf8 source_of_tokens
    outcome place_named
operands_have_the_kinds_of_their_operation = simp (kind_column, kind_int, kind_text, kind_add, kind_mul, kind_concat) refl

pub more_texts_are_no_columns : are_no_sources (
    codes "1a" ∷ codes "a | | b" ∷ codes "_a" ∷ codes "a,b" ∷ codes "a'" ∷ (0xc3 ∷ 0xa9 ∷ []) ∷ codes "'it"
    ∷ codes "'it''" ∷ codes "'it\\'" ∷ codes "'a\\tb'"
    ∷ []) ≡ true
unfolding source_tree tokens_within_limits tokens_within quoted_len value_of unescaped is_utf8 chars encode_utf8 source_of_tokens
    outcome place_named
more_texts_are_no_columns = refl

pub a_quote_in_a_text_is_doubled : AreSources (
    (codes "'it''s a'", Plain (Text (codes "it's a")))
    ∷ (codes "'a'''", Plain (Text (codes "a'")))
    ∷ (codes "'''b'''", Plain (Text (codes "'b'")))
    ∷ (codes "'a\\\\''b'", Plain (Text (codes "a\\'b")))
    ∷ [])
unfolding source_tree tokens_within_limits tokens_within quoted_len value_of unescaped is_utf8 chars encode_utf8 source_of_tokens
    outcome place_named
a_quote_in_a_text_is_doubled = simp kind_text refl

-- a text is that of a column source
abbrev is_source : List ℕ → Bool
is_source text = is_some (source_tree columns text)

-- so many bytes x between quotes
abbrev quoted : ℕ → List ℕ
quoted n = codes "'" ++ replicate n 120 ++ codes "'"

-- the operations of a text alone have operands of their kinds
text_fits : (t : List ℕ) → is_some (fitting_expression columns (Text t)) ≡ true
text_fits t = simp kind_text refl

pub a_text_between_quotes_has_at_most_1000_bytes : (is_source (quoted 1000) ≡ true) × (is_source (quoted 1001) ≡ false)
unfolding source_tree tokens_within_limits tokens_within quoted_len value_of unescaped is_utf8 chars encode_utf8 source_of_tokens
    outcome place_named
a_text_between_quotes_has_at_most_1000_bytes = (text_fits (replicate 1000 120), refl)

-- the column a in so many parentheses
abbrev nested : ℕ → List ℕ
nested n = replicate n 40 ++ codes "a" ++ replicate n 41

-- the column a with blanks after it, so many bytes in all
abbrev with_blanks : ℕ → List ℕ
with_blanks n = codes "a" ++ replicate (n - 1) 32

pub a_text_nests_64_deep_at_most : (is_source (nested 64) ≡ true) × (is_source (nested 65) ≡ false)
unfolding source_tree tokens_within_limits tokens_within source_of_tokens outcome place_named
a_text_nests_64_deep_at_most = (simp kind_column refl, refl)

pub a_text_has_4096_bytes_at_most : (is_source (with_blanks 4096) ≡ true) × (is_source (with_blanks 4097) ≡ false)
unfolding source_tree tokens_within_limits tokens_within source_of_tokens outcome place_named
a_text_has_4096_bytes_at_most = (simp kind_column refl, refl)

-- ---- predicates

-- each text is that of the predicate beside it
abbrev ArePredicates : List (List ℕ × Predicate) → Type 0
ArePredicates rows = map (λ row. predicate_tree columns row.0) rows ≡ map (λ row. Some row.1) rows

-- each text is that of no predicate
abbrev are_no_predicates : List (List ℕ) → Bool
are_no_predicates = list_all (λ text. is_none (predicate_tree columns text))

-- the column a
abbrev a : Operand
a = operands.Column 0

-- the column b
abbrev b : Operand
b = operands.Column 1

-- the column t
abbrev t : Operand
t = operands.Column 2

-- the integer 1
abbrev one : Operand
one = operands.Value (values.Int (pos 1))

pub and_binds_before_or : ArePredicates (
    (codes "a = 1", Compare a Eq one)
    ∷ (codes "a>=1and b=1", And (Compare a Ge one) (Compare b Eq one))
    ∷ (codes "a<>b", Compare a Ne b)
    ∷ (codes "a is null", IsNull 0)
    ∷ (codes "b IS not NULL", IsNotNull 1)
    ∷ (codes "a < b or a <= b and t is null", Or (Compare a Lt b) (And (Compare a Le b) (IsNull 2)))
    ∷ (codes "(a > b OR a>=b)and t is null", And (Or (Compare a Gt b) (Compare a Ge b)) (IsNull 2))
    ∷ (codes "a is null and b is null and t is null", And (And (IsNull 0) (IsNull 1)) (IsNull 2))
    ∷ (codes "t = 'x y''z'", Compare t Eq (operands.Value (values.Text (codes "x y'z"))))
    ∷ [])
unfolding predicate_tree tokens_within_limits tokens_within quoted_len value_of unescaped is_utf8 chars encode_utf8
    predicate_outcome place_named
and_binds_before_or = refl

pub other_texts_are_no_predicates : are_no_predicates (
    codes ""
    ∷ codes "a"
    ∷ codes "a ="
    ∷ codes "= 1"
    ∷ codes "a = null"
    ∷ codes "a = 1 and"
    ∷ codes "And = 1"
    ∷ codes "or = 1"
    ∷ codes "a is not"
    ∷ codes "a is Not null"
    ∷ codes "1 is null"
    ∷ codes "a + 1 = 2"
    ∷ codes "(a) = 1"
    ∷ codes "a = 1 b = 2"
    ∷ codes "not a = 1"
    ∷ codes "a == 1"
    ∷ codes "a < = 1"
    ∷ codes "a = 1 an b = 1"
    ∷ codes "a = 1 ands b = 1"
    ∷ codes "zz = 1"
    ∷ []) ≡ true
unfolding predicate_tree tokens_within_limits tokens_within predicate_outcome place_named
other_texts_are_no_predicates = refl

pub the_sides_of_a_comparison_have_one_kind : are_no_predicates (
    codes "a = t" ∷ codes "t < 1" ∷ codes "a = 'x'" ∷ []) ≡ true
unfolding predicate_tree tokens_within_limits tokens_within quoted_len value_of unescaped is_utf8 chars encode_utf8
    predicate_outcome place_named
the_sides_of_a_comparison_have_one_kind = refl
