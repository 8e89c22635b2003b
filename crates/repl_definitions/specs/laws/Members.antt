-- Proofs about the spellings of members of sets and their columns. There is nothing to believe here.
use Rattle.std.proofs.Common.{ℕ, Bool, List, Option, drop, refl, ap}
use Rattle.repl_definitions.specs.Members.{target_kind_spelling, source_spelling, IsSource, HasSourceSpelling, target_column_spelling, IsTargetColumn, HasTargetColumnSpelling, filter_spelling, IsFilter, member_spelling, IsMember, HasMemberSpelling}
use Rattle.repl_definitions.specs.Predicates.{predicate_spelling, IsPredicate, HasPredicateSpelling}
use Rattle.repl_definitions.specs.declared.expr.Expr.{Expr}
use Rattle.repl_definitions.specs.declared.member.ColumnFrom.{ColumnFrom}
use Rattle.repl_definitions.specs.declared.member.ColumnFrom.TheVariants.{Plain, Count, CountOf, Sum, Min, Max}
use Rattle.repl_definitions.specs.declared.member.Member.{Member}
use Rattle.repl_definitions.specs.declared.member.TargetColumn.{TargetColumn}
use Rattle.repl_definitions.specs.declared.member.TargetKind.{TargetKind}
use Rattle.repl_definitions.specs.declared.member.TargetKind.TheVariants.{UserCopy, PointInTime, BaseAggregate, ChangeAggregate, Ccd, Replica}
use Rattle.repl_definitions.specs.declared.predicate.Predicate.{Predicate}
use Rattle.repl_definitions.specs.laws.Exprs.{one_expr, again_expr}
use Rattle.repl_definitions.specs.laws.Predicates.{one_predicate, again_predicate}
use Rattle.row_codec.specs.Spelling.{Any, flag, short_text, IsName, list_spelling, ListFits}
use Rattle.row_codec.specs.Takes.{One, PairFits, pair_spelling}
use Rattle.row_codec.specs.laws.Again.{list_again, option_again}
use Rattle.row_codec.specs.laws.Names.{one_name, one_option}
use Rattle.row_codec.specs.laws.Numbers.{one16, one_flag}
use Rattle.row_codec.specs.laws.Ones.{one_by, one_pair}
use Rattle.row_codec.specs.laws.Tags.{other_tag}
use Rattle.row_codec.specs.laws.Values.{one_list}

-- kinds of targets
pub one_target_kind : One Any target_kind_spelling
one_target_kind UserCopy UserCopy a b fx fy e = (refl, ap (drop 1) e)
one_target_kind PointInTime PointInTime a b fx fy e = (refl, ap (drop 1) e)
one_target_kind BaseAggregate BaseAggregate a b fx fy e = (refl, ap (drop 1) e)
one_target_kind ChangeAggregate ChangeAggregate a b fx fy e = (refl, ap (drop 1) e)
one_target_kind (Ccd m n) (Ccd m' n') a b fx fy e =
    let same = one_pair {A = Bool} {B = Bool} Any Any flag flag one_flag one_flag (m, n) (m', n') a b (tt, tt) (tt, tt) (ap (drop 1) e) in
    (ap (λ (p : Bool × Bool). Ccd p.0 p.1) same.0, same.1)
one_target_kind Replica Replica a b fx fy e = (refl, ap (drop 1) e)
one_target_kind x y a b fx fy e = absurd (other_tag _ _ _ _ e refl)

-- sources of columns
pub one_source : One IsSource source_spelling
one_source (Plain x) (Plain y) a b fx fy e = let same = one_expr x y a b fx fy (ap (drop 1) e) in (ap (λ (z : Expr). Plain z) same.0, same.1)
one_source Count Count a b fx fy e = (refl, ap (drop 1) e)
one_source (CountOf p) (CountOf q) a b fx fy e = let same = one16 p q a b fx fy (ap (drop 1) e) in (ap (λ (n : ℕ). CountOf n) same.0, same.1)
one_source (Sum p) (Sum q) a b fx fy e = let same = one16 p q a b fx fy (ap (drop 1) e) in (ap (λ (n : ℕ). Sum n) same.0, same.1)
one_source (Min p) (Min q) a b fx fy e = let same = one16 p q a b fx fy (ap (drop 1) e) in (ap (λ (n : ℕ). Min n) same.0, same.1)
one_source (Max p) (Max q) a b fx fy e = let same = one16 p q a b fx fy (ap (drop 1) e) in (ap (λ (n : ℕ). Max n) same.0, same.1)
one_source x y a b fx fy e = absurd (other_tag _ _ _ _ e refl)

-- columns of targets
pub one_target_column : One IsTargetColumn target_column_spelling
one_target_column = one_by (PairFits IsName IsSource) (pair_spelling short_text source_spelling) IsTargetColumn (λ c. (c.name, c.from)) (λ x y e. ap (λ (p : List ℕ × ColumnFrom). record { name = p.0; from = p.1 }) e) (λ _ f. f) (one_pair IsName IsSource short_text source_spelling one_name one_source)

-- lists of them
one_target_columns : One (ListFits IsTargetColumn) (list_spelling target_column_spelling)
one_target_columns = one_list IsTargetColumn target_column_spelling one_target_column

-- filters
one_filter : One IsFilter filter_spelling
one_filter = one_option IsPredicate predicate_spelling one_predicate

-- the two tables of a member
one_tables : One (PairFits IsName IsName) (pair_spelling short_text short_text)
one_tables = one_pair IsName IsName short_text short_text one_name one_name

-- and its target's kind
one_target : One (PairFits (PairFits IsName IsName) Any) (pair_spelling (pair_spelling short_text short_text) target_kind_spelling)
one_target = one_pair (PairFits IsName IsName) Any (pair_spelling short_text short_text) target_kind_spelling one_tables one_target_kind

-- and its columns
one_columned : One (PairFits (PairFits (PairFits IsName IsName) Any) (ListFits IsTargetColumn)) (pair_spelling (pair_spelling (pair_spelling short_text short_text) target_kind_spelling) (list_spelling target_column_spelling))
one_columned = one_pair (PairFits (PairFits IsName IsName) Any) (ListFits IsTargetColumn) (pair_spelling (pair_spelling short_text short_text) target_kind_spelling) (list_spelling target_column_spelling) one_target one_target_columns

-- members
pub one_member : One IsMember member_spelling
one_member = one_by (PairFits (PairFits (PairFits (PairFits IsName IsName) Any) (ListFits IsTargetColumn)) IsFilter) (pair_spelling (pair_spelling (pair_spelling (pair_spelling short_text short_text) target_kind_spelling) (list_spelling target_column_spelling)) filter_spelling) IsMember (λ m. ((((m.source, m.target), m.kind), m.columns), m.filter)) (λ x y e. ap (λ (p : (((List ℕ × List ℕ) × TargetKind) × List TargetColumn) × Option Predicate). record { source = p.0.0.0.0; target = p.0.0.0.1; kind = p.0.0.1; columns = p.0.1; filter = p.1 }) e) (λ _ f. ((((f.0, f.1), f.2), f.3), f.4))
    (one_pair (PairFits (PairFits (PairFits IsName IsName) Any) (ListFits IsTargetColumn)) IsFilter (pair_spelling (pair_spelling (pair_spelling short_text short_text) target_kind_spelling) (list_spelling target_column_spelling)) filter_spelling one_columned one_filter)

-- what is taken has a spelling: sources of columns
pub again_source : (x : ColumnFrom) → IsSource x → HasSourceSpelling x
again_source (Plain e) fits = again_expr e fits
again_source Count fits = tt
again_source (CountOf p) fits = fits
again_source (Sum p) fits = fits
again_source (Min p) fits = fits
again_source (Max p) fits = fits

-- columns of targets
pub again_target_column : (x : TargetColumn) → IsTargetColumn x → HasTargetColumnSpelling x
again_target_column x fits = again_source x.from fits.1

-- members
pub again_member : (x : Member) → IsMember x → HasMemberSpelling x
again_member x fits = (list_again IsTargetColumn HasTargetColumnSpelling again_target_column x.columns fits.3, option_again IsPredicate HasPredicateSpelling again_predicate x.filter fits.4)
