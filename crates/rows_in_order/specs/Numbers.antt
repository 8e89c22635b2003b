-- Rows whose keys are numbers.
use Rattle.std.specs.Prelude.{◌≡◌, ℕ, ◌<◌, ◌≤◌, ltb, leb, not, ◌&&◌, ◌==◌, List, [], ◌∷◌, ◌++◌, filter}
use Rattle.std.specs.List.{AllByRecursion}
use Rattle.std.specs.Ordering.{nat_cmp}
use Rattle.repl_types.specs.Bytes.{bytes_cmp}

-- the spellings of numbers below a limit are in the order of the numbers
abbrev pub SpellsInOrder : (ℕ → List ℕ) → ℕ → Type 0
SpellsInOrder key limit = (a b : ℕ) → a < limit → b < limit → bytes_cmp (key a) (key b) ≡ nat_cmp a b

-- all rows' numbers are below a limit
abbrev pub AllBelow : {X : Type 0} → ℕ → List (ℕ × X) → Type 0
AllBelow limit rows = AllByRecursion (λ r. r.0 < limit) rows

-- all rows' numbers are above a number
abbrev pub AllAbove : {X : Type 0} → ℕ → List (ℕ × X) → Type 0
AllAbove n rows = AllByRecursion (λ r. n < r.0) rows

-- no row's number is above a number
abbrev pub NoneAbove : {X : Type 0} → ℕ → List (ℕ × X) → Type 0
NoneAbove n rows = AllByRecursion (λ r. r.0 ≤ n) rows

-- the rows' numbers rise
abbrev pub NumbersRise : {X : Type 0} → List (ℕ × X) → Type 0
NumbersRise [] = Unit {0}
NumbersRise (r ∷ rs) = AllAbove r.0 rs × NumbersRise rs

-- the rows above one number, and up to another
abbrev pub numbers_between : {X : Type 0} → ℕ → ℕ → List (ℕ × X) → List (ℕ × X)
numbers_between low high rows = filter (λ r. ltb low r.0 && leb r.0 high) rows

-- the first row above a number
pub record NextNumber {X : Type 0} (rows : List (ℕ × X)) (after : ℕ) (row : ℕ × X) : Type 0 where
  pub front : List (ℕ × X)
  pub back : List (ℕ × X)
  pub split : rows ≡ front ++ row ∷ back
  pub passed : NoneAbove after front
  pub above : after < row.0
  pub later : AllAbove row.0 back

-- the rows with this one: in the place of the row of its number, or between those below and above it
abbrev pub with_number : {X : Type 0} → ℕ × X → List (ℕ × X) → List (ℕ × X)
with_number row rows = filter (λ r. ltb r.0 row.0) rows ++ row ∷ filter (λ r. ltb row.0 r.0) rows

-- the rows, except the one of a number
abbrev pub without_number : {X : Type 0} → ℕ → List (ℕ × X) → List (ℕ × X)
without_number n rows = filter (λ r. not (r.0 == n)) rows
