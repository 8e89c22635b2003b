-- Tables that are made of rows, in the order of the rows' keys.
use Rattle.std.specs.Prelude.{◌≡◌, ℕ, eqb, Bool, false, not, ◌&&◌, if◌then◌else◌, List, [], ◌∷◌, ◌++◌, filter, Some, None}
use Rattle.std.specs.List.{AllByRecursion, starts_with}
use Rattle.std.specs.Ordering.{is_lt}
use Rattle.std.specs.declared.cmp.Ordering.TheVariants.{Less}
use Rattle.repl_types.specs.Bytes.{bytes_cmp}
use Rattle.keep_core.specs.Contents.{Table, same_key}

-- the one key is before the other
abbrev pub is_before : List ℕ → List ℕ → Bool
is_before k l = is_lt (bytes_cmp k l)

-- the one key is before the other, or they are one
abbrev pub IsUpTo : List ℕ → List ℕ → Type 0
IsUpTo k l = is_before l k ≡ false

-- the table that has each row's value at its key
abbrev pub table_from_rows : {A X : Type 0} → (A → List ℕ) → (X → List ℕ) → List (A × X) → Table
table_from_rows key value [] k = None
table_from_rows key value (r ∷ rs) k = if same_key (key r.0) k then Some (value r.1) else table_from_rows key value rs k

-- all these rows are before the key
abbrev pub AllBefore : {A X : Type 0} → (A → List ℕ) → List ℕ → List (A × X) → Type 0
AllBefore key k rows = AllByRecursion (λ r. bytes_cmp (key r.0) k ≡ Less) rows

-- all these rows are after the key
abbrev pub AllAfter : {A X : Type 0} → (A → List ℕ) → List ℕ → List (A × X) → Type 0
AllAfter key k rows = AllByRecursion (λ r. bytes_cmp k (key r.0) ≡ Less) rows

-- no row is after the key
abbrev pub NoneAfter : {A X : Type 0} → (A → List ℕ) → List ℕ → List (A × X) → Type 0
NoneAfter key k rows = AllByRecursion (λ r. IsUpTo (key r.0) k) rows

-- the rows' keys rise
abbrev pub IsRising : {A X : Type 0} → (A → List ℕ) → List (A × X) → Type 0
IsRising key [] = Unit {0}
IsRising key (r ∷ rs) = AllAfter key (key r.0) rs × IsRising key rs

-- the rows after one key, and up to another
abbrev pub between : {A X : Type 0} → (A → List ℕ) → List ℕ → List ℕ → List (A × X) → List (A × X)
between key low high rows = filter (λ r. is_before low (key r.0) && not (is_before high (key r.0))) rows

-- the rows after a key
abbrev pub rows_after : {A X : Type 0} → (A → List ℕ) → List ℕ → List (A × X) → List (A × X)
rows_after key k rows = filter (λ r. is_before k (key r.0)) rows

-- the rows with this one: in the place of the row at its key, or between those before and after it
abbrev pub with_row : {A X : Type 0} → (A → List ℕ) → A × X → List (A × X) → List (A × X)
with_row key row rows = filter (λ r. is_before (key r.0) (key row.0)) rows ++ row ∷ filter (λ r. is_before (key row.0) (key r.0)) rows

-- the rows, except the one at a key
abbrev pub without_row : {A X : Type 0} → (A → List ℕ) → List ℕ → List (A × X) → List (A × X)
without_row key k rows = filter (λ r. not (same_key (key r.0) k)) rows

-- the key begins with these bytes
abbrev pub begins_with : List ℕ → List ℕ → Bool
begins_with bytes k = starts_with eqb k bytes

-- the rows whose keys begin with these bytes
abbrev pub with_prefix : {A X : Type 0} → (A → List ℕ) → List ℕ → List (A × X) → List (A × X)
with_prefix key bytes rows = filter (λ r. begins_with bytes (key r.0)) rows

-- of the rows, only this one has its key and its value spelled so
abbrev pub IsToldApart : {A X : Type 0} → (A → List ℕ) → (X → List ℕ) → List (A × X) → A × X → Type 0
IsToldApart key value rows row = AllByRecursion (λ r. key r.0 ≡ key row.0 → value r.1 ≡ value row.1 → r ≡ row) rows

-- rows of which a relation holds are equal if their keys and values are spelled alike
abbrev pub SpellsApart : {A X : Type 0} → (A × X → Type 0) → (A → List ℕ) → (X → List ℕ) → Type 0
SpellsApart {A} {X} fits key value = (r s : A × X) → fits r → fits s → key r.0 ≡ key s.0 → value r.1 ≡ value s.1 → r ≡ s

-- this is one of the rows
pub record HasRow {A X : Type 0} (rows : List (A × X)) (row : A × X) : Type 0 where
  pub front : List (A × X)
  pub back : List (A × X)
  pub split : rows ≡ front ++ row ∷ back

-- the first row after a key
pub record NextRow {A X : Type 0} (key : A → List ℕ) (rows : List (A × X)) (after : List ℕ) (row : A × X) : Type 0 where
  pub front : List (A × X)
  pub back : List (A × X)
  pub split : rows ≡ front ++ row ∷ back
  pub passed : NoneAfter key after front
  pub above : bytes_cmp after (key row.0) ≡ Less
  pub later : AllAfter key (key row.0) back
