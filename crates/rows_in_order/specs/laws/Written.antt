-- What a write changes, and what it leaves alone.
use Rattle.std.proofs.Common.{◌≡◌, ◌≢◌, ℕ, Bool, true, false, cond, List, [], ◌∷◌, ◌++◌, refl, sym, ap, ◌∙◌, arith, Option, Some, None, ◌==◌, ◌&&◌, eq-eqb}
use Rattle.std.proofs.lemmas.Bool.Decides.{nat_tests}
use Rattle.repl_types.specs.Area.{area_number, same_area}
use Rattle.repl_types.specs.declared.area.Area.{Area}
use Rattle.keep_core.specs.Contents.{Contents, Table, set_key, put_at}
use Rattle.rows_in_order.specs.Rows.{table_from_rows, AllBefore, AllAfter, with_row, without_row}
use Rattle.rows_in_order.specs.laws.Changed.{table_with, table_without}
use Rattle.rows_in_order.specs.laws.Rising.{table_push, table_pop}

-- two numbers that differ are told apart
pub differ_numbers : (t u : ℕ) → t ≢ u → (t == u) ≡ false
differ_numbers t u ne = grind (arith, nat_tests)

-- the table that is written
pub put_here : (c : Contents) (a : Area) (t : ℕ) (k : List ℕ) (v : Option (List ℕ)) → put_at c a t k v a t ≡ set_key (c a t) k v
put_here c a t k v = let new = set_key (c a t) k v in ap (λ (b : Bool). cond (b && (t == t)) new (c a t)) (eq-eqb (area_number a) (area_number a) refl) ∙ ap (λ (b : Bool). cond b new (c a t)) (eq-eqb t t refl)

-- another table of the area
pub put_other_table : (c : Contents) (a : Area) (t u : ℕ) (k : List ℕ) (v : Option (List ℕ)) → t ≢ u → put_at c a t k v a u ≡ c a u
put_other_table c a t u k v ne = let new = set_key (c a t) k v in ap (λ (b : Bool). cond (same_area a a && b) new (c a u)) (differ_numbers t u ne) ∙ none (same_area a a)
  where
    none : (b : Bool) → cond (b && false) (set_key (c a t) k v) (c a u) ≡ c a u
    none true = refl
    none false = refl

-- a table of another area
pub put_other_area : (c : Contents) (a b : Area) (t u : ℕ) (k : List ℕ) (v : Option (List ℕ)) → same_area a b ≡ false → put_at c a t k v b u ≡ c b u
put_other_area c a b t u k v apart = ap (λ (s : Bool). cond (s && (t == u)) (set_key (c a t) k v) (c b u)) apart

-- ---- rows

module _ {A X : Type 0} (key : A → List ℕ) (value : X → List ℕ) (c : Contents) (a : Area) (t : ℕ) where
  -- what is written where a table of rows stands
  write_at : (k : List ℕ) (v : Option (List ℕ)) (rows : List (A × X)) → c a t ≡ table_from_rows key value rows → put_at c a t k v a t ≡ set_key (table_from_rows key value rows) k v
  write_at k v rows is = put_here c a t k v ∙ ap (λ (u : Table). set_key u k v) is

  -- a row that is put at its key
  pub written_put : (row : A × X) (rows : List (A × X)) → c a t ≡ table_from_rows key value rows → put_at c a t (key row.0) (Some (value row.1)) a t ≡ table_from_rows key value (with_row key row rows)
  written_put row rows is = write_at (key row.0) (Some (value row.1)) rows is ∙ sym (table_with key value row rows)

  -- the row of a key that is removed
  pub written_removed : (k : List ℕ) (rows : List (A × X)) → c a t ≡ table_from_rows key value rows → put_at c a t k None a t ≡ table_from_rows key value (without_row key k rows)
  written_removed k rows is = write_at k None rows is ∙ sym (table_without key value k rows)

  -- a row that is put after all others goes to the end
  pub written_last : (row : A × X) (rows : List (A × X)) → c a t ≡ table_from_rows key value rows → AllBefore key (key row.0) rows → put_at c a t (key row.0) (Some (value row.1)) a t ≡ table_from_rows key value (rows ++ row ∷ [])
  written_last row rows is before = write_at (key row.0) (Some (value row.1)) rows is ∙ sym (table_push key value rows row before)

  -- the first row that is removed leaves the others
  pub written_first : (row : A × X) (rows : List (A × X)) → c a t ≡ table_from_rows key value (row ∷ rows) → AllAfter key (key row.0) rows → put_at c a t (key row.0) None a t ≡ table_from_rows key value rows
  written_first row rows is after = write_at (key row.0) None (row ∷ rows) is ∙ table_pop key value row rows after
