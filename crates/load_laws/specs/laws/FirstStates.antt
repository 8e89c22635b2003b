-- Tables in which a missing record is read from another one.
use Rattle.std.proofs.Common.{◌≡◌, ℕ, ◌+◌, List, ◌++◌, length, map, refl, sym, ap, ◌∙◌, arith, Option, Some, None}
use Rattle.std.specs.List.{AllByRecursion, enumerate_from, flat_map}
use Rattle.std.specs.Option.{option_or}
use Rattle.std.proofs.lemmas.List.{map-append}
use Rattle.std.proofs.lemmas.List.Concat.{flat_map-append}
use Rattle.repl_model.specs.Words.{numbered_alike, numbered_lists_alike}
use Rattle.world_store.specs.Words.{table_from_rows, or_else, append_at, numbered_parts, with_first}
use Rattle.keep_core.specs.Contents.{Table}

-- if a table is read as some rows, it is read with further ones, which missing records stand for, as those and these
pub first_more : {A X : Type 0} (key : A → List ℕ) (value : X → List ℕ) (first rows more : List (A × X)) (t : Table) → with_first (table_from_rows key value first) t ≡ table_from_rows key value rows → with_first (table_from_rows key value (first ++ more)) t ≡ table_from_rows key value (rows ++ more)
first_more key value first rows more t holds = λ i k. at k i
  where
    apart : (a b c : Option (List ℕ)) → option_or a (or_else b c) ≡ or_else (option_or a b) c
    apart None b c = refl
    apart (Some v) b c = refl

    at : (k : List ℕ) → option_or (t k) (table_from_rows key value (first ++ more) k) ≡ table_from_rows key value (rows ++ more) k
    at k =
        ap (option_or (t k)) (append_at key value first more k)
        ∙ apart (t k) (table_from_rows key value first k) (table_from_rows key value more k)
        ∙ ap (λ (u : Table). or_else (u k) (table_from_rows key value more k)) holds
        ∙ sym (append_at key value rows more k)

module _ {A X Y : Type 0} (key : A → List ℕ) (value : X → List ℕ) (first row : ℕ × Y → A × X) (xs ys : List Y) (t : Table) where
  -- the same of numbered elements, if the rows of further ones are those that missing records stand for
  pub numbered_more : AllByRecursion (λ y. (n : ℕ) → first (n, y) ≡ row (n, y)) ys → with_first (table_from_rows key value (map first (enumerate_from 0 xs))) t ≡ table_from_rows key value (map row (enumerate_from 0 xs))
      → with_first (table_from_rows key value (map first (enumerate_from 0 (xs ++ ys)))) t ≡ table_from_rows key value (map row (enumerate_from 0 (xs ++ ys)))
  numbered_more all holds =
      ap (λ (rows : List (A × X)). with_first (table_from_rows key value rows) t) (parts first)
      ∙ first_more key value (map first (enumerate_from 0 xs)) (map row (enumerate_from 0 xs)) (map first (enumerate_from (length xs) ys)) t holds
      ∙ ap (λ (rows : List (A × X)). table_from_rows key value (map row (enumerate_from 0 xs) ++ rows)) (numbered_alike first row (length xs) ys all)
      ∙ ap (table_from_rows key value) (sym (parts row))
    where
      parts : (f : ℕ × Y → A × X) → map f (enumerate_from 0 (xs ++ ys)) ≡ map f (enumerate_from 0 xs) ++ map f (enumerate_from (length xs) ys)
      parts f = ap (map f) (numbered_parts 0 xs ys) ∙ map-append f (enumerate_from 0 xs) (enumerate_from (0 + length xs) ys) ∙ ap (λ (n : ℕ). map f (enumerate_from 0 xs) ++ map f (enumerate_from n ys)) (omega arith)

module _ {A X Y : Type 0} (key : A → List ℕ) (value : X → List ℕ) (first row : ℕ × Y → List (A × X)) (xs ys : List Y) (t : Table) where
  -- and if each has several rows
  pub numbered_lists_more : AllByRecursion (λ y. (n : ℕ) → first (n, y) ≡ row (n, y)) ys → with_first (table_from_rows key value (flat_map first (enumerate_from 0 xs))) t ≡ table_from_rows key value (flat_map row (enumerate_from 0 xs))
      → with_first (table_from_rows key value (flat_map first (enumerate_from 0 (xs ++ ys)))) t ≡ table_from_rows key value (flat_map row (enumerate_from 0 (xs ++ ys)))
  numbered_lists_more all holds =
      ap (λ (rows : List (A × X)). with_first (table_from_rows key value rows) t) (parts first)
      ∙ first_more key value (flat_map first (enumerate_from 0 xs)) (flat_map row (enumerate_from 0 xs)) (flat_map first (enumerate_from (length xs) ys)) t holds
      ∙ ap (λ (rows : List (A × X)). table_from_rows key value (flat_map row (enumerate_from 0 xs) ++ rows)) (numbered_lists_alike first row (length xs) ys all)
      ∙ ap (table_from_rows key value) (sym (parts row))
    where
      parts : (f : ℕ × Y → List (A × X)) → flat_map f (enumerate_from 0 (xs ++ ys)) ≡ flat_map f (enumerate_from 0 xs) ++ flat_map f (enumerate_from (length xs) ys)
      parts f = ap (flat_map f) (numbered_parts 0 xs ys) ∙ flat_map-append f (enumerate_from 0 xs) (enumerate_from (0 + length xs) ys) ∙ ap (λ (n : ℕ). flat_map f (enumerate_from 0 xs) ++ flat_map f (enumerate_from n ys)) (omega arith)
