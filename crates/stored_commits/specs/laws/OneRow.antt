-- Lists in which the one element that is named as a set becomes another.
use Rattle.std.proofs.Common.{◌≡◌, ◌≢◌, ℕ, zero, suc, ◌+◌, ◌<◌, ◌≤◌, ◌^◌, Bool, true, false, cond, not, List, [], ◌∷◌, ◌++◌, length, map, Some, None, inl, inr, refl, sym, ap, ap₂, subst, ◌∙◌, arith, Option, slice_get, option_map}
use Rattle.std.specs.List.{enumerate_from, flat_map, list_any}
use Rattle.std.proofs.lemmas.Bool.{and_parts}
use Rattle.std.proofs.lemmas.List.{length-append, length-map, map-append}
use Rattle.std.proofs.lemmas.Option.{none-some, same_Some, slice_get-map}
use Rattle.world_store.specs.Words.{b32, table_from_rows, or_else, append_at, numbered_parts, numbered_found, same_is}
use Rattle.repl_model.specs.Words.{SetId, same_set, all_differ, In, first_alone, in_second, same_id, id_itself}
use Rattle.keep_core.specs.Contents.{same_key, set_key}
use Rattle.stored_commits.specs.actions.laws.Numbered.{small_in_order, numbered_images}

-- A list of which a change makes the element at a place another, and leaves the others.
pub record OneChanges {X : Type 0} (change : X → X) (xs : List X) (place : ℕ) (x : X) : Type 0 where
  pub front : List X
  pub back : List X
  pub long : length front ≡ place
  pub before : xs ≡ front ++ x ∷ back
  pub after : map change xs ≡ front ++ change x ∷ back

-- ---- by names

module _ {X : Type 0} (id_of : X → SetId) (change : X → X) (x : X) (keeps : (y : X) → same_set (id_of x) (id_of y) ≡ false → change y ≡ y) where
  -- two elements are named alike
  abbrev alike : X → X → Bool
  alike a b = same_set (id_of a) (id_of b)

  -- what isn't named so stays
  other_stays : (y : X) → (alike x y ≡ true → ⊥) → change y ≡ y
  other_stays y apart = by_test (alike x y) refl
    where
      by_test : (b : Bool) → alike x y ≡ b → change y ≡ y
      by_test true e = absurd (apart e)
      by_test false e = keeps y e

  -- so does a list of which nothing is
  others_stay : (ys : List X) → ((y : X) → In y ys → alike x y ≡ true → ⊥) → map change ys ≡ ys
  others_stay [] apart = refl
  others_stay (y ∷ ys) apart = ap₂ (λ (z : X) (zs : List X). z ∷ zs) (other_stays y (apart y (inl refl))) (others_stay ys (λ z i. apart z (inr i)))

  -- if no two are named alike, only the one changes
  pub one_changes : (xs : List X) (place : ℕ) → all_differ alike xs ≡ true → slice_get xs place ≡ Some x → OneChanges change xs place x
  one_changes [] place differ e = absurd (none-some x e)
  one_changes (z ∷ zs) zero differ e =
      let is = same_Some z x e in
      record {
        front = [];
        back = zs;
        long = refl;
        before = ap (λ (w : X). w ∷ zs) is;
        after = ap₂ (λ (w : X) (ws : List X). w ∷ ws) (ap change is) (others_stay zs (λ y i s. first_alone alike z zs differ y i (ap (λ (w : X). alike w y) is ∙ s)));
      }
  one_changes (z ∷ zs) (suc place) differ e = later (one_changes zs place (and_parts (not (list_any (alike z) zs)) (all_differ alike zs) differ).1 e)
    where
      later : OneChanges change zs place x → OneChanges change (z ∷ zs) (suc place) x
      later rest =
          let is_one = subst (In x) (sym rest.before) (in_second rest.front (x ∷ rest.back) x (inl refl)) in
          record {
            front = z ∷ rest.front;
            back = rest.back;
            long = ap suc rest.long;
            before = ap (λ (l : List X). z ∷ l) rest.before;
            after = ap₂ (λ (w : X) (ws : List X). w ∷ ws) (other_stays z (λ s. first_alone alike z zs differ x is_one (subst (λ (id : SetId). same_set id (id_of x) ≡ true) (same_id (id_of x) (id_of z) s) (id_itself (id_of x))))) rest.after;
          }

-- ---- places

-- at another place stands the same, whatever stands at one
around : {X : Type 0} (front : List X) (x y : X) (back : List X) (n : ℕ) → n ≢ length front → slice_get (front ++ y ∷ back) n ≡ slice_get (front ++ x ∷ back) n
around [] x y back zero ne = absurd (ne refl)
around [] x y back (suc n) ne = refl
around (z ∷ zs) x y back zero ne = refl
around (z ∷ zs) x y back (suc n) ne = around zs x y back n (λ e. ne (ap suc e))

-- at another place than that of the one that changes stands what stood there
pub places_stay : {X : Type 0} (change : X → X) (xs : List X) (place : ℕ) (x : X) → OneChanges change xs place x → (n : ℕ) → n ≢ place → slice_get (map change xs) n ≡ slice_get xs n
places_stay {X} change xs place x one n ne =
    ap (λ (l : List X). slice_get l n) one.after
    ∙ around one.front x (change x) one.back n (λ e. ne (e ∙ one.long))
    ∙ sym (ap (λ (l : List X). slice_get l n) one.before)

-- at the place of the one that changes stands what it becomes
pub stands_changed : {X : Type 0} (change : X → X) (xs : List X) (place : ℕ) (x : X) → slice_get xs place ≡ Some x → slice_get (map change xs) place ≡ Some (change x)
stands_changed change xs place x is = slice_get-map change xs place ∙ ap (option_map change) is

-- ---- rows

-- what is made of each with its number stays if it is made alike of what the element becomes
pub numbered_stay : {X Y : Type 0} (row : ℕ × X → Y) (change : X → X) → ((n : ℕ) (x : X) → row (n, change x) ≡ row (n, x)) → (b : ℕ) (xs : List X) → map row (enumerate_from b (map change xs)) ≡ map row (enumerate_from b xs)
numbered_stay row change alike b [] = refl
numbered_stay {X} {Y} row change alike b (x ∷ xs) = ap₂ (λ (y : Y) (ys : List Y). y ∷ ys) (alike b x) (numbered_stay row change alike (b + 1) xs)

-- and so if it is a list
pub numbered_lists_stay : {X Y : Type 0} (rows : ℕ × X → List Y) (change : X → X) → ((n : ℕ) (x : X) → rows (n, change x) ≡ rows (n, x)) → (b : ℕ) (xs : List X) → flat_map rows (enumerate_from b (map change xs)) ≡ flat_map rows (enumerate_from b xs)
numbered_lists_stay rows change alike b [] = refl
numbered_lists_stay {X} {Y} rows change alike b (x ∷ xs) = ap₂ (λ (ys zs : List Y). ys ++ zs) (alike b x) (numbered_lists_stay rows change alike (b + 1) xs)

-- the lists that are made of each with its number stay if those of one element are made alike of another
of_one_stay : {X Y : Type 0} (rows : ℕ × X → List Y) (front : List X) (x y : X) (back : List X) → ((n : ℕ) → rows (n, y) ≡ rows (n, x)) → (b : ℕ) → flat_map rows (enumerate_from b (front ++ y ∷ back)) ≡ flat_map rows (enumerate_from b (front ++ x ∷ back))
of_one_stay {X} {Y} rows [] x y back alike b = ap (λ (ys : List Y). ys ++ flat_map rows (enumerate_from (b + 1) back)) (alike b)
of_one_stay {X} {Y} rows (z ∷ zs) x y back alike b = ap (λ (ys : List Y). rows (b, z) ++ ys) (of_one_stay rows zs x y back alike (b + 1))

-- and so if one of the elements changes
pub lists_of_one_stay : {X Y : Type 0} (rows : ℕ × X → List Y) (change : X → X) (xs : List X) (place : ℕ) (x : X) → OneChanges change xs place x → ((n : ℕ) → rows (n, change x) ≡ rows (n, x)) → (b : ℕ) → flat_map rows (enumerate_from b (map change xs)) ≡ flat_map rows (enumerate_from b xs)
lists_of_one_stay {X} rows change xs place x one alike b =
    ap (λ (l : List X). flat_map rows (enumerate_from b l)) one.after
    ∙ of_one_stay rows one.front x (change x) one.back alike b
    ∙ sym (ap (λ (l : List X). flat_map rows (enumerate_from b l)) one.before)

-- The table of numbered values of which one becomes another is the table before, with that one put at its number.
replaced : {X : Type 0} (value : X → List ℕ) (front : List X) (x y : X) (back : List X) → length front < 2 ^ 32
    → table_from_rows b32 value (enumerate_from 0 (front ++ y ∷ back)) ≡ set_key (table_from_rows b32 value (enumerate_from 0 (front ++ x ∷ back))) (b32 (length front)) (Some (value y))
replaced {X} value front x y back few = λ i q. at q i
  where
    place : ℕ
    place = length front

    rest : List (ℕ × X)
    rest = enumerate_from (place + 1) back

    in_front : List ℕ → Option (List ℕ)
    in_front q = table_from_rows b32 value (enumerate_from 0 front) q

    in_back : List ℕ → Option (List ℕ)
    in_back q = table_from_rows b32 value rest q

    -- nothing stands there in front
    free : (q : List ℕ) → same_key (b32 place) q ≡ true → in_front q ≡ None
    free q s = ap in_front (sym (same_is (b32 place) q s)) ∙ by_one (in_front (b32 place)) refl
      where
        by_one : (o : Option (List ℕ)) → in_front (b32 place) ≡ o → o ≡ None
        by_one None e = refl
        by_one (Some v) e = absurd (omega (arith, (numbered_found b32 (2 ^ 32) small_in_order value 0 place front v (omega (arith, few)) few e).1))

    parts : (z : X) (q : List ℕ) → table_from_rows b32 value (enumerate_from 0 (front ++ z ∷ back)) q ≡ or_else (in_front q) (cond (same_key (b32 place) q) (Some (value z)) (in_back q))
    parts z q =
        ap (λ (rows : List (ℕ × X)). table_from_rows b32 value rows q) (numbered_parts 0 front (z ∷ back) ∙ ap (λ (n : ℕ). enumerate_from 0 front ++ enumerate_from n (z ∷ back)) (omega arith))
        ∙ append_at b32 value (enumerate_from 0 front) ((place, z) ∷ rest) q

    put : (o p : Option (List ℕ)) (same : Bool) → (same ≡ true → o ≡ None) → or_else o (cond same (Some (value y)) p) ≡ cond same (Some (value y)) (or_else o (cond same (Some (value x)) p))
    put None p true none = refl
    put None p false none = refl
    put (Some v) p true none = absurd (none-some v (sym (none refl)))
    put (Some v) p false none = refl

    at : (q : List ℕ) → table_from_rows b32 value (enumerate_from 0 (front ++ y ∷ back)) q ≡ set_key (table_from_rows b32 value (enumerate_from 0 (front ++ x ∷ back))) (b32 place) (Some (value y)) q
    at q =
        parts y q
        ∙ put (in_front q) (in_back q) (same_key (b32 place) q) (free q)
        ∙ ap (λ (o : Option (List ℕ)). cond (same_key (b32 place) q) (Some (value y)) o) (sym (parts x q))

module _ {X R : Type 0} (row : X → R) (value : R → List ℕ) (change : X → X) (xs : List X) (place : ℕ) (x : X) (one : OneChanges change xs place x) where
  -- The table of what is made of each of some things under its number, once one of them becomes another, is the table
  -- before, with what is made of that one put at its number.
  pub row_changes : length xs ≤ 256 → table_from_rows b32 value (map (λ s. (s.0, row s.1)) (enumerate_from 0 (map change xs))) ≡ set_key (table_from_rows b32 value (map (λ s. (s.0, row s.1)) (enumerate_from 0 xs))) (b32 place) (Some (value (row (change x))))
  row_changes few =
      ap (table_from_rows b32 value) (numbered_images row 0 (map change xs) ∙ ap (λ (l : List X). enumerate_from 0 (map row l)) one.after ∙ parts (change x))
      ∙ replaced value front (row x) (row (change x)) back (omega (arith, few, length-map one.front row, ap length one.before, length-append one.front (x ∷ one.back)))
      ∙ ap (λ (n : ℕ). set_key (table_from_rows b32 value (enumerate_from 0 (front ++ row x ∷ back))) (b32 n) (Some (value (row (change x))))) (length-map one.front row ∙ one.long)
      ∙ ap (λ (rows : List (ℕ × R)). set_key (table_from_rows b32 value rows) (b32 place) (Some (value (row (change x))))) (sym (numbered_images row 0 xs ∙ ap (λ (l : List X). enumerate_from 0 (map row l)) one.before ∙ parts x))
    where
      front : List R
      front = map row one.front

      back : List R
      back = map row one.back

      parts : (y : X) → enumerate_from 0 (map row (one.front ++ y ∷ one.back)) ≡ enumerate_from 0 (front ++ row y ∷ back)
      parts y = ap (λ (l : List R). enumerate_from 0 l) (map-append row one.front (y ∷ one.back))
