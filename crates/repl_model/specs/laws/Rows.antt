-- The rows of a table, key by key.
use Rattle.std.proofs.Common.{◌≡◌, Bool, true, false, cond, Option, Some, None, ◌⊎◌, inl, inr, refl, sym, ap, subst, ◌∙◌, is_eq, Ordering, Less, Equal, Greater}
use Rattle.std.specs.FinMap.{empty, get, insert, remove, get-empty, get-insert, get-remove, same_map}
use Rattle.std.proofs.lemmas.Bool.{cases_Bool, both_ways}
use Rattle.repl_types.specs.Value.{Values, key_cmp}
use Rattle.repl_model.specs.Tables.{Rows, same_values}
use Rattle.repl_types.specs.laws.Order.{key_cmp_total, exact_key}

-- values that are tested to be alike are equal
pub same_values_exact : (a b : Values) → same_values a b ≡ true → a ≡ b
same_values_exact a b e = exact_key a b (tied (key_cmp a b) e)
  where
    tied : (o : Ordering) → is_eq o ≡ true → o ≡ Equal
    tied Less e = absurd cc
    tied Equal e = refl
    tied Greater e = absurd cc

-- rows that have the same at each key are the same
pub same_rows : (a b : Rows) → ((key : Values) → get a key ≡ get b key) → a ≡ b
same_rows = same_map key_cmp_total exact_key

-- what stands at a key of no rows
pub nothing_at : (q : Values) → get (empty {X = Values} {R = key_cmp}) q ≡ None
nothing_at = get-empty key_cmp

-- what stands at a key after a row was put
pub inserted_at : (rows : Rows) (key row q : Values) → get (insert rows key row) q ≡ cond (same_values q key) (Some row) (get rows q)
inserted_at = get-insert key_cmp_total

-- what stands at a key after a key was removed
pub removed_at : (rows : Rows) (key q : Values) → get (remove rows key) q ≡ cond (same_values q key) None (get rows q)
removed_at = get-remove key_cmp_total

pub ruleset at_key = (nothing_at, inserted_at, removed_at)

-- a row put under a key needs no removal of that key before
pub insert_removed : (rows : Rows) (key row : Values) → insert (remove rows key) key row ≡ insert rows key row
insert_removed rows key row = same_rows _ _ (λ q. simp at_key (once (same_values q key) (Some row) None (get rows q)))
  where
    once : (b : Bool) (x y z : Option Values) → cond b x (cond b y z) ≡ cond b x z
    once true x y z = refl
    once false x y z = refl

-- a row put under an absent key and removed again
pub remove_inserted : (rows : Rows) (key row : Values) → get rows key ≡ None → remove (insert rows key row) key ≡ rows
remove_inserted rows key row absent = same_rows _ _ (λ q. simp at_key (at q))
  where
    at : (q : Values) → cond (same_values q key) None (cond (same_values q key) (Some row) (get rows q)) ≡ get rows q
    at q = elim (cases_Bool (same_values q key)) [
      | inl here ↦ rw here (sym (ap (get rows) (same_values_exact q key here) ∙ absent))
      | inr other ↦ rw other refl
    ]

-- a row removed and put back
pub insert_deleted : (rows : Rows) (key row : Values) → get rows key ≡ Some row → insert (remove rows key) key row ≡ rows
insert_deleted rows key row found = same_rows _ _ (λ q. simp at_key (at q))
  where
    at : (q : Values) → cond (same_values q key) (Some row) (cond (same_values q key) None (get rows q)) ≡ get rows q
    at q = elim (cases_Bool (same_values q key)) [
      | inl here ↦ rw here (sym (ap (get rows) (same_values_exact q key here) ∙ found))
      | inr other ↦ rw other refl
    ]

-- a row replaced, under its key or an absent one, and put back
pub update_back : (rows : Rows) (key new_key row new_row : Values) → get rows key ≡ Some row → (key ≡ new_key) ⊎ (get rows new_key ≡ None) → insert (remove (insert (remove rows key) new_key new_row) new_key) key row ≡ rows
update_back rows key new_key row new_row found free = same_rows _ _ (λ q. simp at_key (at q))
  where
    none_at : (q : Values) → same_values q key ≡ false → same_values q new_key ≡ true → get rows q ≡ None
    none_at q other here = elim free [
      | inl same ↦ absurd (both_ways (same_values q key) other (subst (λ (k : Values). same_values q k ≡ true) (sym same) here))
      | inr absent ↦ ap (get rows) (same_values_exact q new_key here) ∙ absent
    ]

    at : (q : Values) → cond (same_values q key) (Some row) (cond (same_values q new_key) None (cond (same_values q new_key) (Some new_row) (cond (same_values q key) None (get rows q)))) ≡ get rows q
    at q = elim (cases_Bool (same_values q key)) [
      | inl here ↦ rw here (sym (ap (get rows) (same_values_exact q key here) ∙ found))
      | inr other ↦ elim (cases_Bool (same_values q new_key)) [
        | inl there ↦ rw (other, there) (sym (none_at q other there))
        | inr neither ↦ rw (other, neither) refl
      ]
    ]
