-- Making a change at its table, and taking it back: proofs.
use Rattle.std.proofs.Common.{◌≡◌, ℕ, Bool, true, false, cond, List, refl, sym, ap, subst, ◌∙◌, arith, Option, Some, None, ◌&&◌, ◌==◌, eqb-true}
use Rattle.std.proofs.lemmas.Bool.Decides.{nat_tests}
use Rattle.world_store.specs.Words.{not_both, same_is, put_here, key_spelling, row_spelling}
use Rattle.site_store.specs.Words.{Contents, Table, set_key, with_table, put_at, same_key}
use Rattle.repl_model.specs.Words.{same_area, Values, Area, Change, DefinedTable, key_of, inverse}
use Rattle.repl_types.specs.declared.area.Area.TheVariants as areas
use Rattle.repl_types.specs.declared.record.Change.TheVariants.{Insert, Update, Delete}
use Rattle.stored_commits.specs.records.SourceTables.{with_effect}
use Rattle.source_log.specs.Making.{with_made}

-- a table that is replaced twice
pub with_twice : (c : Contents) (a : Area) (n : ℕ) (s t : Table) → with_table (with_table c a n s) a n t ≡ with_table c a n t
with_twice c a n s t = λ i b u. pick b u (same_area a b && (n == u)) i
  where
    pick : (b : Area) (u : ℕ) (x : Bool) → cond x t (cond x s (c b u)) ≡ cond x t (c b u)
    pick b u true = refl
    pick b u false = refl

-- two writes of a table
pub put_twice : (c : Contents) (a : Area) (n : ℕ) (k l : List ℕ) (v w : Option (List ℕ)) → put_at (put_at c a n k v) a n l w ≡ with_table c a n (set_key (set_key (c a n) k v) l w)
put_twice c a n k l v w = ap (λ (t : Table). with_table (put_at c a n k v) a n (set_key t l w)) (put_here c a n k v) ∙ with_twice c a n (set_key (c a n) k v) (set_key (set_key (c a n) k v) l w)

-- the table of a replaced table
pub table_here : (c : Contents) (a : Area) (n : ℕ) (t : Table) → with_table c a n t a n ≡ t
table_here c a n t = subst (λ (x : Bool). cond x t (c a n) ≡ t) (sym (both_true (same_area a a) (n == n) (same_itself a) (eq_itself n))) refl
  where
    both_true : (x y : Bool) → x ≡ true → y ≡ true → (x && y) ≡ true
    both_true x y p q = ap (λ (z : Bool). z && y) p ∙ q

    same_itself : (a : Area) → same_area a a ≡ true
    same_itself areas.Log = refl
    same_itself areas.Source = refl
    same_itself areas.Inflight = refl
    same_itself areas.Head = refl
    same_itself areas.Defs = refl
    same_itself areas.Cd = refl
    same_itself areas.Uow = refl
    same_itself areas.Capture = refl
    same_itself areas.Prune = refl
    same_itself areas.Spill = refl
    same_itself areas.Target = refl
    same_itself areas.SetState = refl
    same_itself areas.Trail = refl

    eq_itself : (n : ℕ) → (n == n) ≡ true
    eq_itself n = grind (arith, nat_tests)

-- a table that is replaced by itself
pub with_itself : (c : Contents) (a : Area) (n : ℕ) → ((b : Area) → same_area a b ≡ true → a ≡ b) → with_table c a n (c a n) ≡ c
with_itself c a n named = λ i b u. pick b u (same_area a b) refl (n == u) refl i
  where
    pick : (b : Area) (u : ℕ) (x : Bool) → same_area a b ≡ x → (y : Bool) → (n == u) ≡ y → cond (x && y) (c a n) (c b u) ≡ c b u
    pick b u false e y f = refl
    pick b u true e false f = refl
    pick b u true e true f = ap (λ (p : Area × ℕ). c p.0 p.1) (λ i. (named b e i, eqb-true n u f i))

-- an area of the source is known by its number
pub is_source : (b : Area) → same_area areas.Source b ≡ true → areas.Source ≡ b
is_source areas.Log e = absurd cc
is_source areas.Source e = refl
is_source areas.Inflight e = absurd cc
is_source areas.Head e = absurd cc
is_source areas.Defs e = absurd cc
is_source areas.Cd e = absurd cc
is_source areas.Uow e = absurd cc
is_source areas.Capture e = absurd cc
is_source areas.Prune e = absurd cc
is_source areas.Spill e = absurd cc
is_source areas.Target e = absurd cc
is_source areas.SetState e = absurd cc
is_source areas.Trail e = absurd cc

-- ---- taking back

-- if a change and its inverse leave the table, they leave the contents
pub back_by_table : (table : DefinedTable) (change : Change) (c : Contents) → with_effect table.def (inverse change) (with_effect table.def change (c areas.Source table.number)) ≡ c areas.Source table.number → with_made table (inverse change) (with_made table change c) ≡ c
back_by_table table change c back =
    let n = table.number in
    let t : Table = with_effect table.def change (c areas.Source n) in
    ap (λ (s : Table). with_table (with_table c areas.Source n t) areas.Source n (with_effect table.def (inverse change) s)) (table_here c areas.Source n t)
    ∙ with_twice c areas.Source n t (with_effect table.def (inverse change) t)
    ∙ ap (with_table c areas.Source n) back
    ∙ with_itself c areas.Source n is_source

-- a row that was put where none was is removed again
pub insert_back : (t : Table) (k : List ℕ) (v : List ℕ) → t k ≡ None → set_key (set_key t k (Some v)) k None ≡ t
insert_back t k v free = λ i q. pick q (same_key k q) refl i
  where
    pick : (q : List ℕ) (x : Bool) → same_key k q ≡ x → cond x None (cond x (Some v) (t q)) ≡ t q
    pick q true e = sym free ∙ ap t (same_is k q e)
    pick q false e = refl

-- a row that was removed is put again
pub delete_back : (t : Table) (k : List ℕ) (v : List ℕ) → t k ≡ Some v → set_key (set_key t k None) k (Some v) ≡ t
delete_back t k v has = λ i q. pick q (same_key k q) refl i
  where
    pick : (q : List ℕ) (x : Bool) → same_key k q ≡ x → cond x (Some v) (cond x None (t q)) ≡ t q
    pick q true e = sym has ∙ ap t (same_is k q e)
    pick q false e = refl

-- a row that was replaced is put again, if the key of the other is the same or was free
pub update_back : (t : Table) (k l : List ℕ) (v w : List ℕ) → t k ≡ Some v → (same_key l k ≡ false → t l ≡ None) → set_key (set_key (set_key (set_key t k None) l (Some w)) l None) k (Some v) ≡ t
update_back t k l v w has free = λ i q. pick q (same_key k q) refl (same_key l q) refl i
  where
    pick : (q : List ℕ) (x : Bool) → same_key k q ≡ x → (y : Bool) → same_key l q ≡ y → cond x (Some v) (cond y None (cond y (Some w) (cond x None (t q)))) ≡ t q
    pick q true e y f = sym has ∙ ap t (same_is k q e)
    pick q false e false f = refl
    pick q false e true f = sym (free (apart (same_key l k) refl)) ∙ ap t (same_is l q f)
      where
        apart : (z : Bool) → same_key l k ≡ z → same_key l k ≡ false
        apart false g = g
        apart true g = absurd (not_both (same_key k q) (subst (λ (j : List ℕ). same_key j q ≡ true) (same_is l k g) f) e)

-- ---- what a call makes, arm by arm

module _ (table : DefinedTable) where
  -- a row is put by an insert, or by a delete that is taken back
  pub made_insert : (change : Change) (name : List ℕ) (row : Values) (c d : Contents) → change ≡ Insert name row → d ≡ put_at c areas.Source table.number (key_spelling (key_of table.def row)) (Some (row_spelling row)) → d ≡ with_made table change c
  made_insert change name row c d is puts = subst (λ (x : Change). d ≡ with_made table x c) (sym is) puts

  -- removed by a delete
  pub made_delete : (change : Change) (name : List ℕ) (row : Values) (c d : Contents) → change ≡ Delete name row → d ≡ put_at c areas.Source table.number (key_spelling (key_of table.def row)) None → d ≡ with_made table change c
  made_delete change name row c d is puts = subst (λ (x : Change). d ≡ with_made table x c) (sym is) puts

  -- and replaced by an update
  pub made_update : (change : Change) (name : List ℕ) (before after : Values) (c d : Contents) → change ≡ Update name before after → d ≡ put_at (put_at c areas.Source table.number (key_spelling (key_of table.def before)) None) areas.Source table.number (key_spelling (key_of table.def after)) (Some (row_spelling after)) → d ≡ with_made table change c
  made_update change name before after c d is puts = subst (λ (x : Change). d ≡ with_made table x c) (sym is) (puts ∙ put_twice c areas.Source table.number (key_spelling (key_of table.def before)) (key_spelling (key_of table.def after)) None (Some (row_spelling after)))
