-- Rows are put into a table inside a transaction, one after another.
use Rattle.std.proofs.Common.{◌≡◌, ℕ, ◌+◌, ◌<◌, ◌≤◌, Bool, true, false, cond, List, [], ◌∷◌, ◌++◌, length, get_or, take, refl, sym, ap, subst, ◌∙◌, arith, ◌&&◌, ◌==◌, Option, Some, None, is_some, eqb-true, eq-eqb}
use Rattle.std.proofs.lemmas.List.{take_more, take_all, get_or-set_same}
use Rattle.std.proofs.lemmas.List.Sums.{fold-append}
use Rattle.site_store.specs.Words.{Contents, Table, set_key, with_table, put_at, Kept, work, IsOpenAt, Works, Sets, NoDamage, WorksOn, both, writes_of_one, AtServer, Puts, Fails, IsAtMost, works_none, works_put, works_on, open_below}
use Rattle.site_store.specs.declared.sites.Sites.{Sites}
use Rattle.repl_model.specs.Words.{same_area, area_number, Area, Fault}
use Rattle.repl_types.specs.declared.area.Area.TheVariants as areas
use Rattle.load_laws.specs.planned.Planned.{with_rows}
use Rattle.load_defs.specs.Putting.{with_put}
use Rattle.load_defs.proofs.Faults.{fails_on}

-- writes of one area of one server add up
writes_more : (m n k s : ℕ) (a : Area) → m + n ≤ k → IsAtMost (both (writes_of_one m s a) (writes_of_one n s a)) (writes_of_one k s a)
writes_more m n k s a le = record { reads = λ q b. omega arith; writes = λ q b. pick (same_area a b && (s == q)) }
  where
    pick : (t : Bool) → cond t m 0 + cond t n 0 ≤ cond t k 0
    pick true = le
    pick false = omega arith

-- ---- tables in contents

-- the later of two tables in one place is there
table_again : (c : Contents) (a : Area) (t : ℕ) (x y : Table) → with_table (with_table c a t x) a t y ≡ with_table c a t y
table_again c a t x y = λ i b u. pick b u (same_area a b && (t == u)) i
  where
    pick : (b : Area) (u : ℕ) (s : Bool) → cond s y (cond s x (c b u)) ≡ cond s y (c b u)
    pick b u true = refl
    pick b u false = refl

-- a table is where it was put
table_here : (c : Contents) (a : Area) (t : ℕ) (x : Table) → with_table c a t x a t ≡ x
table_here c a t x = ap (λ (b : Bool). cond (b && (t == t)) x (c a t)) (eq-eqb (area_number a) (area_number a) refl) ∙ ap (λ (b : Bool). cond b x (c a t)) (eq-eqb t t refl)

-- a table in its own place changes nothing
table_same : (c : Contents) (a : Area) (t : ℕ) → with_table c a t (c a t) ≡ c
table_same c a t = λ i b u. at a b u i
  where
    here : (b : Area) (u : ℕ) → cond (t == u) (c b t) (c b u) ≡ c b u
    here b u = pick (t == u) refl
      where
        pick : (s : Bool) → (t == u) ≡ s → cond s (c b t) (c b u) ≡ c b u
        pick true same = ap (c b) (eqb-true t u same)
        pick false other = refl

    at : (a b : Area) (u : ℕ) → with_table c a t (c a t) b u ≡ c b u
    at areas.Log areas.Log u = here areas.Log u
    at areas.Source areas.Source u = here areas.Source u
    at areas.Inflight areas.Inflight u = here areas.Inflight u
    at areas.Head areas.Head u = here areas.Head u
    at areas.Defs areas.Defs u = here areas.Defs u
    at areas.Cd areas.Cd u = here areas.Cd u
    at areas.Uow areas.Uow u = here areas.Uow u
    at areas.Capture areas.Capture u = here areas.Capture u
    at areas.Prune areas.Prune u = here areas.Prune u
    at areas.Spill areas.Spill u = here areas.Spill u
    at areas.Target areas.Target u = here areas.Target u
    at areas.SetState areas.SetState u = here areas.SetState u
    at areas.Trail areas.Trail u = here areas.Trail u
    at a b u = refl

-- ---- rows

-- a transaction that went on is open
still_open : (w0 w1 : List (Option (Option Contents))) (s : ℕ) (P : Contents → Contents → Type 0) → IsOpenAt w0 s → Works w0 w1 s P → IsOpenAt w1 s
still_open w0 w1 s P open_at works = ap is_some (ap (λ (l : List (Option (Option Contents))). get_or l s None) works.is ∙ get_or-set_same w0 s (Some works.now) None (open_below w0 s open_at))

module _ {A X : Type 0} (key : A → List ℕ) (value : X → List ℕ) (a : Area) (t : ℕ) (rows : List (A × X)) where
  -- a table with one row more has one key more set
  rows_more : (n : ℕ) (row : A × X) (u : Table) → n < length rows → row ≡ get_or rows n row → with_rows key value (take (n + 1) rows) u ≡ set_key (with_rows key value (take n rows) u) (key row.0) (Some (value row.1))
  rows_more n row u lt is =
      ap (λ (l : List (A × X)). with_rows key value l u) (take_more rows n row lt ∙ ap (λ (r : A × X). take n rows ++ r ∷ []) (sym is))
      ∙ fold-append (λ (v : Table) (r : A × X). set_key v (key r.0) (Some (value r.1))) u (take n rows) (row ∷ [])

  -- contents with one row more
  put_more : (n : ℕ) (row : A × X) (c : Contents) → n < length rows → row ≡ get_or rows n row → put_at (with_put key value a t (take n rows) c) a t (key row.0) (Some (value row.1)) ≡ with_put key value a t (take (n + 1) rows) c
  put_more n row c lt is =
      let k = key row.0 in
      let v = value row.1 in
      let front = with_rows key value (take n rows) (c a t) in
      ap (λ (u : Table). with_table (with_table c a t front) a t (set_key u k (Some v))) (table_here c a t front)
      ∙ table_again c a t front (set_key front k (Some v))
      ∙ ap (with_table c a t) (sym (rows_more n row (c a t) lt is))

  module _ {K : Type 0} (kept : K → Kept) (s0 : Sites K) (server : ℕ) (open_at : IsOpenAt (work kept s0) server) where
    -- the first rows were put
    abbrev pub HasPut : Sites K → ℕ → Type 0
    HasPut s1 n = WorksOn kept s0 s1 server (writes_of_one n server a) (λ c d. d ≡ with_put key value a t (take n rows) c)

    -- none was put yet
    pub puts_start : HasPut s0 0
    puts_start = works_none kept s0 server (writes_of_one 0 server a) (λ c d. d ≡ with_put key value a t [] c) open_at (λ c d same. same ∙ sym (table_same c a t))

    module _ (s1 s2 : Sites K) (n : ℕ) (before : HasPut s1 n) where
      -- then the next one
      pub puts_on : (row : A × X) → n < length rows → row ≡ get_or rows n row → Puts kept s1 s2 server a t (key row.0) (Some (value row.1)) → HasPut s2 (n + 1)
      puts_on row lt is put =
          let open_next = still_open (work kept s0) (work kept s1) server (λ c d. d ≡ with_put key value a t (take n rows) c) open_at before.works in
          let sets = Sets a t (key row.0) (Some (value row.1)) in
          let one = works_put kept s1 s2 server a t (key row.0) (Some (value row.1)) sets open_next put (λ c d e. e) in
          works_on kept s0 s1 s2 server (writes_of_one n server a) (writes_of_one 1 server a) (writes_of_one (n + 1) server a) (λ c d. d ≡ with_put key value a t (take n rows) c) sets (λ c d. d ≡ with_put key value a t (take (n + 1) rows) c) open_at (writes_more n 1 (n + 1) server a (omega arith)) before one (λ c d e first second. second ∙ ap (λ (f : Contents). put_at f a t (key row.0) (Some (value row.1))) first ∙ put_more n row c lt is)

      -- or that fails
      pub puts_fail : (e : Fault) → n < length rows → Fails kept s1 s2 (writes_of_one 1 server a) (AtServer server NoDamage) e → Fails kept s0 s2 (writes_of_one (length rows) server a) (AtServer server NoDamage) e
      puts_fail e lt f = fails_on kept s0 s1 s2 server (writes_of_one n server a) (writes_of_one 1 server a) (writes_of_one (length rows) server a) (λ c d. d ≡ with_put key value a t (take n rows) c) e (writes_more n 1 (length rows) server a (omega arith)) before f

    -- all were put
    pub puts_all : (s1 : Sites K) (n : ℕ) → length rows ≤ n → n ≤ length rows → HasPut s1 n → WorksOn kept s0 s1 server (writes_of_one (length rows) server a) (λ c d. d ≡ with_put key value a t rows c)
    puts_all s1 n le few before =
        let count : n ≡ length rows = omega arith in
        subst (λ (p : ℕ × List (A × X)). WorksOn kept s0 s1 server (writes_of_one p.0 server a) (λ c d. d ≡ with_put key value a t p.1 c)) (λ i. (count i, take_all n rows le i)) before
