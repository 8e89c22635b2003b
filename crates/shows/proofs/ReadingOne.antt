-- Reads of one server, one after another, and why one fails: proofs.
use Rattle.std.proofs.Common.{◌≡◌, ℕ, ◌+◌, ◌<◌, ◌≤◌, Bool, true, false, cond, List, length, sym, subst, arith, ◌&&◌, ◌==◌, Option, Some, None, IfSome}
use Rattle.site_store.specs.Words.{Contents, Kept, names, sees, Misspelt, MissesOrMisreads, IsMissing, Bounds, both, reads_of_one, AtServer, Stays, Fails, Shows, Damages, IsAtMost, misspelt_shows, fails_by, fails_within, fails_after}
use Rattle.site_store.specs.declared.sites.Sites.{Sites}
use Rattle.repl_model.specs.Words.{same_area, Area, DamageCause, Fault}
use Rattle.repl_types.specs.declared.status.DamageCause.TheVariants as causes
use Rattle.shows.specs.servers.Rules.{reads_at, rules, ShowsDamage}

-- reads of one server add up
pub at_more : (m n k s : ℕ) → m + n ≤ k → IsAtMost (both (reads_at m s) (reads_at n s)) (reads_at k s)
at_more m n k s le = record { reads = λ q b. pick (s == q); writes = λ q b. omega arith }
  where
    pick : (t : Bool) → cond t m 0 + cond t n 0 ≤ cond t k 0
    pick true = le
    pick false = omega arith

-- reads of one of its areas are among them
pub one_at : (m k s : ℕ) (a : Area) → m ≤ k → IsAtMost (reads_of_one m s a) (reads_at k s)
one_at m k s a le = record { reads = λ q b. pick (same_area a b) (s == q); writes = λ q b. omega arith }
  where
    pick : (t u : Bool) → cond (t && u) m 0 ≤ cond u k 0
    pick true true = le
    pick true false = omega arith
    pick false true = omega arith
    pick false false = omega arith

-- and are added to others
pub one_more : (m n k s : ℕ) (a : Area) → m + n ≤ k → IsAtMost (both (reads_of_one m s a) (reads_at n s)) (reads_at k s)
one_more m n k s a le = record { reads = λ q b. pick (same_area a b) (s == q); writes = λ q b. omega arith }
  where
    pick : (t u : Bool) → cond (t && u) m 0 + cond u n 0 ≤ cond u k 0
    pick true true = le
    pick true false = omega arith
    pick false true = omega (arith, le)
    pick false false = omega arith

-- wider bounds
pub at_within : (m k s : ℕ) → m ≤ k → IsAtMost (reads_at m s) (reads_at k s)
at_within m k s le = record { reads = λ q b. pick (s == q); writes = λ q b. omega arith }
  where
    pick : (t : Bool) → cond t m 0 ≤ cond t k 0
    pick true = le
    pick false = omega arith

-- a call fails after others that changed nothing
pub fails_on : {K : Type 0} (kept : K → Kept) (s0 s1 s2 : Sites K) (x y z : Bounds) (e : Fault) → IsAtMost (both x y) z → Stays kept s0 s1 x → Fails kept s1 s2 y (ShowsDamage kept s1) e → Fails kept s0 s2 z (ShowsDamage kept s0) e
fails_on kept s0 s1 s2 x y z e most stays f = fails_after kept (λ s. s < length (names s0)) rules s0 s1 s2 x y z e most stays (subst (λ (l : List (List ℕ)). Fails kept s1 s2 y (Damages (λ s. s < length l) rules kept s1) e) stays.passes.names f)

-- a record that is called for is missing, or misspelt
pub needed_fails : {K X : Type 0} (kept : K → Kept) (fits : X → Type 0) (spelling : X → List ℕ) (s0 s1 : Sites K) (server : ℕ) (a : Area) (t : ℕ) (key : List ℕ) (most : Bounds) (e : Fault) → server < length (names s0) → ((bytes : List ℕ) → rules.is_value a t bytes → (x : X) × fits x × (bytes ≡ spelling x)) → IfSome (sees kept s0 server) (rules.is_needed a t key) → IsAtMost (reads_of_one 1 server a) most → Fails kept s0 s1 (reads_of_one 1 server a) (AtServer server (MissesOrMisreads a (IsMissing a t key (sees kept s0 server)) (Misspelt fits spelling a t key (sees kept s0 server)))) e → Fails kept s0 s1 most (ShowsDamage kept s0) e
needed_fails kept fits spelling s0 s1 server a t key most e among values needed le f =
    fails_within kept s0 s1 (ShowsDamage kept s0) (reads_of_one 1 server a) most e (fails_by kept s0 s1 (AtServer server (MissesOrMisreads a (IsMissing a t key (sees kept s0 server)) (Misspelt fits spelling a t key (sees kept s0 server)))) (ShowsDamage kept s0) (reads_of_one 1 server a) e f weaker) le
  where
    there : (saw : Option Contents) → IfSome saw (rules.is_needed a t key) → IfSome saw (λ c. c a t key ≡ None) → IfSome saw (λ c. (c a t key ≡ None) × rules.is_needed a t key c)
    there None n m = tt
    there (Some c) n m = (m, n)

    shows : (b : Area) (cause : DamageCause) → MissesOrMisreads a (IsMissing a t key (sees kept s0 server)) (Misspelt fits spelling a t key (sees kept s0 server)) b cause → Shows rules b cause (sees kept s0 server)
    shows b (causes.Spelling bytes) h = misspelt_shows fits spelling rules a b t key (sees kept s0 server) (causes.Spelling bytes) values h
    shows b (causes.Absent bytes) h = subst (λ (p : Area × List ℕ). Shows rules p.0 (causes.Absent p.1) (sees kept s0 server)) (λ i. (sym h.0 i, sym h.1.0 i)) (t, there (sees kept s0 server) needed h.1.1)
    shows b (causes.Unfit bytes) h = absurd h
    shows b (causes.NoRest steps) h = absurd h

    weaker : (s : ℕ) (b : Area) (cause : DamageCause) → AtServer server (MissesOrMisreads a (IsMissing a t key (sees kept s0 server)) (Misspelt fits spelling a t key (sees kept s0 server))) s b cause → ShowsDamage kept s0 s b cause
    weaker s b cause h = (subst (λ (q : ℕ). q < length (names s0)) (sym h.0) among, subst (λ (q : ℕ). Shows rules b cause (sees kept s0 q)) (sym h.0) (shows b cause h.1))
