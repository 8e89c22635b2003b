-- Which damage a call that failed shows, after other calls.
use Rattle.std.proofs.Common.{◌≡◌, ℕ, ◌-◌, ◌^◌, ◌<◌, ◌≤◌, List, get_or, inl, inr, refl, sym, ap, subst, ◌∙◌, arith, Option, Some, None, IsSome, IfSome, get_or-set_same}
use Rattle.repl_types.specs.declared.area.Area.{Area}
use Rattle.repl_types.specs.declared.status.DamageCause.{DamageCause}
use Rattle.repl_types.specs.declared.status.DamageCause.TheVariants as causes
use Rattle.repl_types.specs.declared.fault.Fault.{Fault}
use Rattle.repl_types.specs.declared.fault.Fault.TheVariants as faults
use Rattle.keep_core.specs.Contents.{Contents}
use Rattle.keep_core.specs.Kept.{Kept, seen_of}
use Rattle.keep_core.specs.Revealed.{Rises}
use Rattle.site_store.specs.declared.sites.Sites.{Sites}
use Rattle.site_store.specs.Records.{Misread, Misspelt, MisspeltNext, MissesOrMisreads, IsMissing}
use Rattle.site_store.specs.Views.{held, work, reads_in, sees, IsOpenAt}
use Rattle.site_store.specs.Works.{Works}
use Rattle.site_store.specs.Calls.{Bounds, no_access, both, reads_of_one, Reads, ClosesAll, AtServer, Blames, Fails, IsMemoryOr}
use Rattle.site_store.specs.Damage.{Rules, Shows, Damages, ShownBefore}
use Rattle.site_store.specs.laws.Counts.{at_most_itself, passes_then}
use Rattle.site_store.specs.laws.Damage.{shown_unseen, shows_at, misspelt_shows, misspelt_next_shows}
use Rattle.site_store.specs.laws.Transactions.{open_below}
use Rattle.site_store.specs.one_server.Calls.{Looks, GoesOn, Breaks, FailsToWrite}
use Rattle.site_store.specs.one_server.laws.Reads.{looks_sees}
use Rattle.site_store.specs.one_server.laws.Faults.{no_memory, stops_at, stops_as, stops_after, write_fails_on}

-- a count that rose stays so
rises_on : (a b d : ℕ) → Rises a b → (d < 2 ^ 64 - 1 → b ≤ d) → Rises a d
rises_on a b d rose later = λ lt. let le = later lt in omega (arith, le, rose (omega (arith, le, lt)))

module _ {K : Type 0} (rules : Rules) (kept : K → Kept) where
  -- a write fails, and shows no damage
  pub write_breaks : (s0 s1 : Sites K) (server : ℕ) (e : Fault) → FailsToWrite kept s0 s1 e → Breaks rules kept s0 s1 server e
  write_breaks s0 s1 server e f = stops_as kept s0 s1 (λ s a cause. ⊥) (Damages (λ s. s ≡ server) rules kept s0) e (λ s a cause h. absurd h) f

  -- a write fails after a step, in which reads may fail too
  pub write_breaks_on : (s0 s1 s2 : Sites K) (server : ℕ) (P : Contents → Contents → Type 0) (e : Fault) → GoesOn kept s0 s1 server P → FailsToWrite kept s1 s2 e → Breaks rules kept s0 s2 server e
  write_breaks_on s0 s1 s2 server P e a f = write_breaks s0 s2 server e (write_fails_on kept s0 s1 s2 server P e a f)

  -- or after reads
  pub write_breaks_after : (s0 s1 s2 : Sites K) (server : ℕ) (e : Fault) → Looks kept s0 s1 → FailsToWrite kept s1 s2 e → Breaks rules kept s0 s2 server e
  write_breaks_after s0 s1 s2 server e a f = write_breaks s0 s2 server e (stops_after kept s0 s1 s2 a.most (λ s b cause. ⊥) e a.stays.passes a.stays.held f)

  -- a read fails: what it saw is damaged by the rules
  pub read_breaks : (s0 s1 : Sites K) (server : ℕ) (damage : Area → DamageCause → Type 0) (most : Bounds) (e : Fault) → ((b : Area) (cause : DamageCause) → damage b cause → Shows rules b cause (sees kept s0 server)) → Fails kept s0 s1 most (AtServer server damage) e → Breaks rules kept s0 s1 server e
  read_breaks s0 s1 server damage most e shows f = stops_as kept s0 s1 (AtServer server damage) (Damages (λ s. s ≡ server) rules kept s0) e (λ s b cause h. (h.0, shows_at kept s0 rules server damage shows s b cause h)) (stops_at kept s0 s1 most (AtServer server damage) e f)

  -- the record that was asked for is misspelt
  pub get_breaks : {X : Type 0} (fits : X → Type 0) (spelling : X → List ℕ) (s0 s1 : Sites K) (server : ℕ) (a : Area) (t : ℕ) (key : List ℕ) (most : Bounds) (e : Fault) → ((bytes : List ℕ) → rules.is_value a t bytes → (x : X) × fits x × (bytes ≡ spelling x)) → Fails kept s0 s1 most (AtServer server (Misread a (Misspelt fits spelling a t key (sees kept s0 server)))) e → Breaks rules kept s0 s1 server e
  get_breaks fits spelling s0 s1 server a t key most e values f =
      let saw = sees kept s0 server in
      read_breaks s0 s1 server (Misread a (Misspelt fits spelling a t key saw)) most e (λ b cause. misspelt_shows fits spelling rules a b t key saw cause values) f

  -- or its key is, or the next record
  pub next_breaks : {Y X : Type 0} (key_fits : Y → Type 0) (key_spelling : Y → List ℕ) (fits : X → Type 0) (spelling : X → List ℕ) (s0 s1 : Sites K) (server : ℕ) (a : Area) (t : ℕ) (after : List ℕ) (most : Bounds) (e : Fault) → ((bytes : List ℕ) → rules.is_key a t bytes → (y : Y) × key_fits y × (bytes ≡ key_spelling y)) → ((bytes : List ℕ) → rules.is_value a t bytes → (x : X) × fits x × (bytes ≡ spelling x)) → Fails kept s0 s1 most (AtServer server (Misread a (MisspeltNext key_fits key_spelling fits spelling a t after (sees kept s0 server)))) e → Breaks rules kept s0 s1 server e
  next_breaks key_fits key_spelling fits spelling s0 s1 server a t after most e keys values f =
      let saw = sees kept s0 server in
      read_breaks s0 s1 server (Misread a (MisspeltNext key_fits key_spelling fits spelling a t after saw)) most e (λ b cause. misspelt_next_shows key_fits key_spelling fits spelling rules a b t after saw cause keys values) f

  -- a record that is called for is missing, or misspelt
  pub needed_breaks : {X : Type 0} (fits : X → Type 0) (spelling : X → List ℕ) (s0 s1 : Sites K) (server : ℕ) (a : Area) (t : ℕ) (key : List ℕ) (most : Bounds) (e : Fault) → ((bytes : List ℕ) → rules.is_value a t bytes → (x : X) × fits x × (bytes ≡ spelling x)) → IfSome (sees kept s0 server) (rules.is_needed a t key) → Fails kept s0 s1 most (AtServer server (MissesOrMisreads a (IsMissing a t key (sees kept s0 server)) (Misspelt fits spelling a t key (sees kept s0 server)))) e → Breaks rules kept s0 s1 server e
  needed_breaks fits spelling s0 s1 server a t key most e values needed f = read_breaks s0 s1 server (MissesOrMisreads a (IsMissing a t key (sees kept s0 server)) (Misspelt fits spelling a t key (sees kept s0 server))) most e shows f
    where
      there : (saw : Option Contents) → IfSome saw (rules.is_needed a t key) → IfSome saw (λ c. c a t key ≡ None) → IfSome saw (λ c. (c a t key ≡ None) × rules.is_needed a t key c)
      there None n m = tt
      there (Some c) n m = (m, n)

      shows : (b : Area) (cause : DamageCause) → MissesOrMisreads a (IsMissing a t key (sees kept s0 server)) (Misspelt fits spelling a t key (sees kept s0 server)) b cause → Shows rules b cause (sees kept s0 server)
      shows b (causes.Spelling bytes) h = misspelt_shows fits spelling rules a b t key (sees kept s0 server) (causes.Spelling bytes) values h
      shows b (causes.Absent bytes) h = subst (λ (p : Area × List ℕ). Shows rules p.0 (causes.Absent p.1) (sees kept s0 server)) (λ i. (sym h.0 i, sym h.1.0 i)) (t, there (sees kept s0 server) needed h.1.1)
      shows b (causes.Unfit bytes) h = absurd h
      shows b (causes.NoRest steps) h = absurd h

  -- a record that was read is unfit by the rules, and this is reported, or memory ran out
  pub unfit_breaks : (s0 s1 s2 : Sites K) (server : ℕ) (a : Area) (t : ℕ) (key bytes : List ℕ) (e : Fault) → Reads kept s0 s1 server a → IfSome (sees kept s0 server) (λ c. c a t key ≡ Some bytes) → IfSome (sees kept s0 server) (rules.is_unfit a t key bytes) → ClosesAll kept s1 s2 no_access → IsMemoryOr (faults.Damaged server a (causes.Unfit bytes)) e → Breaks rules kept s0 s2 server e
  unfit_breaks s0 s1 s2 server a t key bytes e read stands unfit closes fault = record {
    most = both (reads_of_one 1 server a) no_access;
    passes = passes_then kept s0 s1 s2 (reads_of_one 1 server a) no_access (both (reads_of_one 1 server a) no_access) read.stays.passes closes.passes (at_most_itself (both (reads_of_one 1 server a) no_access));
    held = closes.held ∙ read.stays.held;
    blames = elim fault [
      | inl memory ↦ subst (Blames kept s0 s2 D) (sym memory) tt
      | inr damaged ↦ subst (Blames kept s0 s2 D) (sym damaged) (
        (λ is. rises_on (get_or (reads_in kept a s0) server 0) (get_or (reads_in kept a s1) server 0) (get_or (reads_in kept a s2) server 0) read.rose (closes.passes.reads a server)),
        (refl, (t, shown (sees kept s0 server) stands unfit)),
      )
    ];
  }
    where
      D : ℕ → Area → DamageCause → Type 0
      D = Damages (λ s. s ≡ server) rules kept s0

      shown : (saw : Option Contents) → IfSome saw (λ c. c a t key ≡ Some bytes) → IfSome saw (rules.is_unfit a t key bytes) → IfSome saw (λ c. (k : List ℕ) × (c a t k ≡ Some bytes) × rules.is_unfit a t k bytes c)
      shown None stands unfit = tt
      shown (Some c) stands unfit = (key, stands, unfit)

  -- a read fails after others
  pub breaks_after : (s0 s1 s2 : Sites K) (server : ℕ) (e : Fault) → Looks kept s0 s1 → Breaks rules kept s1 s2 server e → Breaks rules kept s0 s2 server e
  breaks_after s0 s1 s2 server e a f = stops_after kept s0 s1 s2 a.most (Damages (λ s. s ≡ server) rules kept s0) e a.stays.passes a.stays.held (stops_as kept s1 s2 (Damages (λ s. s ≡ server) rules kept s1) (Damages (λ s. s ≡ server) rules kept s0) e (λ s b cause h. (h.0, subst (Shows rules b cause) (looks_sees kept s0 s1 a s) h.1)) f)

  -- a read fails after a step that shows no new damage
  pub breaks_on : (s0 s1 s2 : Sites K) (server : ℕ) (P : Contents → Contents → Type 0) (e : Fault) → IsOpenAt (work kept s0) server → ((c d : Contents) → P c d → ShownBefore rules c d) → GoesOn kept s0 s1 server P → Breaks rules kept s1 s2 server e → Breaks rules kept s0 s2 server e
  breaks_on s0 s1 s2 server P e open_at step a f = stops_after kept s0 s1 s2 a.most (Damages (λ s. s ≡ server) rules kept s0) e a.works.passes a.works.held (stops_as kept s1 s2 (Damages (λ s. s ≡ server) rules kept s1) (Damages (λ s. s ≡ server) rules kept s0) e (λ s b cause h. (h.0, subst (λ (k : ℕ). Shows rules b cause (sees kept s0 k)) (sym h.0) (mine (get_or (work kept s0) server None) refl open_at b cause (subst (λ (k : ℕ). Shows rules b cause (sees kept s1 k)) h.0 h.1)))) f)
    where
      works : Works (work kept s0) (work kept s1) server P
      works = a.works.works

      mine : (o : Option (Option Contents)) → get_or (work kept s0) server None ≡ o → IsSome o → (b : Area) (cause : DamageCause) → Shows rules b cause (sees kept s1 server) → Shows rules b cause (seen_of (get_or (held kept s0) server None) o)
      mine None is some b cause h = absurd cc
      mine (Some None) is some b cause h = shown_unseen rules b cause (sees kept s1 server) h
      mine (Some (Some c)) is some b cause h =
          let d = works.does c is in
          let now : sees kept s1 server ≡ Some d.0 = ap (seen_of (get_or (held kept s1) server None)) (ap (λ (l : List (Option (Option Contents))). get_or l server None) works.is ∙ get_or-set_same (work kept s0) server (Some works.now) None (open_below (work kept s0) server open_at)) ∙ d.1 in
          step c d.0 d.2 b cause (subst (Shows rules b cause) now h)

  -- memory runs out after reads
  pub memory_after : (s0 s1 : Sites K) (server : ℕ) → Looks kept s0 s1 → Breaks rules kept s0 s1 server faults.Memory
  memory_after s0 s1 server a = stops_after kept s0 s1 s1 a.most (Damages (λ s. s ≡ server) rules kept s0) faults.Memory a.stays.passes a.stays.held (no_memory kept s1 (Damages (λ s. s ≡ server) rules kept s0))
