-- Laws of what calls keep and how often they read and write: proofs, and nothing to believe.
use Rattle.std.proofs.Common.{ℕ, ◌≤◌, List, ◌∙◌, refl, arith}
use Rattle.repl_types.specs.declared.area.Area.{Area}
use Rattle.keep_core.specs.Kept.{Kept}
use Rattle.site_store.specs.declared.sites.Sites.{Sites}
use Rattle.site_store.specs.Calls.{NoneBack, Bounds, no_access, both, Passes, Stays, KeepsServers}
use Rattle.site_store.specs.Servers.{AllClosed}
use Rattle.site_store.specs.Views.{work, reads_in}

-- The one bounds allow no more than the others.
pub record IsAtMost (x y : Bounds) : Type 0 where
  pub reads : (s : ℕ) (a : Area) → x.reads s a ≤ y.reads s a
  pub writes : (s : ℕ) (a : Area) → x.writes s a ≤ y.writes s a

-- bounds are at most themselves
pub at_most_itself : (x : Bounds) → IsAtMost x x
at_most_itself x = record { reads = λ s a. omega arith; writes = λ s a. omega arith }

-- if no count fell, and then none, none fell
pub none_back_then : (c0 c1 c2 : List ℕ) → NoneBack c0 c1 → NoneBack c1 c2 → NoneBack c0 c2
none_back_then c0 c1 c2 p q s lt = let more = q s lt in let less = p s (omega (arith, more, lt)) in omega (arith, more, less)

module _ {K : Type 0} (kept : K → Kept) where
  -- wider bounds hold too
  pub passes_within : (s0 s1 : Sites K) (x y : Bounds) → Passes kept s0 s1 x → IsAtMost x y → Passes kept s0 s1 y
  passes_within s0 s1 x y p most = record {
    names = p.names;
    faults = p.faults;
    reads = p.reads;
    writes = p.writes;
    within = record {
      reads = λ s a. omega (arith, p.within.reads s a, most.reads s a);
      writes = λ s a. omega (arith, p.within.writes s a, most.writes s a);
    };
  }

  -- one call after another, within any bounds that allow both
  pub passes_then : (s0 s1 s2 : Sites K) (x y z : Bounds) → Passes kept s0 s1 x → Passes kept s1 s2 y → IsAtMost (both x y) z → Passes kept s0 s2 z
  passes_then s0 s1 s2 x y z p q most = record {
    names = q.names ∙ p.names;
    faults = λ s. omega (arith, p.faults s, q.faults s);
    reads = λ a s lt. let more = q.reads a s lt in let less = p.reads a s (omega (arith, more, lt)) in omega (arith, more, less);
    writes = λ a s lt. let more = q.writes a s lt in let less = p.writes a s (omega (arith, more, lt)) in omega (arith, more, less);
    within = record {
      reads = λ s a. omega (arith, p.within.reads s a, q.within.reads s a, most.reads s a);
      writes = λ s a. omega (arith, p.within.writes s a, q.within.writes s a, most.writes s a);
    };
  }

  -- nothing was called
  pub passes_none : (s0 : Sites K) (x : Bounds) → Passes kept s0 s0 x
  passes_none s0 x = record {
    names = refl;
    faults = λ s. omega arith;
    reads = λ a s lt. omega arith;
    writes = λ a s lt. omega arith;
    within = record { reads = λ s a. omega arith; writes = λ s a. omega arith };
  }

  -- calls that leave all as it is, one after another
  pub stays_then : (s0 s1 s2 : Sites K) (x y z : Bounds) → Stays kept s0 s1 x → Stays kept s1 s2 y → IsAtMost (both x y) z → Stays kept s0 s2 z
  stays_then s0 s1 s2 x y z a b most = record {
    passes = passes_then s0 s1 s2 x y z a.passes b.passes most;
    held = b.held ∙ a.held;
    work = b.work ∙ a.work;
  }

  -- calls within bounds, after which no transaction is open
  pub keeps_passed : (s0 s1 : Sites K) (x : Bounds) → Passes kept s0 s1 x → AllClosed (work kept s1) → KeepsServers kept s0 s1
  keeps_passed s0 s1 x p closed = record { names = p.names; faults = p.faults; reads = p.reads; closed = closed }

  -- nothing was called
  pub keeps_itself : (s0 : Sites K) → AllClosed (work kept s0) → KeepsServers kept s0 s0
  keeps_itself s0 closed = keeps_passed s0 s0 no_access (passes_none s0 no_access) closed

  -- one part of a run after another
  pub keeps_then : (s0 s1 s2 : Sites K) → KeepsServers kept s0 s1 → KeepsServers kept s1 s2 → KeepsServers kept s0 s2
  keeps_then s0 s1 s2 p q = record {
    names = q.names ∙ p.names;
    faults = λ s. omega (arith, p.faults s, q.faults s);
    reads = λ a. none_back_then (reads_in kept a s0) (reads_in kept a s1) (reads_in kept a s2) (p.reads a) (q.reads a);
    closed = q.closed;
  }

  -- a part of a run after calls within bounds
  pub passes_keeps : (s0 s1 s2 : Sites K) (x : Bounds) → Passes kept s0 s1 x → KeepsServers kept s1 s2 → KeepsServers kept s0 s2
  passes_keeps s0 s1 s2 x p q = record {
    names = q.names ∙ p.names;
    faults = λ s. omega (arith, p.faults s, q.faults s);
    reads = λ a. none_back_then (reads_in kept a s0) (reads_in kept a s1) (reads_in kept a s2) (p.reads a) (q.reads a);
    closed = q.closed;
  }
