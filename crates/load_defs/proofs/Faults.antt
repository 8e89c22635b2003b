-- Faults after other calls, where nothing shows damage; and what is left of the servers.
use Rattle.std.proofs.Common.{ℕ, ◌∙◌, arith}
use Rattle.site_store.specs.Words.{Contents, Kept, fault_counts, NoDamage, WorksOn, Bounds, both, NoneFell, AtServer, Blames, Fails, IsAtMost, passes_then}
use Rattle.site_store.specs.declared.sites.Sites.{Sites}
use Rattle.repl_model.specs.Words.{Area, DamageCause, Fault}
use Rattle.repl_types.specs.declared.fault.Fault.TheVariants as faults

-- the first bounds allow no more than both
pub at_most_both : (x y : Bounds) → IsAtMost x (both x y)
at_most_both x y = record { reads = λ s a. omega arith; writes = λ s a. omega arith }

module _ {K : Type 0} (kept : K → Kept) where
  -- a fault that shows no damage is blamed after other calls too
  pub blames_after : (s0 s1 s2 : Sites K) (D E : ℕ → Area → DamageCause → Type 0) (e : Fault) → ((s : ℕ) (a : Area) (cause : DamageCause) → D s a cause → ⊥) → NoneFell (fault_counts kept s0) (fault_counts kept s1) → Blames kept s1 s2 D e → Blames kept s0 s2 E e
  blames_after s0 s1 s2 D E faults.Memory none rose h = tt
  blames_after s0 s1 s2 D E (faults.Keeper s) none rose h = λ lt. omega (arith, rose s, h lt)
  blames_after s0 s1 s2 D E (faults.Damaged s a cause) none rose h = absurd (none s a cause h.1)
  blames_after s0 s1 s2 D E (faults.Refused refusal) none rose h = h

  -- a call fails after a step inside the transaction
  pub fails_on : (s0 s1 s2 : Sites K) (server : ℕ) (x y z : Bounds) (P : Contents → Contents → Type 0) (e : Fault) → IsAtMost (both x y) z → WorksOn kept s0 s1 server x P → Fails kept s1 s2 y (AtServer server NoDamage) e → Fails kept s0 s2 z (AtServer server NoDamage) e
  fails_on s0 s1 s2 server x y z P e most first f = record {
    closes = record {
      passes = passes_then kept s0 s1 s2 x y z first.passes f.closes.passes most;
      held = f.closes.held ∙ first.held;
      closed = f.closes.closed;
    };
    blames = blames_after s0 s1 s2 (AtServer server NoDamage) (AtServer server NoDamage) e (λ s a cause h. h.1) first.passes.faults f.blames;
  }
