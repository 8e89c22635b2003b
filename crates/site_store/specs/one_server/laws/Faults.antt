-- Why a call failed, after other calls.
use Rattle.std.proofs.Common.{◌≡◌, ℕ, refl, ◌∙◌, arith}
use Rattle.repl_types.specs.declared.area.Area.{Area}
use Rattle.repl_types.specs.declared.status.DamageCause.{DamageCause}
use Rattle.repl_types.specs.declared.fault.Fault.{Fault}
use Rattle.repl_types.specs.declared.fault.Fault.TheVariants as faults
use Rattle.keep_core.specs.Contents.{Contents}
use Rattle.keep_core.specs.Kept.{Kept}
use Rattle.site_store.specs.declared.sites.Sites.{Sites}
use Rattle.site_store.specs.Records.{NoDamage}
use Rattle.site_store.specs.Views.{held}
use Rattle.site_store.specs.Calls.{Bounds, no_access, both, Passes, AtServer, Blames, Fails}
use Rattle.site_store.specs.laws.Counts.{at_most_itself, passes_none, passes_then}
use Rattle.site_store.specs.one_server.Calls.{GoesOn, Stops, FailsToWrite}

module _ {K : Type 0} (kept : K → Kept) where
  -- memory ran out before anything was called
  pub no_memory : (s0 : Sites K) (D : ℕ → Area → DamageCause → Type 0) → Stops kept s0 s0 D faults.Memory
  no_memory s0 D = record { most = no_access; passes = passes_none kept s0 no_access; held = refl; blames = tt }

  -- a call of one keeper failed
  pub stops_at : (s0 s1 : Sites K) (most : Bounds) (D : ℕ → Area → DamageCause → Type 0) (e : Fault) → Fails kept s0 s1 most D e → Stops kept s0 s1 D e
  stops_at s0 s1 most D e f = record { most = most; passes = f.closes.passes; held = f.closes.held; blames = f.blames }

  -- what shows one damage shows another
  blames_as : (s0 s1 : Sites K) (D E : ℕ → Area → DamageCause → Type 0) (e : Fault) → ((s : ℕ) (a : Area) (cause : DamageCause) → D s a cause → E s a cause) → Blames kept s0 s1 D e → Blames kept s0 s1 E e
  blames_as s0 s1 D E faults.Memory weaker h = tt
  blames_as s0 s1 D E (faults.Keeper s) weaker h = h
  blames_as s0 s1 D E (faults.Damaged s a cause) weaker h = (h.0, weaker s a cause h.1)
  blames_as s0 s1 D E (faults.Refused refusal) weaker h = h

  pub stops_as : (s0 s1 : Sites K) (D E : ℕ → Area → DamageCause → Type 0) (e : Fault) → ((s : ℕ) (a : Area) (cause : DamageCause) → D s a cause → E s a cause) → Stops kept s0 s1 D e → Stops kept s0 s1 E e
  stops_as s0 s1 D E e weaker f = record { most = f.most; passes = f.passes; held = f.held; blames = blames_as s0 s1 D E e weaker f.blames }

  -- a fault is blamed after other calls too
  pub blames_after : (s0 s1 s2 : Sites K) (x : Bounds) (D : ℕ → Area → DamageCause → Type 0) (e : Fault) → Passes kept s0 s1 x → Blames kept s1 s2 D e → Blames kept s0 s2 D e
  blames_after s0 s1 s2 x D faults.Memory p h = tt
  blames_after s0 s1 s2 x D (faults.Keeper s) p h = λ lt. omega (arith, p.faults s, h lt)
  blames_after s0 s1 s2 x D (faults.Damaged s a cause) p h = ((λ read lt. let rose = h.0 read lt in let le = p.reads a s (omega (arith, rose, lt)) in omega (arith, rose, le)), h.1)
  blames_after s0 s1 s2 x D (faults.Refused refusal) p h = h

  pub stops_after : (s0 s1 s2 : Sites K) (x : Bounds) (D : ℕ → Area → DamageCause → Type 0) (e : Fault) → Passes kept s0 s1 x → held kept s1 ≡ held kept s0 → Stops kept s1 s2 D e → Stops kept s0 s2 D e
  stops_after s0 s1 s2 x D e p same f = record {
    most = both x f.most;
    passes = passes_then kept s0 s1 s2 x f.most (both x f.most) p f.passes (at_most_itself (both x f.most));
    held = f.held ∙ same;
    blames = blames_after s0 s1 s2 x D e p f.blames;
  }

  -- a write fails after a step
  pub write_fails_on : (s0 s1 s2 : Sites K) (server : ℕ) (P : Contents → Contents → Type 0) (e : Fault) → GoesOn kept s0 s1 server P → FailsToWrite kept s1 s2 e → FailsToWrite kept s0 s2 e
  write_fails_on s0 s1 s2 server P e a f = stops_after s0 s1 s2 a.most (λ s b cause. ⊥) e a.works.passes a.works.held f

  -- a call of one keeper that writes fails
  pub put_fails : (s0 s1 : Sites K) (server : ℕ) (most : Bounds) (e : Fault) → Fails kept s0 s1 most (AtServer server NoDamage) e → FailsToWrite kept s0 s1 e
  put_fails s0 s1 server most e f = stops_as s0 s1 (AtServer server NoDamage) (λ s a cause. ⊥) e (λ s a cause h. h.1) (stops_at s0 s1 most (AtServer server NoDamage) e f)
