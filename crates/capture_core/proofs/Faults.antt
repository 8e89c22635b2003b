-- Who is blamed for a fault of a capture.
use Rattle.std.proofs.Common.{◌≡◌, ◌⊎◌, inl, inr, ap, ℕ, List, get_or, sym, subst, ◌∙◌, arith, Option, None}
use Rattle.world_store.specs.Words.{CaptureState}
use Rattle.site_store.specs.Words.{Contents, Kept, seen_of, NoDamage, AllClosed, held, work, sees, Bounds, no_access, both, Passes, AtServer, Blames, Fails, Shows, Damages, IsNoDamage, at_most_itself, passes_then, Breaks, stops_as, blames_after, put_fails}
use Rattle.site_store.specs.declared.sites.Sites.{Sites}
use Rattle.repl_model.specs.Words.{Area, DamageCause, Fault}
use Rattle.repl_types.specs.declared.fault.Fault.TheVariants as faults
use Rattle.capture_core.specs.Committing.{CommitsUnits, TookUnits, MayCommitUnits}
use Rattle.capture_core.specs.Ending.{HeldDamage}
use Rattle.capture_core.specs.Rules.{rules}

-- a call that only writes shows no damage
pub write_undamaged : {K : Type 0} (kept : K → Kept) (s0 s1 : Sites K) (e : Fault) → Blames kept s0 s1 (λ s a cause. ⊥) e → IsNoDamage e
write_undamaged kept s0 s1 faults.Memory h = tt
write_undamaged kept s0 s1 (faults.Keeper s) h = tt
write_undamaged kept s0 s1 (faults.Damaged s a cause) h = h.1
write_undamaged kept s0 s1 (faults.Refused refusal) h = h

module _ {K : Type 0} (kept : K → Kept) where
  -- it blames no damage
  pub write_blames : (s0 s1 : Sites K) (E : ℕ → Area → DamageCause → Type 0) (e : Fault) → Blames kept s0 s1 (λ s a cause. ⊥) e → Blames kept s0 s1 E e
  write_blames s0 s1 E faults.Memory h = tt
  write_blames s0 s1 E (faults.Keeper s) h = h
  write_blames s0 s1 E (faults.Damaged s a cause) h = absurd h.1
  write_blames s0 s1 E (faults.Refused refusal) h = h

  -- a fault stays blamed after other calls, after which other things show the damage
  pub blames_later : (s0 s1 s2 : Sites K) (x : Bounds) (D E : ℕ → Area → DamageCause → Type 0) (e : Fault) → Passes kept s1 s2 x → ((s : ℕ) (a : Area) (cause : DamageCause) → D s a cause → E s a cause) → Blames kept s0 s1 D e → Blames kept s0 s2 E e
  blames_later s0 s1 s2 x D E faults.Memory p other h = tt
  blames_later s0 s1 s2 x D E (faults.Keeper s) p other h = λ lt. let le = p.faults s in omega (arith, le, h (omega (arith, le, lt)))
  blames_later s0 s1 s2 x D E (faults.Damaged s a cause) p other h = ((λ read lt. let le = p.reads a s lt in omega (arith, le, h.0 read (omega (arith, le, lt)))), other s a cause h.1)
  blames_later s0 s1 s2 x D E (faults.Refused refusal) p other h = h

  -- damage that a read found is shown by what is held, if that shows what was seen
  pub read_blames : (s1 s2 : Sites K) (n : ℕ) (e : Fault) → ((a : Area) (cause : DamageCause) → Shows rules a cause (sees kept s1 n) → Shows rules a cause (get_or (held kept s2) n None)) → Breaks rules kept s1 s2 n e → Blames kept s1 s2 (HeldDamage kept s2 n) e
  read_blames s1 s2 n e back f = (stops_as kept s1 s2 (Damages (λ s. s ≡ n) rules kept s1) (HeldDamage kept s2 n) e (λ s a cause h. (h.0, back a cause (subst (λ (k : ℕ). Shows rules a cause (sees kept s1 k)) h.0 h.1))) f).blames

  -- with no transaction open, what is held is what is seen
  pub damage_seen : (s1 s2 : Sites K) (n : ℕ) → held kept s2 ≡ held kept s1 → AllClosed (work kept s2) → (s : ℕ) (a : Area) (cause : DamageCause) → HeldDamage kept s1 n s a cause → Damages (λ s. s ≡ n) rules kept s2 s a cause
  damage_seen s1 s2 n same closed s a cause h = (
    h.0,
    subst (λ (k : ℕ). Shows rules a cause (sees kept s2 k)) (sym h.0)
        (subst (Shows rules a cause) (ap (λ (l : List (Option Contents)). get_or l n None) (sym same) ∙ sym (ap (seen_of (get_or (held kept s2) n None)) (closed n))) h.1),
  )

  -- A call failed after which what was captured is committed, or isn't.
  pub record StopsAtCommit (s1 s2 : Sites K) (n : ℕ) (state : CaptureState) (e : Fault) : Type 0 where
    pub most : Bounds
    pub passes : Passes kept s1 s2 most
    pub held : (held kept s2 ≡ held kept s1) ⊎ TookUnits kept s1 s2 n state
    pub blames : Blames kept s1 s2 (λ s a cause. ⊥) e

  -- the commit failed
  pub not_committed : (s1 s2 : Sites K) (n : ℕ) (state : CaptureState) (e : Fault) → MayCommitUnits kept s1 s2 n state e → StopsAtCommit s1 s2 n state e
  not_committed s1 s2 n state e m = record {
    most = m.most;
    passes = m.passes;
    held = elim m.held [ inl same ↦ inl same | inr took ↦ inr took.1 ];
    blames = m.blames;
  }

  -- after a commit the next transaction wasn't begun
  pub not_begun : (s1 s3 s4 : Sites K) (n : ℕ) (state : CaptureState) (e : Fault) → CommitsUnits kept s1 s3 n state → Fails kept s3 s4 no_access (AtServer n NoDamage) e → StopsAtCommit s1 s4 n state e
  not_begun s1 s3 s4 n state e commit f =
      let x = both commit.puts.most no_access in
      let first = passes_then kept s1 commit.before s3 commit.puts.most no_access x commit.puts.works.passes commit.commits.passes (at_most_itself x) in
      let fails = put_fails kept s3 s4 n no_access e f in
      record {
        most = both x fails.most;
        passes = passes_then kept s1 s3 s4 x fails.most (both x fails.most) first fails.passes (at_most_itself (both x fails.most));
        held = inr (record { before = commit.before; puts = commit.puts; held = fails.held ∙ commit.commits.held });
        blames = blames_after kept s1 s3 s4 x (λ s a cause. ⊥) e first fails.blames;
      }
