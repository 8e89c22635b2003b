-- What a call that fails leaves, and its cause.
use Rattle.std.proofs.Common.{◌≡◌, ◌≤◌, ℕ, Bool, true, false, cond, inl, inr, refl, subst, sym, ap, ◌∙◌, arith}
use Rattle.keep_core.specs.declared.keeper.KeepError.{KeepError}
use Rattle.keep_core.specs.declared.keeper.KeepError.TheVariants.{Failed}
use Rattle.keep_core.specs.Kept.{Kept, closed_with, committed, HasCause, CallFails, CommitFails}
use Rattle.keep_core.specs.Revealed.{Rises}
use Rattle.keep_map.specs.Planned.{Planned, fails_next, after_call, one_more}

-- a call that fails by the plan raises the count of faults
plan_rises : (p : Planned) → fails_next p ≡ true → Rises p.faults (after_call p).faults
plan_rises p fails = subst (λ (b : Bool). Rises p.faults (cond b (one_more p.faults) p.faults)) (sym fails) (λ short. omega arith)

-- a call that fails by the plan has its cause
pub caused : (p q : Planned) → fails_next p ≡ true → q ≡ after_call p → p.faults ≤ q.faults → HasCause p.faults q.faults Failed
caused p q fails is later = record { later = later; failed = λ _. subst (λ (r : Planned). Rises p.faults r.faults) (sym is) (plan_rises p fails) }

-- the count of faults of a keeper that was closed with a count
faults_of : (old new : Kept) (n : ℕ) → new ≡ closed_with old n → n ≡ new.faults
faults_of old new n is = sym (ap (λ (k : Kept). k.faults) is)

-- a call that leaves a keeper closed, and has its cause, fails
pub call_failed : (old new : Kept) (n : ℕ) (e : KeepError) → new ≡ closed_with old n → HasCause old.faults n e → CallFails old new e
call_failed old new n e is cause = record {
  now = is ∙ ap (closed_with old) (faults_of old new n is);
  cause = subst (λ (m : ℕ). HasCause old.faults m e) (faults_of old new n is) cause;
}

-- a commit that fails took place or didn't
pub commit_failed : (takes : Bool) (old new : Kept) (n : ℕ) → new ≡ closed_with (cond takes (committed (record old { faults = n })) (record old { faults = n })) n → HasCause old.faults n Failed → CommitFails old new Failed
commit_failed true old new n is cause = let r = call_failed (committed old) new n Failed is cause in record { now = inr (refl, r.now); cause = r.cause }
commit_failed false old new n is cause = let r = call_failed old new n Failed is cause in record { now = inl r.now; cause = r.cause }
