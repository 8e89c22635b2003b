-- Which areas the calls of a step read: proofs.
use Rattle.std.proofs.Common.{◌≡◌, ℕ, ◌+◌, ◌-◌, ◌^◌, ◌<◌, ◌≤◌, ap, ◌∙◌, arith}
use Rattle.site_store.specs.Words.{Kept, Bounds, Passes}
use Rattle.site_store.specs.declared.sites.Sites.{Sites}
use Rattle.repl_model.specs.Words.{Area, Counts}
use Rattle.target_steps.specs.declared.step.Step.{Step}
use Rattle.target_steps.specs.declared.step.Step.TheVariants.{Refresh, Block}
use Rattle.target_steps.specs.Taking.{ReadsForStep, no_counts, limited, sum_of, change_reads, CountsReads}

module _ (step : Step) {K : Type 0} (kept : K → Kept) where
  -- nothing is read at first
  pub reads_none : (s0 : Sites K) → ReadsForStep step kept s0 s0
  reads_none s0 = by_step step
    where
      by_step : (step : Step) → ReadsForStep step kept s0 s0
      by_step (Refresh point time) = tt
      by_step (Block low low_time high time base) = λ s a is. omega arith

  -- one call, and then another
  pub reads_more : (s0 s1 s2 : Sites K) → ReadsForStep step kept s0 s1 → ReadsForStep step kept s1 s2 → ReadsForStep step kept s0 s2
  reads_more s0 s1 s2 = by_step step
    where
      by_step : (step : Step) → ReadsForStep step kept s0 s1 → ReadsForStep step kept s1 s2 → ReadsForStep step kept s0 s2
      by_step (Refresh point time) p q = tt
      by_step (Block low low_time high time base) p q = λ s a is. omega (arith, p s a is, q s a is)

  -- a call that reads nothing
  pub reads_still : (s0 s1 : Sites K) (most : Bounds) → ((s : ℕ) (a : Area) → most.reads s a ≡ 0) → Passes kept s0 s1 most → ReadsForStep step kept s0 s1
  reads_still s0 s1 most none p = by_step step
    where
      by_step : (step : Step) → ReadsForStep step kept s0 s1
      by_step (Refresh point time) = tt
      by_step (Block low low_time high time base) = λ s a is. omega (arith, p.within.reads s a, none s a)

  -- ---- change rows

  -- none is read or counted at first
  pub counts_none : (s0 : Sites K) → CountsReads step 0 kept s0 s0 no_counts
  counts_none s0 = by_step step
    where
      by_step : (step : Step) → CountsReads step 0 kept s0 s0 no_counts
      by_step (Refresh point time) = tt
      by_step (Block low low_time high time base) = λ short s. omega arith

  -- one member more was taken
  pub counts_more : (s0 s1 s2 : Sites K) (n : ℕ) (some more sum : Counts) → sum ≡ sum_of some more → CountsReads step n kept s0 s1 some → CountsReads step 1 kept s1 s2 more → CountsReads step (n + 1) kept s0 s2 sum
  counts_more s0 s1 s2 n some more sum is = by_step step
    where
      -- what isn't limited is the sum
      exact : (a b : ℕ) → limited a b < 2 ^ 64 - 1 → limited a b ≡ a + b
      exact a b lt = omega (arith, lt)

      by_step : (step : Step) → CountsReads step n kept s0 s1 some → CountsReads step 1 kept s1 s2 more → CountsReads step (n + 1) kept s0 s2 sum
      by_step (Refresh point time) p q = tt
      by_step (Block low low_time high time base) p q = λ short s.
          let inserts = ap (λ (c : Counts). c.inserts) is ∙ exact some.inserts more.inserts (omega (arith, short, ap (λ (c : Counts). c.inserts) is)) in
          let updates = ap (λ (c : Counts). c.updates) is ∙ exact some.updates more.updates (omega (arith, short, ap (λ (c : Counts). c.updates) is)) in
          let deletes = ap (λ (c : Counts). c.deletes) is ∙ exact some.deletes more.deletes (omega (arith, short, ap (λ (c : Counts). c.deletes) is)) in
          let first = p (omega (arith, short, inserts, updates, deletes)) s in
          let then = q (omega (arith, short, inserts, updates, deletes)) s in
          omega (arith, first, then, inserts, updates, deletes)

  -- calls before and after that read nothing
  pub counts_within : (s0 s1 s2 s3 : Sites K) (n : ℕ) (counts : Counts) → ((s : ℕ) → change_reads kept s1 s ≤ change_reads kept s0 s) → CountsReads step n kept s1 s2 counts → ((s : ℕ) → change_reads kept s3 s ≤ change_reads kept s2 s) → CountsReads step n kept s0 s3 counts
  counts_within s0 s1 s2 s3 n counts before counted after = by_step step counted
    where
      by_step : (step : Step) → CountsReads step n kept s1 s2 counts → CountsReads step n kept s0 s3 counts
      by_step (Refresh point time) p = tt
      by_step (Block low low_time high time base) p = λ short s. omega (arith, before s, p short s, after s)
