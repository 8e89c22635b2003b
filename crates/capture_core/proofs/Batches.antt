-- The commits of a capture on its way: one after each full batch of units, and one after the last unit.
use Rattle.std.proofs.Common.{◌≡◌, ◌≢◌, ℕ, ◌+◌, ◌<◌, Bool, cond, List, [], ◌∷◌, sym, ap, ◌∙◌, arith, ◌==◌, if◌then◌else◌, eq-eqb}
use Rattle.world_store.specs.Words.{differ_numbers}
use Rattle.repl_model.specs.Words.{Unit, World}
use Rattle.run_core.specs.Runs.{Event, commits}
use Rattle.world_commits.specs.captures.Captures.{captured}

-- the commits that are left when so many units wait for theirs in a world, and these are captured next
abbrev pub commits_left : ℕ → List ℕ → ℕ → World → List Unit → List (Event World)
commits_left every name waiting w [] = if waiting == 0 then [] else commits w ∷ []
commits_left every name waiting w (u ∷ us) =
    let next = captured name (u ∷ []) w in
    if waiting + 1 == every then commits next ∷ commits_left every name 0 next us
    else commits_left every name (waiting + 1) next us

-- those with one at once if the batch is full
abbrev pub commits_due : ℕ → List ℕ → ℕ → World → List Unit → List (Event World)
commits_due every name waiting w us = if waiting == every then commits w ∷ commits_left every name 0 w us else commits_left every name waiting w us

module _ (every : ℕ) (name : List ℕ) (waiting : ℕ) (w : World) where
  -- none at once if the batch isn't full
  pub not_full : waiting ≢ every → (us : List Unit) → commits_due every name waiting w us ≡ commits_left every name waiting w us
  not_full ne us = ap (λ (b : Bool). cond b (commits w ∷ commits_left every name 0 w us) (commits_left every name waiting w us)) (differ_numbers waiting every ne)

  -- the next unit joins a batch that isn't full
  pub due_next : waiting < every → (u : Unit) (us : List Unit) → commits_due every name waiting w (u ∷ us) ≡ commits_due every name (waiting + 1) (captured name (u ∷ []) w) us
  due_next lt u us = not_full (λ e. omega (arith, e)) (u ∷ us)

  -- a full batch is committed, and the next one begins
  pub due_full : 0 < every → waiting ≡ every → (us : List Unit) → commits_due every name waiting w us ≡ commits w ∷ commits_due every name 0 w us
  due_full some full us =
      ap (λ (b : Bool). cond b (commits w ∷ commits_left every name 0 w us) (commits_left every name waiting w us)) (eq-eqb waiting every full)
      ∙ ap (λ (l : List (Event World)). commits w ∷ l) (sym (none_full some us))
    where
      none_full : 0 < every → (us : List Unit) → commits_due every name 0 w us ≡ commits_left every name 0 w us
      none_full some us = ap (λ (b : Bool). cond b (commits w ∷ commits_left every name 0 w us) (commits_left every name 0 w us)) (differ_numbers 0 every (λ e. omega (arith, e)))

  -- at the end nothing is committed if no unit waits
  pub due_none : waiting < every → waiting ≡ 0 → commits_due every name waiting w [] ≡ []
  due_none lt none = not_full (λ e. omega (arith, e)) [] ∙ ap (λ (b : Bool). cond b [] (commits w ∷ [])) (eq-eqb waiting 0 none)

  -- and else what waits is
  pub due_some : waiting < every → 0 < waiting → commits_due every name waiting w [] ≡ commits w ∷ []
  due_some lt some = not_full (λ e. omega (arith, e)) [] ∙ ap (λ (b : Bool). cond b [] (commits w ∷ [])) (differ_numbers waiting 0 (λ e. omega (arith, e)))
