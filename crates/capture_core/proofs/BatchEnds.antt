-- The commits of a capture by the numbers of units after which it commits.
use Rattle.std.proofs.Common.{◌≡◌, inl, inr, ℕ, suc, ◌+◌, ◌*◌, ◌<◌, ◌≤◌, Bool, true, false, cond, List, [], ◌∷◌, ◌++◌, length, map, take, refl, sym, ap, ◌∙◌, append_assoc, arith, ◌%◌, ◌==◌, ◌||◌, length-append}
use Rattle.std.specs.List.{filter, range_with_len}
use Rattle.std.proofs.lemmas.Bool.{cases_lt, eq-eqb}
use Rattle.std.proofs.Math.Seq.{take-append_seam}
use Rattle.std.proofs.lemmas.Nat.{mod-mul-add}
use Rattle.world_store.specs.Words.{differ_numbers}
use Rattle.repl_model.specs.Words.{Unit, World}
use Rattle.run_core.specs.Runs.{Event, commits}
use Rattle.world_commits.specs.captures.Captures.{captured}
use Rattle.capture_core.specs.Capturing.{commits_of}
use Rattle.capture_core.proofs.Batches.{commits_left}
use Rattle.capture_core.proofs.UnitsInTurn.{captured_none, captured_both}

-- what is true or true is true
or_true : (b : Bool) → (b || true) ≡ true
or_true true = refl
or_true false = refl

module _ (every : ℕ) (some : 0 < every) (name : List ℕ) (w : World) (us : List Unit) where
  -- the commit after so many units
  abbrev at : ℕ → Event World
  at k = commits (captured name (take k us) w)

  -- a commit comes after so many
  abbrev is_end : ℕ → Bool
  is_end k = (k % every == 0) || (k == length us)

  -- the commits after so many units or more
  abbrev ends_from : ℕ → ℕ → List (Event World)
  ends_from k n = map at (filter is_end (range_with_len k n))

  -- one comes at once
  end_here : (k n : ℕ) → is_end k ≡ true → ends_from k (suc n) ≡ at k ∷ ends_from (k + 1) n
  end_here k n is = ap (λ (b : Bool). map at (cond b (k ∷ filter is_end (range_with_len (k + 1) n)) (filter is_end (range_with_len (k + 1) n)))) is

  -- or none
  no_end_here : (k n : ℕ) → is_end k ≡ false → ends_from k (suc n) ≡ ends_from (k + 1) n
  no_end_here k n is = ap (λ (b : Bool). map at (cond b (k ∷ filter is_end (range_with_len (k + 1) n)) (filter is_end (range_with_len (k + 1) n)))) is

  -- the last unit ends a batch
  last_ends : (k : ℕ) → k ≡ length us → is_end k ≡ true
  last_ends k is = ap (λ (b : Bool). (k % every == 0) || b) (eq-eqb k (length us) is) ∙ or_true (k % every == 0)

  -- so does one that makes it full
  full_ends : (k q : ℕ) → k ≡ q * every + 0 → is_end k ≡ true
  full_ends k q is = ap (λ (b : Bool). b || (k == length us)) (eq-eqb (k % every) 0 (ap (λ (m : ℕ). m % every) is ∙ mod-mul-add q every 0 some))

  -- others don't
  others_dont : (k q waiting : ℕ) → k ≡ q * every + waiting → 0 < waiting → waiting < every → k < length us → is_end k ≡ false
  others_dont k q waiting is more lt below =
      ap (λ (b : Bool). b || (k == length us)) (differ_numbers (k % every) 0 (λ e. omega (arith, more, sym (ap (λ (m : ℕ). m % every) is ∙ mod-mul-add q every waiting lt) ∙ e)))
      ∙ differ_numbers k (length us) (λ e. omega (arith, below, e))

  module _ (taken : List Unit) (u : Unit) (rest : List Unit) (whole : taken ++ u ∷ rest ≡ us) where
    -- one more unit is taken
    abbrev more : List Unit
    more = taken ++ u ∷ []

    more_rest : more ++ rest ≡ us
    more_rest = append_assoc taken (u ∷ []) rest ∙ whole

    longer : length more ≡ length taken + 1
    longer = length-append taken (u ∷ [])

    all_units : length us ≡ length taken + 1 + length rest
    all_units = sym (ap length more_rest) ∙ length-append more rest ∙ ap (λ (k : ℕ). k + length rest) longer

    -- the world is the one after so many
    next_world : captured name (u ∷ []) (captured name taken w) ≡ captured name more w
    next_world = captured_both name taken (u ∷ []) w

    at_more : commits (captured name (u ∷ []) (captured name taken w)) ≡ at (length taken + 1)
    at_more = ap (λ (v : World). commits v) next_world
        ∙ ap (λ (ts : List Unit). commits (captured name ts w)) (sym (take-append_seam more rest) ∙ ap (take (length more)) more_rest)
        ∙ ap at longer

  -- the commits that are left are those after the units that are taken
  left_by_ends : (taken : List Unit) (u : Unit) (rest : List Unit) → taken ++ u ∷ rest ≡ us → (q waiting : ℕ) → length taken ≡ q * every + waiting → waiting < every → commits_left every name waiting (captured name taken w) (u ∷ rest) ≡ ends_from (length taken + 1) (suc (length rest))
  left_by_ends taken u [] whole q waiting count lt =
      pick (waiting + 1 == every)
      ∙ ap (λ (e : Event World). e ∷ []) (at_more taken u [] whole)
      ∙ sym (end_here (length taken + 1) 0 (last_ends (length taken + 1) (omega (arith, all_units taken u [] whole))))
    where
      next : World
      next = captured name (u ∷ []) (captured name taken w)

      pick : (b : Bool) → cond b (commits next ∷ commits_left every name 0 next []) (commits_left every name (waiting + 1) next []) ≡ commits next ∷ []
      pick true = refl
      pick false = ap (λ (b : Bool). cond b [] (commits next ∷ [])) (differ_numbers (waiting + 1) 0 (λ e. omega (arith, e)))
  left_by_ends taken u (v ∷ rest) whole q waiting count lt =
      let goes_on = left_by_ends (taken ++ u ∷ []) v rest (more_rest taken u (v ∷ rest) whole) in
      elim (cases_lt (waiting + 1) every) [
        | inl open_batch ↦
            ap (λ (b : Bool). cond b (commits next ∷ commits_left every name 0 next (v ∷ rest)) (commits_left every name (waiting + 1) next (v ∷ rest))) (differ_numbers (waiting + 1) every (λ e. omega (arith, e, open_batch)))
            ∙ on (waiting + 1) (goes_on q (waiting + 1) (omega (arith, count, long)) open_batch)
            ∙ sym (no_end_here k (suc (length rest)) (others_dont k q (waiting + 1) (omega (arith, count)) (omega arith) open_batch (omega (arith, all_units taken u (v ∷ rest) whole))))
        | inr le ↦
            ap (λ (b : Bool). cond b (commits next ∷ commits_left every name 0 next (v ∷ rest)) (commits_left every name (waiting + 1) next (v ∷ rest))) (eq-eqb (waiting + 1) every (omega (arith, le, lt)))
            ∙ (λ i. at_more taken u (v ∷ rest) whole i ∷ on 0 (goes_on (suc q) 0 (batches le) some) i)
            ∙ sym (end_here k (suc (length rest)) (full_ends k (suc q) (sym long ∙ batches le)))
      ]
    where
      k : ℕ
      k = length taken + 1

      next : World
      next = captured name (u ∷ []) (captured name taken w)

      long : length (taken ++ u ∷ []) ≡ k
      long = longer taken u (v ∷ rest) whole

      -- the batch is full
      batches : every ≤ waiting + 1 → length (taken ++ u ∷ []) ≡ suc q * every + 0
      batches le = omega (arith, long, count, le, lt)

      -- it goes on after the unit
      on : (waits : ℕ) → commits_left every name waits (captured name (taken ++ u ∷ []) w) (v ∷ rest) ≡ ends_from (length (taken ++ u ∷ []) + 1) (suc (length rest)) → commits_left every name waits next (v ∷ rest) ≡ ends_from (k + 1) (suc (length rest))
      on waits rest_by_ends =
          ap (λ (x : World). commits_left every name waits x (v ∷ rest)) (next_world taken u (v ∷ rest) whole)
          ∙ rest_by_ends
          ∙ ap (λ (m : ℕ). ends_from (m + 1) (suc (length rest))) long

-- from the first unit on they are all of them
pub by_ends : (every : ℕ) → 0 < every → (name : List ℕ) (w : World) (us : List Unit) → commits_left every name 0 w us ≡ commits_of every name w us
by_ends every some name w [] = refl
by_ends every some name w (u ∷ us) =
    ap (λ (v : World). commits_left every name 0 v (u ∷ us)) (sym (captured_none name w))
    ∙ left_by_ends every some name w (u ∷ us) [] u us refl 0 0 (omega arith) some
