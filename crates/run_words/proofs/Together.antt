-- Servers that go together, one after another.
use Rattle.std.proofs.Common.{◌≡◌, ℕ, ◌+◌, ◌<◌, List, length, get_or, take, sym, subst, ◌∙◌, below_more, arith}
use Rattle.std.specs.List.{All, AllPairs}
use Rattle.std.proofs.lemmas.List.{get_or-take, get_or_default, length-take}

-- the element at a place, whatever stands for one outside
at_place : {X : Type 0} (xs : List X) (n : ℕ) (x d : X) → n < length xs → x ≡ get_or xs n x → x ≡ get_or xs n d
at_place xs n x d lt is = is ∙ get_or_default xs n x d lt

-- if any two go together, one goes with those before it
pub goes_with_earlier : {X : Type 0} (R : X → X → Type 0) (xs : List X) (n : ℕ) (x : X) → n < length xs → x ≡ get_or xs n x → AllPairs R xs → All (λ y. R y x) (take n xs)
goes_with_earlier {X} R xs n x lt is pairs k d within =
    let low : k < n = omega (arith, length-take n xs) in
    subst (λ (y : X). R y x) (sym (get_or-take n xs k d low)) (subst (λ (y : X). R (get_or xs k d) y) (sym (at_place xs n x d lt is)) (pairs k n d low lt))

-- those before it go together, and it goes with each of them
pub more_go_together : {X : Type 0} (R : X → X → Type 0) (xs : List X) (n : ℕ) (x : X) → n < length xs → x ≡ get_or xs n x → All (λ y. R y x) (take n xs)
    → ((i j : ℕ) (d : X) → i < j → j < n → R (get_or xs i d) (get_or xs j d)) → (i j : ℕ) (d : X) → i < j → j < n + 1 → R (get_or xs i d) (get_or xs j d)
more_go_together {X} R xs n x lt is others earlier i j d low high =
    below_more (λ q. i < q → R (get_or xs i d) (get_or xs q d)) n (λ q before above. earlier i q d above before)
    (λ above. subst (λ (y : X). R (get_or xs i d) y) (at_place xs n x d lt is) (subst (λ (y : X). R y x) (get_or-take n xs i d above) (others i d (rw length-take (omega arith)))))
    j high low
