-- What a buffer has after a change is pushed, and after a transaction ends.
use Rattle.std.proofs.Common.{◌≡◌, ◌≢◌, ℕ, Bool, cond, List, [], ◌∷◌, ◌++◌, sym, subst, inl, inr, ◌==◌}
use Rattle.std.specs.List.{AllByRecursion}
use Rattle.std.proofs.lemmas.Bool.{cases_eq, eq-eqb}
use Rattle.world_store.specs.Words.{differ_numbers}
use Rattle.repl_model.specs.Words.{all_append, Placed}
use Rattle.txn_buffer.specs.Buffer.{changes_in}
use Rattle.txn_buffer.specs.declared.buffer.Buffer.{Buffer}
use Rattle.cd_tables.specs.Appending.{IsTyped}

-- what a choice by two numbers gives
chosen : (P : List Placed → List Placed → Type 0) (f g h : ℕ → List Placed) (t tx : ℕ) → P (f t) (g t) → (tx ≢ t → P (f tx) (h tx)) → P (f tx) (cond (t == tx) (g tx) (h tx))
chosen P f g h t tx here there = elim (cases_eq t tx) [
  | inl e ↦ subst (λ (b : Bool). P (f tx) (cond b (g tx) (h tx))) (sym (eq-eqb t tx e)) (subst (λ (k : ℕ). P (f k) (g k)) e here)
  | inr ne ↦ subst (λ (b : Bool). P (f tx) (cond b (g tx) (h tx))) (sym (differ_numbers t tx ne)) (there (λ e. ne (sym e)))
]

module _ (old new : Buffer) (t : ℕ) (others : (q : ℕ) → q ≢ t → changes_in new q ≡ changes_in old q) where
  -- after a push its transaction has one change more
  pub pushed : (placed : Placed) → changes_in new t ≡ changes_in old t ++ placed ∷ [] → (tx : ℕ) → changes_in new tx ≡ cond (t == tx) (changes_in old tx ++ placed ∷ []) (changes_in old tx)
  pushed placed here tx = chosen (λ xs ys. xs ≡ ys) (changes_in new) (λ q. changes_in old q ++ placed ∷ []) (changes_in old) t tx here (others tx)

  -- after its end a transaction has none
  pub ended : changes_in new t ≡ [] → (tx : ℕ) → changes_in new tx ≡ cond (t == tx) [] (changes_in old tx)
  ended here tx = chosen (λ xs ys. xs ≡ ys) (changes_in new) (λ q. []) (changes_in old) t tx here (others tx)

  -- if each transaction but one has the rows of values that it had, and that one has such rows, all have
  typed_by : ((tx : ℕ) → AllByRecursion IsTyped (changes_in old tx)) → AllByRecursion IsTyped (changes_in new t) → (tx : ℕ) → AllByRecursion IsTyped (changes_in new tx)
  typed_by typed here tx = elim (cases_eq tx t) [
    | inl e ↦ subst (λ (k : ℕ). AllByRecursion IsTyped (changes_in new k)) (sym e) here
    | inr ne ↦ subst (AllByRecursion IsTyped) (sym (others tx ne)) (typed tx)
  ]

  -- the changes are rows of values after a push of such
  pub pushed_typed : (placed : Placed) → ((tx : ℕ) → AllByRecursion IsTyped (changes_in old tx)) → IsTyped placed → changes_in new t ≡ changes_in old t ++ placed ∷ [] → (tx : ℕ) → AllByRecursion IsTyped (changes_in new tx)
  pushed_typed placed typed one here = typed_by typed (subst (AllByRecursion IsTyped) (sym here) (all_append IsTyped (changes_in old t) (placed ∷ []) (typed t) (one, tt)))

  -- and after an end
  pub ended_typed : ((tx : ℕ) → AllByRecursion IsTyped (changes_in old tx)) → changes_in new t ≡ [] → (tx : ℕ) → AllByRecursion IsTyped (changes_in new tx)
  ended_typed typed here = typed_by typed (subst (AllByRecursion IsTyped) (sym here) tt)
