-- A table whose rows are removed, one after another, in the order of their keys.
use Rattle.std.proofs.Common.{◌≡◌, ℕ, Bool, true, false, cond, List, [], ◌∷◌, inl, inr, refl, sym, ap, subst, ◌∙◌, ◌==◌, ◌&&◌, Some, None, Less}
use Rattle.std.specs.Ordering.{is_lt}
use Rattle.std.proofs.lemmas.Bool.{eqb-true, false_from_ne_true}
use Rattle.world_store.specs.Words.{is_before, not_both, empty_first, same_is, before_key, put_here}
use Rattle.site_store.specs.Words.{Contents, IsLastKey, Table, same_key, set_key, put_at, with_table, Rules, adds_remove}
use Rattle.repl_model.specs.Words.{same_area, bytes_cmp, Area}
use Rattle.rows_in_order.specs.laws.Before.{is_less}
use Rattle.stored_commits.specs.units.StoredChanges.{cleared}

-- all that stands stood there before
abbrev pub OnlyRemoves : Contents → Contents → Type 0
OnlyRemoves c d = (a : Area) (t : ℕ) (key value : List ℕ) → d a t key ≡ Some value → c a t key ≡ Some value

-- rules by which nothing is a key
abbrev no_keys : Rules
no_keys = record { is_key = λ a t key. ⊥; is_value = λ a t value. ⊥; is_needed = λ a t key c. ⊥; is_unfit = λ a t key value c. ⊥ }

-- after a removal it did
pub key_removed : (c d : Contents) (area : Area) (number : ℕ) (k : List ℕ) → d ≡ put_at c area number k None → OnlyRemoves c d
key_removed c d area number k is a t key value has = elim (adds_remove no_keys c area number k a t key value (sym (ap (λ (f : Contents). f a t key) is) ∙ has)) [
  | inl new ↦ absurd new.0
  | inr old ↦ old
]

-- The rows of a table up to a key were removed, and no other table changed.
pub record HasCleared (area : Area) (number : ℕ) (after : List ℕ) (c d : Contents) : Type 0 where
  pub others : (a : Area) (n : ℕ) → (same_area area a && (number == n)) ≡ false → d a n ≡ c a n
  pub left : OnlyRemoves c d
  pub empty : d area number [] ≡ c area number []
  pub gone : (key : List ℕ) → bytes_cmp [] key ≡ Less → is_before after key ≡ false → d area number key ≡ None

module _ (area : Area) (number : ℕ) where
  -- no row is up to the empty key
  pub cleared_none : (c : Contents) → HasCleared area number [] c c
  cleared_none c = record { others = λ a n other. refl; left = λ a t key value has. has; empty = refl; gone = λ key some upto. absurd (not_both (is_before [] key) (ap is_lt some) upto) }

  module _ (after : List ℕ) (c d e : Contents) (before : HasCleared area number after c d) where
    -- the next row is removed
    pub cleared_next : (k : List ℕ) → bytes_cmp after k ≡ Less → (e ≡ put_at d area number k None) × ((q : List ℕ) → bytes_cmp after q ≡ Less → bytes_cmp q k ≡ Less → d area number q ≡ None) → HasCleared area number k c e
    cleared_next k above step = record {
      others = λ a n other. ap (λ (f : Contents). f a n) step.0 ∙ ap (λ (b : Bool). cond b (set_key (d area number) k None) (d a n)) other ∙ before.others a n other;
      left = λ a t q value has. before.left a t q value (key_removed d e area number k step.0 a t q value has);
      empty = at [] ∙ ap (λ (b : Bool). cond b None (d area number [])) not_empty ∙ before.empty;
      gone = λ q some upto. at q ∙ pick q some upto (same_key k q) refl (is_before after q) refl;
    }
      where
        not_empty : same_key k [] ≡ false
        not_empty = false_from_ne_true (same_key k []) (λ same. not_both (is_before after []) (ap is_lt (subst (λ (q : List ℕ). bytes_cmp after q ≡ Less) (same_is k [] same) above)) (empty_first after))

        at : (q : List ℕ) → e area number q ≡ cond (same_key k q) None (d area number q)
        at q = ap (λ (f : Contents). f area number q) step.0 ∙ ap (λ (t : Table). t q) (put_here d area number k None)

        pick : (q : List ℕ) → bytes_cmp [] q ≡ Less → is_before k q ≡ false → (b : Bool) → same_key k q ≡ b → (t : Bool) → is_before after q ≡ t → cond b None (d area number q) ≡ None
        pick q some upto true same t is = refl
        pick q some upto false apart true later = step.1 q (is_less (bytes_cmp after q) later) (before_key k q upto apart)
        pick q some upto false apart false early = before.gone q some early

    -- there is no next row, so none is left
    pub cleared_all : ((a : Area) → same_area area a ≡ true → area ≡ a) → (e ≡ d) × IsLastKey (d area number) after → e ≡ with_table c area number (cleared (c area number))
    cleared_all own last = last.0 ∙ (λ i a n. table a n (same_area area a) refl (number == n) refl i)
      where
        some_row : (q : List ℕ) → bytes_cmp [] q ≡ Less → (t : Bool) → is_before after q ≡ t → d area number q ≡ None
        some_row q some true later = last.1 q (is_less (bytes_cmp after q) later)
        some_row q some false early = before.gone q some early

        row : (q : List ℕ) → d area number q ≡ cleared (c area number) q
        row [] = before.empty
        row (b ∷ q) = some_row (b ∷ q) refl (is_before after (b ∷ q)) refl

        table : (a : Area) (n : ℕ) (x : Bool) → same_area area a ≡ x → (y : Bool) → (number == n) ≡ y → d a n ≡ cond (x && y) (cleared (c area number)) (c a n)
        table a n true same true is = (λ i. d (sym (own a same) i) (sym (eqb-true number n is) i)) ∙ (λ i q. row q i)
        table a n true same false other = before.others a n (λ i. same i && other i)
        table a n false apart y is = before.others a n (λ i. apart i && is i)
