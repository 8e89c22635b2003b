-- Reading values one after another, as a loop does.
use Rattle.std.proofs.Common.{◌≡◌, ℕ, suc, ◌+◌, ◌<◌, ◌≤◌, List, [], ◌∷◌, ◌++◌, take, drop, length, Bool, true, false, cond, Option, Some, None, ◌⊎◌, refl, sym, ap, subst, ◌∙◌, inl, inr, append_assoc, arith}
use Rattle.std.proofs.Math.Numerals.{one-add}
use Rattle.std.specs.Prelude.{not, ◌&&◌, nat_le, codes}
use Rattle.std.specs.Option.{option_map}
use Rattle.std.specs.List.{before_first, after_first, position_or_len}
use Rattle.std.proofs.lemmas.List.{append-nil, drop-drop}
use Rattle.std.proofs.lemmas.Bool.{cases_Bool}
use Rattle.std.proofs.lemmas.Bool.Decides.{nat_tests}
use Rattle.std.proofs.lemmas.Option.{option_and_then_some}
use Rattle.std.proofs.lemmas.Slice.Eq.{bytes_eq-Decides}
use Rattle.repl_types.specs.Value.{Values}
use Rattle.repl_types.specs.ValueText.{value_of}
use Rattle.repl_types.specs.declared.value.Value.{Value}
use Rattle.log_text.specs.Records.{◌>>=◌, is_arrow, from_arrow, values_of, row_of, update_of}
use Rattle.repl_types.specs.declared.record.Change.TheVariants.{Update}

-- ---- words before and after an arrow

-- nothing stands before an arrow that is the first word
pub before-arrow : (word : List ℕ) (ws : List (List ℕ)) → is_arrow word ≡ true → before_first is_arrow (word ∷ ws) ≡ []
before-arrow word ws e = ap (λ (b : Bool). take (cond (not b) (1 + position_or_len is_arrow ws) 0) (word ∷ ws)) e

-- a word that is no arrow stands before it
pub before-word : (word : List ℕ) (ws : List (List ℕ)) → is_arrow word ≡ false → before_first is_arrow (word ∷ ws) ≡ word ∷ before_first is_arrow ws
before-word word ws e =
    let n = position_or_len is_arrow ws in
    ap (λ (b : Bool). take (cond (not b) (1 + n) 0) (word ∷ ws)) e ∙ ap (λ (k : ℕ). take k (word ∷ ws)) (one-add n)

-- and not among those from the arrow on
pub from-word : (word : List ℕ) (ws : List (List ℕ)) → is_arrow word ≡ false → from_arrow (word ∷ ws) ≡ from_arrow ws
from-word word ws e =
    let n = position_or_len is_arrow ws in
    ap (λ (b : Bool). drop (cond (not b) (1 + n) 0) (word ∷ ws)) e ∙ ap (λ (k : ℕ). drop k (word ∷ ws)) (one-add n)

-- all words stand from an arrow on that is the first
pub from-arrow : (word : List ℕ) (ws : List (List ℕ)) → is_arrow word ≡ true → from_arrow (word ∷ ws) ≡ word ∷ ws
from-arrow word ws e = ap (λ (b : Bool). drop (cond (not b) (1 + position_or_len is_arrow ws) 0) (word ∷ ws)) e

-- a list with an element isn't empty
some-nil : (word : List ℕ) (ws : List (List ℕ)) → word ∷ ws ≡ [] → ⊥
some-nil word ws e = cc

-- if nothing stands from an arrow on, all words stand before it
pub before-all : (ws : List (List ℕ)) → from_arrow ws ≡ [] → before_first is_arrow ws ≡ ws
before-all [] e = refl
before-all (word ∷ ws) e = elim (cases_Bool (is_arrow word)) [
  | inl arrow ↦ absurd (some-nil word ws (sym (from-arrow word ws arrow) ∙ e))
  | inr plain ↦ before-word word ws plain ∙ ap (λ (more : List (List ℕ)). word ∷ more) (before-all ws (sym (from-word word ws plain) ∙ e))
]

-- dropping one more is dropping one of the rest
drop_next : (n : ℕ) (ws : List (List ℕ)) → drop (n + 1) ws ≡ drop 1 (drop n ws)
drop_next n ws = sym (drop-drop 1 n ws)

-- what follows the arrow
pub after-arrow : (ws : List (List ℕ)) (word : List ℕ) (rest : List (List ℕ)) → from_arrow ws ≡ word ∷ rest → after_first is_arrow ws ≡ rest
after-arrow ws word rest e = drop_next (position_or_len is_arrow ws) ws ∙ ap (drop 1) e

-- if there is no arrow, nothing follows it
pub after-none : (ws : List (List ℕ)) → from_arrow ws ≡ [] → after_first is_arrow ws ≡ []
after-none ws e = drop_next (position_or_len is_arrow ws) ws ∙ ap (drop 1) e

-- ---- values

-- what was read before, and what is still read
abbrev pub with_values : Values → Option Values → Option Values
with_values front read = option_map (λ values. front ++ values) read

-- one more value before those that are still read is one more that was read
values_step : (v : Value) (front : Values) (read : Option Values) → with_values front (option_map (λ values. v ∷ values) read) ≡ with_values (front ++ v ∷ []) read
values_step v front None = refl
values_step v front (Some values) = ap (λ (vs : Values). Some vs) (sym (append_assoc front (v ∷ []) values))

-- a value before those that are read
pub as_map : (v : Value) (read : Option Values) → (read >>= λ values. Some (v ∷ values)) ≡ option_map (λ values. v ∷ values) read
as_map v None = refl
as_map v (Some values) = refl

-- a word that spells a value
pub goes_on : (front : Values) (word : List ℕ) (v : Value) (ws : List (List ℕ)) → value_of word ≡ Some v → with_values front (values_of (word ∷ ws)) ≡ with_values (front ++ v ∷ []) (values_of ws)
unfolding values_of
goes_on front word v ws e =
    ap (λ (first : Option Value). with_values front (first >>= λ value. values_of ws >>= λ values. Some (value ∷ values))) e
    ∙ ap (with_values front) (as_map v (values_of ws)) ∙ values_step v front (values_of ws)

-- a word that spells none
pub stops : (front : Values) (word : List ℕ) (ws : List (List ℕ)) → value_of word ≡ None → with_values front (values_of (word ∷ ws)) ≡ None
unfolding values_of
stops front word ws e = ap (λ (first : Option Value). with_values front (first >>= λ value. values_of ws >>= λ values. Some (value ∷ values))) e

-- no more words
pub ends : (front : Values) → with_values front (values_of []) ≡ Some front
unfolding values_of
ends front = ap (λ (vs : Values). Some vs) (append-nil front)

-- equal answers hold equal values
some_is : (vs ws : Values) → Some vs ≡ Some ws → vs ≡ ws
some_is vs ws e = cc

-- there are as many values as words
pub values_len : (ws : List (List ℕ)) (vs : Values) → values_of ws ≡ Some vs → length vs ≡ length ws
unfolding values_of
values_len [] vs e = ap length (some_is vs [] (sym e))
values_len (word ∷ ws) vs e =
    option_and_then_some (λ value. values_of ws >>= λ values. Some (value ∷ values)) (value_of word) vs e (λ value _ f.
    option_and_then_some (λ values. Some (value ∷ values)) (values_of ws) vs f (λ values g h.
    ap length (some_is vs (value ∷ values) (sym h)) ∙ ap suc (values_len ws values g)))

-- ---- the loop over the words of a row: `all` are those of the line, `left` those that are left

module _ (front : Values) (all left : List (List ℕ)) (so_far : with_values front (values_of (before_first is_arrow left)) ≡ values_of (before_first is_arrow all)) where
  module _ (word : List ℕ) (after : List (List ℕ)) (next : left ≡ word ∷ after) where
    -- a word that spells no value
    pub row_stops : is_arrow word ≡ false → None ≡ value_of word → None ≡ values_of (before_first is_arrow all)
    row_stops plain e =
        sym (stops front word (before_first is_arrow after) (sym e)) ∙ ap (λ (ws : List (List ℕ)). with_values front (values_of ws)) (sym (ap (before_first is_arrow) next ∙ before-word word after plain)) ∙ so_far

    -- a word that spells one
    pub row_goes_on : (v : Value) → is_arrow word ≡ false → Some v ≡ value_of word → with_values (front ++ v ∷ []) (values_of (before_first is_arrow after)) ≡ values_of (before_first is_arrow all)
    row_goes_on v plain e =
        sym (goes_on front word v (before_first is_arrow after) (sym e)) ∙ ap (λ (ws : List (List ℕ)). with_values front (values_of ws)) (sym (ap (before_first is_arrow) next ∙ before-word word after plain)) ∙ so_far

    -- an arrow
    pub row_ends : is_arrow word ≡ true → Some front ≡ values_of (before_first is_arrow all)
    row_ends arrow = sym (ends front) ∙ ap (λ (ws : List (List ℕ)). with_values front (values_of ws)) (sym (ap (before_first is_arrow) next ∙ before-arrow word after arrow)) ∙ so_far

  -- no more words
  pub row_is_all : left ≡ [] → Some front ≡ values_of (before_first is_arrow all)
  row_is_all e = sym (ends front) ∙ ap (λ (ws : List (List ℕ)). with_values front (values_of ws)) (sym (ap (before_first is_arrow) e)) ∙ so_far

-- ---- rows

-- 1 to 64 are as many as a row has
in_row : (n : ℕ) → 0 < n → n ≤ 64 → (nat_le 1 n && nat_le n 64) ≡ true
in_row n some few = grind (arith, nat_tests)

-- none, or over 64, are not
not_in_row : (n : ℕ) → (n ≡ 0) ⊎ (64 < n) → (nat_le 1 n && nat_le n 64) ≡ false
not_in_row n (inl none) = grind (arith, nat_tests)
not_in_row n (inr many) = grind (arith, nat_tests)

-- as many values as a row has
pub row_taken : (ws : List (List ℕ)) (vs : Values) → Some vs ≡ values_of ws → 0 < length vs → length vs ≤ 64 → Some vs ≡ row_of ws
unfolding row_of
row_taken ws vs e some few =
    let len = values_len ws vs (sym e) in
    e ∙ sym (ap (λ (test : Bool). cond test (values_of ws) None) (in_row (length ws) (omega arith) (omega arith)))

-- too few, or too many
pub row_refused : (ws : List (List ℕ)) (vs : Values) → Some vs ≡ values_of ws → (length vs ≡ 0) ⊎ (64 < length vs) → None ≡ row_of ws
unfolding row_of
row_refused ws vs e many =
    let wrong : (length ws ≡ 0) ⊎ (64 < length ws) = subst (λ (n : ℕ). (n ≡ 0) ⊎ (64 < n)) (values_len ws vs (sym e)) many in
    sym (ap (λ (test : Bool). cond test (values_of ws) None) (not_in_row (length ws) wrong))

-- a word that spells no value
pub row_unread : (ws : List (List ℕ)) → None ≡ values_of ws → None ≡ row_of ws
unfolding row_of
row_unread ws e = elim (cases_Bool (nat_le 1 (length ws) && nat_le (length ws) 64)) [
  | inl fits ↦ e ∙ sym (ap (λ (test : Bool). cond test (values_of ws) None) fits)
  | inr fails ↦ sym (ap (λ (test : Bool). cond test (values_of ws) None) fails)
]

-- an arrow spells no value
pub arrow_is_no_value : (word : List ℕ) → is_arrow word ≡ true → value_of word ≡ None
unfolding value_of
arrow_is_no_value word arrow = ap value_of ((bytes_eq-Decides word (codes "->")).0 arrow)

-- no row
abbrev no_row : Option Values
no_row = None

-- if the rest spells no values, all spell none
no_values : (first : Option Value) → (first >>= λ value. no_row >>= λ values. Some (value ∷ values)) ≡ no_row
no_values None = refl
no_values (Some value) = refl

-- no words with an arrow among them are values
pub values-arrow : (ws : List (List ℕ)) (word : List ℕ) (rest : List (List ℕ)) → from_arrow ws ≡ word ∷ rest → values_of ws ≡ None
unfolding values_of
values-arrow [] word rest e = absurd cc
values-arrow (w ∷ ws) word rest e = elim (cases_Bool (is_arrow w)) [
  | inl arrow ↦ ap (λ (first : Option Value). first >>= λ value. values_of ws >>= λ values. Some (value ∷ values)) (arrow_is_no_value w arrow)
  | inr plain ↦ ap (λ (more : Option Values). value_of w >>= λ value. more >>= λ values. Some (value ∷ values)) (values-arrow ws word rest (sym (from-word w ws plain) ∙ e)) ∙ no_values (value_of w)
]

-- ---- a row that is all of a line, and the two of an update

-- a row with nothing after it
pub last_is : (ws : List (List ℕ)) (row : Values) → from_arrow ws ≡ [] → Some row ≡ row_of (before_first is_arrow ws) → Some row ≡ row_of ws
last_is ws row e taken = taken ∙ ap row_of (before-all ws e)

-- an arrow after the row
pub last_arrow : (ws : List (List ℕ)) (word : List ℕ) (rest : List (List ℕ)) → from_arrow ws ≡ word ∷ rest → None ≡ row_of ws
last_arrow ws word rest e = row_unread ws (sym (values-arrow ws word rest e))

-- no row before an arrow, or the end
pub last_none : (ws : List (List ℕ)) → None ≡ row_of (before_first is_arrow ws) → None ≡ row_of ws
last_none ws e = by (from_arrow ws) refl
  where
    by : (rest : List (List ℕ)) → from_arrow ws ≡ rest → None ≡ row_of ws
    by [] none = e ∙ ap row_of (before-all ws none)
    by (word ∷ rest) arrow = last_arrow ws word rest arrow

-- no words spell no row
no_rows : None ≡ row_of []
unfolding row_of
no_rows = refl

module _ (table : List ℕ) (ws : List (List ℕ)) (before : Values) (taken : Some before ≡ row_of (before_first is_arrow ws)) where
  -- no row after the arrow
  pub update_none : None ≡ row_of (after_first is_arrow ws) → None ≡ update_of table ws
  unfolding update_of
  update_none e = sym (ap (λ (row : Option Values). row >>= λ b. row_of (after_first is_arrow ws) >>= λ a. Some (Update table b a)) (sym taken)
      ∙ ap (λ (row : Option Values). row >>= λ a. Some (Update table before a)) (sym e))

  -- no arrow
  pub update_alone : from_arrow ws ≡ [] → None ≡ update_of table ws
  update_alone e = update_none (no_rows ∙ ap row_of (sym (after-none ws e)))

  -- both rows
  pub update_is : (after : Values) → Some after ≡ row_of (after_first is_arrow ws) → Some (Update table before after) ≡ update_of table ws
  unfolding update_of
  update_is after e = sym (ap (λ (row : Option Values). row >>= λ b. row_of (after_first is_arrow ws) >>= λ a. Some (Update table b a)) (sym taken)
      ∙ ap (λ (row : Option Values). row >>= λ a. Some (Update table before a)) (sym e))
