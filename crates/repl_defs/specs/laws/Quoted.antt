-- Where a text between quotes ends, byte after byte.
use Rattle.std.proofs.Common.{◌≡◌, ◌≢◌, ℕ, ◌+◌, ◌-◌, ◌≤◌, ◌==◌, Bool, true, false, cond, ◌&&◌, ◌||◌, List, [], ◌∷◌, length, drop, take, Option, Some, None, IfSome, refl, sym, ap, ◌∙◌, arith, ne_eqb, nat_lt, lt-ltb, option_map, slice_index}
use Rattle.std.proofs.lemmas.List.{take_rest, length-drop}
use Rattle.repl_model.specs.Words.{quote, backslash}
use Rattle.repl_defs.specs.Tokens.{quoted_len}

-- a byte and the byte after it stand together
abbrev pub is_pair : ℕ → List ℕ → Bool
is_pair first after = nat_lt 0 (length after) && (first == backslash || first == quote && slice_index after 0 == quote)

-- what the test says of two bytes
is_pair-cons : (first c : ℕ) (cs : List ℕ) (r : Bool) → is_pair first (c ∷ cs) ≡ r → (first == backslash || first == quote && c == quote) ≡ r
is_pair-cons first c cs r e = rw (lt-ltb 0 (length (c ∷ cs)) (omega arith)) at e

-- there is a byte after one that stands together with it
pub is_pair-some : (first : ℕ) (after : List ℕ) → is_pair first after ≡ true → 1 ≤ length after
is_pair-some first [] e = absurd cc
is_pair-some first (c ∷ cs) e = omega arith

-- two bytes that stand together are passed together
pub quoted_len-pair : (first : ℕ) (after : List ℕ) → is_pair first after ≡ true → quoted_len (first ∷ after) ≡ option_map (λ n. 2 + n) (quoted_len (drop 1 after))
unfolding quoted_len
quoted_len-pair first [] e = absurd cc
quoted_len-pair first (c ∷ cs) e = rw (is_pair-cons first c cs true e) refl

-- the closing quote is the last byte
pub quoted_len-closing : (first : ℕ) (after : List ℕ) → is_pair first after ≡ false → first ≡ 39 → quoted_len (first ∷ after) ≡ Some 1
unfolding quoted_len
quoted_len-closing first [] e is = rw is refl
quoted_len-closing first (c ∷ cs) e is = rw (is_pair-cons first c cs false e, is) refl

-- another byte is passed alone
pub quoted_len-other : (first : ℕ) (after : List ℕ) → is_pair first after ≡ false → first ≢ 39 → quoted_len (first ∷ after) ≡ option_map (λ n. 1 + n) (quoted_len after)
unfolding quoted_len
quoted_len-other first [] e other = rw (ne_eqb first 39 other) refl
quoted_len-other first (c ∷ cs) e other = rw (is_pair-cons first c cs false e, ne_eqb first 39 other) refl

-- a length grows twice as it grows at once
grows : (o : Option ℕ) (m k p : ℕ) → p ≡ m + k → option_map (λ n. p + n) o ≡ option_map (λ n. m + n) (option_map (λ n. k + n) o)
grows None m k p e = refl
grows (Some n) m k p e = ap Some (omega arith)

-- the length of the whole, once some more bytes are passed
pub quoted_len-more : (whole rest after : List ℕ) (k : ℕ) (found : Option ℕ) → length after + k ≡ length rest → length rest ≤ length whole
    → option_map (λ n. (length whole - length rest) + n) (quoted_len rest) ≡ found → quoted_len rest ≡ option_map (λ n. k + n) (quoted_len after)
    → option_map (λ n. (length whole - length after) + n) (quoted_len after) ≡ found
quoted_len-more whole rest after k found more within so_far step =
    grows (quoted_len after) (length whole - length rest) k (length whole - length after) (omega arith)
    ∙ ap (option_map (λ n. (length whole - length rest) + n)) (sym step) ∙ so_far

-- the end is found once the closing quote is
pub quoted_len-found : (whole rest after : List ℕ) (first : ℕ) → rest ≡ first ∷ after → is_pair first after ≡ false → first ≡ 39 → length rest ≤ length whole
    → option_map (λ n. (length whole - length rest) + n) (quoted_len rest) ≡ quoted_len whole → Some (length whole - length after) ≡ quoted_len whole
quoted_len-found whole rest after first is single closing within so_far =
    ap Some (omega (arith, ap length is)) ∙ ap (option_map (λ n. (length whole - length rest) + n)) (sym (ap quoted_len is ∙ quoted_len-closing first after single closing)) ∙ so_far

-- there is no end in empty bytes
pub quoted_len-nothing : (whole rest : List ℕ) → length rest ≡ 0 → option_map (λ n. (length whole - length rest) + n) (quoted_len rest) ≡ quoted_len whole → None ≡ quoted_len whole
unfolding quoted_len
quoted_len-nothing whole [] none so_far = so_far
quoted_len-nothing whole (b ∷ bs) none so_far = absurd (omega arith)

-- ---- the end is within the bytes

-- of two ends that are within, one is
either_within : (b : Bool) (o p : Option ℕ) (most : ℕ) → IfSome o (λ n. n ≤ most) → IfSome p (λ n. n ≤ most) → IfSome (cond b o p) (λ n. n ≤ most)
either_within true o p most h k = h
either_within false o p most h k = k

-- an end that is moved stays within more bytes
moved_within : (o : Option ℕ) (k fewer most : ℕ) → k + fewer ≤ most → IfSome o (λ n. n ≤ fewer) → IfSome (option_map (λ n. k + n) o) (λ n. n ≤ most)
moved_within None k fewer most room h = tt
moved_within (Some n) k fewer most room h = omega arith

-- the end is within the bytes
pub quoted_len-within : (bs : List ℕ) → IfSome (quoted_len bs) (λ n. n ≤ length bs)
unfolding quoted_len
quoted_len-within [] = tt
quoted_len-within (b ∷ []) = either_within (b == quote) (Some 1) None 1 (omega arith) tt
quoted_len-within (b ∷ c ∷ cs) =
    either_within (b == backslash || b == quote && c == quote) (option_map (λ n. 2 + n) (quoted_len cs)) _ (length (b ∷ c ∷ cs))
    (moved_within (quoted_len cs) 2 (length cs) (length (b ∷ c ∷ cs)) (omega arith) (quoted_len-within cs))
    (either_within (b == quote) (Some 1) (option_map (λ n. 1 + n) (quoted_len (c ∷ cs))) (length (b ∷ c ∷ cs)) (omega arith)
    (moved_within (quoted_len (c ∷ cs)) 1 (length (c ∷ cs)) (length (b ∷ c ∷ cs)) (omega arith) (quoted_len-within (c ∷ cs))))

-- the opening quote and the bytes up to the closing one are within the text
pub word_within : (text : List ℕ) (n : ℕ) → slice_index text 0 ≡ quote → Some n ≡ quoted_len (take (length text - 1) (drop 1 text)) → n + 1 ≤ length text
word_within [] n opens e = absurd (omega arith)
word_within (b ∷ bs) n opens e = omega (arith, rw (← e, take_rest (b ∷ bs) 1) at (quoted_len-within (take (length (b ∷ bs) - 1) (drop 1 (b ∷ bs)))), length-drop 1 (b ∷ bs))
