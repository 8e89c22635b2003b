-- The tokens of a text, token after token.
use Rattle.std.proofs.Common.{◌≡◌, ◌≢◌, ℕ, zero, suc, ◌+◌, ◌-◌, ◌≤◌, ◌<◌, ◌==◌, Bool, true, false, cond, ◌&&◌, ◌||◌, List, [], ◌∷◌, ◌++◌, length, drop, take, Option, Some, None, IfSome, refl, sym, ap, ◌∙◌, arith, ne_eqb, subst, append_assoc, slice_index, option_map, option_and_then}
use Rattle.std.specs.List.{take_while, prefix_len}
use Rattle.std.proofs.lemmas.List.{append-nil, length-drop, length-take, take_rest}
use Rattle.repl_model.specs.Words.{is_letter, quote, Value}
use Rattle.repl_types.specs.ValueText.{value_of}
use Rattle.repl_types.specs.declared.value.Value.TheVariants as values
use Rattle.repl_defs.specs.Tokens.{is_capital, is_digit, is_word_byte, quoted_len, text_token, first_token, tokens_within, tokens_of}
use Rattle.repl_defs.specs.declared.token.Token.{Token}

-- what is found leaves no more than so many bytes
abbrev Leaves : ℕ → Option (Token × List ℕ) → Type 0
Leaves most o = IfSome o (λ found. length found.1 ≤ most)

-- of two that leave few, the one that a test picks does
either_leaves : (b : Bool) (o p : Option (Token × List ℕ)) (most : ℕ) → (b ≡ true → Leaves most o) → Leaves most p → Leaves most (cond b o p)
either_leaves true o p most h k = h refl
either_leaves false o p most h k = k

-- a byte that a word begins with is a byte of a word
or_more : (l d u c : Bool) → (l || c) ≡ true → (l || d || u || c) ≡ true
or_more true d u c e = refl
or_more false d u c e = rw e (last (d || u))
  where
    last : (b : Bool) → (b || true) ≡ true
    last true = refl
    last false = refl

-- what follows at least one byte
rest_shorter : (p : ℕ → Bool) (b : ℕ) (bs : List ℕ) → p b ≡ true → length (drop (length (take_while p (b ∷ bs))) (b ∷ bs)) ≤ length bs
rest_shorter p b bs passes =
    let long : prefix_len p (b ∷ bs) ≡ 1 + prefix_len p bs = rw passes refl in
    omega (arith, long, length-drop (length (take_while p (b ∷ bs))) (b ∷ bs), length-take (prefix_len p (b ∷ bs)) (b ∷ bs))

-- a text leaves what follows it
text_leaves : (v : Option Value) (rest : List ℕ) (most : ℕ) → length rest ≤ most → Leaves most (text_token v rest)
text_leaves None rest most few = tt
text_leaves (Some values.Null) rest most few = tt
text_leaves (Some (values.Int n)) rest most few = tt
text_leaves (Some (values.Text t)) rest most few = few

-- a text between quotes leaves what follows it
quoted_leaves : (o : Option ℕ) (bs : List ℕ) → Leaves (length bs) (option_and_then (λ n. text_token (value_of (quote ∷ take n bs)) (drop n bs)) o)
quoted_leaves None bs = tt
quoted_leaves (Some n) bs = text_leaves (value_of (quote ∷ take n bs)) (drop n bs) (length bs) (omega (arith, length-drop n bs))

-- the next byte is this one
abbrev next_is : ℕ → List ℕ → Bool
next_is c [] = false
next_is c (d ∷ ds) = d == c

-- of two that leave few, a test picks one
picks : (b : Bool) (o p : Option (Token × List ℕ)) (most : ℕ) → Leaves most o → Leaves most p → Leaves most (cond b o p)
picks b o p most h = either_leaves b o p most (λ e. h)

-- the first token leaves fewer bytes
pub first_token-leaves : (b : ℕ) (bs : List ℕ) → Leaves (length bs) (first_token b bs)
first_token-leaves b bs =
    either_leaves (is_letter b || is_capital b) _ _ (length bs) (λ e. rest_shorter is_word_byte b bs (or_more (is_letter b) (is_digit b) (b == 95) (is_capital b) e))
    (either_leaves (is_digit b) _ _ (length bs) (λ e. rest_shorter is_digit b bs e)
    (either_leaves (b == quote) _ _ (length bs) (λ e. quoted_leaves (quoted_len bs) bs)
    (picks (b == 40) _ _ (length bs) all
    (picks (b == 41) _ _ (length bs) all
    (picks (b == 42) _ _ (length bs) all
    (picks (b == 43) _ _ (length bs) all
    (picks (b == 45) _ _ (length bs) all
    (picks (b == 60) _ _ (length bs) (picks (next_is 61 bs) _ _ (length bs) rest (picks (next_is 62 bs) _ _ (length bs) rest all))
    (picks (b == 61) _ _ (length bs) all
    (picks (b == 62) _ _ (length bs) (picks (next_is 61 bs) _ _ (length bs) rest all)
    (picks (b == 124 && next_is 124 bs) _ _ (length bs) rest tt)))))))))))
  where
    all : length bs ≤ length bs
    all = omega arith

    rest : length (drop 1 bs) ≤ length bs
    rest = omega (arith, length-drop 1 bs)

-- a token is found, and so are the tokens after it
abbrev then_rest : (List ℕ → Option (List Token)) → Option (Token × List ℕ) → Option (List Token)
then_rest rest found = option_and_then (λ t. option_map (λ ts. t.0 ∷ ts) (rest t.1)) found

-- the tokens after a token are found in one way by two that agree on few bytes
then_same : (f g : List ℕ → Option (List Token)) (most : ℕ) (found : Option (Token × List ℕ)) → Leaves most found
    → ((bs : List ℕ) → length bs ≤ most → f bs ≡ g bs) → then_rest f found ≡ then_rest g found
then_same f g most None few same = refl
then_same f g most (Some t) few same = ap (option_map (λ ts. t.0 ∷ ts)) (same t.1 few)

-- of two pairs, a test picks equal ones
same_pick : {A : Type 0} (b : Bool) (o p q r : A) → o ≡ q → p ≡ r → cond b o p ≡ cond b q r
same_pick true o p q r h k = h
same_pick false o p q r h k = k

-- any two bounds that are at least the length give the same tokens
tokens_within-enough : (m n : ℕ) (bs : List ℕ) → length bs ≤ m → length bs ≤ n → tokens_within m bs ≡ tokens_within n bs
unfolding tokens_within
tokens_within-enough m n [] few fits = refl
tokens_within-enough zero n (b ∷ bs) few fits = absurd (omega arith)
tokens_within-enough (suc m) zero (b ∷ bs) few fits = absurd (omega arith)
tokens_within-enough (suc m) (suc n) (b ∷ bs) few fits =
    same_pick (b == 32) (tokens_within m bs) (then_rest (tokens_within m) (first_token b bs)) (tokens_within n bs) (then_rest (tokens_within n) (first_token b bs))
    (tokens_within-enough m n bs (omega arith) (omega arith))
    (then_same (tokens_within m) (tokens_within n) (length bs) (first_token b bs) (first_token-leaves b bs)
    (λ rest shorter. tokens_within-enough m n rest (omega arith) (omega arith)))

-- the tokens of empty bytes
pub tokens_of-nil : tokens_of [] ≡ Some []
unfolding tokens_within
tokens_of-nil = refl

-- a blank is passed
pub tokens_of-blank : (b : ℕ) (bs : List ℕ) → b ≡ 32 → tokens_of (b ∷ bs) ≡ tokens_of bs
unfolding tokens_within
tokens_of-blank b bs is = rw is refl

-- another byte begins a token, and the tokens of the rest follow it
pub tokens_of-token : (b : ℕ) (bs : List ℕ) → b ≢ 32 → tokens_of (b ∷ bs) ≡ then_rest tokens_of (first_token b bs)
unfolding tokens_within
tokens_of-token b bs other =
    rw (ne_eqb b 32 other) (then_same (tokens_within (length bs)) tokens_of (length bs) (first_token b bs) (first_token-leaves b bs)
    (λ rest shorter. tokens_within-enough (length bs) (length rest) rest shorter (omega arith)))

-- ---- the tokens so far and those of the rest

-- the tokens so far, followed by those of the rest, are the tokens of the text
abbrev pub Continues : List Token → List ℕ → List ℕ → Type 0
Continues tokens rest text = option_map (λ ts. tokens ++ ts) (tokens_of rest) ≡ tokens_of text

-- passing a blank
pub past_blank : (tokens : List Token) (rest text : List ℕ) → 1 ≤ length rest → slice_index rest 0 ≡ 32 → Continues tokens rest text → Continues tokens (take (length rest - 1) (drop 1 rest)) text
past_blank tokens [] text some blank so_far = absurd (omega arith)
past_blank tokens (b ∷ bs) text some blank so_far =
    rw (take_rest (b ∷ bs) 1) (ap (option_map (λ ts. tokens ++ ts)) (sym (tokens_of-blank b bs blank)) ∙ so_far)

-- a token more at the end of those so far is one at the start of those of the rest
one_more : (tokens : List Token) (t : Token) (found : Option (List Token)) → option_map (λ ts. (tokens ++ t ∷ []) ++ ts) found ≡ option_map (λ ts. tokens ++ ts) (option_map (λ ts. t ∷ ts) found)
one_more tokens t None = refl
one_more tokens t (Some ts) = ap Some (append_assoc tokens (t ∷ []) ts)

-- passing a token
pub past_token : (tokens : List Token) (rest text after : List ℕ) (t : Token) → 1 ≤ length rest → slice_index rest 0 ≢ 32 → first_token (slice_index rest 0) (drop 1 rest) ≡ Some (t, after)
    → Continues tokens rest text → Continues (tokens ++ t ∷ []) after text
past_token tokens [] text after t some other found so_far = absurd (omega arith)
past_token tokens (b ∷ bs) text after t some other found so_far =
    let here : tokens_of (b ∷ bs) ≡ option_map (λ ts. t ∷ ts) (tokens_of after) = tokens_of-token b bs other ∙ ap (then_rest tokens_of) found in
    one_more tokens t (tokens_of after) ∙ ap (option_map (λ ts. tokens ++ ts)) (sym here) ∙ so_far

-- a token that is passed leaves fewer bytes
pub token_shortens : (rest after : List ℕ) (t : Token) → 1 ≤ length rest → first_token (slice_index rest 0) (drop 1 rest) ≡ Some (t, after) → length after < length rest
token_shortens [] after t some found = absurd (omega arith)
token_shortens (b ∷ bs) after t some found = omega (arith, subst (Leaves (length bs)) found (first_token-leaves b bs))

-- a text has no tokens if its rest begins with none
pub no_token : (tokens : List Token) (rest text : List ℕ) → 1 ≤ length rest → slice_index rest 0 ≢ 32 → first_token (slice_index rest 0) (drop 1 rest) ≡ None
    → Continues tokens rest text → tokens_of text ≡ None
no_token tokens [] text some other none so_far = absurd (omega arith)
no_token tokens (b ∷ bs) text some other none so_far =
    let here : tokens_of (b ∷ bs) ≡ None = tokens_of-token b bs other ∙ ap (then_rest tokens_of) none in
    sym so_far ∙ ap (option_map (λ ts. tokens ++ ts)) here

-- at the end of a text its tokens are those so far
pub at_end : (tokens : List Token) (rest text : List ℕ) → length rest ≡ 0 → Continues tokens rest text → tokens_of text ≡ Some tokens
at_end tokens [] text end so_far = sym so_far ∙ ap (option_map (λ ts. tokens ++ ts)) tokens_of-nil ∙ ap Some (append-nil tokens)
at_end tokens (b ∷ bs) text end so_far = absurd (omega arith)
