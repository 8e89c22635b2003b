-- The first word of a line, byte after byte.
use Rattle.std.proofs.Common.{◌≡◌, ℕ, ◌+◌, ◌<◌, ◌≤◌, Bool, true, false, cond, List, [], ◌∷◌, ◌++◌, length, take, drop, get_or, refl, ap, ◌∙◌, sym, inl, inr, append_assoc, arith, add-one}
use Rattle.std.proofs.Math.Seq.{drop-cons}
use Rattle.std.specs.List.{onto_first}
use Rattle.std.proofs.lemmas.List.{append-nil, nil_from_length, take_more, drop_all, length-take}
use Rattle.std.specs.Prelude.{nat_lt, filter}
use Rattle.std.proofs.lemmas.Bool.{lt-ltb, cases_eq, true≢false}
use Rattle.std.proofs.lemmas.Bool.Decides.{nat_tests}
use Rattle.log_text.specs.Words.{is_end, quoted_after, parts, words, StartsNoBlank}

-- a blank that a line begins with is no part of a word
pub words-blank : (bs : List ℕ) → words (32 ∷ bs) ≡ words bs
unfolding words
words-blank bs = refl

-- a line from one of its places, by the byte there
pub drop_at : (line : List ℕ) (i : ℕ) → i < length line → drop i line ≡ get_or line i 0 ∷ drop (i + 1) line
drop_at line i lt = rw (add-one, drop-cons line i 0) refl

-- skipping one more blank
pub skip_more : (line : List ℕ) (i : ℕ) → i < length line → get_or line i 0 ≡ 32 → words (drop i line) ≡ words (drop (i + 1) line)
skip_more line i lt blank = ap words (drop_at line i lt ∙ ap (λ (b : ℕ). b ∷ drop (i + 1) line) blank) ∙ words-blank (drop (i + 1) line)

-- the parts, the first of them with these bytes before it
abbrev pub with_front : List ℕ → List (List ℕ) → List (List ℕ)
with_front front [] = front ∷ []
with_front front (p ∷ ps) = (front ++ p) ∷ ps

-- one more byte before the parts is one more at the end of the bytes before them
pub with_front-onto_first : (front : List ℕ) (b : ℕ) (ps : List (List ℕ)) → with_front front (onto_first b ps) ≡ with_front (front ++ b ∷ []) ps
with_front-onto_first front b [] = refl
with_front-onto_first front b (p ∷ ps) = ap (λ (part : List ℕ). part ∷ ps) (sym (append_assoc front (b ∷ []) p))

-- a byte that ends a part
pub parts_end : (quoted : Bool) (b : ℕ) (bs : List ℕ) → is_end quoted b ≡ true → parts quoted (b ∷ bs) ≡ [] ∷ parts false bs
parts_end quoted b bs e = ap (λ (test : Bool). cond test ([] ∷ parts false bs) (onto_first b (parts (quoted_after quoted b) bs))) e

-- a byte that doesn't
pub parts_more : (quoted : Bool) (b : ℕ) (bs : List ℕ) → is_end quoted b ≡ false → parts quoted (b ∷ bs) ≡ onto_first b (parts (quoted_after quoted b) bs)
parts_more quoted b bs e = ap (λ (test : Bool). cond test ([] ∷ parts false bs) (onto_first b (parts (quoted_after quoted b) bs))) e

-- the first part grows by one byte that doesn't end it
pub front_more : (line : List ℕ) (quoted : Bool) (i : ℕ) → i < length line → is_end quoted (get_or line i 0) ≡ false
    → parts false line ≡ with_front (take i line) (parts quoted (drop i line))
    → parts false line ≡ with_front (take (i + 1) line) (parts (quoted_after quoted (get_or line i 0)) (drop (i + 1) line))
front_more line quoted i lt goes so_far =
    let b = get_or line i 0 in
    let rest = parts (quoted_after quoted b) (drop (i + 1) line) in
    let here : parts quoted (drop i line) ≡ onto_first b rest = ap (parts quoted) (drop_at line i lt) ∙ parts_more quoted b (drop (i + 1) line) goes in
    so_far ∙ ap (with_front (take i line)) here ∙ with_front-onto_first (take i line) b rest ∙ ap (λ (front : List ℕ). with_front front rest) (sym (take_more line i 0 lt))

-- the words of parts of which the first isn't empty
pub first_word : (front : List ℕ) (ps : List (List ℕ)) → 0 < length front → filter (λ part. nat_lt 0 (length part)) (front ∷ ps) ≡ front ∷ filter (λ part. nat_lt 0 (length part)) ps
first_word front ps some = ap (λ (test : Bool). cond test (front ∷ filter (λ part. nat_lt 0 (length part)) ps) (filter (λ part. nat_lt 0 (length part)) ps)) (lt-ltb 0 (length front) some)

-- only a blank ends a part
is_blank : (quoted : Bool) (b : ℕ) → is_end quoted b ≡ true → b ≡ 32
is_blank quoted b e = grind (arith, nat_tests)

-- the first word, if the parts that follow it are those of the rest
first_then : (line : List ℕ) (i : ℕ) (ps : List (List ℕ)) (rest : List (List ℕ)) → 0 < i → i ≤ length line → parts false line ≡ take i line ∷ ps
    → filter (λ part. nat_lt 0 (length part)) ps ≡ rest → words line ≡ take i line ∷ rest
unfolding words
first_then line i ps rest some within e after =
    ap (filter (λ part. nat_lt 0 (length part))) e ∙ first_word (take i line) ps (omega (arith, length-take i line)) ∙ ap (λ (ws : List (List ℕ)). take i line ∷ ws) after

-- the first word ends at a blank
pub ends_at : (line : List ℕ) (quoted : Bool) (i : ℕ) → i < length line → 0 < i → is_end quoted (get_or line i 0) ≡ true
    → parts false line ≡ with_front (take i line) (parts quoted (drop i line)) → words line ≡ take i line ∷ words (drop i line)
unfolding words
ends_at line quoted i lt some ends so_far =
    let rest = parts false (drop (i + 1) line) in
    let here : parts quoted (drop i line) ≡ [] ∷ rest = ap (parts quoted) (drop_at line i lt) ∙ parts_end quoted (get_or line i 0) (drop (i + 1) line) ends in
    let split : parts false line ≡ take i line ∷ rest = so_far ∙ ap (with_front (take i line)) here ∙ ap (λ (front : List ℕ). front ∷ rest) (append-nil (take i line)) in
    first_then line i rest (words (drop i line)) some (omega arith) split (sym (skip_more line i lt (is_blank quoted (get_or line i 0) ends)))

-- the first word is all of the line
pub ends_last : (line : List ℕ) (quoted : Bool) → 0 < length line → parts false line ≡ with_front (take (length line) line) (parts quoted (drop (length line) line))
    → words line ≡ take (length line) line ∷ words (drop (length line) line)
unfolding words
ends_last line quoted some so_far =
    let n = length line in
    let nothing : drop n line ≡ [] = drop_all n line (omega arith) in
    let split : parts false line ≡ take n line ∷ [] = so_far ∙ ap (λ (rest : List ℕ). with_front (take n line) (parts quoted rest)) nothing ∙ ap (λ (front : List ℕ). front ∷ []) (append-nil (take n line)) in
    first_then line n [] (words (drop n line)) some (omega arith) split (sym (ap words nothing))

-- the first byte of a line that doesn't begin with a blank ends no part
pub starts : (line : List ℕ) → StartsNoBlank line → 0 < length line → is_end false (get_or line 0 0) ≡ false
starts [] start some = absurd (omega arith)
starts (b ∷ bs) start some = grind (arith, nat_tests)

-- so a part that ends isn't empty
pub not_at_start : (line : List ℕ) (quoted : Bool) (i : ℕ) → StartsNoBlank line → 0 < length line → is_end quoted (get_or line i 0) ≡ true → (i ≡ 0 → quoted ≡ false) → 0 < i
not_at_start line quoted i start some ends at_start =
    elim (cases_eq i 0) [
      | inl e ↦ absurd (true≢false (sym ends ∙ ap (λ (q : Bool). is_end q (get_or line i 0)) (at_start e) ∙ ap (λ (k : ℕ). is_end false (get_or line k 0)) e ∙ starts line start some))
      | inr ne ↦ omega arith
    ]

-- an empty line has no words
pub words-nil : (line : List ℕ) → length line ≡ 0 → words line ≡ []
unfolding words
words-nil line e = ap words (nil_from_length line e)
