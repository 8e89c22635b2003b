-- The bytes of a line as they are read.
use Rattle.std.proofs.Common.{◌≡◌, ◌≢◌, ℕ, ◌+◌, ◌-◌, ◌<◌, ◌≤◌, List, [], ◌∷◌, ◌++◌, length, take, get_or, Bool, true, false, Option, Some, None, zero, suc, refl, sym, ap, subst, ◌∙◌, inl, inr, append_assoc, arith, ◌==◌, option_map, IfSome}
use Rattle.std.specs.Str.Lines.{lines, strip_carriage_return}
use Rattle.std.proofs.lemmas.List.{length-append, length-take, take_all, take-take, take-append-le, append-nil}
use Rattle.std.proofs.lemmas.Bool.{lt-ltb, le-ltb, ltb-true, ltb-false, cases_Bool}
use Rattle.line_input.specs.declared.input.Next.{Next}
use Rattle.line_input.specs.declared.input.Next.TheVariants.{End, Line, LongLine}
use Rattle.line_input.specs.Limits.{line_limit}
use Rattle.line_input.specs.Input.{kept_limit, IsPlain, IsLineText, IsKept, EndsAs, EndsInputAs, NextLineIs, ReadsLine}
use Rattle.line_input.specs.laws.Lines.{lines-feed, lines-last}

-- the bytes of a line were read from the bytes left, and this much of them was kept; `most` is how many
-- bytes could be given before, and `still` how many still can
pub record ReadSoFar (before now : Option (List ℕ)) (most still : ℕ) (line : List ℕ) (long : Bool) : Type 0 where
  pub so_far : List ℕ
  pub parts : before ≡ option_map (λ rest. so_far ++ rest) now
  pub plain : IsPlain so_far
  pub kept : IsKept so_far line long
  pub spent : still + length so_far ≤ most

-- ---- what is kept of a line

-- one more byte is kept if there is room
pub kept-pushed : (bytes line : List ℕ) (long : Bool) (b : ℕ) → IsKept bytes line long → length line < kept_limit → IsKept (bytes ++ b ∷ []) (line ++ b ∷ []) long
kept-pushed bytes line long b kept few =
    let short : length bytes < kept_limit = omega (arith, ap length kept.prefix, length-take kept_limit bytes) in
    let all : take kept_limit bytes ≡ bytes = take_all kept_limit bytes (omega arith) in
    let longer : length (bytes ++ b ∷ []) ≡ length bytes + 1 = omega (arith, length-append bytes (b ∷ [])) in
    record {
      prefix = ap (λ (line : List ℕ). line ++ b ∷ []) (kept.prefix ∙ all) ∙ sym (take_all kept_limit (bytes ++ b ∷ []) (omega arith));
      more = kept.more ∙ le-ltb kept_limit (length bytes) (omega arith) ∙ sym (le-ltb kept_limit (length (bytes ++ b ∷ [])) (omega arith));
    }

-- one more byte isn't kept if there is no room
pub kept-passed : (bytes line : List ℕ) (long : Bool) (b : ℕ) → IsKept bytes line long → kept_limit ≤ length line → IsKept (bytes ++ b ∷ []) line true
kept-passed bytes line long b kept many =
    let enough : kept_limit ≤ length bytes = omega (arith, ap length kept.prefix, length-take kept_limit bytes) in
    record {
      prefix = kept.prefix ∙ sym (take-append-le kept_limit bytes (b ∷ []) enough);
      more = sym (lt-ltb kept_limit (length (bytes ++ b ∷ [])) (omega (arith, length-append bytes (b ∷ []))));
    }

-- if there are no more bytes than are kept, all are kept
pub kept_all : (bytes line : List ℕ) (long : Bool) → IsKept bytes line long → long ≡ false → line ≡ bytes
kept_all bytes line long kept short =
    let few : length bytes ≤ kept_limit = ltb-false kept_limit (length bytes) (sym kept.more ∙ short) in
    kept.prefix ∙ take_all kept_limit bytes few

-- if there are more bytes than are kept, they are more than may be kept
pub kept_more : (bytes line : List ℕ) (long : Bool) → IsKept bytes line long → long ≡ true → kept_limit < length bytes
kept_more bytes line long kept more = ltb-true kept_limit (length bytes) (sym kept.more ∙ more)

-- at most as many bytes are kept as there are
pub kept_over : (bytes line : List ℕ) (long : Bool) → IsKept bytes line long → length line ≤ length bytes
kept_over bytes line long kept = omega (arith, ap length kept.prefix, length-take kept_limit bytes)

-- removing a carriage return removes at most one byte
pub stripped_len : (bytes : List ℕ) → length bytes ≤ length (strip_carriage_return bytes) + 1
stripped_len bytes = elim (cases_Bool (get_or bytes (length bytes - 1) 0 == 13)) [
  | inl ends ↦ rw ends (omega (arith, length-take (length bytes - 1) bytes))
  | inr plain ↦ rw plain (omega arith)
]

-- removing a carriage return adds no byte
stripped_short : (bytes : List ℕ) → length (strip_carriage_return bytes) ≤ length bytes
stripped_short bytes = elim (cases_Bool (get_or bytes (length bytes - 1) 0 == 13)) [
  | inl ends ↦ rw ends (omega (arith, length-take (length bytes - 1) bytes))
  | inr plain ↦ rw plain (omega arith)
]

-- what remains of a line that was kept whole, after its carriage return is removed, may be kept whole too
pub stripped_whole : (bytes line line' : List ℕ) (long : Bool) → IsKept bytes line long → long ≡ false → line' ≡ strip_carriage_return line → line' ≡ take kept_limit (strip_carriage_return bytes)
stripped_whole bytes line line' long kept short stripped =
    let same : line' ≡ strip_carriage_return bytes = stripped ∙ ap strip_carriage_return (kept_all bytes line long kept short) in
    let few : length bytes ≤ kept_limit = ltb-false kept_limit (length bytes) (sym kept.more ∙ short) in
    same ∙ sym (take_all kept_limit (strip_carriage_return bytes) (omega (arith, stripped_short bytes)))

-- what is kept of a line doesn't change by removing a carriage return, if more bytes were read than are kept
pub stripped_kept : (bytes line : List ℕ) (long : Bool) → IsKept bytes line long → long ≡ true → line ≡ take kept_limit (strip_carriage_return bytes)
stripped_kept bytes line long kept more =
    let many : kept_limit < length bytes = kept_more bytes line long kept more in
    elim (cases_Bool (get_or bytes (length bytes - 1) 0 == 13)) [
      | inl ends ↦ rw ends (kept.prefix ∙ sym (take-take kept_limit (length bytes - 1) bytes (omega arith)))
      | inr plain ↦ rw plain kept.prefix
    ]

plain-pushed : (bytes : List ℕ) (b : ℕ) → IsPlain bytes → b ≢ 10 → IsPlain (bytes ++ b ∷ [])
plain-pushed [] b plain ne = (ne, tt)
plain-pushed (a ∷ bytes) b plain ne = (plain.0, plain-pushed bytes b plain.1 ne)

pub parts-pushed : (before now after : Option (List ℕ)) (bytes : List ℕ) (b : ℕ) → before ≡ option_map (λ rest. bytes ++ rest) now → now ≡ option_map (λ rest. b ∷ rest) after
    → before ≡ option_map (λ rest. (bytes ++ b ∷ []) ++ rest) after
parts-pushed before now None bytes b parts next = parts ∙ ap (option_map (λ rest. bytes ++ rest)) next
parts-pushed before now (Some rest) bytes b parts next = parts ∙ ap (option_map (λ rest. bytes ++ rest)) next ∙ ap (λ (all : List ℕ). Some all) (sym (append_assoc bytes (b ∷ []) rest))

-- one more byte of the line was read
pub line_read_more : {before now after : Option (List ℕ)} {most still fewer : ℕ} {line : List ℕ} {long : Bool} (read : ReadSoFar before now most still line long) (b : ℕ) (line' : List ℕ) (long' : Bool)
    → now ≡ option_map (λ rest. b ∷ rest) after → fewer + 1 ≤ still → b ≢ 10 → IsKept (read.so_far ++ b ∷ []) line' long' → ReadSoFar before after most fewer line' long'
line_read_more {before} {now} {after} read b line' long' next fewer ne kept = record {
  so_far = read.so_far ++ b ∷ [];
  parts = parts-pushed before now after read.so_far b read.parts next;
  plain = plain-pushed read.so_far b read.plain ne;
  kept = kept;
  spent = omega (arith, read.spent, length-append read.so_far (b ∷ []));
}

-- ---- how a line ends

feed_is : (next : Next) (line' bytes rest : List ℕ) → IsPlain bytes → EndsAs next line' bytes → NextLineIs next line' (bytes ++ 10 ∷ rest) rest
feed_is End line' bytes rest plain ends = absurd ends
feed_is Line line' bytes rest plain ends = (lines-feed bytes rest plain ∙ ap (λ (line : List ℕ). line ∷ lines rest) (sym ends.0), ends.1)
feed_is LongLine line' bytes rest plain ends = (strip_carriage_return bytes, lines-feed bytes rest plain, ends.0, ends.1)

-- a line that ends at a line feed was read
pub read_to_feed : (next : Next) (line' : List ℕ) (before now after : Option (List ℕ)) (bytes : List ℕ) → IsPlain bytes
    → before ≡ option_map (λ rest. bytes ++ rest) now → now ≡ option_map (λ rest. 10 ∷ rest) after → EndsAs next line' bytes → ReadsLine next line' before after
read_to_feed next line' before now None bytes plain parts feed ends =
    subst (λ (b : Option (List ℕ)). ReadsLine next line' b None) (sym (parts ∙ ap (option_map (λ rest. bytes ++ rest)) feed)) refl
read_to_feed next line' before now (Some rest) bytes plain parts feed ends =
    subst (λ (b : Option (List ℕ)). ReadsLine next line' b (Some rest)) (sym (parts ∙ ap (option_map (λ rest. bytes ++ rest)) feed)) (feed_is next line' bytes rest plain ends)

end_is : (next : Next) (line' bytes rest : List ℕ) → IsPlain bytes → rest ≡ [] → EndsInputAs next line' bytes → NextLineIs next line' (bytes ++ rest) rest
end_is End line' bytes rest plain none ends = (ap (λ (b : List ℕ). b ++ rest) ends ∙ none, none)
end_is Line line' bytes rest plain none ends =
    let all : bytes ++ rest ≡ bytes = ap (λ (r : List ℕ). bytes ++ r) none ∙ append-nil bytes in
    (ap lines all ∙ lines-last bytes plain ends.1 ∙ ap (λ (line : List ℕ). line ∷ []) (sym ends.0) ∙ ap (λ (r : List ℕ). line' ∷ lines r) (sym none), ends.2)
end_is LongLine line' bytes rest plain none ends =
    let all : bytes ++ rest ≡ bytes = ap (λ (r : List ℕ). bytes ++ r) none ∙ append-nil bytes in
    (bytes, ap lines all ∙ lines-last bytes plain (omega arith) ∙ ap (λ (r : List ℕ). bytes ∷ lines r) (sym none), ends.0, ends.1)

-- a line that ends at the end of the input was read
pub read_to_end : (next : Next) (line' : List ℕ) (before now after : Option (List ℕ)) (bytes : List ℕ) → IsPlain bytes
    → before ≡ option_map (λ rest. bytes ++ rest) now → now ≡ option_map (λ rest. [] ++ rest) after → IfSome after (λ rest. rest ≡ []) → EndsInputAs next line' bytes → ReadsLine next line' before after
read_to_end next line' before now None bytes plain parts same none ends =
    subst (λ (b : Option (List ℕ)). ReadsLine next line' b None) (sym (parts ∙ ap (option_map (λ rest. bytes ++ rest)) same)) refl
read_to_end next line' before now (Some rest) bytes plain parts same none ends =
    subst (λ (b : Option (List ℕ)). ReadsLine next line' b (Some rest)) (sym (parts ∙ ap (option_map (λ rest. bytes ++ rest)) same)) (end_is next line' bytes rest plain none ends)

-- a line that ends at the end of the input has at least one byte
pub some_read : (next : Next) (line : List ℕ) (bytes : List ℕ) → EndsInputAs next line bytes → next ≢ End → 0 < length bytes
some_read End line bytes ends ne = absurd (ne refl)
some_read Line line bytes ends ne = ends.1
some_read LongLine line bytes ends ne = omega arith

-- ---- the text of a line

-- the first bytes have no line feed if all have none
plain-take : (n : ℕ) (bytes : List ℕ) → IsPlain bytes → IsPlain (take n bytes)
plain-take zero bytes plain = tt
plain-take (suc n) [] plain = tt
plain-take (suc n) (b ∷ bytes) plain = (plain.0, plain-take n bytes plain.1)

-- nor have they after their carriage return is removed
plain-stripped : (bytes : List ℕ) → IsPlain bytes → IsPlain (strip_carriage_return bytes)
plain-stripped bytes plain = elim (cases_Bool (get_or bytes (length bytes - 1) 0 == 13)) [
  | inl ends ↦ rw ends (plain-take (length bytes - 1) bytes plain)
  | inr other ↦ rw other plain
]

-- what is kept of a longer line
kept_text : (line bytes : List ℕ) → IsPlain bytes → line_limit < length bytes → line ≡ take kept_limit bytes → IsLineText LongLine line
kept_text line bytes plain long kept = (
  subst IsPlain (sym kept) (plain-take kept_limit bytes plain),
  omega (arith, ap length kept, length-take kept_limit bytes),
  omega (arith, ap length kept, length-take kept_limit bytes),
)

-- at a line feed
pub text_at_feed : (next : Next) (line bytes : List ℕ) → IsPlain bytes → EndsAs next line bytes → IsLineText next line
text_at_feed End line bytes plain ends = absurd ends
text_at_feed Line line bytes plain ends = (subst IsPlain (sym ends.0) (plain-stripped bytes plain), ends.1)
text_at_feed LongLine line bytes plain ends = kept_text line (strip_carriage_return bytes) (plain-stripped bytes plain) ends.0 ends.1

-- at the end of the input
pub text_at_end : (next : Next) (line bytes : List ℕ) → IsPlain bytes → EndsInputAs next line bytes → IsLineText next line
text_at_end End line bytes plain ends = tt
text_at_end Line line bytes plain ends = (subst IsPlain (sym ends.0) plain, ends.2)
text_at_end LongLine line bytes plain ends = kept_text line bytes plain ends.0 ends.1
