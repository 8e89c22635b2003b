-- Laws of the lines of bytes: proofs, and nothing to believe.
use Rattle.std.proofs.Common.{◌≡◌, ◌≢◌, ℕ, ◌-◌, ◌<◌, List, [], ◌∷◌, ◌++◌, length, Bool, false, cond, refl, sym, ap, ◌∙◌, append_assoc, arith, ◌==◌, length-append, take_all}
use Rattle.std.specs.List.{slice_split, onto_first}
use Rattle.std.specs.Str.Lines.{lines, lines_of_parts, strip_carriage_return}
use Rattle.std.proofs.Math.Seq.{get_or-append_seam, take-append_seam}
use Rattle.std.proofs.lemmas.List.Splits.{length-slice_split}
use Rattle.std.proofs.lemmas.Bool.Decides.{nat_tests}
use Rattle.line_input.specs.declared.input.Next.{Next}
use Rattle.line_input.specs.declared.input.Next.TheVariants.{End, Line, LongLine}
use Rattle.line_input.specs.Input.{kept_limit, IsPlain, IsLineText, NextLineIs}

-- ---- lines of which the bytes are known

abbrev is_feed : ℕ → Bool
is_feed b = b == 10

not_feed : (b : ℕ) → b ≢ 10 → is_feed b ≡ false
not_feed b ne = grind (arith, nat_tests)

split-plain : (bytes rest : List ℕ) → IsPlain bytes → slice_split is_feed (bytes ++ 10 ∷ rest) ≡ bytes ∷ slice_split is_feed rest
split-plain [] rest plain = refl
split-plain (b ∷ bytes) rest plain =
    ap (λ (test : Bool). cond test ([] ∷ slice_split is_feed (bytes ++ 10 ∷ rest)) (onto_first b (slice_split is_feed (bytes ++ 10 ∷ rest)))) (not_feed b plain.0)
    ∙ ap (onto_first b) (split-plain bytes rest plain.1)

split-last : (bytes : List ℕ) → IsPlain bytes → slice_split is_feed bytes ≡ bytes ∷ []
split-last [] plain = refl
split-last (b ∷ bytes) plain =
    ap (λ (test : Bool). cond test ([] ∷ slice_split is_feed bytes) (onto_first b (slice_split is_feed bytes))) (not_feed b plain.0)
    ∙ ap (onto_first b) (split-last bytes plain.1)

-- after the first part there is another, so the first ends at a line feed
feed_then : (line : List ℕ) (rest : List ℕ) → lines_of_parts (line ∷ slice_split is_feed rest) ≡ strip_carriage_return line ∷ lines_of_parts (slice_split is_feed rest)
feed_then line rest = by (slice_split is_feed rest) (omega (arith, length-slice_split is_feed rest))
  where
    by : (ps : List (List ℕ)) → 0 < length ps → lines_of_parts (line ∷ ps) ≡ strip_carriage_return line ∷ lines_of_parts ps
    by [] some = absurd (omega arith)
    by (p ∷ ps) some = refl

-- bytes that begin with a line and a line feed have that line and then the lines of the rest
pub lines-feed : (bytes rest : List ℕ) → IsPlain bytes → lines (bytes ++ 10 ∷ rest) ≡ strip_carriage_return bytes ∷ lines rest
lines-feed bytes rest plain = ap lines_of_parts (split-plain bytes rest plain) ∙ feed_then bytes rest

-- bytes with no line feed are one line
pub lines-last : (bytes : List ℕ) → IsPlain bytes → 0 < length bytes → lines bytes ≡ bytes ∷ []
lines-last [] plain some = absurd (omega arith)
lines-last (b ∷ bytes) plain some =
    let long : (length (b ∷ bytes) == 0) ≡ false = grind (arith, nat_tests) in
    ap lines_of_parts (split-last (b ∷ bytes) plain) ∙ ap (λ (test : Bool). cond test [] ((b ∷ bytes) ∷ [])) long

-- ---- lines of which bytes are made up

-- a carriage return at the end is removed
strip-return : (line : List ℕ) → strip_carriage_return (line ++ 13 ∷ []) ≡ line
strip-return line =
    let count : length (line ++ 13 ∷ []) - 1 ≡ length line = omega (arith, length-append line (13 ∷ [])) in
    rw (count, get_or-append_seam line 13 [] 0) (take-append_seam line (13 ∷ []))

-- bytes of which the last is no line feed
plain-return : (line : List ℕ) → IsPlain line → IsPlain (line ++ 13 ∷ [])
plain-return [] plain = (omega arith, tt)
plain-return (b ∷ line) plain = (plain.0, plain-return line plain.1)

-- each text without a line feed is the first line of some bytes, whatever follows them
pub lines-made : (line rest : List ℕ) → IsPlain line → lines (line ++ 13 ∷ 10 ∷ rest) ≡ line ∷ lines rest
lines-made line rest plain =
    ap lines (sym (append_assoc line (13 ∷ []) (10 ∷ rest))) ∙ lines-feed (line ++ 13 ∷ []) rest (plain-return line plain) ∙ ap (λ (first : List ℕ). first ∷ lines rest) (strip-return line)

-- so what was read as a line is the next line of these bytes
pub next_line_made : (next : Next) (line rest : List ℕ) → next ≢ End → IsLineText next line → NextLineIs next line (line ++ 13 ∷ 10 ∷ rest) rest
next_line_made End line rest more text = absurd (more refl)
next_line_made Line line rest more text = (lines-made line rest text.0, text.1)
next_line_made LongLine line rest more text = (line, lines-made line rest text.0, text.1, sym (take_all kept_limit line text.2))
