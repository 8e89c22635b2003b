-- The texts of values, one for each.
use Rattle.std.proofs.Common.{◌≡◌, ℕ, ◌+◌, ◌<◌, ◌≤◌, Bool, true, false, leb, List, [], ◌∷◌, ◌++◌, length, get_or, take, Option, Some, None, refl, sym, ap, ◌∙◌, arith, append_assoc, ne_eqb, eq-eqb, ◌≢◌, ◌&&◌, eqb, cond, subst, drop, ℤ, pos, negsuc, inl, inr, ◌⊎◌}
use Rattle.std.specs.Option.{option_and_then, option_map}
use Rattle.std.specs.Prelude.{codes}
use Rattle.std.specs.Fmt.{signed_decimal}
use Rattle.std.specs.Int.{w64}
use Rattle.std.specs.Int.RustNames.{FitsSigned}
use Rattle.std.specs.Str.{IsUtf8, is_utf8, bytes_eq}
use Rattle.std.proofs.lemmas.Slice.Eq.{bytes_eq-Decides}
use Rattle.std.proofs.lemmas.Bool.{le-leb, false_from_ne_true, and_right, cases_eq, eqb-true, and_parts, leb-true, cases_Bool}
use Rattle.std.proofs.lemmas.Option.{cond_some, option_and_then_some, none-some, same_Some}
use Rattle.std.proofs.lemmas.List.{take_more, append-nil}
use Rattle.std.proofs.lemmas.Str.{IsUtf8-from_is_utf8, is_utf8-from_IsUtf8}
use Rattle.repl_types.specs.declared.value.Value.{Value}
use Rattle.repl_types.specs.declared.value.Value.TheVariants.{Null, Int, Text}
use Rattle.repl_types.specs.ValueText.{escaped_byte, escaped, after_byte, unescaped, text_value, value_text, value_of, IsValue}
use Rattle.repl_types.specs.Numbers.{integer_of}
use Rattle.repl_types.specs.Sizes.{text_limit}
use Rattle.repl_types.specs.laws.Numbers.{first_and_rest, decimal_first, integer_found, integer_again}
use Rattle.repl_types.specs.laws.Unescaped.{says_itself}

-- texts one after the other are written one after the other
escaped-append : (s t : List ℕ) → escaped (s ++ t) ≡ escaped s ++ escaped t
escaped-append [] t = refl
escaped-append (b ∷ bs) t = ap (λ (rest : List ℕ). escaped_byte b ++ rest) (escaped-append bs t) ∙ sym (append_assoc (escaped_byte b) (escaped bs) (escaped t))

-- one more byte is written, after a quote
pub escaped_more : (before t : List ℕ) (i : ℕ) → i < length t → (before ++ 39 ∷ escaped (take i t)) ++ escaped_byte (get_or t i 0) ≡ before ++ 39 ∷ escaped (take (i + 1) t)
escaped_more before t i lt = append_assoc before (39 ∷ escaped (take i t)) (escaped_byte (get_or t i 0)) ∙ ap (λ (e : List ℕ). before ++ 39 ∷ e) (sym one)
  where
    one : escaped (take (i + 1) t) ≡ escaped (take i t) ++ escaped_byte (get_or t i 0)
    one = ap escaped (take_more t i 0 lt) ∙ escaped-append (take i t) (get_or t i 0 ∷ []) ∙ ap (λ (e : List ℕ). escaped (take i t) ++ e) (append-nil (escaped_byte (get_or t i 0)))

-- if what is read is short UTF-8, it is the text of a value
pub read_some : (quoted t : List ℕ) → unescaped quoted ≡ Some t → length t ≤ text_limit → IsUtf8 t → Some (Text t) ≡ option_and_then text_value (unescaped quoted)
read_some quoted t says short utf8 = rw (says, le-leb (length t) text_limit short, is_utf8-from_IsUtf8 t utf8) refl

-- if what is read isn't UTF-8, there is no value
pub read_none : (quoted t : List ℕ) → unescaped quoted ≡ Some t → (IsUtf8 t → ⊥) → None ≡ option_and_then text_value (unescaped quoted)
read_none quoted t says other = rw (says, and_right (leb (length t) text_limit) (is_utf8 t) (false_from_ne_true (is_utf8 t) (λ is. other (IsUtf8-from_is_utf8 t is)))) refl

-- ---- one spelling each

-- how a byte is written
data Written (b : ℕ) : Type 0 where
  quote : b ≡ 39 → Written b
  backslash : b ≡ 92 → Written b
  line_feed : b ≡ 10 → Written b
  itself : b ≢ 39 → b ≢ 92 → b ≢ 10 → Written b

-- each byte is written in one of the four ways
written : (b : ℕ) → Written b
written b = elim (cases_eq b 39) [
  | inl is ↦ quote is
  | inr no_quote ↦ elim (cases_eq b 92) [
    | inl is ↦ backslash is
    | inr no_backslash ↦ elim (cases_eq b 10) [ inl is ↦ line_feed is | inr no_feed ↦ itself no_quote no_backslash no_feed ]
  ]
]

-- a byte as it is written says the byte
says_byte : (b : ℕ) (rest : List ℕ) → unescaped (escaped_byte b ++ rest) ≡ after_byte b (unescaped rest)
unfolding unescaped
says_byte b rest = elim (written b) [
  | quote is ↦ rw is refl
  | backslash is ↦ rw is refl
  | line_feed is ↦ rw is refl
  | itself no_quote no_backslash no_feed ↦ rw (ne_eqb b 39 no_quote, ne_eqb b 92 no_backslash, ne_eqb b 10 no_feed) (says_itself (b ∷ rest) rest b refl no_quote no_backslash no_feed).says
]

-- what is written between quotes is read again
pub text_again : (t : List ℕ) → unescaped (escaped t ++ 39 ∷ []) ≡ Some t
unfolding unescaped
text_again [] = refl
text_again (b ∷ bs) = ap unescaped (append_assoc (escaped_byte b) (escaped bs) (39 ∷ [])) ∙ says_byte b (escaped bs ++ 39 ∷ []) ∙ ap (after_byte b) (text_again bs)

-- the first byte of what is read, as it is written, and what follows it
record Read (quoted t : List ℕ) : Type 0 where
  byte : ℕ
  rest : List ℕ
  others : List ℕ
  quoted-is : quoted ≡ escaped_byte byte ++ rest
  t-is : t ≡ byte ∷ others
  says : unescaped rest ≡ Some others

-- if the bytes begin with a byte as it is written, and a text is read, then the text begins with that byte
byte_read : (b : ℕ) (quoted rest t : List ℕ) → quoted ≡ escaped_byte b ++ rest → after_byte b (unescaped rest) ≡ Some t → Read quoted t
byte_read b quoted rest t is h = go (unescaped rest) refl h
  where
    go : (o : Option (List ℕ)) → unescaped rest ≡ o → after_byte b o ≡ Some t → Read quoted t
    go None says e = absurd cc
    go (Some others) says e = record { byte = b; rest = rest; others = others; quoted-is = is; t-is = sym (same_Some (b ∷ others) t e); says = says }

-- a test that did not fail
taken : {A : Type 0} (b : Bool) (o : Option A) (x : A) → cond b o None ≡ Some x → (b ≡ true) × (o ≡ Some x)
taken true o x h = (refl, h)
taken false o x h = absurd cc

-- what is read is the closing quote, or begins with a byte
one_read : (quoted t : List ℕ) → unescaped quoted ≡ Some t → ((quoted ≡ 39 ∷ []) × (t ≡ [])) ⊎ Read quoted t
unfolding unescaped
one_read [] t h = absurd cc
one_read (b ∷ []) t h = let p = cond_some (eqb b 39) [] t h in inl (ap (λ (k : ℕ). k ∷ []) (eqb-true b 39 p.0), sym p.1)
one_read (b ∷ c ∷ bs) t h = inr (elim (written b) [
  | quote is ↦
      let p = taken (eqb c 39) (after_byte 39 (unescaped bs)) t (rw is at h) in
      byte_read 39 (b ∷ c ∷ bs) bs t (rw (is, eqb-true c 39 p.0) refl) p.1
  | backslash is ↦ after_backslash is (rw is at h)
  | line_feed is ↦ absurd (none-some t (rw is at h))
  | itself no_quote no_backslash no_feed ↦
      byte_read b (b ∷ c ∷ bs) (c ∷ bs) t (rw (ne_eqb b 39 no_quote, ne_eqb b 92 no_backslash, ne_eqb b 10 no_feed) refl) (rw (ne_eqb b 39 no_quote, ne_eqb b 92 no_backslash, ne_eqb b 10 no_feed) at h)
])
  where
    after_backslash : b ≡ 92 → cond (eqb c 92) (after_byte 92 (unescaped bs)) (cond (eqb c 110) (after_byte 10 (unescaped bs)) None) ≡ Some t → Read (b ∷ c ∷ bs) t
    after_backslash is e = elim (cases_eq c 92) [
      | inl same ↦ byte_read 92 (b ∷ c ∷ bs) bs t (rw (is, same) refl) (rw same at e)
      | inr other ↦
          let p = taken (eqb c 110) (after_byte 10 (unescaped bs)) t (rw (ne_eqb c 92 other) at e) in
          byte_read 10 (b ∷ c ∷ bs) bs t (rw (is, eqb-true c 110 p.0) refl) p.1
    ]

-- what is read is what is written
pub text_found : (quoted t : List ℕ) → unescaped quoted ≡ Some t → quoted ≡ escaped t ++ 39 ∷ []
text_found quoted [] h = elim (one_read quoted [] h) [ inl closing ↦ closing.0 | inr r ↦ let e = r.t-is in absurd cc ]
text_found quoted (b ∷ bs) h =
    let before = λ (rest : List ℕ). text_found rest bs in
    elim (one_read quoted (b ∷ bs) h) [
      | inl closing ↦ let e = closing.1 in absurd cc
      | inr r ↦
          let is = r.t-is in
          let byte : r.byte ≡ b = cc in
          let others : r.others ≡ bs = cc in
          r.quoted-is ∙ ap (λ (k : ℕ). escaped_byte k ++ r.rest) byte ∙ ap (λ (l : List ℕ). escaped_byte b ++ l) (before r.rest (r.says ∙ ap Some others)) ∙ sym (append_assoc (escaped_byte b) (escaped bs) (39 ∷ []))
    ]

-- a text of a value is short UTF-8
text_value_found : (t : List ℕ) (v : Value) → text_value t ≡ Some v → (v ≡ Text t) × IsValue v
text_value_found t v h =
    let p = cond_some (leb (length t) text_limit && is_utf8 t) (Text t) v h in
    let q = and_parts _ _ p.0 in
    (sym p.1, subst IsValue p.1 (leb-true (length t) text_limit q.0, IsUtf8-from_is_utf8 t q.1))

-- what a word in quotes spells
quoted_found : (word : List ℕ) (v : Value) → get_or word 0 0 ≡ 39 → option_and_then text_value (unescaped (drop 1 word)) ≡ Some v → (value_text v ≡ word) × IsValue v
quoted_found word v is h = option_and_then_some text_value (unescaped (drop 1 word)) v h (λ t says e.
    let p = text_value_found t v e in
    (ap value_text p.0 ∙ ap (λ (q : List ℕ). 39 ∷ q) (sym (text_found (drop 1 word) t says)) ∙ first_and_rest 39 word (omega arith) is, p.1))

-- what another word spells
plain_found : (word : List ℕ) (v : Value) → option_map (λ n. Int n) (integer_of word) ≡ Some v → (value_text v ≡ word) × IsValue v
plain_found word v h = go (integer_of word) refl h
  where
    go : (o : Option ℤ) → integer_of word ≡ o → option_map (λ n. Int n) o ≡ Some v → (value_text v ≡ word) × IsValue v
    go None says e = absurd (none-some v e)
    go (Some n) says e = subst (λ (w : Value). (value_text w ≡ word) × IsValue w) (same_Some (Int n) v e) (integer_found word n says)

-- a word that spells a value is the text of the value
pub value_found : (word : List ℕ) (v : Value) → value_of word ≡ Some v → (value_text v ≡ word) × IsValue v
unfolding value_of
value_found word v h = elim (cases_Bool (bytes_eq word (codes "null"))) [
  | inl same ↦ subst (λ (w : Value). (value_text w ≡ word) × IsValue w) (same_Some Null v (rw same at h)) (sym ((bytes_eq-Decides word (codes "null")).0 same), tt)
  | inr differs ↦ elim (cases_eq (get_or word 0 0) 39) [
    | inl is ↦ quoted_found word v is (rw (differs, eq-eqb (get_or word 0 0) 39 is) at h)
    | inr other ↦ plain_found word v (rw (differs, ne_eqb (get_or word 0 0) 39 other) at h)
  ]
]

-- an integer begins as neither `null` nor a text does
integer_first : (n : ℤ) → FitsSigned w64 n → (get_or (signed_decimal n) 0 0 ≢ 110) × (get_or (signed_decimal n) 0 0 ≢ 39)
integer_first (pos n) fits = let first = decimal_first n (omega (arith, fits.sfits)) in (omega arith, omega arith)
integer_first (negsuc n) fits = (omega arith, omega arith)

-- the text of a value spells the value
pub value_again : (v : Value) → IsValue v → value_of (value_text v) ≡ Some v
unfolding value_of
value_again Null is = refl
value_again (Int n) is =
    let word = signed_decimal n in
    let first = integer_first n is in
    let differs : bytes_eq word (codes "null") ≡ false = false_from_ne_true (bytes_eq word (codes "null")) (λ same. first.0 (ap (λ (w : List ℕ). get_or w 0 0) ((bytes_eq-Decides word (codes "null")).0 same))) in
    rw (differs, ne_eqb (get_or word 0 0) 39 first.1, integer_again n is) refl
value_again (Text t) is = sym (read_some (escaped t ++ 39 ∷ []) t (text_again t) is.0 is.1)
