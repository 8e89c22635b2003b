-- Texts with their zeros marked.
use Rattle.std.proofs.Common.{◌≡◌, ◌≢◌, ℕ, ◌+◌, ◌<◌, Bool, false, cond, List, [], ◌∷◌, ◌++◌, length, get_or, take, refl, sym, ap, subst, ◌∙◌, append_assoc, append-nil, arith, inl, inr}
use Rattle.std.specs.Prelude.{◌==◌}
use Rattle.std.proofs.lemmas.Bool.{cases_eq}
use Rattle.std.proofs.lemmas.Bool.Decides.{nat_tests}
use Rattle.std.proofs.lemmas.List.{take_more}
use Rattle.row_codec.specs.Spelling.{marked_byte, zeros_marked, IsText}
use Rattle.row_codec.specs.laws.Values.{one_text}

-- texts one after the other are written one after the other
pub marked-append : (s t : List ℕ) → zeros_marked (s ++ t) ≡ zeros_marked s ++ zeros_marked t
marked-append [] t = refl
marked-append (b ∷ s) t = ap (λ (rest : List ℕ). marked_byte b ++ rest) (marked-append s t) ∙ sym (append_assoc (marked_byte b) (zeros_marked s) (zeros_marked t))

-- one byte more is written after the tag of a text
pub marked_more : (before t : List ℕ) (i : ℕ) → i < length t → (before ++ 2 ∷ zeros_marked (take i t)) ++ marked_byte (get_or t i 0) ≡ before ++ 2 ∷ zeros_marked (take (i + 1) t)
marked_more before t i lt = append_assoc before (2 ∷ zeros_marked (take i t)) (marked_byte (get_or t i 0)) ∙ ap (λ (e : List ℕ). before ++ 2 ∷ e) (sym one)
  where
    one : zeros_marked (take (i + 1) t) ≡ zeros_marked (take i t) ++ marked_byte (get_or t i 0)
    one = ap zeros_marked (take_more t i 0 lt) ∙ marked-append (take i t) (get_or t i 0 ∷ []) ∙ ap (λ (e : List ℕ). zeros_marked (take i t) ++ e) (append-nil (marked_byte (get_or t i 0)))

-- one byte more is read
pub read_more : (bytes text left after : List ℕ) (b : ℕ) → bytes ≡ zeros_marked text ++ left → left ≡ marked_byte b ++ after → bytes ≡ zeros_marked (text ++ b ∷ []) ++ after
read_more bytes text left after b is next =
    is ∙ ap (λ (rest : List ℕ). zeros_marked text ++ rest) next
    ∙ sym (append_assoc (zeros_marked text) (marked_byte b) after)
    ∙ ap (λ (e : List ℕ). (zeros_marked text ++ e) ++ after) (sym (append-nil (marked_byte b)))
    ∙ ap (λ (e : List ℕ). e ++ after) (sym (marked-append text (b ∷ [])))

-- a byte other than zero stands for itself
marked_other : (b : ℕ) → b ≢ 0 → marked_byte b ≡ b ∷ []
marked_other b other = ap (λ (c : Bool). cond c (0 ∷ 255 ∷ []) (b ∷ [])) (zero_test b other)
  where
    zero_test : (n : ℕ) → n ≢ 0 → (n == 0) ≡ false
    zero_test n other = grind (arith, nat_tests)

-- lists that begin alike
heads : (m n : ℕ) (s t : List ℕ) → m ∷ s ≡ n ∷ t → (m ≡ n) × (s ≡ t)
heads m n s t e = (cc, cc)

-- no byte of a text is the end of one
marked_no_end : (b : ℕ) (x r : List ℕ) → marked_byte b ++ x ≢ 0 ∷ 0 ∷ r
marked_no_end b x r e = elim (cases_eq b 0) [
  | inl is ↦ absurd (second (subst (λ (k : ℕ). marked_byte k ++ x ≡ 0 ∷ 0 ∷ r) is e))
  | inr other ↦ other (heads b 0 x (0 ∷ r) (ap (λ (l : List ℕ). l ++ x) (sym (marked_other b other)) ∙ e)).0
]
  where
    second : 0 ∷ 255 ∷ x ≡ 0 ∷ 0 ∷ r → ⊥
    second same = absurd cc

-- a marked byte determines the byte and what follows
one_marked : (a b : ℕ) (x y : List ℕ) → marked_byte a ++ x ≡ marked_byte b ++ y → (a ≡ b) × (x ≡ y)
one_marked a b x y e = elim (cases_eq a 0) [
  | inl za ↦ elim (cases_eq b 0) [
    | inl zb ↦ (za ∙ sym zb, ends (subst (λ (k : ℕ). 0 ∷ 255 ∷ x ≡ marked_byte k ++ y) zb (subst (λ (k : ℕ). marked_byte k ++ x ≡ marked_byte b ++ y) za e)))
    | inr nb ↦ absurd (nb (sym (heads 0 b (255 ∷ x) y (subst (λ (k : ℕ). marked_byte k ++ x ≡ marked_byte b ++ y) za e ∙ ap (λ (l : List ℕ). l ++ y) (marked_other b nb))).0))
  ]
  | inr na ↦ elim (cases_eq b 0) [
    | inl zb ↦ absurd (na (heads a 0 x (255 ∷ y) (ap (λ (l : List ℕ). l ++ x) (sym (marked_other a na)) ∙ subst (λ (k : ℕ). marked_byte a ++ x ≡ marked_byte k ++ y) zb e)).0)
    | inr nb ↦ heads a b x y (ap (λ (l : List ℕ). l ++ x) (sym (marked_other a na)) ∙ e ∙ ap (λ (l : List ℕ). l ++ y) (marked_other b nb))
  ]
]
  where
    ends : 0 ∷ 255 ∷ x ≡ 0 ∷ 255 ∷ y → x ≡ y
    ends same = cc

-- if neither a byte of a text nor its end comes next, there is no text
pub no_text : (s t left r : List ℕ) → ((b : ℕ) (after : List ℕ) → left ≢ marked_byte b ++ after) → ((rest : List ℕ) → left ≢ 0 ∷ 0 ∷ rest) → zeros_marked s ++ left ≢ zeros_marked t ++ 0 ∷ 0 ∷ r
no_text [] [] left r next done e = done r e
no_text [] (b ∷ t) left r next done e = next b (zeros_marked t ++ 0 ∷ 0 ∷ r) (e ∙ append_assoc (marked_byte b) (zeros_marked t) (0 ∷ 0 ∷ r))
no_text (a ∷ s) [] left r next done e = marked_no_end a (zeros_marked s ++ left) r (sym (append_assoc (marked_byte a) (zeros_marked s) left) ∙ e)
no_text (a ∷ s) (b ∷ t) left r next done e =
    no_text s t left r next done (one_marked a b (zeros_marked s ++ left) (zeros_marked t ++ 0 ∷ 0 ∷ r) (sym (append_assoc (marked_byte a) (zeros_marked s) left) ∙ e ∙ append_assoc (marked_byte b) (zeros_marked t) (0 ∷ 0 ∷ r))).1

-- if the bytes that are read are no text of a value, there is none
pub no_other_text : (bytes text rest : List ℕ) → bytes ≡ zeros_marked text ++ 0 ∷ 0 ∷ rest → (IsText text → ⊥) → (other after : List ℕ) → IsText other → bytes ≢ zeros_marked other ++ 0 ∷ 0 ∷ after
no_other_text bytes text rest is bad other after good e = bad (subst IsText (sym (one_text text other rest after (sym is ∙ e)).0) good)
