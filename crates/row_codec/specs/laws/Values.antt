-- Proofs that values, rows and keys have one spelling each, in their order. There is nothing to believe
-- here.
use Rattle.std.proofs.Common.{◌≡◌, ◌≢◌, ℕ, Bool, false, cond, List, [], ◌∷◌, ◌++◌, length, refl, sym, ap, subst, ◌∙◌, append_assoc, arith, inl, inr}
use Rattle.std.specs.Prelude.{ℤ, pos, negsuc, ◌==◌}
use Rattle.std.specs.List.{flat_map, AllByRecursion}
use Rattle.std.specs.Ordering.{nat_cmp, int_cmp, ordering_then}
use Rattle.std.specs.Int.{w64}
use Rattle.std.specs.Int.RustNames.{FitsSigned}
use Rattle.std.specs.declared.cmp.Ordering.{Ordering}
use Rattle.std.specs.declared.cmp.Ordering.TheVariants.{Less, Equal, Greater}
use Rattle.std.proofs.lemmas.Bool.{cases_eq}
use Rattle.std.proofs.lemmas.Bool.Decides.{nat_tests}
use Rattle.std.proofs.lemmas.Int.{ints}
use Rattle.std.proofs.lemmas.Map.Lookups.{exact_bytes}
use Rattle.repl_types.specs.Bytes.{bytes_cmp}
use Rattle.repl_types.specs.laws.Order.{exact_value, exact_key}
use Rattle.repl_types.specs.Value.{value_cmp, key_cmp}
use Rattle.repl_types.specs.ValueText.{IsValue}
use Rattle.repl_types.specs.declared.value.Value.{Value}
use Rattle.repl_types.specs.declared.value.Value.TheVariants.{Null, Int, Text}
use Rattle.row_codec.specs.Takes.{One}
use Rattle.row_codec.specs.laws.Numbers.{one16}
use Rattle.row_codec.specs.Spelling.{Is64, b16, zeros_marked, shifted, value_spelling, list_spelling, row_spelling, key_spelling, ListFits, IsRow, IsKey}
use Rattle.row_codec.specs.Order.{Ordered}
use Rattle.row_codec.specs.laws.Orders.{order64, then_assoc}

-- ---- texts

-- a byte that isn't zero
zero_test : (b : ℕ) → b ≢ 0 → (b == 0) ≡ false
zero_test b ne = grind (arith, nat_tests)

-- zero comes before it
below_any : (b : ℕ) → b ≢ 0 → nat_cmp 0 b ≡ Less
below_any b ne = grind (arith, nat_tests)

-- and it after zero
above_zero : (b : ℕ) → b ≢ 0 → nat_cmp b 0 ≡ Greater
above_zero b ne = grind (arith, nat_tests)

-- texts that end are in the order of their bytes
texts : (s t x y : List ℕ) → bytes_cmp (zeros_marked s ++ 0 ∷ 0 ∷ x) (zeros_marked t ++ 0 ∷ 0 ∷ y) ≡ ordering_then (bytes_cmp s t) (bytes_cmp x y)
texts [] [] x y = refl
texts [] (b ∷ t) x y = elim (cases_eq b 0) [
  | inl e ↦ subst (λ (k : ℕ). bytes_cmp (0 ∷ 0 ∷ x) (zeros_marked (k ∷ t) ++ 0 ∷ 0 ∷ y) ≡ Less) (sym e) refl
  | inr ne ↦ ap (λ (c : Bool). bytes_cmp (0 ∷ 0 ∷ x) ((cond c (0 ∷ 255 ∷ []) (b ∷ []) ++ zeros_marked t) ++ 0 ∷ 0 ∷ y)) (zero_test b ne) ∙ ap (λ (c : Ordering). ordering_then c (bytes_cmp (0 ∷ x) (zeros_marked t ++ 0 ∷ 0 ∷ y))) (below_any b ne)
]
texts (a ∷ s) [] x y = elim (cases_eq a 0) [
  | inl e ↦ subst (λ (k : ℕ). bytes_cmp (zeros_marked (k ∷ s) ++ 0 ∷ 0 ∷ x) (0 ∷ 0 ∷ y) ≡ Greater) (sym e) refl
  | inr ne ↦ ap (λ (c : Bool). bytes_cmp ((cond c (0 ∷ 255 ∷ []) (a ∷ []) ++ zeros_marked s) ++ 0 ∷ 0 ∷ x) (0 ∷ 0 ∷ y)) (zero_test a ne) ∙ ap (λ (c : Ordering). ordering_then c (bytes_cmp (zeros_marked s ++ 0 ∷ 0 ∷ x) (0 ∷ y))) (above_zero a ne)
]
texts (a ∷ s) (b ∷ t) x y =
    let ih = texts s t x y in
    let plain : ordering_then (nat_cmp a b) (bytes_cmp (zeros_marked s ++ 0 ∷ 0 ∷ x) (zeros_marked t ++ 0 ∷ 0 ∷ y)) ≡ ordering_then (ordering_then (nat_cmp a b) (bytes_cmp s t)) (bytes_cmp x y) = ap (ordering_then (nat_cmp a b)) ih ∙ then_assoc (nat_cmp a b) (bytes_cmp s t) (bytes_cmp x y) in
    elim (cases_eq a 0) [
      | inl ea ↦ elim (cases_eq b 0) [
        | inl eb ↦ both a b ea eb ih
        | inr nb ↦ lower a b ea nb
      ]
      | inr na ↦ elim (cases_eq b 0) [
        | inl eb ↦ higher a b na eb
        | inr nb ↦ ap (λ (c : Bool). bytes_cmp ((cond c (0 ∷ 255 ∷ []) (a ∷ []) ++ zeros_marked s) ++ 0 ∷ 0 ∷ x) (zeros_marked (b ∷ t) ++ 0 ∷ 0 ∷ y)) (zero_test a na) ∙ ap (λ (c : Bool). bytes_cmp (a ∷ zeros_marked s ++ 0 ∷ 0 ∷ x) ((cond c (0 ∷ 255 ∷ []) (b ∷ []) ++ zeros_marked t) ++ 0 ∷ 0 ∷ y)) (zero_test b nb) ∙ plain
      ]
    ]
  where
    both : (k l : ℕ) → k ≡ 0 → l ≡ 0 → bytes_cmp (zeros_marked s ++ 0 ∷ 0 ∷ x) (zeros_marked t ++ 0 ∷ 0 ∷ y) ≡ ordering_then (bytes_cmp s t) (bytes_cmp x y) → bytes_cmp (zeros_marked (k ∷ s) ++ 0 ∷ 0 ∷ x) (zeros_marked (l ∷ t) ++ 0 ∷ 0 ∷ y) ≡ ordering_then (bytes_cmp (k ∷ s) (l ∷ t)) (bytes_cmp x y)
    both k l ek el ih = subst (λ (i : ℕ). bytes_cmp (zeros_marked (i ∷ s) ++ 0 ∷ 0 ∷ x) (zeros_marked (l ∷ t) ++ 0 ∷ 0 ∷ y) ≡ ordering_then (bytes_cmp (i ∷ s) (l ∷ t)) (bytes_cmp x y)) (sym ek) (subst (λ (j : ℕ). bytes_cmp (zeros_marked (0 ∷ s) ++ 0 ∷ 0 ∷ x) (zeros_marked (j ∷ t) ++ 0 ∷ 0 ∷ y) ≡ ordering_then (bytes_cmp (0 ∷ s) (j ∷ t)) (bytes_cmp x y)) (sym el) ih)

    lower : (k l : ℕ) → k ≡ 0 → l ≢ 0 → bytes_cmp (zeros_marked (k ∷ s) ++ 0 ∷ 0 ∷ x) (zeros_marked (l ∷ t) ++ 0 ∷ 0 ∷ y) ≡ ordering_then (bytes_cmp (k ∷ s) (l ∷ t)) (bytes_cmp x y)
    lower k l ek nl = subst (λ (i : ℕ). bytes_cmp (zeros_marked (i ∷ s) ++ 0 ∷ 0 ∷ x) (zeros_marked (l ∷ t) ++ 0 ∷ 0 ∷ y) ≡ ordering_then (bytes_cmp (i ∷ s) (l ∷ t)) (bytes_cmp x y)) (sym ek)
        (ap (λ (c : Bool). bytes_cmp (zeros_marked (0 ∷ s) ++ 0 ∷ 0 ∷ x) ((cond c (0 ∷ 255 ∷ []) (l ∷ []) ++ zeros_marked t) ++ 0 ∷ 0 ∷ y)) (zero_test l nl)
        ∙ ap (λ (c : Ordering). ordering_then c (bytes_cmp (255 ∷ zeros_marked s ++ 0 ∷ 0 ∷ x) (zeros_marked t ++ 0 ∷ 0 ∷ y))) (below_any l nl)
        ∙ sym (ap (λ (c : Ordering). ordering_then (ordering_then c (bytes_cmp s t)) (bytes_cmp x y)) (below_any l nl)))

    higher : (k l : ℕ) → k ≢ 0 → l ≡ 0 → bytes_cmp (zeros_marked (k ∷ s) ++ 0 ∷ 0 ∷ x) (zeros_marked (l ∷ t) ++ 0 ∷ 0 ∷ y) ≡ ordering_then (bytes_cmp (k ∷ s) (l ∷ t)) (bytes_cmp x y)
    higher k l nk el = subst (λ (j : ℕ). bytes_cmp (zeros_marked (k ∷ s) ++ 0 ∷ 0 ∷ x) (zeros_marked (j ∷ t) ++ 0 ∷ 0 ∷ y) ≡ ordering_then (bytes_cmp (k ∷ s) (j ∷ t)) (bytes_cmp x y)) (sym el)
        (ap (λ (c : Bool). bytes_cmp ((cond c (0 ∷ 255 ∷ []) (k ∷ []) ++ zeros_marked s) ++ 0 ∷ 0 ∷ x) (zeros_marked (0 ∷ t) ++ 0 ∷ 0 ∷ y)) (zero_test k nk)
        ∙ ap (λ (c : Ordering). ordering_then c (bytes_cmp (zeros_marked s ++ 0 ∷ 0 ∷ x) (255 ∷ zeros_marked t ++ 0 ∷ 0 ∷ y))) (above_zero k nk)
        ∙ sym (ap (λ (c : Ordering). ordering_then (ordering_then c (bytes_cmp s t)) (bytes_cmp x y)) (above_zero k nk)))

-- ---- values

-- an integer that is shifted has eight bytes
pub shifted_fits : (n : ℤ) → FitsSigned w64 n → Is64 (shifted n)
shifted_fits (pos n) h = omega arith
shifted_fits (negsuc n) h = omega arith

-- shifted integers are in the order of the integers
shifted_order : (n m : ℤ) → FitsSigned w64 n → FitsSigned w64 m → nat_cmp (shifted n) (shifted m) ≡ int_cmp n m
shifted_order (pos n) (pos m) hn hm = grind (arith, nat_tests, ints)
shifted_order (pos n) (negsuc m) hn hm = grind (arith, nat_tests, ints)
shifted_order (negsuc n) (pos m) hn hm = grind (arith, nat_tests, ints)
shifted_order (negsuc n) (negsuc m) hn hm = grind (arith, nat_tests, ints)

-- values
pub order_value : Ordered IsValue value_spelling value_cmp
order_value Null Null a b hv hw = refl
order_value Null (Int n) a b hv hw = refl
order_value Null (Text t) a b hv hw = refl
order_value (Int n) Null a b hv hw = refl
order_value (Int n) (Int m) a b hv hw = order64 (shifted n) (shifted m) a b (shifted_fits n hv) (shifted_fits m hw) ∙ ap (λ (c : Ordering). ordering_then c (bytes_cmp a b)) (shifted_order n m hv hw)
order_value (Int n) (Text t) a b hv hw = refl
order_value (Text t) Null a b hv hw = refl
order_value (Text t) (Int n) a b hv hw = refl
order_value (Text t) (Text u) a b hv hw = ap (λ (l : List ℕ). bytes_cmp l ((zeros_marked u ++ 0 ∷ 0 ∷ []) ++ b)) (append_assoc (zeros_marked t) (0 ∷ 0 ∷ []) a) ∙ ap (λ (l : List ℕ). bytes_cmp (zeros_marked t ++ 0 ∷ 0 ∷ a) l) (append_assoc (zeros_marked u) (0 ∷ 0 ∷ []) b) ∙ texts t u a b

-- both of two comparisons tie
both_equal : (c d : Ordering) → ordering_then c d ≡ Equal → (c ≡ Equal) × (d ≡ Equal)
both_equal Less d e = absurd cc
both_equal Equal d e = (refl, e)
both_equal Greater d e = absurd cc

-- bytes tie with themselves
bytes_alike : (l : List ℕ) → bytes_cmp l l ≡ Equal
bytes_alike [] = refl
bytes_alike (b ∷ l) = ap (λ (c : Ordering). ordering_then c (bytes_cmp l l)) (alike b) ∙ bytes_alike l
  where
    alike : (n : ℕ) → nat_cmp n n ≡ Equal
    alike n = grind (arith, nat_tests)

-- texts that end and are alike are alike, and so is what follows
pub one_text : (s t a b : List ℕ) → zeros_marked s ++ 0 ∷ 0 ∷ a ≡ zeros_marked t ++ 0 ∷ 0 ∷ b → (s ≡ t) × (a ≡ b)
one_text s t a b e =
    let same = both_equal (bytes_cmp s t) (bytes_cmp a b) (sym (texts s t a b) ∙ ap (bytes_cmp (zeros_marked s ++ 0 ∷ 0 ∷ a)) (sym e) ∙ bytes_alike (zeros_marked s ++ 0 ∷ 0 ∷ a)) in
    (exact_bytes s t same.0, exact_bytes a b same.1)

-- values that are spelled alike are alike
pub one_value : One IsValue value_spelling
one_value x y a b fx fy e =
    let same = both_equal (value_cmp x y) (bytes_cmp a b) (sym (order_value x y a b fx fy) ∙ ap (bytes_cmp (value_spelling x ++ a)) (sym e) ∙ bytes_alike (value_spelling x ++ a)) in
    (exact_value x y same.0, exact_bytes a b same.1)

-- ---- keys

-- the empty list comes before the spelling of each value
value_first : (v : Value) (x : List ℕ) → (bytes_cmp [] (value_spelling v ++ x) ≡ Less) × (bytes_cmp (value_spelling v ++ x) [] ≡ Greater)
value_first Null x = (refl, refl)
value_first (Int n) x = (refl, refl)
value_first (Text t) x = (refl, refl)

-- keys
pub order_key : (x y : List Value) → IsKey x → IsKey y → bytes_cmp (key_spelling x) (key_spelling y) ≡ key_cmp x y
order_key [] [] hx hy = refl
order_key [] (w ∷ y) hx hy = (value_first w (key_spelling y)).0
order_key (v ∷ x) [] hx hy = (value_first v (key_spelling x)).1
order_key (v ∷ x) (w ∷ y) hx hy = order_value v w (key_spelling x) (key_spelling y) hx.0 hy.0 ∙ ap (ordering_then (value_cmp v w)) (order_key x y hx.1 hy.1)

-- keys that are spelled alike are alike
pub one_key : (x y : List Value) → IsKey x → IsKey y → key_spelling x ≡ key_spelling y → x ≡ y
one_key x y fx fy e = exact_key x y (sym (order_key x y fx fy) ∙ ap (bytes_cmp (key_spelling x)) (sym e) ∙ bytes_alike (key_spelling x))

-- ---- lists

-- elements that are spelled one after another, as many on both sides
one_items : {X : Type 0} (fits : X → Type 0) (spelling : X → List ℕ) → One fits spelling → (x y : List X) (a b : List ℕ) → AllByRecursion fits x → AllByRecursion fits y → length x ≡ length y → flat_map spelling x ++ a ≡ flat_map spelling y ++ b → (x ≡ y) × (a ≡ b)
one_items fits spelling one [] [] a b fx fy n e = (refl, e)
one_items fits spelling one [] (w ∷ y) a b fx fy n e = absurd (omega arith)
one_items fits spelling one (v ∷ x) [] a b fx fy n e = absurd (omega arith)
one_items fits spelling one (v ∷ x) (w ∷ y) a b fx fy n e =
    let first = one v w (flat_map spelling x ++ a) (flat_map spelling y ++ b) fx.0 fy.0 (sym (append_assoc (spelling v) (flat_map spelling x) a) ∙ e ∙ append_assoc (spelling w) (flat_map spelling y) b) in
    let others = one_items fits spelling one x y a b fx.1 fy.1 (omega arith) first.1 in
    (λ i. first.0 i ∷ others.0 i, others.1)

-- lists with their counts
pub one_list : {X : Type 0} (fits : X → Type 0) (spelling : X → List ℕ) → One fits spelling → One (ListFits fits) (list_spelling spelling)
one_list fits spelling one x y a b fx fy e =
    let count = one16 (length x) (length y) (flat_map spelling x ++ a) (flat_map spelling y ++ b) fx.0 fy.0 (sym (append_assoc (b16 (length x)) (flat_map spelling x) a) ∙ e ∙ append_assoc (b16 (length y)) (flat_map spelling y) b) in
    one_items fits spelling one x y a b fx.1 fy.1 count.0 count.1

-- rows
pub one_row : One IsRow row_spelling
one_row = one_list IsValue value_spelling one_value
