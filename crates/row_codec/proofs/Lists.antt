-- Lists that are written and read element after element.
use Rattle.std.proofs.Common.{◌≡◌, ◌≢◌, ℕ, ◌+◌, ◌^◌, ◌<◌, List, [], ◌∷◌, ◌++◌, length, get_or, take, sym, ap, subst, ◌∙◌, append_assoc, append-nil, arith}
use Rattle.std.specs.List.{flat_map, AllByRecursion}
use Rattle.std.proofs.lemmas.Grind.{flat_map-append}
use Rattle.std.specs.Prelude.{slice_index_or}
use Rattle.std.proofs.lemmas.List.{take_more, get_or-map, length-map, length-append}
use Rattle.repl_types.specs.laws.Lists.{all_append}
use Rattle.repl_types.specs.ValueText.{IsValue}
use Rattle.repl_types.specs.declared.value.Value.{Value}
use Rattle.repl_types.specs.declared.value.Value.TheVariants.{Null, Int, Text}
use Rattle.repl_types.specs.Value.{images}
use Rattle.row_codec.specs.laws.Values.{one_value}
use Rattle.row_codec.specs.Takes.{One, NoPrefix}
use Rattle.row_codec.specs.Spelling.{b16, list_spelling, ListFits, value_spelling, key_spelling}
use Rattle.row_codec.specs.laws.Numbers.{one16}

-- one element more of a list meets what is asked
pub all_more : {X : Type 0} (P : X → Type 0) (xs : List X) (i : ℕ) (d : X) → i < length xs → AllByRecursion P (take i xs) → P (get_or xs i d) → AllByRecursion P (take (i + 1) xs)
all_more P xs i d lt all one = subst (AllByRecursion P) (sym (take_more xs i d lt)) (all_append P (take i xs) (get_or xs i d ∷ []) all (one, tt))

-- one element more is spelled
pub flat_more : {X : Type 0} (f : X → List ℕ) (xs : List X) (i : ℕ) (d : X) → i < length xs → flat_map f (take (i + 1) xs) ≡ flat_map f (take i xs) ++ f (get_or xs i d)
flat_more f xs i d lt = ap (flat_map f) (take_more xs i d lt) ∙ flat_map-append f (take i xs) (get_or xs i d ∷ []) ∙ ap (λ (e : List ℕ). flat_map f (take i xs) ++ e) (append-nil (f (get_or xs i d)))

-- if some elements are read and what is left begins with none, the bytes begin with no list of more
-- elements
pub no_items : {X : Type 0} (fits : X → Type 0) (spelling : X → List ℕ) → One fits spelling → (read xs : List X) (left rest : List ℕ) → AllByRecursion fits read → AllByRecursion fits xs → length read < length xs → NoPrefix fits spelling left → flat_map spelling read ++ left ≢ flat_map spelling xs ++ rest
no_items fits spelling one [] [] left rest hr hx lt none e = omega arith
no_items fits spelling one [] (x ∷ xs) left rest hr hx lt none e = none x (flat_map spelling xs ++ rest) hx.0 (e ∙ append_assoc (spelling x) (flat_map spelling xs) rest)
no_items fits spelling one (r ∷ read) [] left rest hr hx lt none e = omega arith
no_items fits spelling one (r ∷ read) (x ∷ xs) left rest hr hx lt none e =
    let after = one r x (flat_map spelling read ++ left) (flat_map spelling xs ++ rest) hr.0 hx.0 (sym (append_assoc (spelling r) (flat_map spelling read) left) ∙ e ∙ append_assoc (spelling x) (flat_map spelling xs) rest) in
    no_items fits spelling one read xs left rest hr.1 hx.1 (omega arith) none after.1

-- nor with a list of as many elements as the count says
pub no_list : {X : Type 0} (fits : X → Type 0) (spelling : X → List ℕ) → One fits spelling → (bytes : List ℕ) (count : ℕ) (read xs : List X) (left rest : List ℕ) → count < 2 ^ 16 → bytes ≡ b16 count ++ (flat_map spelling read ++ left) → AllByRecursion fits read → ListFits fits xs → length read < count → NoPrefix fits spelling left → bytes ≢ list_spelling spelling xs ++ rest
no_list fits spelling one bytes count read xs left rest small is hr hx lt none e =
    let counted = one16 count (length xs) (flat_map spelling read ++ left) (flat_map spelling xs ++ rest) small hx.0 (sym is ∙ e ∙ append_assoc (b16 (length xs)) (flat_map spelling xs) rest) in
    no_items fits spelling one read xs left rest hr hx.1 (omega (arith, counted.0)) none counted.1

-- ---- keys of rows

-- the value at the next place of a key
pub next_image : (places : List ℕ) (row : List Value) (i : ℕ) → i < length places → get_or (images places row) i Null ≡ get_or row (get_or places i 0) Null
next_image places row i lt = get_or-map (λ place. slice_index_or row place Null) places i 0 Null lt

-- one value more of a key is spelled
pub key_more : (before after : List ℕ) (places : List ℕ) (row : List Value) (i : ℕ) (v : Value) → i < length places → v ≡ get_or row (get_or places i 0) Null → after ≡ (before ++ flat_map value_spelling (take i (images places row))) ++ value_spelling v → AllByRecursion IsValue (take i (images places row)) → IsValue v → (after ≡ before ++ flat_map value_spelling (take (i + 1) (images places row))) × AllByRecursion IsValue (take (i + 1) (images places row))
key_more before after places row i v lt is e all fits =
    let values = images places row in
    let within : i < length values = omega (arith, length-map places (λ (place : ℕ). slice_index_or row place Null)) in
    let same : get_or values i Null ≡ v = next_image places row i lt ∙ sym is in
    (e ∙ append_assoc before (flat_map value_spelling (take i values)) (value_spelling v) ∙ ap (λ (w : Value). before ++ (flat_map value_spelling (take i values) ++ value_spelling w)) (sym same) ∙ ap (λ (l : List ℕ). before ++ l) (sym (flat_more value_spelling values i Null within)), all_more IsValue values i Null within all (subst IsValue (sym same) fits))

-- a value takes a byte at least
value_some : (v : Value) → 0 < length (value_spelling v)
value_some Null = omega arith
value_some (Int n) = omega arith
value_some (Text t) = omega arith

-- if some values are read, and what is left isn't empty and begins with no value, there is no key
pub no_key : (read xs : List Value) (left : List ℕ) → AllByRecursion IsValue read → AllByRecursion IsValue xs → 0 < length left → NoPrefix IsValue value_spelling left → flat_map value_spelling read ++ left ≢ key_spelling xs
no_key [] [] left hr hx some none e = omega (arith, ap length e)
no_key [] (x ∷ xs) left hr hx some none e = none x (key_spelling xs) hx.0 e
no_key (r ∷ read) [] left hr hx some none e = omega (arith, value_some r, ap length e, length-append (value_spelling r ++ flat_map value_spelling read) left, length-append (value_spelling r) (flat_map value_spelling read))
no_key (r ∷ read) (x ∷ xs) left hr hx some none e =
    let after = one_value r x (flat_map value_spelling read ++ left) (key_spelling xs) hr.0 hx.0 (sym (append_assoc (value_spelling r) (flat_map value_spelling read) left) ∙ e) in
    no_key read xs left hr.1 hx.1 some none after.1
