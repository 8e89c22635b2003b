-- Proofs that each value has one spelling, whatever follows it. There is nothing to believe here.
use Rattle.std.proofs.Common.{◌≡◌, ℕ, List, [], ◌++◌, sym, ap, ◌∙◌, append_assoc}
use Rattle.row_codec.specs.Takes.{One, PairFits, pair_spelling}

-- two parts, one after the other
pub one_pair : {A B : Type 0} (fits_a : A → Type 0) (fits_b : B → Type 0) (spelling_a : A → List ℕ) (spelling_b : B → List ℕ) → One fits_a spelling_a → One fits_b spelling_b → One (PairFits fits_a fits_b) (pair_spelling spelling_a spelling_b)
one_pair fits_a fits_b spelling_a spelling_b one_a one_b x y a b fx fy e =
    let first = one_a x.0 y.0 (spelling_b x.1 ++ a) (spelling_b y.1 ++ b) fx.0 fy.0 (sym (append_assoc (spelling_a x.0) (spelling_b x.1) a) ∙ e ∙ append_assoc (spelling_a y.0) (spelling_b y.1) b) in
    let second = one_b x.1 y.1 a b fx.1 fy.1 first.1 in
    (λ i. (first.0 i, second.0 i), second.1)

-- a record has one spelling if the parts that it is spelled by have one
pub one_by : {X Y : Type 0} (fits_y : Y → Type 0) (spelling : Y → List ℕ) (fits_x : X → Type 0) (parts : X → Y) → ((x y : X) → parts x ≡ parts y → x ≡ y) → ((x : X) → fits_x x → fits_y (parts x)) → One fits_y spelling → One fits_x (λ x. spelling (parts x))
one_by fits_y spelling fits_x parts exact fit one x y a b fx fy e = let same = one (parts x) (parts y) a b (fit x fx) (fit y fy) e in (exact x y same.0, same.1)

-- whole spellings that are equal are of equal values
pub one_whole : {X : Type 0} (fits : X → Type 0) (spelling : X → List ℕ) → One fits spelling → (x y : X) → fits x → fits y → spelling x ≡ spelling y → x ≡ y
one_whole fits spelling one x y fx fy e = (one x y [] [] fx fy (ap (λ (bytes : List ℕ). bytes ++ []) e)).0
