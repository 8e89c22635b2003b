-- Rows that are made of the elements that pass a test, each with its number.
use Rattle.std.proofs.Common.{◌≡◌, ◌+◌, ◌<◌, ℕ, Bool, true, false, cond, List, [], ◌∷◌, ◌++◌, length, drop, map, slice_index_or, sym, ap, ◌∙◌, add_assoc, zero-add, filter, count_by}
use Rattle.std.proofs.lemmas.List.{append_assoc, drop_more}
use Rattle.std.proofs.lemmas.List.Sums.{sum_by-drop_more}
use Rattle.std.specs.List.{enumerate_from}

-- what is left of a list is the element at its head, and then the rest
left : {X : Type 0} (xs : List X) (i : ℕ) (x : X) → i < length xs → x ≡ slice_index_or xs i x → drop i xs ≡ x ∷ drop (i + 1) xs
left {X} xs i x within is = drop_more xs i x within ∙ ap (λ (y : X). y ∷ drop (i + 1) xs) (sym is)

-- an element that passes the test gives the next row, and those after it get the numbers after its number
pub rows_with : {X Y : Type 0} (row : ℕ × X → Y) (test : X → Bool) (xs : List X) (i : ℕ) (x : X) (n m : ℕ) (rows more all : List Y) → i < length xs → x ≡ slice_index_or xs i x → test x ≡ true → more ≡ rows ++ row (n, x) ∷ [] → m ≡ n + 1
    → rows ++ map row (enumerate_from n (filter test (drop i xs))) ≡ all
    → more ++ map row (enumerate_from m (filter test (drop (i + 1) xs))) ≡ all
rows_with {X} {Y} row test xs i x n m rows more all within is passes grown next before =
    let rest : List X = filter test (drop (i + 1) xs) in
    ap (λ (l : List Y). l ++ map row (enumerate_from m rest)) grown
    ∙ ap (λ (k : ℕ). rows ++ row (n, x) ∷ [] ++ map row (enumerate_from k rest)) next
    ∙ append_assoc rows (row (n, x) ∷ []) (map row (enumerate_from (n + 1) rest))
    ∙ ap (λ (b : Bool). rows ++ map row (enumerate_from n (cond b (x ∷ rest) rest))) (sym passes)
    ∙ ap (λ (l : List X). rows ++ map row (enumerate_from n (filter test l))) (sym (left xs i x within is))
    ∙ before

-- an element that doesn't pass the test gives no row
pub rows_without : {X Y : Type 0} (row : ℕ × X → Y) (test : X → Bool) (xs : List X) (i : ℕ) (x : X) (n m : ℕ) (rows more all : List Y) → i < length xs → x ≡ slice_index_or xs i x → test x ≡ false → more ≡ rows → m ≡ n
    → rows ++ map row (enumerate_from n (filter test (drop i xs))) ≡ all
    → more ++ map row (enumerate_from m (filter test (drop (i + 1) xs))) ≡ all
rows_without {X} {Y} row test xs i x n m rows more all within is fails same still before =
    let rest : List X = filter test (drop (i + 1) xs) in
    ap (λ (l : List Y). l ++ map row (enumerate_from m rest)) same
    ∙ ap (λ (k : ℕ). rows ++ map row (enumerate_from k rest)) still
    ∙ ap (λ (b : Bool). rows ++ map row (enumerate_from n (cond b (x ∷ rest) rest))) (sym fails)
    ∙ ap (λ (l : List X). rows ++ map row (enumerate_from n (filter test l))) (sym (left xs i x within is))
    ∙ before

-- an element that passes the test is one of those that are counted
pub count_with : {X : Type 0} (test : X → Bool) (xs : List X) (i : ℕ) (x : X) (n m all : ℕ) → i < length xs → x ≡ slice_index_or xs i x → test x ≡ true → m ≡ n + 1
    → n + count_by test (drop i xs) ≡ all
    → m + count_by test (drop (i + 1) xs) ≡ all
count_with test xs i x n m all within is passes next before =
    let rest : ℕ = count_by test (drop (i + 1) xs) in
    ap (λ (k : ℕ). k + rest) next
    ∙ add_assoc n 1 rest
    ∙ ap (λ (b : Bool). n + (cond b 1 0 + rest)) (sym passes ∙ ap test is)
    ∙ ap (λ (k : ℕ). n + k) (sym (sum_by-drop_more (λ y. cond (test y) 1 0) xs i x within))
    ∙ before

-- an element that doesn't pass the test isn't counted
pub count_without : {X : Type 0} (test : X → Bool) (xs : List X) (i : ℕ) (x : X) (n m all : ℕ) → i < length xs → x ≡ slice_index_or xs i x → test x ≡ false → m ≡ n
    → n + count_by test (drop i xs) ≡ all
    → m + count_by test (drop (i + 1) xs) ≡ all
count_without test xs i x n m all within is fails still before =
    let rest : ℕ = count_by test (drop (i + 1) xs) in
    ap (λ (k : ℕ). k + rest) still
    ∙ ap (λ (k : ℕ). n + k) (sym (zero-add rest))
    ∙ ap (λ (b : Bool). n + (cond b 1 0 + rest)) (sym fails ∙ ap test is)
    ∙ ap (λ (k : ℕ). n + k) (sym (sum_by-drop_more (λ y. cond (test y) 1 0) xs i x within))
    ∙ before
