-- What is found in lists, and in lists of numbered elements.
use Rattle.std.proofs.Common.{◌≡◌, ℕ, ◌+◌, ◌<◌, ◌≤◌, Bool, true, false, cond, List, [], ◌∷◌, ◌++◌, length, map, Option, Some, None, refl, sym, ap, ap₂, subst, ◌∙◌, inl, inr, ◌⊎◌, arith, map-id, find, is_some, IfSome, option_and_then, option_map}
use Rattle.std.specs.List.{AllByRecursion, AllZip, cons_option, enumerate_from, filter_map, list_any}
use Rattle.std.proofs.lemmas.Bool.{both_ways, false_from_ne_true}
use Rattle.std.proofs.lemmas.List.{map-append}
use Rattle.std.proofs.lemmas.Option.{none-some}
use Rattle.repl_model.specs.Words.{all_differ, In, at_one, any_from, some_passes, in_either, in_first, in_map, image_in, found_in, only_one, beside_itself, embeds_zip, embeds_filter_map, embeds_differ, find_alone}
use Rattle.world_store.specs.Words.{numbered_parts}

-- ---- what is found

-- if no element passes a test, none is found
pub find_nothing : {X : Type 0} (p : X → Bool) (xs : List X) → ((x : X) → In x xs → p x ≡ true → ⊥) → find p xs ≡ None
find_nothing {X} p xs fails = by_found (find p xs) refl
  where
    by_found : (o : Option X) → find p xs ≡ o → find p xs ≡ None
    by_found None e = e
    by_found (Some x) e = let r = found_in p xs x e in absurd (fails x r.0 r.1)

-- if none is found, each element fails the test
pub all_fail : {X : Type 0} (p : X → Bool) (xs : List X) → find p xs ≡ None → AllByRecursion (λ x. p x ≡ false) xs
all_fail p [] e = tt
all_fail {X} p (x ∷ xs) e = by_test (p x) refl (all_fail p xs) e
  where
    by_test : (b : Bool) → p x ≡ b → (find p xs ≡ None → AllByRecursion (λ x. p x ≡ false) xs) → cond b (Some x) (find p xs) ≡ None → AllByRecursion (λ x. p x ≡ false) (x ∷ xs)
    by_test true here rest e = absurd (none-some x (sym e))
    by_test false fails rest e = (fails, rest e)

-- if some element passes a test, one is found
pub some_found : {X : Type 0} (p : X → Bool) (xs : List X) → list_any p xs ≡ true → is_some (find p xs) ≡ true
some_found {X} p xs e = by_found (find p xs) refl
  where
    by_found : (o : Option X) → find p xs ≡ o → is_some o ≡ true
    by_found None none = let r = some_passes p xs e in absurd (both_ways (p r.0) (at_one (λ x. p x ≡ false) xs r.0 (all_fail p xs none) r.1) r.2)
    by_found (Some x) found = refl

-- if no element passes a test, each fails it
pub fails_at : {X : Type 0} (p : X → Bool) (xs : List X) (x : X) → list_any p xs ≡ false → In x xs → p x ≡ false
fails_at p xs x none i = false_from_ne_true (p x) (λ e. both_ways (list_any p xs) none (any_from p xs x i e))

-- the same is found in two lists with the same elements, if at most one of them passes the test
pub find_same : {X : Type 0} (p : X → Bool) (xs ys : List X) → ((x : X) → In x xs → In x ys) → ((x : X) → In x ys → In x xs) → ((x y : X) → In x ys → In y ys → p x ≡ true → p y ≡ true → x ≡ y) → find p xs ≡ find p ys
find_same {X} p xs ys there back alone = by_found (find p ys) refl
  where
    by_found : (o : Option X) → find p ys ≡ o → find p xs ≡ find p ys
    by_found None e = find_nothing p xs (λ x i passes. none-some x (sym e ∙ find_alone p ys x (there x i) passes (λ y j same. alone y x j (there x i) same passes))) ∙ sym e
    by_found (Some y) e = let r = found_in p ys y e in find_alone p xs y (back y r.0) r.1 (λ x i passes. alone x y (there x i) r.0 passes r.1) ∙ sym e

-- what is found in what a function gives is given at the element that is found
pub find_given : {X Y : Type 0} (f : X → Option Y) (p : Y → Bool) (q : X → Bool) (xs : List X) → ((x : X) (y : Y) → In x xs → f x ≡ Some y → p y ≡ q x) → ((x z : X) → In x xs → In z xs → q x ≡ true → q z ≡ true → x ≡ z) → find p (filter_map f xs) ≡ option_and_then f (find q xs)
find_given f p q [] alike alone = refl
find_given {X} {Y} f p q (x ∷ xs) alike alone = by_given (f x) refl (q x) refl (find_given f p q xs (λ z y i e. alike z y (inr i) e) (λ z w i j e g. alone z w (inr i) (inr j) e g))
  where
    none_later : q x ≡ true → f x ≡ None → (o : Option X) → find q xs ≡ o → option_and_then f o ≡ None
    none_later here none None e = refl
    none_later here none (Some z) e = let r = found_in q xs z e in ap f (sym (alone x z (inl refl) (inr r.0) here r.1)) ∙ none

    by_given : (o : Option Y) → f x ≡ o → (b : Bool) → q x ≡ b → find p (filter_map f xs) ≡ option_and_then f (find q xs) → find p (cons_option o (filter_map f xs)) ≡ option_and_then f (cond b (Some x) (find q xs))
    by_given None e true here rest = rest ∙ none_later here e (find q xs) refl ∙ sym e
    by_given None e false there rest = rest
    by_given (Some y) e true here rest = ap (λ (b : Bool). cond b (Some y) (find p (filter_map f xs))) (alike x y (inl refl) e ∙ here) ∙ sym e
    by_given (Some y) e false there rest = ap (λ (b : Bool). cond b (Some y) (find p (filter_map f xs))) (alike x y (inl refl) e ∙ there) ∙ rest

-- ---- numbered elements

-- what is made of images with their numbers is made of the elements with theirs
pub numbered_images : {X Y Z : Type 0} (f : ℕ × Y → Z) (g : X → Y) (n : ℕ) (xs : List X) → map f (enumerate_from n (map g xs)) ≡ map (λ t. f (t.0, g t.1)) (enumerate_from n xs)
numbered_images f g n [] = refl
numbered_images {X} {Y} {Z} f g n (x ∷ xs) = ap (λ (l : List Z). f (n, g x) ∷ l) (numbered_images f g (n + 1) xs)

-- images with their numbers are images of numbered elements
image_numbers : {X Y : Type 0} (g : X → Y) (n : ℕ) (xs : List X) → enumerate_from n (map g xs) ≡ map (λ t. (t.0, g t.1)) (enumerate_from n xs)
image_numbers {X} {Y} g n xs = sym (map-id (enumerate_from n (map g xs))) ∙ numbered_images (λ (t : ℕ × Y). t) g n xs

-- a numbered image is that of a numbered element
pub image_of_numbered : {X Y : Type 0} (g : X → Y) (n : ℕ) (xs : List X) (t : ℕ × Y) → In t (enumerate_from n (map g xs)) → (u : ℕ × X) × In u (enumerate_from n xs) × (t ≡ (u.0, g u.1))
image_of_numbered {X} {Y} g n xs t i = in_map (λ (u : ℕ × X). (u.0, g u.1)) (enumerate_from n xs) t (subst (In t) (image_numbers g n xs) i)

-- the image of a numbered element has its number
pub numbered_image : {X Y : Type 0} (g : X → Y) (n : ℕ) (xs : List X) (u : ℕ × X) → In u (enumerate_from n xs) → In (u.0, g u.1) (enumerate_from n (map g xs))
numbered_image {X} {Y} g n xs u i = subst (In (u.0, g u.1)) (sym (image_numbers g n xs)) (image_in (λ (u : ℕ × X). (u.0, g u.1)) (enumerate_from n xs) u i)

-- an element is found among the elements if it is found among those with their numbers
pub find_numbered : {X : Type 0} (p : X → Bool) (n : ℕ) (xs : List X) → option_map (λ t. t.1) (find (λ t. p t.1) (enumerate_from n xs)) ≡ find p xs
find_numbered p n [] = refl
find_numbered {X} p n (x ∷ xs) = by_test (p x) (find_numbered p (n + 1) xs)
  where
    by_test : (b : Bool) → option_map (λ t. t.1) (find (λ (t : ℕ × X). p t.1) (enumerate_from (n + 1) xs)) ≡ find p xs → option_map (λ t. t.1) (cond b (Some (n, x)) (find (λ (t : ℕ × X). p t.1) (enumerate_from (n + 1) xs))) ≡ cond b (Some x) (find p xs)
    by_test true rest = refl
    by_test false rest = rest

-- a numbered element is one of the elements
pub numbered_in : {X : Type 0} (n : ℕ) (xs : List X) (t : ℕ × X) → In t (enumerate_from n xs) → In t.1 xs
numbered_in n [] t i = absurd i
numbered_in {X} n (x ∷ xs) t (inl e) = inl (ap (λ (s : ℕ × X). s.1) e)
numbered_in n (x ∷ xs) t (inr i) = inr (numbered_in (n + 1) xs t i)

-- an element has a number
pub in_numbered : {X : Type 0} (n : ℕ) (xs : List X) (x : X) → In x xs → (m : ℕ) × In (m, x) (enumerate_from n xs)
in_numbered n [] x i = absurd i
in_numbered {X} n (y ∷ ys) x (inl e) = (n, inl (ap (λ (z : X). (n, z)) e))
in_numbered n (y ∷ ys) x (inr i) = let r = in_numbered (n + 1) ys x i in (r.0, inr r.1)

-- the numbers begin with the first, and there are as many as elements
pub numbered_within : {X : Type 0} (n : ℕ) (xs : List X) (t : ℕ × X) → In t (enumerate_from n xs) → (n ≤ t.0) × (t.0 < n + length xs)
numbered_within n [] t i = absurd i
numbered_within {X} n (x ∷ xs) t (inl e) = let same : t.0 ≡ n = ap (λ (s : ℕ × X). s.0) e in (omega arith, omega arith)
numbered_within n (x ∷ xs) t (inr i) =
    let r = numbered_within (n + 1) xs t i in
    let low : n + 1 ≤ t.0 = r.0 in
    let high : t.0 < n + 1 + length xs = r.1 in
    (omega arith, omega arith)

-- elements of one number are one
pub numbered_alone : {X : Type 0} (n : ℕ) (xs : List X) (t u : ℕ × X) → In t (enumerate_from n xs) → In u (enumerate_from n xs) → t.0 ≡ u.0 → t ≡ u
numbered_alone n [] t u i j e = absurd i
numbered_alone n (x ∷ xs) t u (inl a) (inl b) e = a ∙ sym b
numbered_alone {X} n (x ∷ xs) t u (inl a) (inr j) e =
    let here : t.0 ≡ n = ap (λ (s : ℕ × X). s.0) a in
    let later : n + 1 ≤ u.0 = (numbered_within (n + 1) xs u j).0 in
    absurd (omega arith)
numbered_alone {X} n (x ∷ xs) t u (inr i) (inl b) e =
    let here : u.0 ≡ n = ap (λ (s : ℕ × X). s.0) b in
    let later : n + 1 ≤ t.0 = (numbered_within (n + 1) xs t i).0 in
    absurd (omega arith)
numbered_alone n (x ∷ xs) t u (inr i) (inr j) e = numbered_alone (n + 1) xs t u i j e

-- what is made of two lists in turn with their numbers is made of one and then of the other
pub numbered_rows : {X Y : Type 0} (f : ℕ × X → Y) (xs ys : List X) → map f (enumerate_from 0 (xs ++ ys)) ≡ map f (enumerate_from 0 xs) ++ map f (enumerate_from (length xs) ys)
numbered_rows f xs ys = ap (map f) (numbered_parts 0 xs ys) ∙ map-append f (enumerate_from 0 xs) (enumerate_from (0 + length xs) ys) ∙ ap (λ (n : ℕ). map f (enumerate_from 0 xs) ++ map f (enumerate_from n ys)) (omega arith)

-- an element of one list after another is numbered with the first, or follows it
pub numbered_either : {X : Type 0} (xs ys : List X) (t : ℕ × X) → In t (enumerate_from 0 (xs ++ ys)) → In t (enumerate_from 0 xs) ⊎ In t (enumerate_from (0 + length xs) ys)
numbered_either xs ys t i = in_either (enumerate_from 0 xs) (enumerate_from (0 + length xs) ys) t (subst (In t) (numbered_parts 0 xs ys) i)

-- an element of the first of two lists has the same number in both in turn
pub numbered_first : {X : Type 0} (xs ys : List X) (t : ℕ × X) → In t (enumerate_from 0 xs) → In t (enumerate_from 0 (xs ++ ys))
numbered_first xs ys t i = subst (In t) (sym (numbered_parts 0 xs ys)) (in_first (enumerate_from 0 xs) (enumerate_from (0 + length xs) ys) t i)

-- ---- lists without two that are alike

-- what is made of numbered elements stands beside them
rows_beside : {X Y : Type 0} (g : ℕ × X → Y) (n : ℕ) (xs : List X) → AllZip (λ (y : Y) (x : X). (m : ℕ) × (y ≡ g (m, x))) (map g (enumerate_from n xs)) xs
rows_beside g n [] = tt
rows_beside g n (x ∷ xs) = ((n, refl), rows_beside g (n + 1) xs)

-- no two rows that are made of numbered elements are alike if no two elements are
pub rows_differ : {X Y : Type 0} (g : ℕ × X → Y) (same : Y → Y → Bool) (alike : X → X → Bool) → ((n m : ℕ) (x y : X) → same (g (n, x)) (g (m, y)) ≡ true → alike x y ≡ true) → (n : ℕ) (xs : List X) → all_differ alike xs ≡ true → all_differ same (map g (enumerate_from n xs)) ≡ true
rows_differ {X} {Y} g same alike follows n xs = embeds_differ (λ (y : Y) (x : X). (m : ℕ) × (y ≡ g (m, x))) same alike (λ y w x z a b e. follows a.0 b.0 x z (ap₂ same (sym a.1) (sym b.1) ∙ e)) (map g (enumerate_from n xs)) xs
    (embeds_zip (λ (y : Y) (x : X). (m : ℕ) × (y ≡ g (m, x))) (map g (enumerate_from n xs)) xs (rows_beside g n xs))

-- no two numbered elements are alike if no two elements are
pub numbered_differ : {X : Type 0} (alike : X → X → Bool) (n : ℕ) (xs : List X) → all_differ alike xs ≡ true → all_differ (λ (t u : ℕ × X). alike t.1 u.1) (enumerate_from n xs) ≡ true
numbered_differ {X} alike n xs e = subst (λ (l : List (ℕ × X)). all_differ (λ (t u : ℕ × X). alike t.1 u.1) l ≡ true) (map-id (enumerate_from n xs)) (rows_differ (λ (t : ℕ × X). t) (λ (t u : ℕ × X). alike t.1 u.1) alike (λ n m x y e. e) n xs e)

-- a function that gives each element gives the list
all_kept_by : {X : Type 0} (xs : List X) → filter_map Some xs ≡ xs
all_kept_by [] = refl
all_kept_by {X} (x ∷ xs) = ap (λ (l : List X). x ∷ l) (all_kept_by xs)

-- no two that a function gives are alike if no two elements are
pub given_differ : {X Y : Type 0} (f : X → Option Y) (same : Y → Y → Bool) (alike : X → X → Bool) → ((x z : X) (y w : Y) → f x ≡ Some y → f z ≡ Some w → same y w ≡ true → alike x z ≡ true) → (xs : List X) → all_differ alike xs ≡ true → all_differ same (filter_map f xs) ≡ true
given_differ {X} {Y} f same alike follows xs differ = embeds_differ (λ y x. f x ≡ Some y) same alike (λ y w x z a b e. follows x z y w a b e) (filter_map f xs) (filter_map Some xs)
    (embeds_filter_map (λ y x. f x ≡ Some y) f Some xs xs (beside_itself (λ x z. IfSome (f x) (λ y. (b : X) × (Some z ≡ Some b) × (f b ≡ Some y))) (λ x. given x (f x) refl) xs))
    (subst (λ (l : List X). all_differ alike l ≡ true) (sym (all_kept_by xs)) differ)
  where
    given : (x : X) (o : Option Y) → f x ≡ o → IfSome o (λ y. (b : X) × (Some x ≡ Some b) × (f b ≡ Some y))
    given x None e = tt
    given x (Some y) e = (x, refl, e)

-- two that are alike to a third are one, if no two of the list are alike
pub alike_is_one : {X Y : Type 0} (name : X → Y) (same : Y → Y → Bool) (exact : (a b : Y) → same a b ≡ true → a ≡ b) (itself : (a : Y) → same a a ≡ true) (xs : List X) → all_differ (λ a b. same (name a) (name b)) xs ≡ true → (x z : X) → In x xs → In z xs → name x ≡ name z → x ≡ z
alike_is_one {X} {Y} name same exact itself xs differ x z i j e = only_one (λ a b. same (name a) (name b)) xs x z differ i j (ap (same (name x)) (sym e) ∙ itself (name x)) (ap (same (name z)) e ∙ itself (name z))
