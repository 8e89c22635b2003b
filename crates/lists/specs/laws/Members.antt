-- The elements of lists: which they are, and what holds of each.
use Rattle.std.proofs.Common.{◌≡◌, Bool, true, false, cond, not, ◌||◌, ◌⊎◌, inl, inr, List, [], ◌∷◌, ◌++◌, map, Option, Some, None, refl, sym, ap, subst, ◌∙◌, ◌+◌}
use Rattle.std.specs.List.{AllByRecursion, AllZip, filter, filter_map, cons_option, flat_map, find, list_all, list_any}
use Rattle.std.specs.Option.{option_or, option_map, is_some, IfSome}
use Rattle.std.proofs.lemmas.Bool.{true≢false, false≢true, both_ways, not-true, and_parts, and_from, or_cases, or_left, or_right, cond_both}
use Rattle.std.proofs.lemmas.Option.{none-some, same_Some}
use Rattle.std.proofs.lemmas.List.Folds.{find-append}
use Rattle.lists.specs.Lists.{all_differ}

-- the element is one of a list
abbrev pub In : {X : Type 0} → X → List X → Type 0
In x [] = ⊥
In x (y ∷ ys) = (x ≡ y) ⊎ In x ys

-- ---- what holds of each

-- what holds of each element holds of one of them
pub at_one : {X : Type 0} (P : X → Type 0) (xs : List X) (x : X) → AllByRecursion P xs → In x xs → P x
at_one P [] x all i = absurd i
at_one P (y ∷ ys) x all (inl e) = subst P (sym e) all.0
at_one P (y ∷ ys) x all (inr i) = at_one P ys x all.1 i

-- what holds of whatever element is one of the list holds of each
pub at_each : {X : Type 0} (P : X → Type 0) (xs : List X) → ((x : X) → In x xs → P x) → AllByRecursion P xs
at_each P [] f = tt
at_each P (x ∷ xs) f = (f x (inl refl), at_each P xs (λ y i. f y (inr i)))

-- an element of a list whose elements all pass a test passes it
pub passes_at : {X : Type 0} (p : X → Bool) (xs : List X) (x : X) → list_all p xs ≡ true → In x xs → p x ≡ true
passes_at p [] x e i = absurd i
passes_at p (y ∷ ys) x e (inl same) = ap p same ∙ (and_parts (p y) (list_all p ys) e).0
passes_at p (y ∷ ys) x e (inr i) = passes_at p ys x (and_parts (p y) (list_all p ys) e).1 i

-- if each element passes a test, all do
pub all_pass_from : {X : Type 0} (p : X → Bool) (xs : List X) → ((x : X) → In x xs → p x ≡ true) → list_all p xs ≡ true
all_pass_from p [] f = refl
all_pass_from p (x ∷ xs) f = and_from (p x) (list_all p xs) (f x (inl refl)) (all_pass_from p xs (λ y i. f y (inr i)))

-- an element that passes a test shows that some element does
pub any_from : {X : Type 0} (p : X → Bool) (xs : List X) (x : X) → In x xs → p x ≡ true → list_any p xs ≡ true
any_from p [] x i e = absurd i
any_from p (y ∷ ys) x (inl same) e = or_left (p y) (list_any p ys) (ap p (sym same) ∙ e)
any_from p (y ∷ ys) x (inr i) e = or_right (p y) (list_any p ys) (any_from p ys x i e)

-- some element passes a test, if the test of all says so
pub some_passes : {X : Type 0} (p : X → Bool) (xs : List X) → list_any p xs ≡ true → (x : X) × In x xs × (p x ≡ true)
some_passes p [] e = absurd (false≢true e)
some_passes {X} p (x ∷ xs) e = by_cases (some_passes p xs) (or_cases (p x) (list_any p xs) e)
  where
    by_cases : (list_any p xs ≡ true → (y : X) × In y xs × (p y ≡ true)) → (p x ≡ true) ⊎ (list_any p xs ≡ true) → (y : X) × In y (x ∷ xs) × (p y ≡ true)
    by_cases rest (inl here) = (x, inl refl, here)
    by_cases rest (inr later) = let r = rest later in (r.0, inr r.1, r.2)

-- if no two are alike, no later element is like the first
pub first_alone : {X : Type 0} (same : X → X → Bool) (x : X) (xs : List X) → all_differ same (x ∷ xs) ≡ true → (y : X) → In y xs → same x y ≡ true → ⊥
first_alone same x xs differ y i e = both_ways (list_any (same x) xs) (not-true (list_any (same x) xs) (and_parts (not (list_any (same x) xs)) (all_differ same xs) differ).0) (any_from (same x) xs y i e)

-- two elements that are alike are one, if no two of the list are
pub only_one : {X : Type 0} (same : X → X → Bool) (xs : List X) (x y : X) → all_differ same xs ≡ true → In x xs → In y xs → same x y ≡ true → same y x ≡ true → x ≡ y
only_one same [] x y differ i j e f = absurd i
only_one same (z ∷ zs) x y differ (inl a) (inl b) e f = a ∙ sym b
only_one {X} same (z ∷ zs) x y differ (inl a) (inr j) e f = absurd (first_alone same z zs differ y j (ap (λ (w : X). same w y) (sym a) ∙ e))
only_one {X} same (z ∷ zs) x y differ (inr i) (inl b) e f = absurd (first_alone same z zs differ x i (ap (λ (w : X). same w x) (sym b) ∙ f))
only_one same (z ∷ zs) x y differ (inr i) (inr j) e f = only_one same zs x y (and_parts (not (list_any (same z) zs)) (all_differ same zs) differ).1 i j e f

-- ---- lists made of others

-- an element of one list after another is one of either
pub in_either : {X : Type 0} (xs ys : List X) (x : X) → In x (xs ++ ys) → In x xs ⊎ In x ys
in_either [] ys x i = inr i
in_either (z ∷ zs) ys x (inl e) = inl (inl e)
in_either {X} (z ∷ zs) ys x (inr i) = later (in_either zs ys x i)
  where
    later : In x zs ⊎ In x ys → In x (z ∷ zs) ⊎ In x ys
    later (inl j) = inl (inr j)
    later (inr j) = inr j

-- an element of the first of two lists is one of both
pub in_first : {X : Type 0} (xs ys : List X) (x : X) → In x xs → In x (xs ++ ys)
in_first [] ys x i = absurd i
in_first (z ∷ zs) ys x (inl e) = inl e
in_first (z ∷ zs) ys x (inr i) = inr (in_first zs ys x i)

-- an element of the second of two lists is one of both
pub in_second : {X : Type 0} (xs ys : List X) (x : X) → In x ys → In x (xs ++ ys)
in_second [] ys x i = i
in_second (z ∷ zs) ys x i = inr (in_second zs ys x i)

-- an element that a filter keeps is one of the list, and passes the test
pub in_filter : {X : Type 0} (p : X → Bool) (xs : List X) (x : X) → In x (filter p xs) → In x xs × (p x ≡ true)
in_filter p [] x i = absurd i
in_filter {X} p (z ∷ zs) x i = by_test (λ j. let r = in_filter p zs x j in (inr r.0, r.1)) (p z) refl i
  where
    by_test : (In x (filter p zs) → In x (z ∷ zs) × (p x ≡ true)) → (b : Bool) → p z ≡ b → In x (cond b (z ∷ filter p zs) (filter p zs)) → In x (z ∷ zs) × (p x ≡ true)
    by_test later true e (inl same) = (inl same, ap p same ∙ e)
    by_test later true e (inr j) = later j
    by_test later false e j = later j

-- an element that passes the test is one that the filter keeps
pub kept_by : {X : Type 0} (p : X → Bool) (xs : List X) (x : X) → In x xs → p x ≡ true → In x (filter p xs)
kept_by p [] x i e = absurd i
kept_by {X} p (z ∷ zs) x (inl same) e = subst (λ b. In x (cond b (z ∷ filter p zs) (filter p zs))) (sym (ap p (sym same) ∙ e)) (inl same)
kept_by {X} p (z ∷ zs) x (inr i) e = cond_both (p z) (z ∷ filter p zs) (filter p zs) (In x) (λ _. inr (kept_by p zs x i e)) (λ _. kept_by p zs x i e)

-- an element that a function gives is given at one of the list's
pub in_filter_map : {X Y : Type 0} (f : X → Option Y) (xs : List X) (y : Y) → In y (filter_map f xs) → (x : X) × In x xs × (f x ≡ Some y)
in_filter_map f [] y i = absurd i
in_filter_map {X} {Y} f (z ∷ zs) y i = by_one (λ j. let r = in_filter_map f zs y j in (r.0, inr r.1, r.2)) (f z) refl i
  where
    by_one : (In y (filter_map f zs) → (x : X) × In x (z ∷ zs) × (f x ≡ Some y)) → (o : Option Y) → f z ≡ o → In y (cons_option o (filter_map f zs)) → (x : X) × In x (z ∷ zs) × (f x ≡ Some y)
    by_one later None e j = later j
    by_one later (Some w) e (inl same) = (z, inl refl, e ∙ ap Some (sym same))
    by_one later (Some w) e (inr j) = later j

-- what a function gives at an element is among what it gives
pub given_in : {X Y : Type 0} (f : X → Option Y) (xs : List X) (x : X) (y : Y) → In x xs → f x ≡ Some y → In y (filter_map f xs)
given_in f [] x y i e = absurd i
given_in f (z ∷ zs) x y (inl same) e = subst (λ o. In y (cons_option o (filter_map f zs))) (sym (ap f (sym same) ∙ e)) (inl refl)
given_in {X} {Y} f (z ∷ zs) x y (inr i) e = by_one (f z) (given_in f zs x y i e)
  where
    by_one : (o : Option Y) → In y (filter_map f zs) → In y (cons_option o (filter_map f zs))
    by_one None j = j
    by_one (Some w) j = inr j

-- an element of the list that a function gives at an element is among those of all its lists
pub listed_in : {X Y : Type 0} (f : X → List Y) (xs : List X) (x : X) (y : Y) → In x xs → In y (f x) → In y (flat_map f xs)
listed_in f [] x y i j = absurd i
listed_in f (z ∷ zs) x y (inl same) j = in_first (f z) (flat_map f zs) y (subst (λ a. In y (f a)) same j)
listed_in f (z ∷ zs) x y (inr i) j = in_second (f z) (flat_map f zs) y (listed_in f zs x y i j)

-- an element of the lists that a function gives is one of the list at some element
pub in_flat_map : {X Y : Type 0} (f : X → List Y) (xs : List X) (y : Y) → In y (flat_map f xs) → (x : X) × In x xs × In y (f x)
in_flat_map f [] y i = absurd i
in_flat_map {X} {Y} f (z ∷ zs) y i = by_cases (in_flat_map f zs y) (in_either (f z) (flat_map f zs) y i)
  where
    by_cases : (In y (flat_map f zs) → (x : X) × In x zs × In y (f x)) → In y (f z) ⊎ In y (flat_map f zs) → (x : X) × In x (z ∷ zs) × In y (f x)
    by_cases rest (inl here) = (z, inl refl, here)
    by_cases rest (inr later) = let r = rest later in (r.0, inr r.1, r.2)

-- an element of the second of two lists stands beside one of the first
pub beside : {X Y : Type 0} (R : X → Y → Type 0) (xs : List X) (ys : List Y) (y : Y) → AllZip R xs ys → In y ys → (x : X) × In x xs × R x y
beside R [] [] y h i = absurd i
beside R [] (w ∷ ws) y h i = absurd h
beside R (x ∷ xs) [] y h i = absurd h
beside R (x ∷ xs) (w ∷ ws) y h (inl e) = (x, inl refl, subst (R x) (sym e) h.0)
beside R (x ∷ xs) (w ∷ ws) y h (inr i) = let r = beside R xs ws y h.1 i in (r.0, inr r.1, r.2)

-- ---- images, and lists side by side

-- an image of an element of the list
pub in_map : {X Y : Type 0} (f : X → Y) (xs : List X) (y : Y) → In y (map f xs) → (x : X) × In x xs × (y ≡ f x)
in_map f [] y i = absurd i
in_map f (z ∷ zs) y (inl e) = (z, inl refl, e)
in_map f (z ∷ zs) y (inr i) = let r = in_map f zs y i in (r.0, inr r.1, r.2)

-- the image of an element is one of the images
pub image_in : {X Y : Type 0} (f : X → Y) (xs : List X) (x : X) → In x xs → In (f x) (map f xs)
image_in f [] x i = absurd i
image_in f (z ∷ zs) x (inl e) = inl (ap f e)
image_in f (z ∷ zs) x (inr i) = inr (image_in f zs x i)

-- what holds of each element's image holds of each image
pub each_image : {X Y : Type 0} (P : Y → Type 0) (f : X → Y) (xs : List X) → AllByRecursion (λ x. P (f x)) xs → AllByRecursion P (map f xs)
each_image P f [] h = tt
each_image P f (x ∷ xs) h = (h.0, each_image P f xs h.1)

-- some image passes a test if some element does whose test is that of its image
pub any_image : {X Y : Type 0} (f : X → Y) (p : Y → Bool) (xs : List X) → list_any p (map f xs) ≡ list_any (λ x. p (f x)) xs
any_image f p [] = refl
any_image f p (x ∷ xs) = ap (λ (b : Bool). p (f x) || b) (any_image f p xs)

-- what holds of whatever a function gives at each element holds of each that it gives
pub each_given : {X Y : Type 0} (P : Y → Type 0) (f : X → Option Y) (xs : List X) → AllByRecursion (λ x. IfSome (f x) P) xs → AllByRecursion P (filter_map f xs)
each_given P f [] h = tt
each_given {X} {Y} P f (x ∷ xs) h = by_one (f x) h.0 (each_given P f xs h.1)
  where
    by_one : (o : Option Y) → IfSome o P → AllByRecursion P (filter_map f xs) → AllByRecursion P (cons_option o (filter_map f xs))
    by_one None q rest = rest
    by_one (Some y) q rest = (q, rest)

-- what holds of each that a function gives holds of whatever it gives at each element
pub given_each : {X Y : Type 0} (P : Y → Type 0) (f : X → Option Y) (xs : List X) → AllByRecursion P (filter_map f xs) → AllByRecursion (λ x. IfSome (f x) P) xs
given_each P f [] h = tt
given_each {X} {Y} P f (x ∷ xs) h = by_one (f x) (given_each P f xs) h
  where
    by_one : (o : Option Y) → (AllByRecursion P (filter_map f xs) → AllByRecursion (λ z. IfSome (f z) P) xs) → AllByRecursion P (cons_option o (filter_map f xs)) → IfSome o P × AllByRecursion (λ z. IfSome (f z) P) xs
    by_one None rest q = (tt, rest q)
    by_one (Some y) rest q = (q.0, rest q.1)

-- a list stands beside itself, if each element may stand beside itself
pub beside_itself : {X : Type 0} (R : X → X → Type 0) → ((x : X) → R x x) → (xs : List X) → AllZip R xs xs
beside_itself R f [] = tt
beside_itself R f (x ∷ xs) = (f x, beside_itself R f xs)

-- a list stands beside its images, if each element may stand beside its image
pub beside_images : {X Y : Type 0} (R : X → Y → Type 0) (f : X → Y) → ((x : X) → R x (f x)) → (xs : List X) → AllZip R xs (map f xs)
beside_images R f each [] = tt
beside_images R f each (x ∷ xs) = (each x, beside_images R f each xs)

-- lists that stand beside each other do so with others after them that do
pub beside_more : {X Y : Type 0} (R : X → Y → Type 0) (xs zs : List X) (ys ws : List Y) → AllZip R xs ys → AllZip R zs ws → AllZip R (xs ++ zs) (ys ++ ws)
beside_more R [] zs [] ws h g = g
beside_more R [] zs (y ∷ ys) ws h g = absurd h
beside_more R (x ∷ xs) zs [] ws h g = absurd h
beside_more R (x ∷ xs) zs (y ∷ ys) ws h g = (h.0, beside_more R xs zs ys ws h.1 g)

-- what follows for two elements from how they stand beside each other holds of all that do
pub beside_weaker : {X Y : Type 0} (R S : X → Y → Type 0) → ((x : X) (y : Y) → R x y → S x y) → (xs : List X) (ys : List Y) → AllZip R xs ys → AllZip S xs ys
beside_weaker R S f [] [] h = tt
beside_weaker R S f [] (y ∷ ys) h = absurd h
beside_weaker R S f (x ∷ xs) [] h = absurd h
beside_weaker R S f (x ∷ xs) (y ∷ ys) h = (f x y h.0, beside_weaker R S f xs ys h.1)

-- what follows for an element from what holds of the one beside it holds of each
pub each_beside : {X Y : Type 0} (R : X → Y → Type 0) (P : X → Type 0) (Q : Y → Type 0) → ((x : X) (y : Y) → R x y → P x → Q y) → (xs : List X) (ys : List Y) → AllZip R xs ys → AllByRecursion P xs → AllByRecursion Q ys
each_beside R P Q f [] [] h all = tt
each_beside R P Q f [] (y ∷ ys) h all = absurd h
each_beside R P Q f (x ∷ xs) [] h all = absurd h
each_beside R P Q f (x ∷ xs) (y ∷ ys) h all = (f x y h.0 all.0, each_beside R P Q f xs ys h.1 all.1)

-- ---- the first that passes a test

-- what is found is one of the list, and passes the test
pub found_in : {X : Type 0} (p : X → Bool) (xs : List X) (x : X) → find p xs ≡ Some x → In x xs × (p x ≡ true)
found_in p [] x e = absurd (none-some x e)
found_in {X} p (z ∷ zs) x e = by_test (found_in p zs x) (p z) refl e
  where
    by_test : (find p zs ≡ Some x → In x zs × (p x ≡ true)) → (b : Bool) → p z ≡ b → cond b (Some z) (find p zs) ≡ Some x → In x (z ∷ zs) × (p x ≡ true)
    by_test rest true e same = let s = sym (same_Some z x same) in (inl s, ap p s ∙ e)
    by_test rest false e later = let r = rest later in (inr r.0, r.1)

-- the first image that passes a test is the image of the first element whose image does
pub find_image : {X Y : Type 0} (f : X → Y) (p : Y → Bool) (xs : List X) → find p (map f xs) ≡ option_map f (find (λ x. p (f x)) xs)
find_image f p [] = refl
find_image {X} f p (x ∷ xs) = ap (cond (p (f x)) (Some (f x))) (find_image f p xs) ∙ by_test (p (f x)) (find (λ x. p (f x)) xs)
  where
    by_test : (b : Bool) (rest : Option X) → cond b (Some (f x)) (option_map f rest) ≡ option_map f (cond b (Some x) rest)
    by_test true rest = refl
    by_test false rest = refl

-- what is found in a list is found in a longer one
pub found_first : {X : Type 0} (p : X → Bool) (xs ys : List X) (x : X) → find p xs ≡ Some x → find p (xs ++ ys) ≡ Some x
found_first {X} p xs ys x e = find-append p xs ys ∙ ap (λ (o : Option X). option_or o (find p ys)) e

-- what is found in the first of two lists has one that is found in the second
pub found_beside : {X Y : Type 0} (R : X → Y → Type 0) (p : X → Bool) (q : Y → Bool) → ((x : X) (y : Y) → R x y → q y ≡ p x) → (xs : List X) (ys : List Y) (x : X) → AllZip R xs ys → find p xs ≡ Some x → (y : Y) × (find q ys ≡ Some y) × R x y
found_beside R p q f [] [] x h e = absurd (none-some x e)
found_beside R p q f [] (w ∷ ws) x h e = absurd h
found_beside R p q f (z ∷ zs) [] x h e = absurd h
found_beside {X} {Y} R p q f (z ∷ zs) (w ∷ ws) x h e = by_test (found_beside R p q f zs ws x h.1) (p z) (f z w h.0) e
  where
    by_test : (find p zs ≡ Some x → (y : Y) × (find q ws ≡ Some y) × R x y) → (b : Bool) → q w ≡ b → cond b (Some z) (find p zs) ≡ Some x → (y : Y) × (find q (w ∷ ws) ≡ Some y) × R x y
    by_test rest true e same = (w, ap (λ (b : Bool). cond b (Some w) (find q ws)) e, subst (λ (a : X). R a w) (same_Some z x same) h.0)
    by_test rest false e later =
        let r = rest later in
        (r.0, ap (λ (b : Bool). cond b (Some w) (find q ws)) e ∙ r.1, r.2)

-- in two lists that stand beside each other, something is found in both or in none
pub found_alike : {X Y : Type 0} (R : X → Y → Type 0) (p : X → Bool) (q : Y → Bool) → ((x : X) (y : Y) → R x y → q y ≡ p x) → (xs : List X) (ys : List Y) → AllZip R xs ys → is_some (find q ys) ≡ is_some (find p xs)
found_alike R p q f [] [] h = refl
found_alike R p q f [] (y ∷ ys) h = absurd h
found_alike R p q f (x ∷ xs) [] h = absurd h
found_alike {X} {Y} R p q f (x ∷ xs) (y ∷ ys) h = by_test (p x) (q y) (f x y h.0) (found_alike R p q f xs ys h.1)
  where
    by_test : (a b : Bool) → b ≡ a → is_some (find q ys) ≡ is_some (find p xs) → is_some (cond b (Some y) (find q ys)) ≡ is_some (cond a (Some x) (find p xs))
    by_test true true e rest = refl
    by_test true false e rest = absurd (false≢true e)
    by_test false true e rest = absurd (true≢false e)
    by_test false false e rest = rest

-- the one element that passes a test is found
pub find_alone : {X : Type 0} (p : X → Bool) (xs : List X) (x : X) → In x xs → p x ≡ true → ((y : X) → In y xs → p y ≡ true → y ≡ x) → find p xs ≡ Some x
find_alone p [] x i e alone = absurd i
find_alone {X} p (y ∷ ys) x i e alone = by_test (λ j. find_alone p ys x j e (λ z k passes. alone z (inr k) passes)) (p y) refl i
  where
    by_test : (In x ys → find p ys ≡ Some x) → (b : Bool) → p y ≡ b → In x (y ∷ ys) → cond b (Some y) (find p ys) ≡ Some x
    by_test rest true passes j = ap Some (alone y (inl refl) passes)
    by_test rest false fails (inl same) = absurd (false≢true (sym fails ∙ ap p (sym same) ∙ e))
    by_test rest false fails (inr j) = rest j

-- what holds of two lists, one after the other, holds of both
pub all_parts : {X : Type 0} (P : X → Type 0) (xs ys : List X) → AllByRecursion P (xs ++ ys) → AllByRecursion P xs × AllByRecursion P ys
all_parts P [] ys all = (tt, all)
all_parts P (x ∷ xs) ys all = let rest = all_parts P xs ys all.1 in ((all.0, rest.0), rest.1)
