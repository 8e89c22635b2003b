-- Images of the elements of lists, and the one element that passes a test.
use Rattle.std.proofs.Common.{◌≡◌, Bool, true, false, cond, not, ◌&&◌, List, [], ◌∷◌, ◌++◌, map, Option, Some, None, refl, sym, ap, ap₂, ◌∙◌, inl, inr, find, filter, is_some, option_map}
use Rattle.std.specs.List.{filter_map, flat_map, cons_option, list_any}
use Rattle.std.proofs.lemmas.Bool.{and_parts}
use Rattle.std.proofs.lemmas.List.{map-append}
use Rattle.lists.specs.Lists.{all_differ}
use Rattle.lists.specs.laws.Members.{In, first_alone, any_image}

-- no two images are alike if no two elements are whose images are alike
pub differ_images : {X Y : Type 0} (f : X → Y) (same : Y → Y → Bool) (xs : List X) → all_differ same (map f xs) ≡ all_differ (λ a b. same (f a) (f b)) xs
differ_images f same [] = refl
differ_images f same (x ∷ xs) = ap₂ (λ (a b : Bool). not a && b) (any_image f (same (f x)) xs) (differ_images f same xs)

-- a filter keeps the images of those whose images pass its test
pub filter_images : {X Y : Type 0} (f : X → Y) (p : Y → Bool) (xs : List X) → filter p (map f xs) ≡ map f (filter (λ x. p (f x)) xs)
filter_images f p [] = refl
filter_images {X} f p (x ∷ xs) = ap (λ l. cond (p (f x)) (f x ∷ l) l) (filter_images f p xs) ∙ by_test (p (f x)) (filter (λ x. p (f x)) xs)
  where
    by_test : (b : Bool) (rest : List X) → cond b (f x ∷ map f rest) (map f rest) ≡ map f (cond b (x ∷ rest) rest)
    by_test true rest = refl
    by_test false rest = refl

-- what a function gives at images, if that is the image of what another gives at the elements
pub given_images : {X Y Z W : Type 0} (f : X → Y) (g : Z → W) (h : Y → Option W) (k : X → Option Z) → ((x : X) → h (f x) ≡ option_map g (k x)) → (xs : List X) → filter_map h (map f xs) ≡ map g (filter_map k xs)
given_images f g h k each [] = refl
given_images {X} {Y} {Z} {W} f g h k each (x ∷ xs) = ap₂ (λ (o : Option W) (ws : List W). cons_option o ws) (each x) (given_images f g h k each xs) ∙ by_one (k x) (filter_map k xs)
  where
    by_one : (o : Option Z) (rest : List Z) → cons_option (option_map g o) (map g rest) ≡ map g (cons_option o rest)
    by_one None rest = refl
    by_one (Some z) rest = refl

-- the lists that a function gives at images, if they are the images of those that another gives at the elements
pub listed_images : {X Y Z W : Type 0} (f : X → Y) (g : Z → W) (h : Y → List W) (k : X → List Z) → ((x : X) → h (f x) ≡ map g (k x)) → (xs : List X) → flat_map h (map f xs) ≡ map g (flat_map k xs)
listed_images f g h k each [] = refl
listed_images {X} {Y} {Z} {W} f g h k each (x ∷ xs) = ap₂ (λ (ws vs : List W). ws ++ vs) (each x) (listed_images f g h k each xs) ∙ sym (map-append g (k x) (flat_map k xs))

-- there is an image if there is an element
pub image_stands : {X Y : Type 0} (f : X → Y) (o : Option X) → is_some (option_map f o) ≡ is_some o
image_stands f None = refl
image_stands f (Some x) = refl

-- an element that passes a test is the one that is found, if any two that pass it are alike and no two are
pub found_alone : {X : Type 0} (same : X → X → Bool) (p : X → Bool) → ((x y : X) → p x ≡ true → p y ≡ true → same x y ≡ true) → (xs : List X) (x : X) → all_differ same xs ≡ true → In x xs → p x ≡ true → find p xs ≡ Some x
found_alone same p alike [] x differ i e = absurd i
found_alone {X} same p alike (y ∷ ys) x differ (inl i) e = ap (λ (b : Bool). cond b (Some y) (find p ys)) (ap p (sym i) ∙ e) ∙ ap (λ (z : X). Some z) (sym i)
found_alone same p alike (y ∷ ys) x differ (inr i) e = by_test (p y) refl (found_alone same p alike ys x (and_parts (not (list_any (same y) ys)) (all_differ same ys) differ).1 i e)
  where
    by_test : (b : Bool) → p y ≡ b → find p ys ≡ Some x → cond b (Some y) (find p ys) ≡ Some x
    by_test true now rest = absurd (first_alone same y ys differ x i (alike y x now e))
    by_test false now rest = rest
