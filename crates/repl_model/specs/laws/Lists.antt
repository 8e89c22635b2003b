-- Lists by what holds of each element.
use Rattle.std.proofs.Common.{◌≡◌, List, [], ◌∷◌, ◌++◌, Option, Some, None, refl, ap, ◌∙◌, IfSome}
use Rattle.std.specs.List.{AllByRecursion, filter_map, cons_option, fold}
use Rattle.repl_types.specs.laws.Lists.{all_append}

-- what holds of each element of a list, and of one more, holds of each of the longer list
pub each_push : {X : Type 0} (P : X → Type 0) (xs : List X) (x : X) → AllByRecursion P xs → P x → AllByRecursion P (xs ++ x ∷ [])
each_push P xs x h p = all_append P xs (x ∷ []) h (p, tt)

-- two functions that agree at each element give the same
pub filter_map_alike : {X Y : Type 0} (f g : X → Option Y) (xs : List X) → AllByRecursion (λ x. f x ≡ g x) xs → filter_map f xs ≡ filter_map g xs
filter_map_alike f g [] h = refl
filter_map_alike {X} {Y} f g (x ∷ xs) h = ap (λ (o : Option Y). cons_option o (filter_map f xs)) h.0 ∙ ap (cons_option (g x)) (filter_map_alike f g xs h.1)

-- two steps that agree at each element fold alike
pub fold_alike : {A B : Type 0} (f g : B → A → B) (b : B) (xs : List A) → AllByRecursion (λ x. (c : B) → f c x ≡ g c x) xs → fold f b xs ≡ fold g b xs
fold_alike f g b [] h = refl
fold_alike {A} {B} f g b (x ∷ xs) h = ap (λ (c : B). fold f c xs) (h.0 b) ∙ fold_alike f g (g b x) xs h.1

-- what holds of whatever a function gives at an element holds of each that it gives
pub each_filter_map : {X Y : Type 0} (f : X → Option Y) (P : X → Type 0) (Q : Y → Type 0) → ((x : X) → P x → IfSome (f x) Q) → (xs : List X) → AllByRecursion P xs → AllByRecursion Q (filter_map f xs)
each_filter_map f P Q step [] h = tt
each_filter_map {X} {Y} f P Q step (x ∷ xs) h = with_one (f x) (step x h.0) (each_filter_map f P Q step xs h.1)
  where
    with_one : (o : Option Y) → IfSome o Q → AllByRecursion Q (filter_map f xs) → AllByRecursion Q (cons_option o (filter_map f xs))
    with_one None q rest = rest
    with_one (Some y) q rest = (q, rest)
