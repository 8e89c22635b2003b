-- What is found in a list of which each element is so.
use Rattle.std.proofs.Common.{◌≡◌, ◌+◌, ◌<◌, ℕ, Bool, true, false, cond, List, [], ◌∷◌, length, drop, slice_index_or, Option, Some, None, sym, subst, option_map, IfSome, find}
use Rattle.std.proofs.lemmas.List.{drop_more}
use Rattle.std.specs.List.{AllByRecursion}

-- what holds of all that is left of a list holds of the element at its head
pub head_holds : {X : Type 0} (P : X → Type 0) (xs : List X) (i : ℕ) (x : X) → i < length xs → x ≡ slice_index_or xs i x → AllByRecursion P (drop i xs) → P x
head_holds P xs i x within is all =
    let both : P (slice_index_or xs i x) × AllByRecursion P (drop (i + 1) xs) = subst (AllByRecursion P) (drop_more xs i x within) all in
    subst P (sym is) both.0

-- what holds of each element of a list holds of the one that is found there
found_holds : {X : Type 0} (P : X → Type 0) (test : X → Bool) (xs : List X) → AllByRecursion P xs → IfSome (find test xs) P
found_holds P test [] all = all
found_holds {X} P test (x ∷ xs) all = by_cases (test x) (found_holds P test xs all.1)
  where
    by_cases : (b : Bool) → IfSome (find test xs) P → IfSome (cond b (Some x) (find test xs)) P
    by_cases true behind = all.0
    by_cases false behind = behind

-- two views that are equal: what holds of the one holds of the other
seen_holds : {R X Y : Type 0} (seen : R → Y) (part : X → Y) (P : Y → Type 0) (r : Option R) (o : Option X) → option_map seen r ≡ option_map part o → IfSome o (λ x. P (part x)) → IfSome r (λ x. P (seen x))
seen_holds seen part P None o is holds = search
seen_holds seen part P (Some x) None is holds = absurd (cc)
seen_holds seen part P (Some x) (Some y) is holds = let same : part y ≡ seen x = cc in subst P same holds

-- what holds of a part of each element of a list holds of that part of the one that is found there
pub part_holds : {R X Y : Type 0} (seen : R → Y) (part : X → Y) (P : Y → Type 0) (test : X → Bool) (xs : List X) (r : Option R) → option_map seen r ≡ option_map part (find test xs) → AllByRecursion (λ x. P (part x)) xs → IfSome r (λ x. P (seen x))
part_holds seen part P test xs r is all = seen_holds seen part P r (find test xs) is (found_holds (λ x. P (part x)) test xs all)
