-- The places of names.
use Rattle.std.proofs.Common.{◌≡◌, ◌≢◌, ℕ, ◌+◌, ◌<◌, Bool, true, false, List, [], length, get_or, take, sym, ap, ◌∙◌, below_more, arith, MatchOption, is_some, Option, Some, None, bytes_eq}
use Rattle.std.proofs.lemmas.List.{get_or-map, get_or-take, length-map, length-take}
use Rattle.std.proofs.lemmas.Slice.Eq.{bytes_eq-Decides}
use Rattle.site_store.specs.declared.site.Site.{Site}
use Rattle.site_store.specs.Servers.{names_of, AreApart, IsPlace, HasNone}

-- the name at a place
pub name_at : {K : Type 0} (xs : List (Site K)) (s : ℕ) (site : Site K) → s < length xs → site ≡ get_or xs s site → get_or (names_of xs) s [] ≡ site.name
name_at {K} xs s site lt is = get_or-map (λ x. x.name) xs s site [] lt ∙ ap (λ (x : Site K). x.name) (sym is)

-- the server at a place has the name
pub found : {K : Type 0} (xs : List (Site K)) (s : ℕ) (site : Site K) (name : List ℕ) → s < length xs → site ≡ get_or xs s site → bytes_eq site.name name ≡ true → IsPlace (names_of xs) name s
found xs s site name lt is same = record {
  within = rw length-map lt;
  is = name_at xs s site lt is ∙ (bytes_eq-Decides site.name name).0 same;
}

-- no server up to here has the name, and then not this one
pub none_more : {K : Type 0} (xs : List (Site K)) (s : ℕ) (site : Site K) (name : List ℕ) → s < length xs → site ≡ get_or xs s site → bytes_eq site.name name ≡ false → ((k : ℕ) → k < s → get_or (names_of xs) k [] ≢ name) → (k : ℕ) → k < s + 1 → get_or (names_of xs) k [] ≢ name
none_more xs s site name lt is differ before = below_more _ _ before (λ e. clash (bytes_eq site.name name) differ ((bytes_eq-Decides site.name name).1 (sym (name_at xs s site lt is) ∙ e)))
  where
    clash : (b : Bool) → b ≡ false → b ≡ true → ⊥
    clash b e f = cc

-- the names of the first servers are the first names
name_before : {K : Type 0} (xs : List (Site K)) (n k : ℕ) (site : Site K) → k < n → n < length xs → get_or (names_of (take n xs)) k [] ≡ get_or (names_of xs) k []
name_before {K} xs n k site lt within =
    let short : k < length (take n xs) = rw length-take (omega arith) in
    let long : k < length xs = omega arith in
    get_or-map (λ x. x.name) (take n xs) k site [] short ∙ ap (λ (x : Site K). x.name) (get_or-take n xs k site lt) ∙ sym (get_or-map (λ x. x.name) xs k site [] long)

-- if an earlier server has the name of a later one, not all are apart
pub not_apart : {K : Type 0} (xs : List (Site K)) (n k : ℕ) (site : Site K) → n < length xs → site ≡ get_or xs n site → IsPlace (names_of (take n xs)) site.name k → AreApart (names_of xs) → ⊥
not_apart xs n k site lt is place apart =
    let low : k < n = omega (arith, place.within, length-map (take n xs) (λ x. x.name), length-take n xs) in
    apart k n low (rw length-map lt) (sym (name_before xs n k site low lt) ∙ place.is ∙ sym (name_at xs n site lt is))

-- the servers up to here are apart, and then with this one
pub apart_more : {K : Type 0} (xs : List (Site K)) (n : ℕ) (site : Site K) → n < length xs → site ≡ get_or xs n site → HasNone (names_of (take n xs)) site.name → ((i j : ℕ) → i < j → j < n → get_or (names_of xs) i [] ≢ get_or (names_of xs) j []) → (i j : ℕ) → i < j → j < n + 1 → get_or (names_of xs) i [] ≢ get_or (names_of xs) j []
apart_more xs n site lt is none before i j low high = below_more (λ q. i < q → get_or (names_of xs) i [] ≢ get_or (names_of xs) q []) n (λ q lq lo. before i q lo lq) (λ lo e. none i (rw (length-map, length-take) (omega arith)) (name_before xs n i site lo lt ∙ e ∙ name_at xs n site lt is)) j high low

-- what is known if something was found
pub at_some : (P : Type 0) (Q : ℕ → Type 0) (o : Option ℕ) → is_some o ≡ true → MatchOption o P Q → (k : ℕ) × Q k
at_some P Q None e h = absurd cc
at_some P Q (Some k) e h = (k, h)

-- what is known if nothing was found
pub at_none : (P : Type 0) (Q : ℕ → Type 0) (o : Option ℕ) → is_some o ≡ false → MatchOption o P Q → P
at_none P Q None e h = h
at_none P Q (Some k) e h = absurd cc
