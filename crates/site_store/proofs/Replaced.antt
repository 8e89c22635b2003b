-- One server's keeper is replaced.
use Rattle.std.proofs.Common.{◌≡◌, ◌≢◌, ℕ, ◌+◌, ◌<◌, ◌≤◌, List, length, map, get_or, sym, ap, subst, ◌∙◌, arith, inl, inr, set}
use Rattle.std.proofs.Math.Seq.{map-set_same}
use Rattle.std.proofs.lemmas.Bool.{cases_eq}
use Rattle.std.proofs.lemmas.List.{map-set, get_or-set_same, get_or-set_other, length-map, get_or-map}
use Rattle.keep_core.specs.Kept.{Kept}
use Rattle.keep_core.specs.Revealed.{count_max}
use Rattle.site_store.specs.declared.site.Site.{Site}
use Rattle.site_store.specs.Servers.{names_of}
use Rattle.site_store.specs.Calls.{NoneFell, NoneBack}

-- what holds of each other element, and of the new one
set_holds : (P : ℕ → ℕ → ℕ → Type 0) (old : List ℕ) (s n q : ℕ) → s < length old → ((p m : ℕ) → P p m m) → P s (get_or old s 0) n → P q (get_or old q 0) (get_or (set old s n) q 0)
set_holds P old s n q lt same here = elim (cases_eq q s) [
  | inl e ↦ subst (λ (k : ℕ). P k (get_or old k 0) (get_or (set old s n) k 0)) (sym e) (subst (P s (get_or old s 0)) (sym (get_or-set_same old s n 0 lt)) here)
  | inr ne ↦ subst (P q (get_or old q 0)) (sym (get_or-set_other old s q n 0 ne)) (same q (get_or old q 0))
]

-- the servers with a new keeper at one
abbrev pub swapped : {K : Type 0} → List (Site K) → ℕ → Site K → K → List (Site K)
swapped xs s site new = set xs s (record { name = site.name; keeper = new })

module _ {K : Type 0} (kept : K → Kept) (xs : List (Site K)) (s : ℕ) (site : Site K) (lt : s < length xs) (is : site ≡ get_or xs s site) (new : K) where
  -- the names stay
  pub names_stay : names_of (swapped xs s site new) ≡ names_of xs
  names_stay = map-set_same (λ x. x.name) xs s _ site (ap (λ (x : Site K). x.name) is)

  -- what the keepers have doesn't change if the new one has the same
  pub stays : {X : Type 0} (f : Kept → X) → f (kept new) ≡ f (kept site.keeper) → map (λ x. f (kept x.keeper)) (swapped xs s site new) ≡ map (λ x. f (kept x.keeper)) xs
  stays f e = map-set_same (λ x. f (kept x.keeper)) xs s _ site (e ∙ ap (λ (x : Site K). f (kept x.keeper)) is)

  -- else it is set at the server
  pub becomes : {X : Type 0} (f : Kept → X) (v : X) → f (kept new) ≡ v → map (λ x. f (kept x.keeper)) (swapped xs s site new) ≡ set (map (λ x. f (kept x.keeper)) xs) s v
  becomes {X} f v e = map-set (λ x. f (kept x.keeper)) xs s _ ∙ ap (λ (w : X). set (map (λ (x : Site K). f (kept x.keeper)) xs) s w) e

  -- what the server's keeper had
  pub had : {X : Type 0} (f : Kept → X) (d : X) → get_or (map (λ x. f (kept x.keeper)) xs) s d ≡ f (kept site.keeper)
  had f d = get_or-map (λ x. f (kept x.keeper)) xs s site d lt ∙ ap (λ (x : Site K). f (kept x.keeper)) (sym is)

  -- and what it has now
  pub has : {X : Type 0} (f : Kept → X) (d : X) → get_or (map (λ x. f (kept x.keeper)) (swapped xs s site new)) s d ≡ f (kept new)
  has {X} f d = ap (λ (l : List X). get_or l s d) (map-set (λ x. f (kept x.keeper)) xs s _) ∙ get_or-set_same (map (λ x. f (kept x.keeper)) xs) s (f (kept new)) d (rw length-map lt)

  -- and what each other has
  pub has_else : {X : Type 0} (f : Kept → X) (d : X) (q : ℕ) → q ≢ s → get_or (map (λ x. f (kept x.keeper)) (swapped xs s site new)) q d ≡ get_or (map (λ x. f (kept x.keeper)) xs) q d
  has_else {X} f d q ne = ap (λ (l : List X). get_or l q d) (map-set (λ x. f (kept x.keeper)) xs s _) ∙ get_or-set_other (map (λ x. f (kept x.keeper)) xs) s q (f (kept new)) d ne

  -- a relation of counts holds everywhere if it holds at the server
  pub grown : (P : ℕ → ℕ → ℕ → Type 0) (f : Kept → ℕ) → ((p m : ℕ) → P p m m) → P s (f (kept site.keeper)) (f (kept new)) → (q : ℕ) → P q (get_or (map (λ x. f (kept x.keeper)) xs) q 0) (get_or (map (λ x. f (kept x.keeper)) (swapped xs s site new)) q 0)
  grown P f same here q =
      let ys = map (λ (x : Site K). f (kept x.keeper)) xs in
      subst (λ (l : List ℕ). P q (get_or ys q 0) (get_or l q 0)) (sym (map-set (λ x. f (kept x.keeper)) xs s _)) (set_holds P ys s (f (kept new)) q (rw length-map lt) same (subst (λ (n : ℕ). P s n (f (kept new))) (sym (had f 0)) here))

  -- no count fell if the server's didn't
  pub none_fell : (f : Kept → ℕ) → f (kept site.keeper) ≤ f (kept new) → NoneFell (map (λ x. f (kept x.keeper)) xs) (map (λ x. f (kept x.keeper)) (swapped xs s site new))
  none_fell f here = grown (λ q m n. m ≤ n) f (λ q m. omega arith) here

  -- no count fell, or one has reached its maximum, if the server's did so
  pub none_back : (f : Kept → ℕ) → (f (kept new) < count_max → f (kept site.keeper) ≤ f (kept new)) → NoneBack (map (λ x. f (kept x.keeper)) xs) (map (λ x. f (kept x.keeper)) (swapped xs s site new))
  none_back f here = grown (λ q m n. n < count_max → m ≤ n) f (λ q m lt. omega arith) here

  -- each count rose by at most so much if the server's did
  pub within : (most : ℕ → ℕ) (f : Kept → ℕ) → f (kept new) ≤ f (kept site.keeper) + most s → (q : ℕ) → get_or (map (λ x. f (kept x.keeper)) (swapped xs s site new)) q 0 ≤ get_or (map (λ x. f (kept x.keeper)) xs) q 0 + most q
  within most f here = grown (λ q m n. n ≤ m + most q) f (λ q m. omega arith) here
