-- Servers that were just opened.
use Rattle.std.proofs.Common.{◌≡◌, ◌≢◌, ◌∙◌, ◌<◌, ◌+◌, ℕ, zero, suc, List, [], ◌∷◌, ◌++◌, map, take, length, get_or, false, refl, sym, ap, ap₂, subst, arith, Some, None, IsTrue, bytes_eq}
use Rattle.std.proofs.lemmas.Bool.{and_parts}
use Rattle.std.proofs.lemmas.List.{map-append}
use Rattle.std.proofs.lemmas.Slice.Eq.{bytes_eq-Decides}
use Rattle.std.specs.List.{AllZip, list_any}
use Rattle.std.proofs.lemmas.Grind.{common_steps}
use Rattle.site_store.specs.Words.{nothing, names_of, site_name, site_keeper, held_of, work_of, AllClosed, AreApart}
use Rattle.site_store.specs.declared.site.Site.{Site}
use Rattle.repl_model.specs.Words.{all_differ}
use Rattle.keep_sqlite.specs.AnyKeepers.{any_kept}
use Rattle.keep_sqlite.specs.declared.any_keeper.AnyKeeper.{AnyKeeper}
use Rattle.keep_sqlite.specs.declared.any_keeper.AnyKeeper.TheVariants.{Map, Sqlite}
use Rattle.run_words.specs.Openings.{map_path}
use Rattle.run_words.specs.declared.opening.ServerWord.{ServerWord}
use Rattle.sqlrep.specs.Opened.{all_in_memory, IsOpened, AreOpened}

-- the elements up to one more place
take_more : {A : Type 0} (xs : List A) (n : ℕ) (d : A) → n < length xs → take (suc n) xs ≡ take n xs ++ get_or xs n d ∷ []
take_more [] n d lt = absurd (omega (arith, lt))
take_more (y ∷ ys) zero d lt = refl
take_more (y ∷ ys) (suc n) d lt = ap (λ zs. y ∷ zs) (take_more ys n d (omega (arith, lt)))

-- what holds of the elements of two lists beside one another holds of one more of each
zip_more : {A B : Type 0} (R : A → B → Type 0) (xs : List A) (x : A) (ys : List B) (y : B) → AllZip R xs ys → R x y → AllZip R (xs ++ x ∷ []) (ys ++ y ∷ [])
zip_more R [] x [] y all r = (r, tt)
zip_more R [] x (w ∷ ws) y all r = absurd all
zip_more R (z ∷ zs) x [] y all r = absurd all
zip_more R (z ∷ zs) x (w ∷ ws) y all r = (all.0, zip_more R zs x ws y all.1 r)

module _ {S : Type 0} where
  -- one more server was opened
  pub opened_more : (words : List ServerWord) (n : ℕ) (word : ServerWord) (list : List (Site (AnyKeeper S))) (site : Site (AnyKeeper S)) → n < length words → word ≡ get_or words n word → AreOpened (take n words) list → site_name site ≡ word.name → IsOpened word.path (site_keeper site) → AreOpened (take (n + 1) words) (list ++ site ∷ [])
  opened_more words n word list site lt at are named opened =
      let next : suc n ≡ n + 1 = omega arith in
      let up_to : take (suc n) words ≡ take n words ++ word ∷ [] = subst (λ (x : ServerWord). take (suc n) words ≡ take n words ++ x ∷ []) (sym at) (take_more words n word lt) in
      subst (λ (m : ℕ). AreOpened (take m words) (list ++ site ∷ [])) next (subst (λ (ws : List ServerWord). AreOpened ws (list ++ site ∷ [])) (sym up_to) (record {
        named = map-append (λ x. x.name) list (site ∷ []) ∙ ap₂ (λ (xs ys : List (List ℕ)). xs ++ ys) are.named (ap (λ (name : List ℕ). name ∷ []) named) ∙ sym (map-append (λ w. w.name) (take n words) (word ∷ []));
        keepers = zip_more (λ w x. IsOpened w.path (site_keeper x)) (take n words) word list site are.keepers opened;
      }))

  -- no transaction is open at a keeper
  pub one_closed : (path : List ℕ) (keeper : AnyKeeper S) → IsOpened path keeper → (any_kept keeper).open_work ≡ None
  one_closed path (Map keeper) is = λ i. (is.1.kept i).open_work
  one_closed path (Sqlite keeper) is = λ i. (is.1 i).open_work

  -- nor at any server
  pub all_closed : (words : List ServerWord) (list : List (Site (AnyKeeper S))) → AreOpened words list → AllClosed (work_of any_kept list)
  all_closed words list are = each words list are.keepers
    where
      each : (ws : List ServerWord) (xs : List (Site (AnyKeeper S))) → AllZip (λ w x. IsOpened w.path (site_keeper x)) ws xs → AllClosed (work_of any_kept xs)
      each [] [] all s = refl
      each [] (x ∷ xs) all s = absurd all
      each (w ∷ ws) [] all s = absurd all
      each (w ∷ ws) (x ∷ xs) all zero = one_closed w.path (site_keeper x) all.0
      each (w ∷ ws) (x ∷ xs) all (suc s) = each ws xs all.1 s

  -- one in memory holds nothing
  one_held : (path : List ℕ) (keeper : AnyKeeper S) → IsOpened path keeper → path ≡ map_path → (any_kept keeper).held ≡ Some nothing
  one_held path (Map keeper) is in_memory = λ i. (is.1.kept i).held
  one_held path (Sqlite keeper) is in_memory = absurd (is.0 in_memory)

  -- if all are in memory, each holds nothing
  pub all_held : (words : List ServerWord) (list : List (Site (AnyKeeper S))) → AreOpened words list → IsTrue (all_in_memory words) → held_of any_kept list ≡ map (λ name. Some nothing) (map (λ word. word.name) words)
  all_held words list are in_memory = each words list are.keepers in_memory ∙ ap (map (λ name. Some nothing)) are.named
    where
      each : (ws : List ServerWord) (xs : List (Site (AnyKeeper S))) → AllZip (λ w x. IsOpened w.path (site_keeper x)) ws xs → IsTrue (all_in_memory ws) → held_of any_kept xs ≡ map (λ name. Some nothing) (names_of xs)
      each [] [] all here = refl
      each [] (x ∷ xs) all here = absurd all
      each (w ∷ ws) [] all here = absurd all
      each (w ∷ ws) (x ∷ xs) all here =
          let both = and_parts (bytes_eq w.path map_path) (all_in_memory ws) here in
          λ i. one_held w.path (site_keeper x) all.0 ((bytes_eq-Decides w.path map_path).0 both.0) i ∷ each ws xs all.1 both.1 i

-- names that differ at any two places
not_among : (x : List ℕ) (xs : List (List ℕ)) → ((j : ℕ) → j < length xs → x ≢ get_or xs j []) → list_any (bytes_eq x) xs ≡ false
not_among x [] apart = refl
not_among x (y ∷ ys) apart =
    let rest = not_among x ys (λ j lt. apart (suc j) (omega arith)) in
    let first : bytes_eq x y ≡ false = grind (arith, common_steps, apart 0 (omega arith), (bytes_eq-Decides x y).0) in
    rw first rest

pub all_apart : (names : List (List ℕ)) → AreApart names → IsTrue (all_differ bytes_eq names)
all_apart [] apart = refl
all_apart (x ∷ xs) apart = rw (not_among x xs (λ j lt. apart 0 (suc j) (omega arith) (omega arith))) (all_apart xs (λ i j before within. apart (suc i) (suc j) (omega arith) (omega arith)))
